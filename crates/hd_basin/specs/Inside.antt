-- The passes between two basins of a tile, from the pairs of neighbours that lie in two of them.
use Rattle.std.specs.Prelude.{◌≡◌, ◌<◌, ◌≤◌, ◌⊎◌, ◌+◌, ◌-◌, ◌*◌, ℕ, zero, suc, List, length, Option, Some, slice_get, slice_index_or}
use Rattle.hd_map.specs.declared.types.Pos.{Pos}
use Rattle.hd_map.specs.declared.types.Rank.{Rank}
use Rattle.hd_map.specs.declared.types.SideName.{SideName}
use Rattle.hd_map.specs.Map.{Map}
use Rattle.hd_map.specs.Neighbour.{Neighbour}
use Rattle.hd_map.specs.Passes.{higher_by}
use Rattle.hd_map.specs.Rank.{rank}
use Rattle.hd_basin.specs.declared.frame.Frame.{Frame}
use Rattle.hd_basin.specs.declared.meetings.Meeting.{Meeting}
use Rattle.hd_basin.specs.declared.node.Node.{Node}
use Rattle.hd_basin.specs.declared.part.Join.{Join}
use Rattle.hd_basin.specs.Frames.{InFrame}
use Rattle.hd_basin.specs.Gathering.{IsNamed}
use Rattle.hd_basin.specs.Meetings.{AreChained, AreKept, Notes}
use Rattle.hd_basin.specs.Sinks.{no_node}

-- the place of a position in a rectangle
abbrev pub place_of_frame : Frame → Pos → ℕ
place_of_frame f p = (p.y - f.top) * f.columns + (p.x - f.left)

-- the label at a position
abbrev pub label_at : Frame → List ℕ → Pos → ℕ
label_at f ls p = slice_index_or ls (place_of_frame f p) no_node

-- the labels of a tile name its nodes, no two of which have one sink
pub record AreNamed (m : Map) (side : SideName) (t : ℕ) (f : Frame) (nodes : List Node) (ls : List ℕ) : Type 0 where
  pub count : length ls ≡ f.columns * f.rows
  pub few : length nodes ≤ 65536
  pub named : (p : Pos) → InFrame f p → IsNamed m side t nodes p (label_at f ls p)
  pub distinct : (i j : ℕ) (n u : Node) → slice_get nodes i ≡ Some n → slice_get nodes j ≡ Some u → n.low ≡ u.low → i ≡ j

-- q is the position that a step leads to from p: the one after it, or one of the three below it
abbrev pub step_right : ℕ → ℕ
step_right zero = 2
step_right (suc step) = step

abbrev pub step_down : ℕ → ℕ
step_down zero = 0
step_down (suc step) = 1

pub record IsStep (p q : Pos) (step : ℕ) : Type 0 where
  pub column : q.x + 1 ≡ p.x + step_right step
  pub profile : q.y ≡ p.y + step_down step

-- the positions of the tile a step after p have its label
abbrev pub IsAlone : Frame → List ℕ → Pos → Type 0
IsAlone f ls p = (q : Pos) (step : ℕ) → step < 4 → InFrame f q → IsStep p q step → label_at f ls q ≡ label_at f ls p

-- of two positions of the tile the second is a step from the first, which is at one of the first places, or at the
-- place k where the step is one of the first
pub record IsTried (f : Frame) (k first : ℕ) (p q : Pos) : Type 0 where
  pub from : InFrame f p
  pub to : InFrame f q
  pub step : ℕ
  pub few : step < 4
  pub leads : IsStep p q step
  pub tried : (place_of_frame f p < k) ⊎ ((place_of_frame f p ≡ k) × (step < first))

-- p and q are neighbours with the labels a and b, the lesser first, and w is the higher of them
pub record IsPairAt (m : Map) (side : SideName) (f : Frame) (ls : List ℕ) (count : ℕ) (p q : Pos) (a b : ℕ) (w : Rank) : Type 0 where
  pub near : Neighbour m p q
  pub labels : ((label_at f ls p ≡ a) × (label_at f ls q ≡ b)) ⊎ ((label_at f ls p ≡ b) × (label_at f ls q ≡ a))
  pub less : a < b
  pub few : b < count
  pub at : w ≡ higher_by side (rank m p) (rank m q)

-- the pair gives a meeting, or none
abbrev pub MeetsPair : Map → SideName → Frame → List ℕ → ℕ → Pos → Pos → List Meeting → List Meeting → Type 0
MeetsPair m side f ls count p q old new =
    ((new ≡ old) × ((a b : ℕ) (w : Rank) → IsPairAt m side f ls count p q a b w → ⊥))
    ⊎ ((a : ℕ) × (b : ℕ) × (w : Rank) × IsPairAt m side f ls count p q a b w × Notes side a b w old new)

-- of the pairs that were tried one meets so
pub record IsMet (m : Map) (side : SideName) (f : Frame) (ls : List ℕ) (count k first : ℕ) (a b : ℕ) (w : Rank) : Type 0 where
  pub from : Pos
  pub to : Pos
  pub tried : IsTried f k first from to
  pub pair : IsPairAt m side f ls count from to a b w

-- the meetings of the pairs that were tried
pub record AreMet (m : Map) (side : SideName) (f : Frame) (ls : List ℕ) (count k first : ℕ) (lasts : List (Option ℕ)) (list : List Meeting) : Type 0 where
  pub chained : AreChained lasts list
  pub count_is : length lasts ≡ count
  pub kept : AreKept side (IsMet m side f ls count k first) list

-- a meeting as it is kept of a tile
abbrev pub join_of : Meeting → Join
join_of x = record { a = x.a; b = x.b; at = x.at }
