-- The borders of a place with greater ones, of the pairs that were seen.
use Rattle.std.specs.Prelude.{◌≡◌, ◌<◌, ◌+◌, ◌*◌, ◌++◌, ◌∷◌, ◌⊎◌, [], ℕ, Bool, List, slice_get, slice_set, if◌then◌else◌, Some, Contains}
use Rattle.hd_map.specs.declared.types.Pos.{Pos}
use Rattle.hd_map.specs.declared.types.Rank.{Rank}
use Rattle.hd_map.specs.declared.types.SideName.{SideName}
use Rattle.hd_map.specs.Map.{Map, place_of, position_at}
use Rattle.hd_map.specs.Neighbour.{Neighbour}
use Rattle.hd_map.specs.Passes.{higher_by}
use Rattle.hd_map.specs.Rank.{IsPoint, below_by, rank}
use Rattle.hd_steep.specs.declared.border.Border.{Border}
use Rattle.hd_steep.specs.declared.found.Found.{Found}
use Rattle.hd_steep.specs.Pairs.{AreCounted, IsAcross, Pair}

-- the owner of the point has this place
pub record HasPlace (m : Map) (places : List ℕ) (x : Rank) (i : ℕ) : Type 0 where
  pub point : IsPoint m x
  pub place : slice_get places x.index ≡ Some i

-- a pair across the border of two places, the lesser first, that was seen
pub record IsSeen (m : Map) (places : List ℕ) (Seen : Pair → Type 0) (i j : ℕ) (p : Pair) : Type 0 where
  pub lesser : i < j
  pub across : IsAcross m (HasPlace m places) i j p
  pub seen : Seen p

-- each border stands at the slot of its greater place
abbrev pub AreIndexed : List ℕ → List Border → Type 0
AreIndexed slots borders = (k : ℕ) (l : Border) → slice_get borders k ≡ Some l → slice_get slots l.b ≡ Some k

-- a border with one more pair, whose higher point this is
abbrev pub with_pair : (Rank → Rank → Bool) → Border → Rank → Border
with_pair below l higher = record { a = l.a; b = l.b; pairs = l.pairs + 1; pass = if below higher l.pass then higher else l.pass }

-- a border with one pair alone
abbrev pub of_pair : ℕ → ℕ → Rank → Border
of_pair a b higher = record { a = a; b = b; pairs = 1; pass = higher }

-- the border of b gets one more pair
pub record AddsMore (below : Rank → Rank → Bool) (b : ℕ) (higher : Rank) (old new : List Border) : Type 0 where
  pub at : ℕ
  pub border : Border
  pub there : slice_get old at ≡ Some border
  pub of : border.b ≡ b
  pub is : new ≡ slice_set old at (with_pair below border higher)

-- the border of a and b is the first with b
pub record AddsFirst (a b : ℕ) (higher : Rank) (old new : List Border) : Type 0 where
  pub none : (k : ℕ) (l : Border) → slice_get old k ≡ Some l → l.b ≡ b → ⊥
  pub is : new ≡ old ++ of_pair a b higher ∷ []

-- one more pair across the border of a and b, whose higher point this is
abbrev pub Adds : (Rank → Rank → Bool) → ℕ → ℕ → Rank → List Border → List Border → Type 0
Adds below a b higher old new = AddsMore below b higher old new ⊎ AddsFirst a b higher old new

-- the borders of a with greater places are those with a pair that was seen
pub record AreFoundOf (m : Map) (side : SideName) (places : List ℕ) (Seen : Pair → Type 0) (a : ℕ) (borders : List Border) : Type 0 where
  pub own : (l : Border) → Contains borders l → l.a ≡ a
  pub counted : (l : Border) → Contains borders l → AreCounted side (IsSeen m places Seen a l.b) l.pairs l.pass
  pub all : (j : ℕ) (p : Pair) → IsSeen m places Seen a j p → (l : Border) × Contains borders l × (l.b ≡ j)

-- the same of what is found, each border at its slot
pub record AreFound (m : Map) (side : SideName) (places : List ℕ) (Seen : Pair → Type 0) (a : ℕ) (found : Found) : Type 0 where
  pub borders : AreFoundOf m side places Seen a found.borders.items
  pub indexed : AreIndexed found.slots.items found.borders.items

-- of the pairs whose first point has an index below n
abbrev pub AreFoundBefore : Map → SideName → List ℕ → ℕ → ℕ → Found → Type 0
AreFoundBefore m side places a n found = AreFound m side places (λ p. p.from.index < n) a found

-- of those, and of the pairs of this point with what lies at one of the first steps of nine round it
abbrev pub IsSeenTo : Map → Pos → ℕ → Pair → Type 0
IsSeenTo m at step p = (p.from.index < place_of m.size at)
    ⊎ ((p.from.index ≡ place_of m.size at) × (3 * (position_at m.size p.to.index).y + (position_at m.size p.to.index).x + 4 < 3 * at.y + at.x + step))

abbrev pub AreFoundTo : Map → SideName → List ℕ → ℕ → Pos → ℕ → Found → Type 0
AreFoundTo m side places a at step found = AreFound m side places (IsSeenTo m at step) a found

-- the pair is noted
pub record NotesIt (m : Map) (side : SideName) (places : List ℕ) (a : ℕ) (at to : Pos) (old new : List Border) : Type 0 where
  pub b : ℕ
  pub place : slice_get places (place_of m.size to) ≡ Some b
  pub greater : a < b
  pub near : Neighbour m at to
  pub adds : Adds (below_by side) a b (higher_by side (rank m at) (rank m to)) old new

-- nothing is to be noted
pub record NotesNone (m : Map) (places : List ℕ) (a : ℕ) (at to : Pos) (old new : List Border) : Type 0 where
  pub none : (b : ℕ) → slice_get places (place_of m.size to) ≡ Some b → a < b → Neighbour m at to → ⊥
  pub is : new ≡ old

-- the pair of a point of a and a position beside it is noted, where they are neighbours and the second has a greater place
abbrev pub NotesPair : Map → SideName → List ℕ → ℕ → Pos → Pos → List Border → List Border → Type 0
NotesPair m side places a at to old new = NotesIt m side places a at to old new ⊎ NotesNone m places a at to old new
