-- The queue of a flood: points with their steps, in the order in which they were reached.
use Rattle.std.specs.Prelude.{◌≡◌, ◌<◌, ◌≤◌, ◌+◌, ◌⊎◌, ◌++◌, ℕ, List, [], ◌∷◌, length, map, slice_index_or, slice_set, Option, Some, None}
use Rattle.std.specs.List.{sum_by}
use Rattle.hd_map.specs.declared.types.Pos.{Pos}
use Rattle.hd_map.specs.declared.types.Size.{Size}
use Rattle.hd_map.specs.Map.{Map, InGrid, Present, cell_count, place_of}
use Rattle.hd_map.specs.Neighbour.{AreBesideUnder}
use Rattle.hd_map.specs.Path.{Leads}
use Rattle.hd_reach.specs.Marks.{AreBlank, Marking, mark_at, marked, marking}
use Rattle.hd_reach.specs.Steps.{OpenStep, steps_at}

-- a point that is reached, and in how many steps
pub record Reached : Type 0 where
  pub at : Pos
  pub steps : ℕ

-- what is read past the end of a queue
abbrev pub no_entry : Reached
no_entry = record { at = record { x = 0; y = 0 }; steps = 0 }

-- the entry at a place of the queue
abbrev pub entry_of : List Reached → ℕ → Reached
entry_of queue k = slice_index_or queue k no_entry

-- one where no steps are noted
abbrev pub is_free : Option ℕ → ℕ
is_free None = 1
is_free (Some n) = 0

-- the steps of p are noted, and are at most n
abbrev pub HasStepsWithin : Map → List (Option ℕ) → Pos → ℕ → Type 0
HasStepsWithin m steps p n = (k : ℕ) × (k ≤ n) × (steps_at m.size steps p ≡ Some k)

-- the steps of an entry are noted, they are no more than its place, and so many steps lead to the start
pub record IsEntry (m : Map) (IsOpen : Pos → Type 0) (start : Pos) (steps : List (Option ℕ)) (e : Reached) (k : ℕ) : Type 0 where
  pub present : Present m e.at
  pub is_open : IsOpen e.at
  pub noted : steps_at m.size steps e.at ≡ Some e.steps
  pub few : e.steps ≤ k
  pub walk : (xs : List Pos) × Leads (OpenStep m IsOpen) e.at xs start × (length xs ≡ e.steps)

-- the entry of a point whose steps are noted
pub record HasEntry (queue : List Reached) (p : Pos) (n : ℕ) : Type 0 where
  pub place : ℕ
  pub inside : place < length queue
  pub at_is : (entry_of queue place).at ≡ p
  pub steps_is : (entry_of queue place).steps ≡ n

-- the neighbours of the entries before head are reached; each entry is at most one step farther than that at head
pub record IsFlood (m : Map) (IsOpen : Pos → Type 0) (start : Pos) (steps : List (Option ℕ)) (queue : List Reached) (head : ℕ) : Type 0 where
  pub whole : length steps ≡ cell_count m.size
  pub start_inside : InGrid m.size start
  pub begun : steps_at m.size steps start ≡ Some 0
  pub room : length queue + sum_by is_free steps ≡ cell_count m.size
  pub entries : (k : ℕ) → k < length queue → IsEntry m IsOpen start steps (entry_of queue k) k
  pub queued : (p : Pos) → InGrid m.size p → (n : ℕ) → steps_at m.size steps p ≡ Some n → HasEntry queue p n
  pub rising : (i j : ℕ) → i ≤ j → j < length queue → (entry_of queue i).steps ≤ (entry_of queue j).steps
  pub narrow : (k : ℕ) → k < length queue → head < length queue → (entry_of queue k).steps ≤ (entry_of queue head).steps + 1
  pub closed : (k : ℕ) → k < head → k < length queue → (q : Pos) → OpenStep m IsOpen (entry_of queue k).at q → HasStepsWithin m steps q ((entry_of queue k).steps + 1)

-- the indexes of the points of a queue
abbrev pub places_of : Size → List Reached → List ℕ
places_of s queue = map (λ (e : Reached). place_of s e.at) queue

-- no mark of steps is a blank, and nothing stands yet where the start reaches
pub record IsMarking {V : Type 0} (m : Map) (IsOpen : Pos → Type 0) (start : Pos) (k : Marking V) : Type 0 where
  pub begun : k.first ≡ k.blank → ⊥
  pub marks : (x : V) → k.after x ≡ k.blank → x ≡ k.blank
  pub free : AreBlank m IsOpen start k.blank k.before

-- a flood of which the marks are kept, and the indexes of its queue
pub record IsFlooding {V : Type 0} (m : Map) (IsOpen : Pos → Type 0) (start : Pos) (k : Marking V) (marks : List V) (places : List ℕ) (head : ℕ) : Type 0 where
  pub steps : List (Option ℕ)
  pub queue : List Reached
  pub flood : IsFlood m IsOpen start steps queue head
  pub whole : length marks ≡ cell_count m.size
  pub read : (p : Pos) → InGrid m.size p → mark_at k.blank m.size marks p ≡ marked k (mark_at k.blank m.size k.before p) (steps_at m.size steps p)
  pub places_are : places ≡ places_of m.size queue

-- the point at the head of a queue of indexes
pub record IsAtHead (s : Size) (places : List ℕ) (head : ℕ) (here : Pos) : Type 0 where
  pub inside : head < length places
  pub in_grid : InGrid s here
  pub place : slice_index_or places head 0 ≡ place_of s here

-- such a flood, of the queue of which so many places are passed, and the others are kept
pub record IsFloodingOn {V : Type 0} (m : Map) (IsOpen : Pos → Type 0) (start : Pos) (k : Marking V) (marks : List V) (left : List ℕ) (head : ℕ) : Type 0 where
  pub passed : List ℕ
  pub count : length passed ≡ head
  pub flooding : IsFlooding m IsOpen start k marks (passed ++ left) head

-- a position that isn't open, or is reached, is left; another is marked, and its index comes last in the queue
abbrev pub Reaches : {V : Type 0} → Size → (Pos → Type 0) → V → Pos → V → List V → List ℕ → List V → List ℕ → Type 0
Reaches s IsOpen blank at mark marks queue marks' queue' =
    (((IsOpen at → ⊥) ⊎ (mark_at blank s marks at ≡ blank → ⊥)) × (marks' ≡ marks) × (queue' ≡ queue))
    ⊎ (IsOpen at × (mark_at blank s marks at ≡ blank) × (marks' ≡ slice_set marks (place_of s at) mark) × (queue' ≡ queue ++ place_of s at ∷ []))

-- so is the position so many columns and profiles after the one before another, if it lies in the grid and is beside the
-- other under the setting
abbrev pub ReachesAt : {V : Type 0} → Map → (Pos → Type 0) → V → Pos → ℕ → ℕ → V → List V → List ℕ → List V → List ℕ → Type 0
ReachesAt m IsOpen blank at x y mark marks queue marks' queue' =
    ((q : Pos) × (q.x + 1 ≡ at.x + x) × (q.y + 1 ≡ at.y + y) × InGrid m.size q × AreBesideUnder m.adjacency at q × Reaches m.size IsOpen blank q mark marks queue marks' queue')
    ⊎ (((q : Pos) → q.x + 1 ≡ at.x + x → q.y + 1 ≡ at.y + y → InGrid m.size q → AreBesideUnder m.adjacency at q → ⊥) × (marks' ≡ marks) × (queue' ≡ queue))

-- a flood goes on by the point that was at its head
abbrev pub FloodsRound : {V : Type 0} → Map → (Pos → Type 0) → V → (V → V) → Pos → List V → List ℕ → List V → List ℕ → Type 0
FloodsRound {V} m IsOpen blank after here marks left marks' left' = (start : Pos) (first : V) (before : List V) (passed : List ℕ) → IsMarking m IsOpen start (marking blank after first before) → InGrid m.size here
    → IsFlooding m IsOpen start (marking blank after first before) marks ((passed ++ place_of m.size here ∷ []) ++ left) (length passed)
    → IsFlooding m IsOpen start (marking blank after first before) marks' ((passed ++ place_of m.size here ∷ []) ++ left') (length passed + 1)
