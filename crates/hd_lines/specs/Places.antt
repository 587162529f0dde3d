-- Places of owners among the kept pits, by the numbers of the pits and by index.
use Rattle.std.specs.Prelude.{◌≡◌, ◌<◌, ℕ, List, length, slice_get, slice_index, Some}
use Rattle.hd_prune.specs.declared.step.Kept.{Kept}
use Rattle.hd_prune.specs.declared.step.Owned.{Owned}
use Rattle.hd_steep.specs.Numbering.{Numbering}

-- the point of this index lies in the region of a pit
pub record IsNumbered (regions : Numbering) (index : ℕ) : Type 0 where
  pub inside : index < length regions.numbers
  pub below : slice_index regions.numbers index < length regions.pits

-- the place of each of the first n kept pits stands at its number
abbrev pub AreKeptPlaces : List Kept → List ℕ → ℕ → List ℕ → Type 0
AreKeptPlaces kept numbers n places = (i : ℕ) (k : Kept) → i < n → slice_get kept i ≡ Some k → slice_get places (slice_index numbers k.pit.index) ≡ Some i

-- what stands at the number of the owner
abbrev pub place_of_owner : List ℕ → List ℕ → Owned → ℕ
place_of_owner numbers places o = slice_index places (slice_index numbers o.owner.index)

-- at the index of each point stands the place of the owner of the pit with its number
pub record AreOwnerPlaces (kept : List Kept) (owners : List Owned) (numbers places : List ℕ) : Type 0 where
  pub whole : length places ≡ length numbers
  pub each : (n j i : ℕ) (o : Owned) (k : Kept) → slice_get numbers n ≡ Some j → slice_get owners j ≡ Some o → slice_get kept i ≡ Some k → k.pit.index ≡ o.owner.index
      → slice_get places n ≡ Some i
