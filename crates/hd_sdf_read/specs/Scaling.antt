-- How decimals that were read are kept: as cells, in steps of the last of the most places among them.
use Rattle.std.specs.Prelude.{◌≡◌, ◌<◌, ◌+◌, ◌-◌, ◌*◌, ◌^◌, ◌++◌, ℕ, pos, max, Bool, true, false, List, [], ◌∷◌, length, map, Result, Ok, Err}
use Rattle.hd_map.specs.declared.types.DataType.{DataType}
use Rattle.hd_map.specs.Cells.{wide_cells_in}
use Rattle.hd_map.specs.Packing.{multiplied}
use Rattle.hd_sdf_read.specs.declared.error.SdfError.{SdfError}
use Rattle.hd_sdf_read.specs.declared.error.SdfError.TheVariants.{Memory}
use Rattle.hd_sdf_read.specs.declared.scaled.Datum.{Datum}
use Rattle.hd_sdf_read.specs.declared.scaled.Scaled.{Scaled}
use Rattle.hd_sdf_read.specs.Decimals.{cells_at, greatest_in, most_places_in, most_steps, ranged, data_for}
use Rattle.hd_sdf_read.specs.Keys.{with_places}

-- the data are kept as cells at the most places among them
pub record IsScaled (s : Scaled) (t : DataType) (ds : List Datum) : Type 0 where
  pub cells : wide_cells_in s.cells ≡ cells_at s.places ds
  pub places : s.places ≡ most_places_in ds
  pub data_type : s.cells.data_type ≡ with_places t s.places

-- the same, where steps of at least so many places are taken
pub record IsRefined (s : Scaled) (t : DataType) (ds : List Datum) (places : ℕ) : Type 0 where
  pub cells : wide_cells_in s.cells ≡ cells_at s.places ds
  pub places_are : s.places ≡ max (most_places_in ds) places
  pub data_type : s.cells.data_type ≡ with_places t s.places

-- the data in steps of so many places, more than before, are out of range
pub record IsBeyond (ds : List Datum) (places : ℕ) : Type 0 where
  pub more : most_places_in ds < places
  pub great : most_steps < greatest_in (cells_at places ds)

-- steps of at least so many places are taken, or the data would be out of range
abbrev pub Refines : Scaled → Scaled → ℕ → Bool → Type 0
Refines old new places true = (t : DataType) (before : List Datum) → IsScaled old t before → IsRefined new t before places
Refines old new places false = (t : DataType) (before : List Datum) → IsScaled old t before → IsBeyond before places

-- one more datum, of this number, is kept, or why it is not
abbrev pub Pushes : Scaled → Scaled → ℕ → Datum → Result (Unit {0}) SdfError → Type 0
Pushes old new number d (Ok done) = (t : DataType) (before : List Datum) → IsScaled old t before
    → (ranged (before ++ d ∷ []) ≡ Ok (before ++ d ∷ [])) × IsScaled new t (before ++ d ∷ [])
Pushes old new number d (Err e) = (t : DataType) (before : List Datum) → IsScaled old t before → number ≡ length before + 1 → (e ≡ Memory → ⊥)
    → ranged (before ++ d ∷ []) ≡ Err e

-- the cells are kept at more places, or one would be out of range
abbrev pub Grows : Scaled → Scaled → ℕ → Bool → Type 0
Grows old new places true = (wide_cells_in new.cells ≡ map (multiplied (pos (10 ^ (places - old.places)))) (wide_cells_in old.cells))
    × (new.places ≡ places) × (new.cells.data_type ≡ with_places old.cells.data_type places)
Grows old new places false = most_steps < greatest_in (wide_cells_in old.cells) * 10 ^ (places - old.places)

-- the data that are kept as cells
abbrev pub data_of : Scaled → List Datum
data_of s = data_for s.places (wide_cells_in s.cells)
