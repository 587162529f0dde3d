-- The data of a map as text, from one of them on.
use Rattle.std.specs.Prelude.{◌+◌, ◌-◌, ◌%◌, ◌==◌, ◌++◌, ℕ, zero, suc, List, [], ◌∷◌, slice_index_or, if◌then◌else◌}
use Rattle.hd_map.specs.declared.types.Cell.TheVariants.{Bad}
use Rattle.hd_map.specs.declared.types.Size.{Size}
use Rattle.hd_map.specs.Map.{Map, cell_count}
use Rattle.hd_sdf_write.specs.Canonical.{cell_text}

-- what stands behind a datum: an LF at the end of a profile, or else a blank
abbrev pub gap_after : Size → ℕ → ℕ
gap_after size k = if (k + 1) % size.points == 0 then 10 else 32

-- a datum, and what stands behind it
abbrev pub datum_text : Map → ℕ → List ℕ
datum_text m k = cell_text m.data_type (slice_index_or m.cells k Bad) ++ gap_after m.size k ∷ []

-- so many data from one on
unfoldable pub data_text : Map → ℕ → ℕ → List ℕ
data_text m k zero = []
data_text m k (suc n) = datum_text m k ++ data_text m (k + 1) n

-- the data from one on
abbrev pub data_from : Map → ℕ → List ℕ
data_from m k = data_text m k (cell_count m.size - k)
