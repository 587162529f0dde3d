-- The numbers of a demo, and the words that they are read from.
use Rattle.std.specs.Prelude.{◌&&◌, ◌≤◌, ℕ, Bool, nat_le, List, Option, Some, None, option_and_then, if◌then◌else◌}
use Rattle.hd_map.specs.declared.types.Size.{Size}
use Rattle.hd_map.specs.Map.{IsSize, cell_count, longest_side, most_cells}
use Rattle.hd_num.specs.Whole.{count_of}
use Rattle.hd_words.specs.declared.demo.Demo.{Demo}
use Rattle.hd_words.specs.Limits.{greatest_tile, least_tile, most_edits}

-- the limits of a demo's numbers
pub record IsDemo (demo : Demo) : Type 0 where
  pub size : IsSize demo.size
  pub edits : demo.edits ≤ most_edits
  pub least : least_tile ≤ demo.tile
  pub greatest : demo.tile ≤ greatest_tile

-- whether a side of a grid is within its limits
abbrev pub is_demo_side : ℕ → Bool
is_demo_side n = nat_le 1 n && nat_le n longest_side

-- whether a size is within its limits
abbrev pub is_size : Size → Bool
is_size size = is_demo_side size.points && is_demo_side size.profiles && nat_le (cell_count size) most_cells

-- the demo of these numbers, where they are within their limits
abbrev pub demo_within : Demo → Option Demo
demo_within demo = if is_size demo.size && nat_le demo.edits most_edits then Some demo else None

-- the demo that four words ask for, each of them a count, with tiles of this side
abbrev pub demo_of : List ℕ → List ℕ → List ℕ → List ℕ → ℕ → Option Demo
demo_of points profiles number edits tile =
    option_and_then (λ w. option_and_then (λ h. option_and_then (λ n. option_and_then (λ k.
    demo_within (record { size = record { points = w; profiles = h }; number = n; edits = k; tile = tile }))
    (count_of edits)) (count_of number)) (count_of profiles)) (count_of points)
