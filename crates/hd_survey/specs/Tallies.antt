-- How many points regions have, and the range of the heights of their edge points.
use Rattle.std.specs.Prelude.{◌≡◌, ◌<◌, ◌+◌, ℕ, ℤ, Bool, true, false, List, length, map, filter, Option, Some, None, nat_eq, slice_index, slice_index_or}
use Rattle.std.specs.Int.{int_min, int_max}
use Rattle.std.specs.List.{range_with_len}
use Rattle.hd_map.specs.declared.height_range.HeightRange.{HeightRange}
use Rattle.hd_map.specs.declared.types.Rank.{Rank}
use Rattle.hd_map.specs.declared.types.SideName.{SideName}
use Rattle.hd_map.specs.Map.{Map, cell_count}
use Rattle.hd_map.specs.HeightRange.{range_of, widened}
use Rattle.hd_map.specs.Region.{AreRegions}
use Rattle.hd_steep.specs.Numbering.{Numbering}
use Rattle.hd_regions.specs.declared.tally.Tally.{Tally}
use Rattle.hd_survey.specs.Edges.{edge_heights}
use Rattle.hd_survey.specs.Regions.{names, pit_ranks}

-- the number of these points, and the range of the heights of the edge points among them
abbrev pub tally_of : Map → List ℕ → Tally
tally_of m points = record { points = length points; edge = range_of (edge_heights m points) }

-- of the points with an index below n, those with this root
abbrev pub rooted_below : List (Option ℕ) → ℕ → ℕ → List ℕ
rooted_below roots pit n = filter (λ k. names (slice_index_or roots k None) pit) (range_with_len 0 n)

-- the tally of the region of a pit
abbrev pub region_tally : Map → List (Option ℕ) → Rank → Tally
region_tally m roots pit = tally_of m (rooted_below roots pit.index (cell_count m.size))

-- the tallies of the regions of a map on a side, in position order of their pits
pub record AreRegionTallies (m : Map) (side : SideName) (tallies : List Tally) : Type 0 where
  pub roots : List (Option ℕ)
  pub regions : AreRegions m side roots
  pub are : tallies ≡ map (region_tally m roots) (pit_ranks m roots)

-- the tally of no points
abbrev pub no_tally : Tally
no_tally = record { points = 0; edge = None }

-- a range with one more height of an edge point, or none
abbrev pub edge_with : Option HeightRange → Option ℤ → Option HeightRange
edge_with edge None = edge
edge_with edge (Some height) = Some (widened edge height)

-- a tally with one more point, whose height counts where it is an edge point
abbrev pub tally_with : Tally → Option ℤ → Tally
tally_with t height = record { points = t.points + 1; edge = edge_with t.edge height }

-- the same if there is a further point
abbrev pub tally_after : Bool → Tally → Option ℤ → Tally
tally_after true t height = tally_with t height
tally_after false t height = t

-- the range of the heights of two
abbrev pub joined_ranges : Option HeightRange → Option HeightRange → Option HeightRange
joined_ranges None b = b
joined_ranges (Some a) None = Some a
joined_ranges (Some a) (Some b) = Some (record { least = int_min a.least b.least; greatest = int_max a.greatest b.greatest })

-- the tally of two regions together
abbrev pub joined : Tally → Tally → Tally
joined a b = record { points = a.points + b.points; edge = joined_ranges a.edge b.edge }

-- of the points with an index below n, those with this number
abbrev pub numbered_below : List ℕ → ℕ → ℕ → List ℕ
numbered_below numbers i n = filter (λ k. nat_eq (slice_index numbers k) i) (range_with_len 0 n)

-- by number of a pit, the tally of the points with an index below n that have that number
pub record AreTallies (m : Map) (regions : Numbering) (n : ℕ) (tallies : List Tally) : Type 0 where
  pub whole : length tallies ≡ length regions.pits
  pub each : (i : ℕ) (d : Tally) → i < length regions.pits → slice_index_or tallies i d ≡ tally_of m (numbered_below regions.numbers i n)

-- the tally of this number gets one more point
pub record AddsPoint (old : List Tally) (number : ℕ) (height : Option ℤ) (new : List Tally) : Type 0 where
  pub whole : length new ≡ length old
  pub each : (i : ℕ) (d : Tally) → i < length old → slice_index_or new i d ≡ tally_after (nat_eq number i) (slice_index_or old i d) height
