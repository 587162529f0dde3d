-- The graph of local basins: its lows and its passes, tile by tile.
use Rattle.std.specs.Prelude.{ℕ, Bool, false, List, [], ◌∷◌, ◌++◌, map, Option, Some, None, slice_get, if◌then◌else◌}
use Rattle.std.specs.List.{flat_map}
use Rattle.std.specs.Option.{is_none}
use Rattle.hd_map.specs.declared.types.Pass.{Pass}
use Rattle.hd_map.specs.declared.types.SideName.{SideName}
use Rattle.hd_map.specs.Rank.{below_by}
use Rattle.hd_graph.specs.declared.graph.Low.{Low}
use Rattle.hd_basin.specs.declared.node.Node.{Node}
use Rattle.hd_basin.specs.declared.part.Part.{Part}
use Rattle.hd_basin.specs.declared.part.Seam.{Seam}
use Rattle.hd_basin.specs.Parts.{inner_passes, is_seen_with}

-- the sink of a node as a low, which is a pit where it flows nowhere
abbrev pub as_low : Node → Low
as_low n = record { rank = n.low; pit = is_none n.flows }

-- the lows of a tile
abbrev pub lows_in : Part → List Low
lows_in part = map as_low part.nodes

-- a pass with its lower end first
abbrev pub in_order : SideName → Pass → Pass
in_order side p = if below_by side p.b p.a then (record { a = p.b; b = p.a; at = p.at }) else p

-- whether a tile was seen with this stamp
abbrev pub was_seen_with : Option Part → ℕ → Bool
was_seen_with None stamp = false
was_seen_with (Some part) stamp = is_seen_with part.seen stamp

-- the pass of a seam, unless it is void
abbrev pub pass_of : SideName → List Part → Seam → List Pass
pass_of side parts s = if was_seen_with (slice_get parts s.with) s.stamp then (in_order side s.pass ∷ []) else []

-- the passes that a tile has
abbrev pub passes_in : SideName → List Part → Part → List Pass
passes_in side parts part = map (in_order side) (inner_passes part) ++ flat_map (pass_of side parts) part.seams
