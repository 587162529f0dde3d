use Rattle.std.proofs.Common.{subst}
use Rattle.hd_map.specs.declared.surface.Surface.{Surface}
use Rattle.hd_map.specs.Encoding.{values_of}
use Rattle.hd_map.specs.Sets.{AreHeightsIn}
use Rattle.hd_map.specs.Surface.{map_of}
use Rattle.hd_map.proofs.surface.SurfaceGrid.set_heights.Goals as goal

pub set_heights-requires-clause-in_range : goal.set_heights-requires-clause-in_range
set_heights-requires-clause-in_range g c = subst (λ (s : Surface). AreHeightsIn (map_of s).data_type (values_of g.L.Lane.code c.args.row.now)) c.in-Narrow.is c.requires.in_range

pub set_heights-requires-in-Wide-clause-in_range : goal.set_heights-requires-in-Wide-clause-in_range
set_heights-requires-in-Wide-clause-in_range g c = subst (λ (s : Surface). AreHeightsIn (map_of s).data_type (values_of g.L.Lane.code c.args.row.now)) c.in-Wide.is c.requires.in_range
