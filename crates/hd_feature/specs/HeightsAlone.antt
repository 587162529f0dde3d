-- Notations that ask for neither the points nor the edges of a region.
use Rattle.std.specs.Prelude.{◌&&◌, Bool, true, false, not, None}
use Rattle.hd_feature.specs.declared.notation.Attribute.{Attribute}
use Rattle.hd_feature.specs.declared.notation.Attribute.TheVariants.{AreaE}
use Rattle.hd_feature.specs.declared.notation.Notation.{Notation}
use Rattle.hd_feature.specs.declared.notation.Significance.{Significance}
use Rattle.hd_feature.specs.declared.notation.Significance.TheVariants as significance
use Rattle.hd_feature.specs.declared.region.Region.{Region}

-- whether a significance asks for edge points
abbrev pub asks_for_edges : Significance → Bool
asks_for_edges (significance.Closed c) = true
asks_for_edges (significance.Open c) = true
asks_for_edges other = false

-- whether an attribute asks for the number of points
abbrev pub asks_for_points : Attribute → Bool
asks_for_points AreaE = true
asks_for_points attribute = false

-- whether the pits and the local heights of the regions serve a notation
abbrev pub heights_serve : Notation → Bool
heights_serve n = not (asks_for_edges n.significance) && not (asks_for_points n.attribute)

-- a region by its pit and its local height, as if it had no point
abbrev pub height_alone : Region → Region
height_alone r = record { pit = r.pit; lpvh = r.lpvh; points = 0; edge_low = None; edge_high = None }
