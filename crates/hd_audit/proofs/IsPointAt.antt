-- The index of a point is that of a present point.
use Rattle.std.proofs.Common.{sym, subst}
use Rattle.hd_map.specs.declared.types.Rank.{Rank}
use Rattle.hd_map.specs.Map.{Map, Present}
use Rattle.hd_map.specs.Rank.{IsPoint}
use Rattle.hd_map.proofs.Points.{rank_position, point_inside}
use Rattle.hd_audit.specs.Lines.{IsPointAt}

pub IsPointAt-point : (m : Map) (r : Rank) → IsPoint m r → IsPointAt m r.index
IsPointAt-point m r point = record { inside = point_inside m r point; present = subst (Present m) (sym (rank_position m r point.at point.present point.rank_is)) point.present }
