-- The point of an index.
use Rattle.std.proofs.Common.{◌≡◌, ◌<◌, ◌∙◌, ℕ, ap, sym, subst}
use Rattle.hd_map.specs.declared.types.Rank.{Rank}
use Rattle.hd_map.specs.Map.{Map, Present, cell_count, position_at}
use Rattle.hd_map.specs.Rank.{IsPoint, rank}
use Rattle.hd_map.proofs.Points.{point_inside, rank_position}
use Rattle.hd_steep.specs.Links.{HasPointAt}
use Rattle.hd_steep.specs.Passes.{point_of}

-- a point is that of its index
pub point-of_index : (m : Map) (a : Rank) → IsPoint m a → point_of m a.index ≡ a
point-of_index m a point = ap (rank m) (rank_position m a point.at point.present point.rank_is) ∙ sym point.rank_is

-- an index with a point is one of the map, and the point stands there
pub has-below : (m : Map) (k : ℕ) → HasPointAt m k → k < cell_count m.size
has-below m k has = rw has.index_is (point_inside m has.at has.point)

pub has-present : (m : Map) (k : ℕ) → HasPointAt m k → Present m (position_at m.size k)
has-present m k has =
    let point = has.point in
    subst (Present m) (sym (ap (position_at m.size) has.index_is ∙ rank_position m has.at point.at point.present point.rank_is)) point.present
