-- Which pits pruning takes away, without its order.
use Rattle.std.specs.Prelude.{◌≡◌, ℕ, ℤ, true}
use Rattle.hd_map.specs.declared.types.Rank.{Rank}
use Rattle.hd_map.specs.declared.types.SideName.{SideName}
use Rattle.hd_map.specs.Map.{Map}
use Rattle.hd_map.specs.NearestSaddle.{local_height}
use Rattle.hd_map.specs.Pruning.{goes}
use Rattle.hd_map.specs.Rank.{below_by}
use Rattle.hd_map.specs.Region.{IsPit}
use Rattle.hd_map.specs.Saddle.{IsSaddle}

-- q undercuts p at so many thousandths of a percent of sz: it is a pit below p, the two have a saddle,
-- and the local height of p at that saddle goes
pub record Undercuts (m : Map) (side : SideName) (thousandths : ℕ) (sz : ℤ) (q p : Rank) : Type 0 where
  pub is_pit : IsPit m side q
  pub lower : below_by side q p ≡ true
  pub saddle : Rank
  pub is_saddle : IsSaddle m side p q saddle
  pub goes_away : goes thousandths sz (local_height p saddle) ≡ true
