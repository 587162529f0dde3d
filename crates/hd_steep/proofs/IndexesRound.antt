-- The indexes of the eight places round a column are those of the points there.
use Rattle.std.proofs.Common.{◌≡◌, ◌<◌, ◌+◌, ◌-◌, ℕ, zero, suc, List, slice_index, refl, sym, ◌∙◌, arith}
use Rattle.hd_map.specs.declared.types.Rank.{Rank}
use Rattle.hd_map.specs.declared.types.SideName.{SideName}
use Rattle.hd_map.specs.Encoding.{Encoding}
use Rattle.hd_map.specs.Map.{Map, IsMap}
use Rattle.hd_map.specs.Rank.{IsPoint}
use Rattle.hd_steep.specs.declared.rolling.Rows.{Rows}
use Rattle.hd_steep.specs.declared.row.Row.{Row}
use Rattle.hd_steep.specs.Descended.{indexes_round}
use Rattle.hd_steep.specs.KeyRows.{AreRowsRound, IsKeyRow, ranks_of}
use Rattle.hd_steep.specs.Ring.{ring_of}
use Rattle.hd_steep.specs.Rows.{rank_in}
use Rattle.hd_steep.proofs.ShownKeys.{index_at}

module _ (m : Map) (side : SideName) (whole : IsMap m) {L : Type 0} (code : Encoding L) (y x : ℕ) (inside : x < m.size.points) (rows : Rows L) (round : AreRowsRound code side m y rows) where
  abbrev around : List Rank
  around = ring_of (ranks_of code side rows.above) (ranks_of code side rows.level) (ranks_of code side rows.below) x

  -- an index at a place of a row
  at_place : (r k i : ℕ) (row : Row L) → IsKeyRow code side m r row → k < m.size.points + 2 → i ≡ row.first + k - 1 → IsPoint m (rank_in (ranks_of code side row) k)
      → i ≡ (rank_in (ranks_of code side row) k).index
  at_place r k i row is place e point = e ∙ sym (index_at m side whole code r row is k place point)

  pub indexes_at : (k : ℕ) → k < 8 → IsPoint m (rank_in around k) → slice_index (indexes_round rows x) k ≡ (rank_in around k).index
  indexes_at zero b point = at_place y (x + 1) (rows.above.first + x) rows.above round.above (omega (arith, inside)) (omega arith) point
  indexes_at (suc zero) b point = at_place y (x + 2) (rows.above.first + x + 1) rows.above round.above (omega (arith, inside)) (omega arith) point
  indexes_at (suc (suc zero)) b point = at_place (y + 1) (x + 2) (rows.level.first + x + 1) rows.level round.level (omega (arith, inside)) (omega arith) point
  indexes_at (suc (suc (suc zero))) b point = at_place (y + 2) (x + 2) (rows.below.first + x + 1) rows.below round.below (omega (arith, inside)) (omega arith) point
  indexes_at (suc (suc (suc (suc zero)))) b point = at_place (y + 2) (x + 1) (rows.below.first + x) rows.below round.below (omega (arith, inside)) (omega arith) point
  indexes_at (suc (suc (suc (suc (suc zero))))) b point = at_place (y + 2) x (rows.below.first + x - 1) rows.below round.below (omega (arith, inside)) refl point
  indexes_at (suc (suc (suc (suc (suc (suc zero)))))) b point = at_place (y + 1) x (rows.level.first + x - 1) rows.level round.level (omega (arith, inside)) refl point
  indexes_at (suc (suc (suc (suc (suc (suc (suc zero))))))) b point = at_place y x (rows.above.first + x - 1) rows.above round.above (omega (arith, inside)) refl point
  indexes_at (suc (suc (suc (suc (suc (suc (suc (suc k)))))))) b point = absurd (omega (arith, b))
