use Rattle.std.proofs.Common.{sym, ◌∙◌}
use Rattle.hd_basin.proofs.Unseen.{unseen-empty, unseen-none, unseen-in_step, unseen-sound}
use Rattle.hd_basin.proofs.basins.Basins.new.Goals as goal

pub invariant_of-result : goal.invariant_of-result
invariant_of-result g c = unseen-sound (record { size = c.new-tiling.result.size; side = c.new-tiling.result.side; parts = c.in_ok-stock.stock }) c.in_ok-stock.ensures.unseen
    (c.in_ok-stock.ensures.count ∙ c.count.ensures)

pub returns-clause-empty : goal.returns-clause-empty
returns-clause-empty g c = unseen-empty (record { size = c.new-tiling.result.size; side = c.new-tiling.result.side; parts = c.in_ok-stock.stock }) c.in_ok-stock.ensures.unseen

pub returns-clause-unseen : goal.returns-clause-unseen
returns-clause-unseen g c = unseen-none (record { size = c.new-tiling.result.size; side = c.new-tiling.result.side; parts = c.in_ok-stock.stock }) c.in_ok-stock.ensures.unseen

pub returns-clause-in_step : goal.returns-clause-in_step
returns-clause-in_step g c = λ m stamps size.
    unseen-in_step (record { size = c.new-tiling.result.size; side = c.new-tiling.result.side; parts = c.in_ok-stock.stock }) c.in_ok-stock.ensures.unseen m g.S.Side.NAME stamps
    (c.new-tiling.ensures.size ∙ sym size)
