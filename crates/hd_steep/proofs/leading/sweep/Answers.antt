use Rattle.std.proofs.Common.{arith}
use Rattle.hd_steep.proofs.EndLinks.{led_on}
use Rattle.hd_steep.proofs.leading.sweep.Goals as goal

pub loop-index-preserved : goal.loop-index-preserved
loop-index-preserved g c =
    led_on (g.G.Heights.map c.args._grid.now) g.S.Side.NAME c.args._pits.now c.loop-index.links c.loop-index.invariant c.loop-index.index (omega (arith, c.loop-index-test.true, c.requires.count))
