use Rattle.std.proofs.Common.{arith}
use Rattle.hd_steep.specs.Rows.{past_end}
use Rattle.hd_map.proofs.Points.{point_inside}
use Rattle.hd_steep.proofs.Pits.{pits_few}
use Rattle.hd_steep.proofs.PitNumbers.{listed_pit, numbers_none, numbers_more, numbers_all}
use Rattle.hd_steep.proofs.pit_list.write_at_pits.Goals as goal

pub loop-number-init : goal.loop-number-init
loop-number-init g c = numbers_none (g.G.Heights.map c.args._grid.now) g.S.Side.NAME c.args.pits.now c.requires.pits c.args.first c.args.numbers.now

pub overflow_cast-numbers : goal.overflow_cast-numbers
overflow_cast-numbers g c =
    let few = pits_few (g.G.Heights.map c.args._grid.now) g.S.Side.NAME c.args.pits.now c.requires.pits in
    let cells = (g.met.G.Heights.whole c.args._grid.now).size.cells in
    omega (arith, few, cells, c.loop-number-test.true)

pub overflow_add-numbers : goal.overflow_add-numbers
overflow_add-numbers g c =
    let few = pits_few (g.G.Heights.map c.args._grid.now) g.S.Side.NAME c.args.pits.now c.requires.pits in
    let cells = (g.met.G.Heights.whole c.args._grid.now).size.cells in
    omega (arith, few, cells, c.requires.first, c.loop-number-test.true)

pub bounds-numbers-pits : goal.bounds-numbers-pits
bounds-numbers-pits g c =
    let m = g.G.Heights.map c.args._grid.now in
    rw (c.loop-number.invariant.whole, c.requires.whole) (point_inside m _ (listed_pit m g.S.Side.NAME c.args.pits.now c.requires.pits c.loop-number.number past_end c.loop-number-test.true).point)

pub loop-number-preserved : goal.loop-number-preserved
loop-number-preserved g c =
    numbers_more (g.G.Heights.map c.args._grid.now) g.S.Side.NAME c.args.pits.now c.requires.pits c.args.first c.loop-number.number past_end c.args.numbers.now
    c.loop-number.numbers c.loop-number-test.true c.requires.whole c.loop-number.invariant

pub returns : goal.returns
returns g c = numbers_all (g.G.Heights.map c.args._grid.now) g.S.Side.NAME c.args.pits.now c.requires.pits c.args.first c.loop-number.number c.args.numbers.now
    c.loop-number.numbers c.loop-number-test.false c.loop-number.invariant
