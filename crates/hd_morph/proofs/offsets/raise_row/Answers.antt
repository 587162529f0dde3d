use Rattle.std.proofs.Common.{ap, length, arith}
use Rattle.hd_map.specs.Encoding.{values_of}
use Rattle.hd_morph.specs.Plain.{relief}
use Rattle.hd_morph.proofs.Raising.{RowRaisedBefore-none, RowRaisedBefore-more, IsRowRaised-all}
use Rattle.hd_morph.proofs.offsets.raise_row.Goals as goal

pub loop-index-init : goal.loop-index-init
loop-index-init g c =
    let code = g.L.Lane.code in
    RowRaisedBefore-none c.args.size c.args.element.now (relief c.args.size (values_of code c.args.heights.now)) c.args.y (values_of code c.args.tops.now) c.requires.blank

pub loop-index-preserved : goal.loop-index-preserved
loop-index-preserved g c =
    let code = g.L.Lane.code in
    let odd = c.table-table.ensures.element.odd_width in
    let width = c.width-width.ensures.width in
    RowRaisedBefore-more c.args.size c.args.element.now (relief c.args.size (values_of code c.args.heights.now)) c.args.y c.loop-index.index _ (values_of code c.loop-index.tops)
    (values_of code c.raise_by.new.tops)
    (rw width (omega arith)) (rw width (omega arith)) c.loop-index.invariant c.raise_by.ensures

pub returns : goal.returns
returns g c =
    let code = g.L.Lane.code in
    let whole = c.table-table.ensures.element.whole in
    let table = ap length c.table-table.ensures.table in
    IsRowRaised-all c.args.size c.args.element.now (relief c.args.size (values_of code c.args.heights.now)) c.args.y c.loop-index.index (values_of code c.loop-index.tops)
    (omega arith) c.loop-index.invariant
