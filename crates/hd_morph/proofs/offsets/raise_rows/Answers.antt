use Rattle.std.proofs.Common.{◌*◌, arith}
use Rattle.hd_map.specs.Encoding.{values_of}
use Rattle.hd_morph.specs.Plain.{relief}
use Rattle.hd_morph.proofs.Encodings.{values_of-mid, values_of-part}
use Rattle.hd_morph.proofs.Raising.{RowsRaised-none, RowsRaised-blank, RowsRaised-more, AreRaised-all}
use Rattle.hd_morph.proofs.offsets.raise_rows.Goals as goal

pub loop-y-init : goal.loop-y-init
loop-y-init g c =
    let code = g.L.Lane.code in
    RowsRaised-none c.args.size c.args.element.now (relief c.args.size (values_of code c.args.heights.now)) (values_of code c.args.tops.now) c.requires.blank

pub raise_row-requires-clause-blank : goal.raise_row-requires-clause-blank
raise_row-requires-clause-blank g c =
    let code = g.L.Lane.code in
    rw (values_of-part code (c.loop-y.y * c.args.size.points) _ c.loop-y.tops)
    (RowsRaised-blank c.args.size c.args.element.now (relief c.args.size (values_of code c.args.heights.now)) c.loop-y.y _ (values_of code c.loop-y.tops) c.loop-y-test.true
    (omega arith) c.loop-y.invariant)

pub loop-y-preserved : goal.loop-y-preserved
loop-y-preserved g c =
    let code = g.L.Lane.code in
    rw (values_of-mid code (c.loop-y.y * c.args.size.points) _ c.loop-y.tops c.raise_row.new.tops)
    (RowsRaised-more c.args.size c.args.element.now (relief c.args.size (values_of code c.args.heights.now)) c.loop-y.y _ (values_of code c.loop-y.tops)
    (values_of code c.raise_row.new.tops) c.loop-y-test.true (omega arith)
    c.loop-y.invariant c.raise_row.ensures)

pub returns : goal.returns
returns g c =
    let code = g.L.Lane.code in
    AreRaised-all c.args.size c.args.element.now (relief c.args.size (values_of code c.args.heights.now)) c.loop-y.y (values_of code c.loop-y.tops) (omega arith) c.loop-y.invariant
