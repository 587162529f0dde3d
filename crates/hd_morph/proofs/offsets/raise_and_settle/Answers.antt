use Rattle.std.proofs.Common.{◌∙◌}
use Rattle.hd_map.specs.Encoding.{values_of}
use Rattle.hd_morph.proofs.Encodings.{values_of-length}
use Rattle.hd_morph.proofs.Raising.{AreTopped-raised, ArePlainlyFiltered-settled}
use Rattle.hd_morph.proofs.offsets.raise_and_settle.Goals as goal

pub raise_rows-requires-clause-blank : goal.raise_rows-requires-clause-blank
raise_rows-requires-clause-blank g c =
    record { whole = values_of-length g.L.Lane.code c.leave_out.new.tops ∙ c.leave_out.ensures.whole ∙ c.requires.whole; each = c.leave_out.ensures.blank }

pub settle-requires-clause-topped : goal.settle-requires-clause-topped
settle-requires-clause-topped g c =
    let code = g.L.Lane.code in
    AreTopped-raised code c.args.size c.args.element.now c.args.heights.now (values_of code c.raise_rows.new.tops) c.requires.size.some_points c.requires.element c.requires.numbers
    c.requires.heights c.raise_rows.ensures

pub returns : goal.returns
returns g c =
    let code = g.L.Lane.code in
    ArePlainlyFiltered-settled code c.args.size c.args.element.now c.args.heights.now
    (values_of code c.raise_rows.new.tops) c.settle.new.tops c.requires.size.some_points c.requires.element c.requires.numbers c.requires.heights
    c.raise_rows.ensures c.settle.ensures
