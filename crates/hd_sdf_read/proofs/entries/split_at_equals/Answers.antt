use Rattle.std.proofs.Common.{◌+◌, arith, ◌∙◌}
use Rattle.std.proofs.lemmas.Bool.{eq-eqb}
use Rattle.std.proofs.lemmas.List.{take_rest}
use Rattle.hd_sdf_read.proofs.FirstBytes.{IsFirstAt-found, list_any-none}
use Rattle.hd_sdf_read.specs.Entries.{is_equals}
use Rattle.hd_sdf_read.proofs.entries.split_at_equals.Goals as goal

pub returns-then-byte-eq61 : goal.returns-then-byte-eq61
returns-then-byte-eq61 c =
    let first = IsFirstAt-found is_equals c.args.text.now c.bytes.place c.bytes-test.true c.bytes.invariant (eq-eqb _ 61 c.if-byte-eq61.true) in
    (first.some, first.before, take_rest c.args.text.now (c.bytes.place + 1) ∙ first.after)

pub returns : goal.returns
returns c = list_any-none is_equals c.args.text.now (λ k inside. c.bytes.invariant k (omega arith))
