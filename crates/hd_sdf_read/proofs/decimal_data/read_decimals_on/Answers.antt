use Rattle.std.proofs.Common.{[], sym, arith}
use Rattle.hd_sdf_read.proofs.DecimalCuts.{HasDecimalsOn-another, DecimalsOn-open, HasDecimalsOn-some, HasDecimalsOn-stop, DecimalsOn-whole, HasDecimalsOn-wrong}
use Rattle.hd_sdf_read.proofs.decimal_data.read_decimals_on.Goals as goal

pub data-init : goal.data-init
data-init c = HasDecimalsOn-some c.args.size c.args.data_type c.args.scaled c.args.text.now c.len-read.result c.requires.kept (sym c.len-read.ensures)

pub data-preserved : goal.data-preserved
data-preserved c =
    let given = rw c.in-Ok-Some.field-0-is at c.in-Ok-Some.ensures in
    HasDecimalsOn-another c.args.size c.args.data_type c.args.scaled c.args.text.now c.data.scaled c.data.rest.now c.data.read c.data.invariant c.data-test.true c.push.new.self
    c.in-Ok-Some.datum c.in-Ok-Some.after.now given c.in_default.ensures

pub push-requires : goal.push-requires
push-requires c = let given = rw c.in-Ok-Some.field-0-is at c.in-Ok-Some.ensures in (given []).0.small

pub returns-in-Err-push : goal.returns-in-Err-push
returns-in-Err-push c = λ refused.
    let given = rw c.in-Ok-Some.field-0-is at c.in-Ok-Some.ensures in
    HasDecimalsOn-wrong c.args.size c.args.data_type c.args.scaled c.args.text.now c.data.scaled c.data.rest.now c.data.read c.data.invariant c.data-test.true c.push.new.self
    c.in-Ok-Some.datum c.in-Ok-Some.after.now given
    c.in-Err-push.refusal c.in-Err-push.ensures refused

pub returns : goal.returns
returns c =
    let few = c.requires.count in
    let end = c.data.auto.read-end (omega (arith, few, c.len-read.ensures)) in
    DecimalsOn-whole c.args.size c.args.data_type c.args.scaled c.args.text.now c.data.scaled c.data.rest.now c.data.read c.data.invariant (omega (arith, end, c.data-test.false))

pub returns-in-Ok-None : goal.returns-in-Ok-None
returns-in-Ok-None c = DecimalsOn-open c.args.size c.args.data_type c.args.scaled c.args.text.now c.data.scaled c.data.rest.now c.data.read c.data.invariant
    (omega (arith, c.data-test.true)) (rw c.in-Ok-None.field-0-is at c.in-Ok-None.ensures)

pub returns-in-Err : goal.returns-in-Err
returns-in-Err c = λ refused.
    HasDecimalsOn-stop c.args.size c.args.data_type c.args.scaled c.args.text.now c.data.scaled c.data.rest.now c.data.read c.data.invariant c.data-test.true c.in-Err.refusal
    (c.in-Err.ensures refused)
