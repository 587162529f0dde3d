use Rattle.std.proofs.Common.{◌≡◌, [], Err, Ok, refl, sym, ap, ◌∙◌, append-nil}
use Rattle.hd_sdf_read.specs.declared.error.SdfError.TheVariants.{Memory}
use Rattle.hd_sdf_read.specs.Grammar.{file_in}
use Rattle.hd_sdf_read.proofs.sdf.read_sdf.Goals as goal

ok≢memory : (u : Unit {0}) → Ok u ≡ Err Memory → ⊥
ok≢memory u e = cc

pub returns-in-Err : goal.returns-in-Err
returns-in-Err c = λ refused.
    let taken = c.in-Err.ensures.text [] c.in_ok-reader.ensures.stands in
    ap file_in (sym (append-nil c.args.bytes.now)) ∙ taken.refused c.in-Err.refusal refl refused []

pub returns : goal.returns
returns c =
    let taken = c.in_default.ensures.text [] c.in_ok-reader.ensures.stands in
    c.finish.ensures.text c.args.bytes.now (taken.stands (ok≢memory c.in_default.field-0))
