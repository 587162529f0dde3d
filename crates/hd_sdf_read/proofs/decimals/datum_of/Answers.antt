use Rattle.std.proofs.Common.{sym, ap, ◌∙◌}
use Rattle.std.specs.Prelude.{bytes_eq}
use Rattle.hd_sdf_read.proofs.DecimalTokens.{datum_of-out}
use Rattle.hd_sdf_read.proofs.decimals.datum_of.Goals as goal

pub returns-in-Some : goal.returns-in-Some
returns-in-Some c = λ _ before number.
    datum_of-out c.args.number c.args.token.now c.in-Some.decimal before (sym (c.eq.ensures ∙ ap (bytes_eq c.args.token.now) c.as_slice.ensures) ∙ c.if-eq.false)
    (sym c.in-Some.is ∙ c.in_ok-decimal.ensures) c.in-None-measured.ensures number
