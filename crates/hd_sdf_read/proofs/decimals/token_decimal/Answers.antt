use Rattle.std.proofs.Common.{sym, ap, ◌∙◌}
use Rattle.std.specs.Prelude.{bytes_eq}
use Rattle.hd_sdf_read.proofs.DecimalTokens.{data_with-absent, data_with-star, data_with-stop}
use Rattle.hd_sdf_read.proofs.decimals.token_decimal.Goals as goal

pub returns-then-is_empty : goal.returns-then-is_empty
returns-then-is_empty c = λ _ before read. data_with-absent before c.args.read c.args.text.now c.next_token.result.0.now c.next_token.ensures.token (sym c.is_empty.ensures ∙ c.if-is_empty.true) read

pub returns-then-eq : goal.returns-then-eq
returns-then-eq c = λ _ before read.
    data_with-star before c.args.read c.args.text.now c.next_token.result.0.now c.next_token.ensures.token (sym c.is_empty.ensures ∙ c.if-is_empty.false)
    (sym (c.eq.ensures ∙ ap (bytes_eq c.next_token.result.0.now) c.as_slice.ensures) ∙ c.if-eq.true) read

pub returns-in-Err : goal.returns-in-Err
returns-in-Err c = λ refused before read.
    data_with-stop before c.args.read c.args.text.now c.next_token.result.0.now c.in-Err.refusal c.next_token.ensures.token (sym c.is_empty.ensures ∙ c.if-is_empty.false)
    (sym (c.eq.ensures ∙ ap (bytes_eq c.next_token.result.0.now) c.as_slice.ensures) ∙ c.if-eq.false) read (c.in-Err.ensures refused)
