use Rattle.std.proofs.Common.{sym, arith, length, ◌∙◌}
use Rattle.std.proofs.lemmas.List.Sums.{position_or_len_is}
use Rattle.hd_sdf_read.specs.Tokens.{is_gap}
use Rattle.hd_sdf_read.proofs.token.token_len.Goals as goal

pub returns-then-is_gap : goal.returns-then-is_gap
returns-then-is_gap c = sym (position_or_len_is is_gap c.args.text.now c.bytes.place 0 (omega arith) c.bytes.invariant (λ _. sym c.is_gap.ensures ∙ c.if-is_gap.true))

pub returns : goal.returns
returns c = sym (position_or_len_is is_gap c.args.text.now (length c.args.text.now) 0 (omega arith) (λ k h. c.bytes.invariant k (omega arith)) (λ h. absurd (omega arith)))
