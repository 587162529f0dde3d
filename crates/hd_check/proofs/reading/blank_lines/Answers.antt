use Rattle.std.proofs.Common.{inl, inr, arith}
use Rattle.std.proofs.lemmas.Result.{err_from_is_err_and}
use Rattle.hd_check.proofs.reading.blank_lines.Goals as goal

pub returns-in_err-line : goal.returns-in_err-line
returns-in_err-line c = let p = err_from_is_err_and c.from_residual.result c.from_residual.ensures.1 in rw (p.1, p.2) (elim c.in_err-line.ensures [
  | inl memory ↦ inl memory
  | inr bad ↦ absurd (let ends = bad.2 in omega (arith, ends, c.lines-test.true))
])
