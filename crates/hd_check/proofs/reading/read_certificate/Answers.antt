use Rattle.std.proofs.Common.{inl, inr, Err, sym, ap, ◌∙◌}
use Rattle.hd_check.specs.Reading.{value_of}
use Rattle.std.proofs.lemmas.Result.{err_from_is_err_and}
use Rattle.hd_check.proofs.ReadingSteps.{after_cut, after_from, after_head, after_path, after_saddle, after_to, and_then-goes_on, and_then-stops}
use Rattle.hd_check.proofs.reading.read_certificate.Goals as goal

pub returns-in_err-head : goal.returns-in_err-head
returns-in_err-head c = let p = err_from_is_err_and c.from_residual.result c.from_residual.ensures.1 in rw (p.1, p.2) (elim c.in_err-head.ensures [
  | inl memory ↦ inl (ap Err memory)
  | inr bad ↦ inr (sym (ap value_of (and_then-stops _ after_head _ bad)))
])

pub returns-in_err-from : goal.returns-in_err-from
returns-in_err-from c = let p = err_from_is_err_and c.from_residual-in_err-from.result c.from_residual-in_err-from.ensures.1 in rw (p.1, p.2) (elim c.in_err-from.ensures [
  | inl memory ↦ inl (ap Err memory)
  | inr bad ↦ inr (sym (ap value_of (and_then-goes_on _ after_head _ _ c.in_ok-head.ensures.0 ∙ and_then-stops _ (after_from c.in_ok-head.head) _ bad)))
])

pub returns-in_err-to : goal.returns-in_err-to
returns-in_err-to c = let p = err_from_is_err_and c.from_residual-in_err-to.result c.from_residual-in_err-to.ensures.1 in rw (p.1, p.2) (elim c.in_err-to.ensures [
  | inl memory ↦ inl (ap Err memory)
  | inr bad ↦ inr (sym (ap value_of (and_then-goes_on _ after_head _ _ c.in_ok-head.ensures.0 ∙ and_then-goes_on _ (after_from c.in_ok-head.head) _ _ c.in_ok-from.ensures.0
      ∙ and_then-stops _ (after_to c.in_ok-head.head c.in_ok-from.from) _ bad)))
])

pub returns-in_err-saddle : goal.returns-in_err-saddle
returns-in_err-saddle c = let p = err_from_is_err_and c.from_residual-in_err-saddle.result c.from_residual-in_err-saddle.ensures.1 in rw (p.1, p.2) (elim c.in_err-saddle.ensures [
  | inl memory ↦ inl (ap Err memory)
  | inr bad ↦ inr (sym (ap value_of (and_then-goes_on _ after_head _ _ c.in_ok-head.ensures.0 ∙ and_then-goes_on _ (after_from c.in_ok-head.head) _ _ c.in_ok-from.ensures.0
      ∙ and_then-goes_on _ (after_to c.in_ok-head.head c.in_ok-from.from) _ _ c.in_ok-to.ensures.0 ∙ and_then-stops _ (after_saddle c.in_ok-head.head c.in_ok-from.from c.in_ok-to.to) _ bad)))
])

pub returns-in_err-path : goal.returns-in_err-path
returns-in_err-path c = let p = err_from_is_err_and c.from_residual-in_err-path.result c.from_residual-in_err-path.ensures.1 in rw (p.1, p.2) (elim c.in_err-path.ensures [
  | inl memory ↦ inl (ap Err memory)
  | inr bad ↦ inr (sym (ap value_of (and_then-goes_on _ after_head _ _ c.in_ok-head.ensures.0 ∙ and_then-goes_on _ (after_from c.in_ok-head.head) _ _ c.in_ok-from.ensures.0
      ∙ and_then-goes_on _ (after_to c.in_ok-head.head c.in_ok-from.from) _ _ c.in_ok-to.ensures.0
      ∙ and_then-goes_on _ (after_saddle c.in_ok-head.head c.in_ok-from.from c.in_ok-to.to) _ _ c.in_ok-saddle.ensures.0
      ∙ and_then-stops _ (after_path c.in_ok-head.head c.in_ok-from.from c.in_ok-to.to c.in_ok-saddle.saddle) _ bad)))
])

pub returns-in_err-cut : goal.returns-in_err-cut
returns-in_err-cut c = let p = err_from_is_err_and c.from_residual-in_err-cut.result c.from_residual-in_err-cut.ensures.1 in rw (p.1, p.2) (elim c.in_err-cut.ensures [
  | inl memory ↦ inl (ap Err memory)
  | inr bad ↦ inr (sym (ap value_of (and_then-goes_on _ after_head _ _ c.in_ok-head.ensures.0 ∙ and_then-goes_on _ (after_from c.in_ok-head.head) _ _ c.in_ok-from.ensures.0
      ∙ and_then-goes_on _ (after_to c.in_ok-head.head c.in_ok-from.from) _ _ c.in_ok-to.ensures.0
      ∙ and_then-goes_on _ (after_saddle c.in_ok-head.head c.in_ok-from.from c.in_ok-to.to) _ _ c.in_ok-saddle.ensures.0
      ∙ and_then-goes_on _ (after_path c.in_ok-head.head c.in_ok-from.from c.in_ok-to.to c.in_ok-saddle.saddle) _ _ c.in_ok-path.ensures.0
      ∙ and_then-stops _ (after_cut c.in_ok-head.head c.in_ok-from.from c.in_ok-to.to c.in_ok-saddle.saddle c.in_ok-path.path) _ bad)))
])
