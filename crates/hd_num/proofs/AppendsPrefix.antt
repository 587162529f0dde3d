-- A prefix of one of two texts, added after the one before, is a prefix of both.
use Rattle.std.proofs.Common.{◌≡◌, ℕ, ◌+◌, List, ◌++◌, length, take, inl, inr, sym, ap, ◌∙◌, arith, append_assoc}
use Rattle.std.proofs.Math.Seq.{take-append-add, take-append-le, take-append_seam}
use Rattle.std.proofs.lemmas.Bool.{cases_lt}
use Rattle.std.proofs.lemmas.List.{take_all}
use Rattle.hd_num.specs.Text.{AppendsPrefix}

-- a prefix of the first of two texts
pub prefix_first : (old new a b : List ℕ) → AppendsPrefix old new a → AppendsPrefix old new (a ++ b)
prefix_first old new a b h = elim (cases_lt h.0 (length a)) [
  | inl few ↦ (h.0, h.1 ∙ ap (λ t. old ++ t) (sym (take-append-le h.0 a b (omega arith))))
  | inr many ↦ (length a, h.1 ∙ ap (λ t. old ++ t) (take_all h.0 a (omega arith) ∙ sym (take-append_seam a b)))
]

-- a prefix of the second, after the first
pub prefix_then : (old mid new a b : List ℕ) → mid ≡ old ++ a → AppendsPrefix mid new b → AppendsPrefix old new (a ++ b)
prefix_then old mid new a b e h = (length a + h.0, h.1 ∙ ap (λ t. t ++ take h.0 b) e ∙ append_assoc old a (take h.0 b) ∙ ap (λ t. old ++ t) (sym (take-append-add a b h.0)))
