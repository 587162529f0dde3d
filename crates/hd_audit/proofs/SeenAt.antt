-- Marks of the points that are seen, with one more.
use Rattle.std.proofs.Common.{◌≡◌, ◌∙◌, ◌<◌, ◌+◌, ℕ, Bool, true, false, List, length, get_or, set, ◌⊎◌, inl, inr, sym, ap, arith}
use Rattle.std.proofs.lemmas.Bool.{cases_eq}
use Rattle.std.proofs.lemmas.List.{get_or-set_same, get_or-set_other}
use Rattle.std.proofs.lemmas.List.Sums.{sum_by-set}
use Rattle.std.specs.List.{sum_by}
use Rattle.hd_audit.specs.Flooding.{seen_at, unseen}

module _ (seen : List Bool) (i : ℕ) (inside : i < length seen) where
  pub seen_at-here : seen_at (set seen i true) i ≡ true
  seen_at-here = get_or-set_same seen i true false inside

  -- what is seen stays seen
  pub seen_at-kept : (k : ℕ) → seen_at seen k ≡ true → seen_at (set seen i true) k ≡ true
  seen_at-kept k h = elim (cases_eq k i) [
    | inl same ↦ ap (seen_at (set seen i true)) same ∙ seen_at-here
    | inr other ↦ get_or-set_other seen i k true false other ∙ h
  ]

  -- what is seen then was seen before, or is that one
  pub seen_at-cases : (k : ℕ) → seen_at (set seen i true) k ≡ true → (k ≡ i) ⊎ (seen_at seen k ≡ true)
  seen_at-cases k h = elim (cases_eq k i) [
    | inl same ↦ inl same
    | inr other ↦ inr (sym (get_or-set_other seen i k true false other) ∙ h)
  ]

  -- one less is unseen
  pub seen_at-fewer_unseen : seen_at seen i ≡ false → sum_by unseen (set seen i true) + 1 ≡ sum_by unseen seen
  seen_at-fewer_unseen free =
      let sum = sum_by-set unseen seen i true false inside in
      let one : unseen (get_or seen i false) ≡ 1 = ap unseen free in
      omega (arith, sum, one)
