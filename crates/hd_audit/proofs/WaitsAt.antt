-- How often an index waits among the points that wait.
use Rattle.std.proofs.Common.{◌≡◌, ◌∙◌, ◌≤◌, ◌+◌, ℕ, List, [], ◌∷◌, inl, inr, refl, sym, ap, arith}
use Rattle.std.specs.Prelude.{Contains}
use Rattle.std.specs.List.{sum_by}
use Rattle.std.proofs.lemmas.Bool.{cases_eq}
use Rattle.std.proofs.lemmas.Bool.Decides.{nat_tests}
use Rattle.std.proofs.lemmas.List.Sums.{sum_by-cons}
use Rattle.hd_map.proofs.Items.{Contains-cases, Contains-head, Contains-none, Contains-tail}
use Rattle.hd_audit.specs.declared.waiting.Waiting.{Waiting}
use Rattle.hd_audit.specs.Flooding.{waits_at}

module _ {S : Type 0} where
  pub waits_at-one : (w : Waiting S) (i : ℕ) → w.index ≡ i → waits_at i w ≡ 1
  waits_at-one w i e = grind (arith, nat_tests)

  pub waits_at-none : (w : Waiting S) (i : ℕ) → (w.index ≡ i → ⊥) → waits_at i w ≡ 0
  waits_at-none w i ne = elim (cases_eq w.index i) [ inl e ↦ absurd (ne e) | inr apart ↦ grind (arith, nat_tests) ]

  pub waits_at-few : (w : Waiting S) (i : ℕ) → waits_at i w ≤ 1
  waits_at-few w i = elim (cases_eq w.index i) [ inl e ↦ (let one = waits_at-one w i e in omega arith) | inr ne ↦ (let none = waits_at-none w i ne in omega arith) ]

  pub waits_at-cons : (v : Waiting S) (vs : List (Waiting S)) (i : ℕ) → sum_by (waits_at i) (v ∷ vs) ≡ waits_at i v + sum_by (waits_at i) vs
  waits_at-cons v vs i = sum_by-cons (waits_at i) v vs

  -- where an index waits it is counted
  pub waits_at-some : (heap : List (Waiting S)) (w : Waiting S) (i : ℕ) → Contains heap w → w.index ≡ i → 1 ≤ sum_by (waits_at i) heap
  waits_at-some [] w i at e = absurd (Contains-none w at)
  waits_at-some (v ∷ vs) w i at e = elim (Contains-cases v w vs at) [
    | inl same ↦ (let sum = waits_at-cons v vs i in let one = waits_at-one v i (ap (λ (z : Waiting S). z.index) (sym same) ∙ e) in omega (arith, one, sum))
    | inr later ↦ (let sum = waits_at-cons v vs i in let rest = waits_at-some vs w i later e in omega (arith, rest, sum))
  ]

  -- and where none waits nothing is
  pub waits_at-nobody : (heap : List (Waiting S)) (i : ℕ) → ((w : Waiting S) → Contains heap w → w.index ≡ i → ⊥) → sum_by (waits_at i) heap ≡ 0
  waits_at-nobody [] i none = refl
  waits_at-nobody (v ∷ vs) i none =
      let here = waits_at-none v i (λ e. none v (Contains-head v vs) e) in
      let rest = waits_at-nobody vs i (λ w at e. none w (Contains-tail v w vs at) e) in
      let sum = waits_at-cons v vs i in
      omega (arith, here, rest, sum)
