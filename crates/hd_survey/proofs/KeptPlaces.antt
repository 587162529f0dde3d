-- The places of kept pits, by their indexes.
use Rattle.std.proofs.Common.{◌≡◌, ◌<◌, ◌≤◌, ◌+◌, ◌∙◌, ℕ, true, false, List, length, get_or, set, inl, inr, sym, ap, subst, nat_eq, arith}
use Rattle.std.specs.Prelude.{AllPairs}
use Rattle.std.proofs.Math.ListN.{length-set}
use Rattle.std.proofs.lemmas.Bool.{cases_eq, cases_lt}
use Rattle.std.proofs.lemmas.Bool.Decides.{nat_tests}
use Rattle.std.proofs.lemmas.List.{get_or-set_same, get_or-set_other, get_or_default}
use Rattle.hd_prune.specs.declared.step.Kept.{Kept}
use Rattle.hd_survey.specs.Owned.{AreKeptPlaces}

eq_yes : (a b : ℕ) → a ≡ b → nat_eq a b ≡ true
eq_yes a b h = grind (arith, nat_tests)

eq_no : (a b : ℕ) → (a ≡ b → ⊥) → nat_eq a b ≡ false
eq_no a b h = grind (arith, nat_tests)

apart : (a b : ℕ) → a < b → a ≡ b → ⊥
apart a b less same = omega (arith, less, same)

apart_more : (a b : ℕ) → b < a → a ≡ b → ⊥
apart_more a b less same = omega (arith, less, same)

-- the places of the first k kept pits
pub record KeptPlacesBefore (kept : List Kept) (count k : ℕ) (places : List ℕ) : Type 0 where
  pub whole : length places ≡ count
  pub each : (n i : ℕ) (d : Kept) → n < count → i < k → nat_eq n (get_or kept i d).pit.index ≡ nat_eq (get_or places n 0) i
  pub free : (n i : ℕ) → n < count → k ≤ i → i < length kept → nat_eq (get_or places n 0) i ≡ false

-- one more kept pit
pub kept_places-more : (kept : List Kept) (count k : ℕ) (places new : List ℕ) (d : Kept) → AllPairs (λ a b. a.pit.index < b.pit.index) kept → k < length kept → (get_or kept k d).pit.index < count
    → new ≡ set places (get_or kept k d).pit.index k → KeptPlacesBefore kept count k places → KeptPlacesBefore kept count (k + 1) new
kept_places-more kept count k places new d ordered below inside is before =
    let p : ℕ = (get_or kept k d).pit.index in
    let fits : p < length places = subst (λ n. p < n) (sym before.whole) inside in
    let here : (n : ℕ) → n ≡ p → get_or new n 0 ≡ k = λ n same. ap (λ xs. get_or xs n 0) is ∙ ap (λ j. get_or (set places p k) j 0) same ∙ get_or-set_same places p k 0 fits in
    let there : (n : ℕ) → (n ≡ p → ⊥) → get_or new n 0 ≡ get_or places n 0 = λ n other. ap (λ xs. get_or xs n 0) is ∙ get_or-set_other places p n k 0 other in
    let itself : (e : Kept) → (get_or kept k e).pit.index ≡ p = λ e. ap (λ (x : Kept). x.pit.index) (get_or_default kept k e d below) in
    record {
      whole = ap length is ∙ length-set places p k ∙ before.whole;
      each = λ n i e low less. elim (cases_eq n p) [
        | inl same ↦ elim (cases_lt i k) [
          | inl old ↦
              let rises = ordered i k e old below in
              eq_no n (get_or kept i e).pit.index (λ h. omega (arith, rises, h, same, itself e)) ∙ sym (ap (λ a. nat_eq a i) (here n same) ∙ eq_no k i (apart_more k i old))
          | inr not ↦
              let now : i ≡ k = omega (arith, not, less) in
              eq_yes n (get_or kept i e).pit.index (same ∙ sym (ap (λ j. (get_or kept j e).pit.index) now ∙ itself e)) ∙ sym (ap (λ a. nat_eq a i) (here n same) ∙ eq_yes k i (sym now))
        ]
        | inr other ↦ elim (cases_lt i k) [
          | inl old ↦ before.each n i e low old ∙ sym (ap (λ a. nat_eq a i) (there n other))
          | inr not ↦
              let now : i ≡ k = omega (arith, not, less) in
              eq_no n (get_or kept i e).pit.index (λ h. other (h ∙ ap (λ j. (get_or kept j e).pit.index) now ∙ itself e))
              ∙ sym (ap (λ a. nat_eq a i) (there n other) ∙ before.free n i low (omega (arith, now)) (omega (arith, now, below)))
        ]
      ];
      free = λ n i low past less. elim (cases_eq n p) [
        | inl same ↦ ap (λ a. nat_eq a i) (here n same) ∙ eq_no k i (λ h. omega (arith, past, h))
        | inr other ↦ ap (λ a. nat_eq a i) (there n other) ∙ before.free n i low (omega (arith, past)) less
      ];
    }

-- all kept pits
pub kept_places-all : (kept : List Kept) (count k : ℕ) (places : List ℕ) → length kept ≤ k → KeptPlacesBefore kept count k places → AreKeptPlaces kept count places
kept_places-all kept count k places past before = record { whole = before.whole; each = λ n i d low less. before.each n i d low (omega (arith, past, less)) }
