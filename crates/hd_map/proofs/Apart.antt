-- A list whose items have different numbers, all below a bound, has no more items than the bound.
use Rattle.std.proofs.Common.{◌≡◌, ◌≢◌, ◌<◌, ◌≤◌, ◌∙◌, ℕ, true, inl, inr, List, [], ◌∷◌, length, get_or, map, sym, subst, arith}
use Rattle.std.specs.Prelude.{Contains, AllPairs}
use Rattle.std.proofs.Math.Dec.{eqb}
use Rattle.std.proofs.lemmas.Bool.Decides.{Decides-eqb, eqb_tells}
use Rattle.std.proofs.lemmas.List.{get_or-map, length-map}
use Rattle.std.proofs.lemmas.List.Elements.{Contains-get_or}
use Rattle.std.proofs.lemmas.Map.Made.{IsDistinct-from_AllPairs}
use Rattle.std.proofs.lemmas.Map.Steps.{length-le_from_distinct_below}
use Rattle.std.proofs.lemmas.Map.Views.{Contains-from_any}

same_number : (a b : ℕ) → eqb a b ≡ true → a ≡ b
same_number a b t = elim (eqb_tells a b) [ inl p ↦ p.1 | inr p ↦ absurd (let f = p.0 in cc) ]

module _ {X : Type 0} (number : X → ℕ) (n : ℕ) where
  -- there is an item, so a place past the end reads it
  some-apart : (x : X) (xs : List X) → AllPairs (λ a b. number a ≢ number b) (x ∷ xs) → ((a : X) → Contains (x ∷ xs) a → number a < n) → length (x ∷ xs) ≤ n
  some-apart x xs apart below =
      let all : List X = x ∷ xs in
      let len : length (map number all) ≡ length all = length-map all number in
      let read : (k d : ℕ) → k < length all → get_or (map number all) k d ≡ number (get_or all k x) = λ k d inside. get_or-map number all k x d inside in
      subst (λ k. k ≤ n) len (length-le_from_distinct_below (map number all) n
      (IsDistinct-from_AllPairs Decides-eqb (map number all) (λ i j d less inside e. apart i j x less (omega arith) (sym (read i d (omega arith)) ∙ e ∙ read j d (omega arith))))
      (λ q h. let c = Contains-from_any same_number q (map number all) h in let inside = c.1 in
      subst (λ k. k < n) (sym (read c.0 q (omega arith)) ∙ c.2) (below (get_or all c.0 x) (Contains-get_or all c.0 x (omega arith)))))

  pub length-le_from_apart : (xs : List X) → AllPairs (λ a b. number a ≢ number b) xs → ((a : X) → Contains xs a → number a < n) → length xs ≤ n
  length-le_from_apart [] apart below = omega arith
  length-le_from_apart (x ∷ xs) apart below = some-apart x xs apart below
