-- Lists that have each item once.
use Rattle.std.proofs.Common.{◌≡◌, ◌≢◌, ◌≤◌, List, [], ◌∷◌, length, inl, inr, sym, arith}
use Rattle.std.specs.Prelude.{◌↔◌, AllPairs, Contains, remove}
use Rattle.std.proofs.lemmas.List.Sorted.{Contains-permutation, IsPermutation-remove, length_permutation}
use Rattle.hd_map.proofs.Items.{AllPairs-first, AllPairs-tail, Contains-cases, Contains-head, Contains-tail}

module _ {X : Type 0} where
  -- a list that has each item once is no longer than one that has these items
  pub length-le_from_once : (xs ys : List X) → AllPairs (λ x y. x ≢ y) xs → ((z : X) → Contains xs z → Contains ys z) → length xs ≤ length ys
  length-le_from_once [] ys once within = omega arith
  length-le_from_once (x ∷ xs) ys once within =
      let at = within x (Contains-head x xs) in
      let left : List X = remove ys at.0 in
      let moved = IsPermutation-remove ys at.0 x at.1 (sym at.2) in
      let long : length (x ∷ left) ≡ length ys = length_permutation ys (x ∷ left) moved in
      let rest : length xs ≤ length left = length-le_from_once xs left (AllPairs-tail (λ (a : X) (b : X). a ≢ b) x xs once)
      (λ z h. elim (Contains-cases x z left (Contains-permutation ys (x ∷ left) z moved (within z (Contains-tail x z xs h)))) [
        | inl same ↦ absurd (AllPairs-first (λ (a : X) (b : X). a ≢ b) x z xs once h (sym same))
        | inr later ↦ later
      ]) in
      omega (arith, long, rest)

  -- lists that have the same items, each once, are as long
  pub length-from_once : (xs ys : List X) → AllPairs (λ x y. x ≢ y) xs → AllPairs (λ x y. x ≢ y) ys → ((z : X) → Contains xs z ↔ Contains ys z) → length xs ≡ length ys
  length-from_once xs ys once once' same = omega (arith, length-le_from_once xs ys once (λ z. (same z).0), length-le_from_once ys xs once' (λ z. (same z).1))
