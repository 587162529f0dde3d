-- A table in which a value is written for each item of a list, at its key.
use Rattle.std.proofs.Common.{◌≡◌, ◌≢◌, ◌<◌, ◌+◌, ◌∙◌, ℕ, inl, inr, List, length, get_or, set, slice_get, Some, sym, ap, arith}
use Rattle.std.specs.Prelude.{AllPairs}
use Rattle.std.proofs.lemmas.Bool.{cases_eq}
use Rattle.std.proofs.lemmas.Option.{slice_get-get_or, same_Some}
use Rattle.hd_map.proofs.Places.{get-set_same, get-set_other, item_at, one_place}

module _ {X : Type 0} (key : X → ℕ) (value : ℕ → X → ℕ) (xs : List X) where
  -- the values of the first n items stand at their keys
  abbrev pub AreWritten : ℕ → List ℕ → Type 0
  AreWritten n table = (i : ℕ) (x : X) → i < n → slice_get xs i ≡ Some x → slice_get table (key x) ≡ Some (value i x)

  -- one more is written, and those before it stay
  pub AreWritten-more : AllPairs (λ x y. key x ≢ key y) xs → (n : ℕ) (d : X) (table : List ℕ) → AreWritten n table → n < length xs → key (get_or xs n d) < length table
      → AreWritten (n + 1) (set table (key (get_or xs n d)) (value n (get_or xs n d)))
  AreWritten-more different n d table before inside room = λ i x less at.
      let y : X = get_or xs n d in
      let read : slice_get xs n ≡ Some y = slice_get-get_or xs n d inside in
      let old = item_at table (key y) room in
      elim (cases_eq i n) [
        | inl e ↦ (let is : y ≡ x = same_Some y x (sym read ∙ ap (λ j. slice_get xs j) (sym e) ∙ at) in
            ap (λ z. slice_get (set table (key y) (value n y)) (key z)) (sym is) ∙ get-set_same table (key y) (value n y) old.0 old.1 ∙ ap Some (ap (value n) is ∙ ap (λ j. value j x) (sym e)))
        | inr ne ↦ get-set_other table (key y) (key x) (value n y) (λ s. ne (sym (one_place key xs different n i y x read at s))) ∙ before i x (omega arith) at
      ]
