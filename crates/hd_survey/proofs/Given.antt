-- What some items of a list give.
use Rattle.std.proofs.Common.{◌≡◌, ◌∙◌, List, [], ◌∷◌, Option, Some, None, inl, inr, refl, sym, ap, subst}
use Rattle.std.specs.Prelude.{Contains}
use Rattle.std.specs.List.{cons_option, filter_map}
use Rattle.hd_map.proofs.Items.{Contains-cases, Contains-head, Contains-none, Contains-tail}

-- what a mapped list contains is of an item that gives it
module _ {X Y : Type 0} (f : X → Option Y) where
  pub Contains-given : (xs : List X) (y : Y) → Contains (filter_map f xs) y → (x : X) × Contains xs x × (f x ≡ Some y)
  Contains-given [] y h = absurd (Contains-none y h)
  Contains-given (x ∷ xs) y h = elim (f x) as (λ o. f x ≡ o → Contains (cons_option o (filter_map f xs)) y → (z : X) × Contains (x ∷ xs) z × (f z ≡ Some y)) [
    | Some v ↦ λ e k. elim (Contains-cases v y (filter_map f xs) k) [
      | inl same ↦ (x, Contains-head x xs, e ∙ ap Some (sym same))
      | inr later ↦ (let r = Contains-given xs y later in (r.0, Contains-tail x r.0 xs r.1, r.2))
    ]
    | None ↦ λ e k. (let r = Contains-given xs y k in (r.0, Contains-tail x r.0 xs r.1, r.2))
  ] refl h

  pub given-Contains : (xs : List X) (x : X) (y : Y) → Contains xs x → f x ≡ Some y → Contains (filter_map f xs) y
  given-Contains [] x y h e = absurd (Contains-none x h)
  given-Contains (z ∷ xs) x y h e = elim (Contains-cases z x xs h) [
    | inl same ↦ (let here : f z ≡ Some y = ap f (sym same) ∙ e in
        subst (λ o. Contains (cons_option o (filter_map f xs)) y) (sym here) (Contains-head y (filter_map f xs)))
    | inr later ↦ (let r = given-Contains xs x y later e in
        elim (f z) as (λ o. Contains (cons_option o (filter_map f xs)) y) [ Some v ↦ Contains-tail v y (filter_map f xs) r | None ↦ r ])
  ]
