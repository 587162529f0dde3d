-- What a set sums up to is determined, and so is a list by what it is made of.
use Rattle.std.proofs.Common.{◌≡◌, ◌≤ℤ◌, ◌∙◌, ℕ, ℤ, List, [], ◌∷◌, map, Option, Some, None, refl, sym, ap, subst, arith}
use Rattle.std.specs.Prelude.{Contains}
use Rattle.std.proofs.lemmas.Int.{ints}
use Rattle.hd_map.specs.declared.types.Rank.{Rank}
use Rattle.hd_map.specs.declared.types.RegionSize.{RegionSize}
use Rattle.hd_map.specs.Sums.{GreatestIs, IsCount, LeastIs}
use Rattle.hd_map.proofs.Levels.{Contains-head, Contains-tail}
use Rattle.hd_steep.proofs.Once.{length-from_once}

module _ (Member : Rank → Type 0) where
  pub count-unique : (a b : ℕ) → IsCount Member a → IsCount Member b → a ≡ b
  count-unique a b x y =
      let mine = x.lists in
      let yours = y.lists in
      x.count_is ∙ length-from_once x.ranks y.ranks mine.once yours.once
      (λ z. (λ h. (yours.all z).1 ((mine.all z).0 h), λ h. (mine.all z).1 ((yours.all z).0 h))) ∙ sym y.count_is

  pub least-unique : (a b : Option ℤ) → LeastIs Member a → LeastIs Member b → a ≡ b
  least-unique None None x y = refl
  least-unique None (Some b) x y = absurd (x y.of y.member)
  least-unique (Some a) None x y = absurd (y x.of x.member)
  least-unique (Some a) (Some b) x y =
      let below : a ≤ℤ b = subst (λ h. a ≤ℤ h) (sym y.height_is) (x.bound y.of y.member) in
      let above : b ≤ℤ a = subst (λ h. b ≤ℤ h) (sym x.height_is) (y.bound x.of x.member) in
      ap Some (omega (arith, ints, below, above))

  pub greatest-unique : (a b : Option ℤ) → GreatestIs Member a → GreatestIs Member b → a ≡ b
  greatest-unique None None x y = refl
  greatest-unique None (Some b) x y = absurd (x y.of y.member)
  greatest-unique (Some a) None x y = absurd (y x.of x.member)
  greatest-unique (Some a) (Some b) x y =
      let above : b ≤ℤ a = subst (λ h. h ≤ℤ a) (sym y.height_is) (x.bound y.of y.member) in
      let below : a ≤ℤ b = subst (λ h. h ≤ℤ b) (sym x.height_is) (y.bound x.of x.member) in
      ap Some (omega (arith, ints, below, above))

pub same_size : (p q : Rank) (a b : ℕ) → p ≡ q → a ≡ b → ◌≡◌ {A = RegionSize} (record { pit = p; points = a }) (record { pit = q; points = b })
same_size p q a b e f = cc

module _ {X Y : Type 0} (key : X → Y) where
  first_same : (a b : Y) (ps qs : List Y) → a ∷ ps ≡ b ∷ qs → (a ≡ b) × (ps ≡ qs)
  first_same a b ps qs e = (cc, cc)

  none_some : (a : Y) (ps : List Y) → [] ≡ a ∷ ps → ⊥
  none_some a ps e = cc

  -- lists whose items have the same keys, where a key tells the item
  pub same-by : (xs ys : List X) → map key xs ≡ map key ys → ((x y : X) → Contains xs x → Contains ys y → key x ≡ key y → x ≡ y) → xs ≡ ys
  same-by [] [] keys tells = refl
  same-by [] (y ∷ ys) keys tells = absurd (none_some (key y) (map key ys) keys)
  same-by (x ∷ xs) [] keys tells = absurd (none_some (key x) (map key xs) (sym keys))
  same-by (x ∷ xs) (y ∷ ys) keys tells =
      let e = first_same (key x) (key y) (map key xs) (map key ys) keys in
      ap (λ z. z ∷ xs) (tells x y (Contains-head x xs) (Contains-head y ys) e.0)
      ∙ ap (λ zs. y ∷ zs) (same-by xs ys e.1 (λ a b h k. tells a b (Contains-tail x a xs h) (Contains-tail y b ys k)))
