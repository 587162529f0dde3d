-- A table makes one element, or has one first cause for which it makes none.
use Rattle.std.proofs.Common.{◌≡◌, inl, inr, Result, Ok, Err, refl, sym, ap, ◌∙◌, subst, arith}
use Rattle.hd_morph.specs.declared.errors.ElementError.{ElementError}
use Rattle.hd_morph.specs.declared.errors.ElementError.TheVariants.{EvenSize, TooWide, NoOrigin}
use Rattle.hd_morph.specs.Element.{ElementTable, HasEvenSize, IsOverWide, IsElement, IsElementRefusal, MakesElement}

module _ (e : ElementTable) where
  not_even : IsElement e → HasEvenSize e → ⊥
  not_even is (inl even) = omega (arith, even, is.odd_width)
  not_even is (inr even) = omega (arith, even, is.odd_height)

  not_wide : IsElement e → IsOverWide e → ⊥
  not_wide is (inl wide) = omega (arith, wide, is.width)
  not_wide is (inr wide) = omega (arith, wide, is.height)

  not_refused : IsElement e → (error : ElementError) → IsElementRefusal e error → ⊥
  not_refused is EvenSize even = not_even is even
  not_refused is TooWide refusal = not_wide is refusal.1
  not_refused is NoOrigin refusal = let some = is.origin in let none = refusal.2 in cc

  one_cause : (x y : ElementError) → IsElementRefusal e x → IsElementRefusal e y → x ≡ y
  one_cause EvenSize EvenSize a b = refl
  one_cause EvenSize TooWide a b = absurd (b.0 a)
  one_cause EvenSize NoOrigin a b = absurd (b.0 a)
  one_cause TooWide EvenSize a b = absurd (a.0 b)
  one_cause TooWide TooWide a b = refl
  one_cause TooWide NoOrigin a b = absurd (b.1 a.1)
  one_cause NoOrigin EvenSize a b = absurd (a.0 b)
  one_cause NoOrigin TooWide a b = absurd (a.1 b.1)
  one_cause NoOrigin NoOrigin a b = refl

  pub MakesElement-unique : (x y : Result ElementTable ElementError) → MakesElement e x → MakesElement e y → x ≡ y
  MakesElement-unique (Ok a) (Ok b) x y = ap Ok (x.0 ∙ sym y.0)
  MakesElement-unique (Ok a) (Err error) x y = absurd (not_refused (subst IsElement x.0 x.1) error y)
  MakesElement-unique (Err error) (Ok b) x y = absurd (not_refused (subst IsElement y.0 y.1) error x)
  MakesElement-unique (Err error) (Err other) x y = ap Err (one_cause error other x y)
