-- Heights that are held against a range.
use Rattle.std.proofs.Common.{◌≡◌, ◌<◌, ◌≤◌, ◌+◌, ◌&&◌, ◌↔◌, ◌≤ℤ◌, ℕ, ℤ, List, length, below_more, Bool, IsTrue, Option, Some, None, inl, inr, refl, arith}
use Rattle.std.proofs.lemmas.Bool.{cases_lt, and_from, and_parts}
use Rattle.std.proofs.lemmas.List.{get_or_past}
use Rattle.hd_map.specs.declared.types.Pos.{Pos}
use Rattle.hd_map.specs.declared.types.Cell.TheVariants.{Height}
use Rattle.hd_map.specs.declared.types.DataType.{DataType}
use Rattle.hd_map.specs.Map.{Map, InGrid, IsCellOf, place_of, least_height, greatest_height}
use Rattle.hd_morph.specs.Answer.{IsFirstOutside}
use Rattle.hd_morph.specs.Plain.{AreBetween, IsBetween, value_at, relief}
use Rattle.hd_morph.specs.Listed.{AreOfType}

-- each value before an index is from a least to a greatest number
pub record BetweenBefore (least greatest : ℤ) (values : List (Option ℤ)) (index : ℕ) : Type 0 where
  pub each : (k : ℕ) → k < index → IsBetween least greatest (value_at values k)

-- none is between any numbers
none_between : (least greatest : ℤ) → IsBetween least greatest None
none_between least greatest z is = let e : None ≡ Some z = is in cc

module _ (least greatest : ℤ) (values : List (Option ℤ)) (index : ℕ) where
  pub BetweenBefore-more : IsBetween least greatest (value_at values index) → BetweenBefore least greatest values index → BetweenBefore least greatest values (index + 1)
  BetweenBefore-more one was = record { each = below_more _ _ was.each one }

  pub AreBetween-all : length values ≤ index → BetweenBefore least greatest values index → AreBetween least greatest values
  AreBetween-all all was k = elim (cases_lt k index) [
    | inl below ↦ was.each k below
    | inr past ↦ rw (get_or_past values k None (omega arith)) (none_between least greatest)
  ]

  -- whether all before an index are, and one more
  pub BetweenBefore-tested : (all one : Bool) → IsTrue one ↔ IsBetween least greatest (value_at values index) → IsTrue all ↔ BetweenBefore least greatest values index
      → IsTrue (all && one) ↔ BetweenBefore least greatest values (index + 1)
  BetweenBefore-tested all one is was = (
    λ both. let parts = and_parts all one both in BetweenBefore-more (is.0 parts.1) (was.0 parts.0),
    λ more. and_from all one (was.1 (record { each = λ k below. more.each k (omega arith) })) (is.1 (more.each index (omega arith))),
  )

  pub AreBetween-tested : (all : Bool) → length values ≤ index → IsTrue all ↔ BetweenBefore least greatest values index → IsTrue all ↔ AreBetween least greatest values
  AreBetween-tested all whole was = (λ test. AreBetween-all whole (was.0 test), λ are. was.1 (record { each = λ k below. are k }))

-- a height between the limits is of the type
type_between : (t : DataType) (z : ℤ) → (least_height t ≤ℤ z) × (z ≤ℤ greatest_height t) → IsCellOf t (Height z)
type_between t z within h e = let same : z ≡ h = cc in rw same at within

-- heights between the limits are of the type
pub AreOfType-between : (m : Map) (values : List (Option ℤ)) → AreBetween (least_height m.data_type) (greatest_height m.data_type) values → AreOfType m (relief m.size values)
AreOfType-between m values are p inside z is = type_between m.data_type z (are (place_of m.size p) z is)

-- a value that is not between is a number
not_between : (value : Option ℤ) (least greatest : ℤ) → (IsBetween least greatest value → ⊥) → (z : ℤ) × (value ≡ Some z) × ((least ≤ℤ z) × (z ≤ℤ greatest) → ⊥)
not_between (Some z) least greatest never = (z, refl, λ within. never (λ y e. let same : z ≡ y = cc in rw same at within))
not_between None least greatest never = absurd (never (none_between least greatest))

-- the first position that is outside the type
pub IsFirstOutside-first : (m : Map) (values : List (Option ℤ)) (index : ℕ) (at : Pos) → InGrid m.size at → place_of m.size at ≡ index
    → (IsBetween (least_height m.data_type) (greatest_height m.data_type) (value_at values index) → ⊥)
    → BetweenBefore (least_height m.data_type) (greatest_height m.data_type) values index → IsFirstOutside m (relief m.size values) at
IsFirstOutside-first m values index at inside place never was =
    let out = not_between (value_at values index) (least_height m.data_type) (greatest_height m.data_type) never in
    record {
      in_grid = inside;
      height = out.0;
      is_height = rw place out.1;
      outside = λ of_type. out.2 (of_type out.0 refl);
      first = λ q within less z is. type_between m.data_type z (was.each (place_of m.size q) (omega (arith, place)) z is);
    }
