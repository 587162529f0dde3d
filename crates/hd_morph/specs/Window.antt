-- The greatest of the values near a place of a list. A value is read as none past the list's end.
use Rattle.std.specs.Prelude.{◌≡◌, ◌⊎◌, ◌<◌, ◌≤◌, ◌+◌, ◌-◌, ◌*◌, ℕ, ℤ, List, length, Option, Some}
use Rattle.hd_morph.specs.Greatest.{IsGreatest, larger}
use Rattle.hd_morph.specs.Plain.{value_at}

-- z is a value at a distance of at most reach
pub record IsNearby (values : List (Option ℤ)) (reach place : ℕ) (z : ℤ) : Type 0 where
  pub at : ℕ
  pub not_after : at ≤ place + reach
  pub not_before : place ≤ at + reach
  pub is : value_at values at ≡ Some z

-- for each place the greatest of the values at a distance of at most reach
pub record AreWindowGreatests (values : List (Option ℤ)) (reach : ℕ) (tops : List (Option ℤ)) : Type 0 where
  pub whole : length tops ≡ length values
  pub each : (place : ℕ) → place < length values
      → IsGreatest (IsNearby values reach place) (value_at tops place)

-- z is a value at most reach strides after or before a place
pub record IsStridesOff (values : List (Option ℤ)) (stride reach place : ℕ) (z : ℤ) : Type 0 where
  pub at : ℕ
  pub steps : ℕ
  pub near : steps ≤ reach
  pub side : (at ≡ place + steps * stride) ⊎ (at + steps * stride ≡ place)
  pub is : value_at values at ≡ Some z

-- for each place the greatest of the values at most reach strides off
pub record AreStrideGreatests (values : List (Option ℤ)) (stride reach : ℕ) (tops : List (Option ℤ)) : Type 0 where
  pub whole : length tops ≡ length values
  pub each : (place : ℕ) → place < length values
      → IsGreatest (IsStridesOff values stride reach place) (value_at tops place)

-- z is the value at a place, or one of those that follow it by strides, up to this count of values
pub record IsAhead (values : List (Option ℤ)) (stride count place : ℕ) (z : ℤ) : Type 0 where
  pub steps : ℕ
  pub to : steps < count
  pub is : value_at values (place + steps * stride) ≡ Some z

-- for each place the greatest of the values ahead
pub record AreAheadGreatests (values : List (Option ℤ)) (stride count : ℕ) (tops : List (Option ℤ)) : Type 0 where
  pub whole : length tops ≡ length values
  pub each : (place : ℕ) → IsGreatest (IsAhead values stride count place) (value_at tops place)

-- each value is the larger of itself and of that which is some steps ahead
pub record IsWidened (old : List (Option ℤ)) (step : ℕ) (new : List (Option ℤ)) : Type 0 where
  pub whole : length new ≡ length old
  pub each : (place : ℕ) → value_at new place ≡ larger (value_at old place) (value_at old (place + step))

-- the values from one place to another are the larger of themselves and of those a step ahead
pub record AreWidened (old : List (Option ℤ)) (step from to : ℕ) (new : List (Option ℤ)) : Type 0 where
  pub whole : length new ≡ length old
  pub inside : (k : ℕ) → from ≤ k → k < to → value_at new k ≡ larger (value_at old k) (value_at old (k + step))
  pub below : (k : ℕ) → k < from → value_at new k ≡ value_at old k
  pub above : (k : ℕ) → to ≤ k → value_at new k ≡ value_at old k

-- from is reach strides before a place, or as many as there are
pub record IsBehind (stride reach place from : ℕ) : Type 0 where
  pub steps : ℕ
  pub near : steps ≤ reach
  pub back : from + steps * stride ≡ place
  pub far : (steps ≡ reach) ⊎ (from < stride)

-- the value is the larger of two old ones: that at the place, and that which is some strides behind
pub record IsLookedBackAt (old : List (Option ℤ)) (stride reach place : ℕ) (value : Option ℤ) : Type 0 where
  pub from : ℕ
  pub behind : IsBehind stride reach place from
  pub is : value ≡ larger (value_at old place) (value_at old from)

-- each value is the larger of itself and of that which is some strides behind
pub record IsLookedBack (old : List (Option ℤ)) (stride reach : ℕ) (new : List (Option ℤ)) : Type 0 where
  pub whole : length new ≡ length old
  pub each : (place : ℕ) → place < length old → IsLookedBackAt old stride reach place (value_at new place)

-- the values from one place to another are the larger of themselves and of those a step behind
pub record AreLookedBack (old : List (Option ℤ)) (step from to : ℕ) (new : List (Option ℤ)) : Type 0 where
  pub whole : length new ≡ length old
  pub inside : (k : ℕ) → from ≤ k → k < to → value_at new k ≡ larger (value_at old k) (value_at old (k - step))
  pub below : (k : ℕ) → k < from → value_at new k ≡ value_at old k
  pub above : (k : ℕ) → to ≤ k → value_at new k ≡ value_at old k
