-- Numbers in classes, by a parent for each.
use Rattle.std.specs.Prelude.{◌≡◌, ◌↔◌, ◌≤◌, ◌⊎◌, ℕ, List, Some, slice_get}
use Rattle.hd_map.specs.Reach.{Reach}

-- no parent is greater than its child
abbrev pub AreFalling : List ℕ → Type 0
AreFalling parents = (x y : ℕ) → slice_get parents x ≡ Some y → y ≤ x

-- one of the two is the parent of the other
abbrev pub AreNext : List ℕ → ℕ → ℕ → Type 0
AreNext parents x y = (slice_get parents x ≡ Some y) ⊎ (slice_get parents y ≡ Some x)

-- steps between children and parents lead from x to y
abbrev pub AreOneClass : List ℕ → ℕ → ℕ → Type 0
AreOneClass parents x y = Reach (AreNext parents) x y

-- they were in one class, or are a and b
abbrev pub AreJoined : List ℕ → ℕ → ℕ → ℕ → ℕ → Type 0
AreJoined old a b x y = AreOneClass old x y ⊎ (((x ≡ a) × (y ≡ b)) ⊎ ((x ≡ b) × (y ≡ a)))

-- what is in one class now was so before, or is by way of a and b
abbrev pub Joins : List ℕ → ℕ → ℕ → List ℕ → Type 0
Joins old a b new = (x y : ℕ) → AreOneClass new x y ↔ Reach (AreJoined old a b) x y

-- x is the least number of its class
abbrev pub IsLeast : List ℕ → ℕ → Type 0
IsLeast parents x = slice_get parents x ≡ Some x

-- the least numbers of the classes of a and b, which stay as they are while some numbers get other parents
pub record AreLeastsOf (old new : List ℕ) (a b first second : ℕ) : Type 0 where
  pub one : AreOneClass new a first
  pub other : AreOneClass new b second
  pub first_least : IsLeast new first
  pub second_least : IsLeast new second
  pub leasts : (x : ℕ) → IsLeast new x ↔ IsLeast old x
  pub same : (x y : ℕ) → AreOneClass new x y ↔ AreOneClass old x y
