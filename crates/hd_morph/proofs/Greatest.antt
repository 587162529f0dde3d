-- The greatest of two families together, of nested families and of none.
use Rattle.std.proofs.Common.{◌≡◌, ◌≤ℤ◌, ℤ, Option, Some, None, ◌⊎◌, inl, inr, refl, ap, subst, arith}
use Rattle.std.specs.Int.{int_max}
use Rattle.std.proofs.lemmas.Int.{ints, clamps, by_lt_z}
use Rattle.hd_morph.specs.Greatest.{IsGreatest, IsLeast, larger}

le_max_left : (x y z : ℤ) → z ≤ℤ x → z ≤ℤ int_max x y
le_max_left x y z h = omega (arith, ints, clamps)

le_max_right : (x y z : ℤ) → z ≤ℤ y → z ≤ℤ int_max x y
le_max_right x y z h = omega (arith, ints, clamps)

max_cases : (x y : ℤ) → (int_max x y ≡ x) ⊎ (int_max x y ≡ y)
max_cases x y = by_lt_z y x (λ below. inl (omega (arith, ints, clamps))) (λ not. inr (omega (arith, ints, clamps)))

-- the larger of the greatest of two families is the greatest of a family that has the numbers of both
pub IsGreatest-join : (P Q R : ℤ → Type 0) (v w : Option ℤ) → ((z : ℤ) → P z → R z) → ((z : ℤ) → Q z → R z) → ((z : ℤ) → R z → P z ⊎ Q z)
    → IsGreatest P v → IsGreatest Q w → IsGreatest R (larger v w)
IsGreatest-join P Q R None w from_p from_q of_r before now = record {
  attained = λ z e. from_q z (now.attained z e);
  reached = λ z r. elim (of_r z r) [
    | inl p ↦ let found = before.reached z p in let e : None ≡ Some found.0 = found.1 in cc
    | inr q ↦ now.reached z q
  ];
}
IsGreatest-join P Q R (Some x) None from_p from_q of_r before now = record {
  attained = λ z e. from_p z (before.attained z e);
  reached = λ z r. elim (of_r z r) [
    | inl p ↦ before.reached z p
    | inr q ↦ let found = now.reached z q in let e : None ≡ Some found.0 = found.1 in cc
  ];
}
IsGreatest-join P Q R (Some x) (Some y) from_p from_q of_r before now = record {
  attained = λ z e. elim (max_cases x y) [
    | inl left ↦ from_p z (before.attained z (let same : int_max x y ≡ z = cc in cc))
    | inr right ↦ from_q z (now.attained z (let same : int_max x y ≡ z = cc in cc))
  ];
  reached = λ z r. elim (of_r z r) [
    | inl p ↦
        let found = before.reached z p in
        let same : found.0 ≡ x = cc in
        (int_max x y, refl, le_max_left x y z (subst (λ t. z ≤ℤ t) same found.2))
    | inr q ↦
        let found = now.reached z q in
        let same : found.0 ≡ y = cc in
        (int_max x y, refl, le_max_right x y z (subst (λ t. z ≤ℤ t) same found.2))
  ];
}

-- a family has one greatest at most
pub IsGreatest-unique : (P : ℤ → Type 0) (v w : Option ℤ) → IsGreatest P v → IsGreatest P w → v ≡ w
IsGreatest-unique P None None a b = refl
IsGreatest-unique P None (Some y) a b = let found = a.reached y (b.attained y refl) in let e : None ≡ Some found.0 = found.1 in cc
IsGreatest-unique P (Some x) None a b = let found = b.reached x (a.attained x refl) in let e : None ≡ Some found.0 = found.1 in cc
IsGreatest-unique P (Some x) (Some y) a b =
    let up = b.reached x (a.attained x refl) in
    let down = a.reached y (b.attained y refl) in
    let e : up.0 ≡ y = cc in
    let e' : down.0 ≡ x = cc in
    let h : x ≤ℤ y = subst (λ t. x ≤ℤ t) e up.2 in
    let h' : y ≤ℤ x = subst (λ t. y ≤ℤ t) e' down.2 in
    let same : x ≡ y = omega (arith, ints) in
    ap Some same

-- a family that has the same numbers has the same greatest
pub IsGreatest-same_values : (P R : ℤ → Type 0) (v : Option ℤ) → ((z : ℤ) → P z → R z) → ((z : ℤ) → R z → P z) → IsGreatest P v → IsGreatest R v
IsGreatest-same_values P R v from_p of_r was = record { attained = λ z e. from_p z (was.attained z e); reached = λ z r. was.reached z (of_r z r) }

-- a family has one least at most
pub IsLeast-unique : (P : ℤ → Type 0) (v w : Option ℤ) → IsLeast P v → IsLeast P w → v ≡ w
IsLeast-unique P None None a b = refl
IsLeast-unique P None (Some y) a b = let found = a.reached y (b.attained y refl) in let e : None ≡ Some found.0 = found.1 in cc
IsLeast-unique P (Some x) None a b = let found = b.reached x (a.attained x refl) in let e : None ≡ Some found.0 = found.1 in cc
IsLeast-unique P (Some x) (Some y) a b =
    let up = b.reached x (a.attained x refl) in
    let down = a.reached y (b.attained y refl) in
    let e : up.0 ≡ y = cc in
    let e' : down.0 ≡ x = cc in
    let h : y ≤ℤ x = subst (λ t. t ≤ℤ x) e up.2 in
    let h' : x ≤ℤ y = subst (λ t. t ≤ℤ y) e' down.2 in
    let same : x ≡ y = omega (arith, ints) in
    ap Some same

-- z is one of some values
pub record IsOneOf (Index : Type 0) (In : Index → Type 0) (value : Index → Option ℤ) (z : ℤ) : Type 0 where
  pub index : Index
  pub chosen : In index
  pub is : value index ≡ Some z

-- the greatest of the greatest of several families is the greatest of a family that has the numbers of all
pub IsGreatest-nested : (Index : Type 0) (In : Index → Type 0) (P : Index → ℤ → Type 0) (value : Index → Option ℤ) (R : ℤ → Type 0) (v : Option ℤ)
    → ((i : Index) → In i → IsGreatest (P i) (value i)) → ((i : Index) (z : ℤ) → In i → P i z → R z) → ((z : ℤ) → R z → (i : Index) × In i × P i z)
    → IsGreatest (IsOneOf Index In value) v → IsGreatest R v
IsGreatest-nested Index In P value R v each from_p of_r outer = record {
  attained = λ z e. let one = outer.attained z e in from_p one.index z one.chosen ((each one.index one.chosen).attained z one.is);
  reached = λ z r.
      let found = of_r z r in
      let inner = (each found.0 found.1).reached z found.2 in
      let top = outer.reached inner.0 (record { index = found.0; chosen = found.1; is = inner.1 }) in
      let up : z ≤ℤ inner.0 = inner.2 in
      let up' : inner.0 ≤ℤ top.0 = top.2 in
      (top.0, top.1, omega (arith, ints));
}

-- a family without numbers has no greatest
pub IsGreatest-none : (P : ℤ → Type 0) → ((z : ℤ) → P z → ⊥) → IsGreatest P None
IsGreatest-none P none = record { attained = λ z e. let e' : None ≡ Some z = e in cc; reached = λ z p. absurd (none z p) }

-- none is below each value
pub larger-none : (v : Option ℤ) → larger v None ≡ v
larger-none (Some x) = refl
larger-none None = refl

-- a family that has the same numbers has the same least
pub IsLeast-same_values : (P R : ℤ → Type 0) (v : Option ℤ) → ((z : ℤ) → P z → R z) → ((z : ℤ) → R z → P z) → IsLeast P v → IsLeast R v
IsLeast-same_values P R v from_p of_r was = record { attained = λ z e. from_p z (was.attained z e); reached = λ z r. was.reached z (of_r z r) }
