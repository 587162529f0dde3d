-- Classes by parents: what a parent further on and a parent for a least number do.
use Rattle.std.proofs.Common.{◌≡◌, ◌≢◌, ◌⊎◌, ℕ, ◌≤◌, inl, inr, List, Some, refl, sym, ◌∙◌, ap, subst, arith, slice_get, set}
use Rattle.std.proofs.lemmas.Option.{same_Some}
use Rattle.std.specs.Prelude.{◌↔◌}
use Rattle.std.proofs.lemmas.Bool.{cases_eq}
use Rattle.hd_map.proofs.Levels.{Reach, here, step, reach-trans, reach-sym}
use Rattle.hd_graph.specs.Classes.{AreFalling, AreLeastsOf, AreNext, AreOneClass, AreJoined, Joins}
use Rattle.hd_map.proofs.Places.{get-set_same, get-set_other}
use Rattle.hd_graph.proofs.Reach.{reach-by}

next-both : (parents : List ℕ) (x y : ℕ) → AreNext parents x y → AreNext parents y x
next-both parents x y (inl h) = inr h
next-both parents x y (inr h) = inl h

pub class-sym : (parents : List ℕ) (x y : ℕ) → AreOneClass parents x y → AreOneClass parents y x
class-sym parents x y h = reach-sym (AreNext parents) (next-both parents) h

pub class-trans : (parents : List ℕ) (x y z : ℕ) → AreOneClass parents x y → AreOneClass parents y z → AreOneClass parents x z
class-trans parents x y z h k = reach-trans (AreNext parents) h k

-- the classes are the same ones
abbrev pub AreSame : List ℕ → List ℕ → Type 0
AreSame old new = (x y : ℕ) → AreOneClass new x y ↔ AreOneClass old x y

-- each new parent is in one of the old classes with its child
abbrev pub Refines : List ℕ → List ℕ → Type 0
Refines old new = (x y : ℕ) → slice_get new x ≡ Some y → AreOneClass old x y

pub refines-same : (parents : List ℕ) → Refines parents parents
refines-same parents x y h = step (inl h) here

-- so the new classes are within the old ones
pub refines-within : (old new : List ℕ) → Refines old new → (x y : ℕ) → AreOneClass new x y → AreOneClass old x y
refines-within old new so x y h = reach-by (AreNext new) (AreNext old) (λ u v n. elim n [ inl e ↦ so u v e | inr e ↦ class-sym old v u (so v u e) ]) h

-- where each number is its own parent, it is a class of its own
pub own-classes : (parents : List ℕ) → ((x y : ℕ) → slice_get parents x ≡ Some y → y ≡ x) → {x y : ℕ} → AreOneClass parents x y → x ≡ y
own-classes parents own here = refl
own-classes parents own (step {a} {b} {c} n r) = (let first : a ≡ b = elim n [ inl e ↦ sym (own a b e) | inr e ↦ own b a e ] in first ∙ own-classes parents own r)

-- a number gets a parent of its class that is not greater
module _ (old parents : List ℕ) (so : Refines old parents) (falling : AreFalling parents) (x y now : ℕ) (at : slice_get parents x ≡ Some now) where
  pub refines-set : AreOneClass old x y → Refines old (set parents x y)
  refines-set one u v h = elim (cases_eq x u) [
    | inl same ↦ (
        let is : y ≡ v = same_Some y v (sym (get-set_same parents x y now at) ∙ ap (λ k. slice_get (set parents x y) k) same ∙ h) in
        subst (λ k. AreOneClass old k v) same (subst (λ k. AreOneClass old x k) is one))
    | inr apart ↦ so u v (sym (get-set_other parents x u y apart) ∙ h)
  ]

  pub falling-set : y ≤ x → AreFalling (set parents x y)
  falling-set less u v h = elim (cases_eq x u) [
    | inl same ↦ (
        let is : y ≡ v = same_Some y v (sym (get-set_same parents x y now at) ∙ ap (λ k. slice_get (set parents x y) k) same ∙ h) in
        omega arith)
    | inr apart ↦ falling u v (sym (get-set_other parents x u y apart) ∙ h)
  ]

-- where a number gets its parent's parent, its old parent stays in its class
pub refines-further : (parents : List ℕ) (x p q : ℕ) → slice_get parents x ≡ Some p → slice_get parents p ≡ Some q → p ≢ x → Refines (set parents x q) parents
refines-further parents x p q at at_parent apart u v h = elim (cases_eq x u) [
  | inl same ↦ (
      let is : p ≡ v = same_Some p v (sym at ∙ ap (λ k. slice_get parents k) same ∙ h) in
      let up : slice_get (set parents x q) x ≡ Some q = get-set_same parents x q p at in
      let up_parent : slice_get (set parents x q) p ≡ Some q = get-set_other parents x p q (λ e. apart (sym e)) ∙ at_parent in
      subst (λ k. AreOneClass (set parents x q) k v) same (subst (λ k. AreOneClass (set parents x q) x k) is (step (inl up) (step (inr up_parent) here))))
  | inr other ↦ step (inl (get-set_other parents x u q other ∙ h)) here
]

-- and where one that is the least gets another parent, the classes stay together
refines-least : (parents : List ℕ) (x y : ℕ) → slice_get parents x ≡ Some x → Refines (set parents x y) parents
refines-least parents x y at u v h = elim (cases_eq x u) [
  | inl same ↦ (
      let is : x ≡ v = same_Some x v (sym at ∙ ap (λ k. slice_get parents k) same ∙ h) in
      subst (λ k. AreOneClass (set parents x y) k v) same (subst (λ k. AreOneClass (set parents x y) x k) is here))
  | inr other ↦ step (inl (get-set_other parents x u y other ∙ h)) here
]

pub joined-both : (old : List ℕ) (a b p q : ℕ) → AreJoined old a b p q → AreJoined old a b q p
joined-both old a b p q (inl h) = inl (class-sym old p q h)
joined-both old a b p q (inr (inl h)) = inr (inr (h.1, h.0))
joined-both old a b p q (inr (inr h)) = inr (inl (h.1, h.0))

-- a class has one least number, to which the parents lead
abbrev IsUnder : List ℕ → ℕ → ℕ → Type 0
IsUnder parents x y = slice_get parents x ≡ Some y

after : (parents : List ℕ) (p q : ℕ) {r : ℕ} → IsUnder parents p q → IsUnder parents r r → Reach (IsUnder parents) p r → Reach (IsUnder parents) q r
after parents p q e least (here {a}) = subst (λ k. Reach (IsUnder parents) k a) (same_Some a q (sym least ∙ e)) here
after parents p q e least (step {a} {b} {c} f t) = subst (λ k. Reach (IsUnder parents) k c) (same_Some b q (sym f ∙ e)) t

class-to_least : (parents : List ℕ) (r : ℕ) → IsUnder parents r r → {x y : ℕ} → AreOneClass parents x y → Reach (IsUnder parents) x r → Reach (IsUnder parents) y r
class-to_least parents r least here q = q
class-to_least parents r least (step {a} {b} {c} n p) q = class-to_least parents r least p (elim n [ inl e ↦ after parents a b e least q | inr e ↦ step e q ])

at_least : (parents : List ℕ) {x r : ℕ} → IsUnder parents x x → Reach (IsUnder parents) x r → x ≡ r
at_least parents least here = refl
at_least parents least (step {a} {b} {c} e q) =
    let same : a ≡ b = same_Some a b (sym least ∙ e) in
    same ∙ at_least parents (subst (λ k. IsUnder parents k k) same least) q

pub least-same : (parents : List ℕ) (x y : ℕ) → slice_get parents x ≡ Some x → slice_get parents y ≡ Some y → AreOneClass parents x y → x ≡ y
least-same parents x y least_x least_y h = sym (at_least parents least_y (class-to_least parents x least_x h here))

-- two numbers are in one class exactly where the least numbers of their classes are one
module _ (old new : List ℕ) (a b first second : ℕ) (found : AreLeastsOf old new a b first second) where
  pub one-class : first ≡ second → AreOneClass new a b
  one-class e = class-trans new a first b found.one (class-sym new b first (subst (λ k. AreOneClass new b k) (sym e) found.other))

  pub two-classes : first ≢ second → AreOneClass new a b → ⊥
  two-classes apart h = apart (least-same new first second found.first_least found.second_least
      (class-trans new first a second (class-sym new a first found.one) (class-trans new a b second h found.other)))

-- of two least numbers one gets the other as its parent
module _ (parents : List ℕ) (first second : ℕ) (least_first : slice_get parents first ≡ Some first) (least_second : slice_get parents second ≡ Some second)
    (x y : ℕ) (pair : ((x ≡ first) × (y ≡ second)) ⊎ ((x ≡ second) × (y ≡ first))) where
  pub least-number : slice_get parents x ≡ Some x
  least-number = elim pair [
    | inl e ↦ subst (λ k. slice_get parents k ≡ Some k) (sym e.0) least_first
    | inr e ↦ subst (λ k. slice_get parents k ≡ Some k) (sym e.0) least_second
  ]

  joined : Reach (AreJoined parents first second) x y
  joined = elim pair [ inl e ↦ rw (e.0, e.1) (step (inr (inl (refl, refl))) here) | inr e ↦ rw (e.0, e.1) (step (inr (inr (refl, refl))) here) ]

  parent : (p q : ℕ) → slice_get (set parents x y) p ≡ Some q → Reach (AreJoined parents first second) p q
  parent p q e = elim (cases_eq x p) [
    | inl same ↦ (
        let is : y ≡ q = same_Some y q (sym (get-set_same parents x y x least-number) ∙ ap (λ k. slice_get (set parents x y) k) same ∙ e) in
        subst (λ k. Reach (AreJoined parents first second) k q) same (subst (λ k. Reach (AreJoined parents first second) x k) is joined))
    | inr apart ↦ step (inl (refines-same parents p q (sym (get-set_other parents x p y apart) ∙ e))) here
  ]

  edge : (p q : ℕ) → AreNext (set parents x y) p q → Reach (AreJoined parents first second) p q
  edge p q (inl e) = parent p q e
  edge p q (inr e) = reach-sym (AreJoined parents first second) (joined-both parents first second) (parent q p e)

  still : (p q : ℕ) → AreOneClass parents p q → AreOneClass (set parents x y) p q
  still p q h = refines-within (set parents x y) parents (refines-least parents x y least-number) p q h

  linked : AreOneClass (set parents x y) first second
  linked =
      let up : AreOneClass (set parents x y) x y = step (inl (get-set_same parents x y x least-number)) here in
      elim pair [
        | inl e ↦ subst (λ k. AreOneClass (set parents x y) k second) e.0 (subst (λ k. AreOneClass (set parents x y) x k) e.1 up)
        | inr e ↦ class-sym (set parents x y) second first (subst (λ k. AreOneClass (set parents x y) k first) e.0 (subst (λ k. AreOneClass (set parents x y) x k) e.1 up))
      ]

  stays_joined : (p q : ℕ) → AreJoined parents first second p q → AreOneClass (set parents x y) p q
  stays_joined p q (inl h) = still p q h
  stays_joined p q (inr (inl e)) = subst (λ k. AreOneClass (set parents x y) k q) (sym e.0) (subst (λ k. AreOneClass (set parents x y) first k) (sym e.1) linked)
  stays_joined p q (inr (inr e)) = subst (λ k. AreOneClass (set parents x y) k q) (sym e.0)
      (subst (λ k. AreOneClass (set parents x y) second k) (sym e.1) (class-sym (set parents x y) first second linked))

  pub joins-set : Joins parents first second (set parents x y)
  joins-set u v = (λ h. reach-by (AreNext (set parents x y)) (AreJoined parents first second) edge h, λ h. reach-by (AreJoined parents first second) (AreNext (set parents x y)) stays_joined h)

  -- both are in the class of the parent, which is its least number
  pub one-set : AreOneClass (set parents x y) first y
  one-set =
      let up : AreOneClass (set parents x y) x y = step (inl (get-set_same parents x y x least-number)) here in
      elim pair [
        | inl e ↦ subst (λ k. AreOneClass (set parents x y) k y) e.0 up
        | inr e ↦ subst (λ k. AreOneClass (set parents x y) first k) (sym e.1) here
      ]

  pub least-set : slice_get (set parents x y) y ≡ Some y
  least-set = elim (cases_eq x y) [
    | inl same ↦ subst (λ k. slice_get (set parents x y) k ≡ Some y) same (get-set_same parents x y x least-number)
    | inr apart ↦ get-set_other parents x y y apart ∙ elim pair [
      | inl e ↦ subst (λ k. slice_get parents k ≡ Some k) (sym e.1) least_second
      | inr e ↦ subst (λ k. slice_get parents k ≡ Some k) (sym e.1) least_first
    ]
  ]

  -- each least number was one before
  pub leasts-set : (k : ℕ) → slice_get (set parents x y) k ≡ Some k → slice_get parents k ≡ Some k
  leasts-set k h = elim (cases_eq x k) [
    | inl same ↦ subst (λ i. slice_get parents i ≡ Some i) same least-number
    | inr apart ↦ sym (get-set_other parents x k y apart) ∙ h
  ]

-- other parents of the same classes, and the least numbers of those that are put together
module _ (old parents new : List ℕ) (a b first second : ℕ) (same : AreSame old parents) (one : AreOneClass old a first) (other : AreOneClass old b second) where
  forth : (p q : ℕ) → AreJoined parents first second p q → Reach (AreJoined old a b) p q
  forth p q h = elim h [
    | inl k ↦ step (inl ((same p q).0 k)) here
    | inr k ↦ elim k [ inl e ↦ rw (e.0, e.1) way | inr e ↦ rw (e.0, e.1) (reach-sym (AreJoined old a b) (joined-both old a b) way) ]
  ]
    where
      way : Reach (AreJoined old a b) first second
      way = step (inl (class-sym old a first one)) (step (inr (inl (refl, refl))) (step (inl other) here))

  back : (p q : ℕ) → AreJoined old a b p q → Reach (AreJoined parents first second) p q
  back p q h = elim h [
    | inl k ↦ step (inl ((same p q).1 k)) here
    | inr k ↦ elim k [ inl e ↦ rw (e.0, e.1) way | inr e ↦ rw (e.0, e.1) (reach-sym (AreJoined parents first second) (joined-both parents first second) way) ]
  ]
    where
      way : Reach (AreJoined parents first second) a b
      way = step (inl ((same a first).1 one)) (step (inr (inl (refl, refl))) (step (inl ((same second b).1 (class-sym old b second other))) here))

  pub joins-as : Joins parents first second new → Joins old a b new
  joins-as joins x y = (
    λ h. reach-by (AreJoined parents first second) (AreJoined old a b) forth ((joins x y).0 h),
    λ h. (joins x y).1
        (reach-by (AreJoined old a b) (AreJoined parents first second) back h),
  )
