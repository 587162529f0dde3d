-- A certificate has one verdict at most.
use Rattle.std.proofs.Common.{◌≡◌, ◌<◌, ◌+◌, ℕ, List, [], ◌∷◌, Option, Some, None, inl, inr, ap, ◌∙◌, refl, sym, subst, arith}
use Rattle.std.specs.Prelude.{MatchOption, ℤ}
use Rattle.std.proofs.lemmas.Bool.{cases_lt}
use Rattle.hd_map.specs.declared.types.Pos.{Pos}
use Rattle.hd_map.specs.declared.types.SideName.{SideName}
use Rattle.hd_map.specs.Map.{Map}
use Rattle.hd_map.proofs.Points.{same_place}
use Rattle.hd_map.specs.Sets.{under}
use Rattle.hd_check.specs.declared.types.Certificate.{Certificate}
use Rattle.hd_check.specs.declared.types.Verdict.{Verdict}
use Rattle.hd_check.specs.declared.types.Verdict.TheVariants.{Yes, No}
use Rattle.hd_check.specs.Judged.{Asks, AsksEach, Then, Skipped, TriedFrom}
use Rattle.hd_check.specs.Rules.{point_of, FirstLeak, IsCutClosed, all_rules, IsVerdict}

-- the rule says one thing at most
abbrev pub IsDetermined : (Option Pos → Type 0) → Type 0
IsDetermined R = (o o' : Option Pos) → R o → R o' → o ≡ o'

pub Asks-one : (P : Type 0) (at : Pos) → IsDetermined (Asks P at)
Asks-one P at None None h k = refl
Asks-one P at None (Some q) h k = absurd (k.1 h)
Asks-one P at (Some p) None h k = absurd (h.1 k)
Asks-one P at (Some p) (Some q) h k = ap Some (h.0 ∙ sym k.0)

-- the first at which something fails is one
pub first_failing-unique : (P : ℕ → Type 0) (j k : ℕ) → ((i : ℕ) → i < j → P i) → (P j → ⊥) → ((i : ℕ) → i < k → P i) → (P k → ⊥) → j ≡ k
first_failing-unique P j k before fails before' fails' = elim (cases_lt j k) [
  | inl less ↦ absurd (fails (before' j less))
  | inr more ↦ elim (cases_lt k j) [ inl less ↦ absurd (fails' (before k less)) | inr more' ↦ omega arith ]
]

pub AsksEach-one : (P : ℕ → Type 0) (at : ℕ → Pos) (n : ℕ) → IsDetermined (AsksEach P at n)
AsksEach-one P at n None None h k = refl
AsksEach-one P at n None (Some q) h (j, inside, before, fails, is) = absurd (fails (h j inside))
AsksEach-one P at n (Some p) None (j, inside, before, fails, is) k = absurd (fails (k j inside))
AsksEach-one P at n (Some p) (Some q) (i, inside, before, fails, is) (j, inside', before', fails', is') = ap Some (is ∙ ap at (first_failing-unique P i j before fails before' fails') ∙ sym is')

pub Then-one : (A B : Option Pos → Type 0) → IsDetermined A → IsDetermined B → IsDetermined (Then A B)
Then-one A B a b None None h k = refl
Then-one A B a b None (Some q) h k = elim k [ inl x ↦ a None (Some q) h.0 x | inr y ↦ b None (Some q) h.1 y.1 ]
Then-one A B a b (Some p) None h k = elim h [ inl x ↦ a (Some p) None x k.0 | inr y ↦ b (Some p) None y.1 k.1 ]
Then-one A B a b (Some p) (Some q) h k = elim h [
  | inl x ↦ elim k [ inl x' ↦ a (Some p) (Some q) x x' | inr y' ↦ absurd (let e = a (Some p) None x y'.0 in cc) ]
  | inr y ↦ elim k [ inl x' ↦ absurd (let e = a None (Some q) y.0 x' in cc) | inr y' ↦ b (Some p) (Some q) y.1 y'.1 ]
]

saddle_one : (saddle : Option (Pos × ℤ)) (R : Pos → ℤ → Option Pos → Type 0) → ((s : Pos) (h : ℤ) → IsDetermined (R s h)) → IsDetermined (λ o. MatchOption saddle (Skipped o) (λ s. R s.0 s.1 o))
saddle_one (Some s) R one o o' h k = one s.0 s.1 o o' h k
saddle_one None R one None None h k = refl
saddle_one None R one None (Some q) h k = absurd k
saddle_one None R one (Some p) o h k = absurd h

closed_one : (m : Map) (side : SideName) (level : Option Pos) (cut : List Pos) → IsDetermined (IsCutClosed m side level cut)
closed_one m side level cut None None h k = refl
closed_one m side level cut None (Some q) h (j, inside, before, leak) = absurd (h j inside q leak.0)
closed_one m side level cut (Some p) None (j, inside, before, leak) k = absurd (k j inside p leak.0)
closed_one m side level cut (Some p) (Some q) (i, inside, before, leak) (j, inside', before', leak') = elim (cases_lt i j) [
  | inl less ↦ absurd (before' i less p leak.0)
  | inr more ↦ elim (cases_lt j i) [
    | inl less ↦ absurd (before j less q leak'.0)
    | inr more' ↦
        let e : j ≡ i = omega arith in
        let there = subst (λ (k : ℕ). FirstLeak m side level cut (point_of cut k) (Some q)) e leak' in
        let up = leak.1 q there.0 in
        let down = there.1 p leak.0 in
        ap Some (same_place m.size p q leak.0.neighbour.to.in_grid there.0.neighbour.to.in_grid (omega (arith, up, down)))
  ]
]

-- each of the rules does
abbrev pub AreDetermined : List (Option Pos → Type 0) → Type 0
AreDetermined [] = Unit {0}
AreDetermined (R ∷ Rs) = IsDetermined R × AreDetermined Rs

no_no : (n n' : ℕ) (p q : Pos) → n ≡ n' → Some p ≡ Some q → No n p ≡ No n' q
no_no n n' p q e f = cc

pub TriedFrom-unique : (n : ℕ) (Rs : List (Option Pos → Type 0)) → AreDetermined Rs → (v w : Verdict) → TriedFrom n Rs v → TriedFrom n Rs w → v ≡ w
TriedFrom-unique n [] d Yes Yes h k = refl
TriedFrom-unique n [] d Yes (No r p) h k = absurd k
TriedFrom-unique n [] d (No r p) w h k = absurd h
TriedFrom-unique n (R ∷ Rs) d Yes Yes h k = refl
TriedFrom-unique n (R ∷ Rs) d Yes (No r q) h k = elim k [ inl x ↦ absurd (let e = d.0 None (Some q) h.0 x.1 in cc) | inr y ↦ TriedFrom-unique (n + 1) Rs d.1 Yes (No r q) h.1 y.1 ]
TriedFrom-unique n (R ∷ Rs) d (No r p) Yes h k = elim h [ inl x ↦ absurd (let e = d.0 (Some p) None x.1 k.0 in cc) | inr y ↦ TriedFrom-unique (n + 1) Rs d.1 (No r p) Yes y.1 k.1 ]
TriedFrom-unique n (R ∷ Rs) d (No r p) (No r' q) h k = elim h [
  | inl x ↦ elim k [ inl x' ↦ no_no r r' p q (x.0 ∙ sym x'.0) (d.0 (Some p) (Some q) x.1 x'.1) | inr y' ↦ absurd (let e = d.0 (Some p) None x.1 y'.0 in cc) ]
  | inr y ↦ elim k [ inl x' ↦ absurd (let e = d.0 None (Some q) y.0 x'.1 in cc) | inr y' ↦ TriedFrom-unique (n + 1) Rs d.1 (No r p) (No r' q) y.1 y'.1 ]
]

pub IsVerdict-unique : (m : Map) (c : Certificate) (v w : Verdict) → IsVerdict m c v → IsVerdict m c w → v ≡ w
IsVerdict-unique m c v w h k = TriedFrom-unique 1 (all_rules (under c.adjacency m) c) (
  Then-one _ _ (Asks-one _ _) (Then-one _ _ (Asks-one _ _) (Then-one _ _ (saddle_one c.saddle _ (λ s h. Asks-one _ _)) (Then-one _ _ (AsksEach-one _ _ _) (AsksEach-one _ _ _)))),
  (
    Then-one _ _ (Asks-one _ _) (Then-one _ _ (Asks-one _ _) (Asks-one _ _)),
    (
      saddle_one c.saddle _ (λ s h. Asks-one _ _),
      (
        saddle_one c.saddle _ (λ s h. Then-one _ _ (Asks-one _ _) (Then-one _ _ (Asks-one _ _) (Asks-one _ _))),
        (
          saddle_one c.saddle _ (λ s h. AsksEach-one _ _ _),
          (
            saddle_one c.saddle _ (λ s h. Asks-one _ _),
            (
              saddle_one c.saddle _ (λ s h. AsksEach-one _ _ _),
              (AsksEach-one _ _ _, (Then-one _ _ (Asks-one _ _) (Asks-one _ _), (AsksEach-one _ _ _, (closed_one (under c.adjacency m) c.side _ c.cut, tt)))),
            ),
          ),
        ),
      ),
    ),
  ),
) v w h k
