-- Positions that are compared.
use Rattle.std.proofs.Common.{◌≡◌, ◌&&◌, ℕ, Bool, true, false, inl, inr, refl, sym, subst}
use Rattle.std.proofs.Math.Dec.{eqb}
use Rattle.std.proofs.lemmas.Bool.Decides.{eqb_tells}
use Rattle.hd_map.specs.declared.types.Pos.{Pos}

and_left : (a b : Bool) → true ≡ (a && b) → a ≡ true
and_left true b e = refl
and_left false b e = absurd (let no = e in cc)

and_right : (a b : Bool) → true ≡ (a && b) → b ≡ true
and_right true b e = sym e
and_right false b e = absurd (let no = e in cc)

not_both_true : (a b : Bool) → a ≡ true → b ≡ true → false ≡ (a && b) → ⊥
not_both_true true true x y e = cc
not_both_true true false x y e = cc
not_both_true false b x y e = cc

number_same : (a b : ℕ) → eqb a b ≡ true → a ≡ b
number_same a b t = elim (eqb_tells a b) [ inl p ↦ p.1 | inr p ↦ absurd (let f : eqb a b ≡ false = p.0 in cc) ]

number_itself : (a : ℕ) → eqb a a ≡ true
number_itself a = elim (eqb_tells a a) [ inl p ↦ p.0 | inr p ↦ absurd (p.1 refl) ]

parts_same : (a b c d : ℕ) → a ≡ c → b ≡ d → ◌≡◌ {A = Pos} (record { x = a; y = b }) (record { x = c; y = d })
parts_same a b c d e f = cc

-- positions that compare as equal are one
pub found_same : (p q : Pos) → true ≡ (eqb p.x q.x && eqb p.y q.y) → p ≡ q
found_same p q e = parts_same p.x p.y q.x q.y (number_same p.x q.x (and_left (eqb p.x q.x) (eqb p.y q.y) e)) (number_same p.y q.y (and_right (eqb p.x q.x) (eqb p.y q.y) e))

-- and others are two
pub found_apart : (p q : Pos) → false ≡ (eqb p.x q.x && eqb p.y q.y) → p ≡ q → ⊥
found_apart p q e same = not_both_true (eqb p.x q.x) (eqb p.y q.y) (subst (λ (r : Pos). eqb p.x r.x ≡ true) same (number_itself p.x))
    (subst (λ (r : Pos). eqb p.y r.y ≡ true) same (number_itself p.y)) e
