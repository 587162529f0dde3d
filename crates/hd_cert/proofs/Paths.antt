-- Paths as lists of steps.
use Rattle.std.proofs.Common.{◌≡◌, ◌<◌, ◌+◌, ◌-◌, ℕ, suc, List, [], ◌∷◌, length, refl, subst, arith}
use Rattle.hd_map.specs.declared.types.Pos.{Pos}
use Rattle.hd_map.specs.Path.{Leads}
use Rattle.hd_check.specs.Rules.{point_of}

-- the steps of a list of positions
pub Leads-steps : (R : Pos → Pos → Type 0) (p : Pos) (ps : List Pos) → ((k : ℕ) → k < length (p ∷ ps) - 1 → R (point_of (p ∷ ps) k) (point_of (p ∷ ps) (k + 1)))
    → Leads R p ps (point_of (p ∷ ps) (length (p ∷ ps) - 1))
Leads-steps R p [] h = refl
Leads-steps R p (q ∷ ps) h =
    let step : (k : ℕ) → k < length (q ∷ ps) - 1 → R (point_of (q ∷ ps) k) (point_of (q ∷ ps) (k + 1)) = λ k inside.
    (let e : suc k + 1 ≡ suc (k + 1) = omega arith in subst (λ (j : ℕ). R (point_of (q ∷ ps) k) (point_of (p ∷ q ∷ ps) j)) e (h (suc k) (omega arith))) in
    let last : suc (length (q ∷ ps) - 1) ≡ length (p ∷ q ∷ ps) - 1 = omega arith in
    (h 0 (omega arith), subst (λ (j : ℕ). Leads R q ps (point_of (p ∷ q ∷ ps) j)) last (Leads-steps R q ps step))
