-- The parts on the sides of rises.
use Rattle.std.proofs.Common.{◌≡◌, ◌⊎◌, inl, inr, List, [], ◌∷◌, sym, subst}
use Rattle.std.specs.Prelude.{Contains}
use Rattle.hd_map.proofs.Items.{Contains-head, Contains-cases, Contains-none, Contains-tail}
use Rattle.hd_graph.specs.declared.parts.Part.{Part}
use Rattle.hd_graph.specs.declared.parts.Rise.{Rise}
use Rattle.hd_graph.specs.Parts.{left_of, right_of, rise_parts}

-- the parts of a rise are among those of all
pub to-left : (xs : List Rise) (x : Rise) → Contains xs x → Contains (rise_parts xs) (left_of x)
to-left [] x h = absurd (Contains-none x h)
to-left (y ∷ ys) x h = elim (Contains-cases y x ys h) [
  | inl e ↦ subst (λ (z : Rise). Contains (rise_parts (y ∷ ys)) (left_of z)) (sym e) (Contains-head (left_of y) (right_of y ∷ rise_parts ys))
  | inr later ↦ Contains-tail (left_of y) (left_of x) (right_of y ∷ rise_parts ys) (Contains-tail (right_of y) (left_of x) (rise_parts ys) (to-left ys x later))
]

pub to-right : (xs : List Rise) (x : Rise) → Contains xs x → Contains (rise_parts xs) (right_of x)
to-right [] x h = absurd (Contains-none x h)
to-right (y ∷ ys) x h = elim (Contains-cases y x ys h) [
  | inl e ↦ subst (λ (z : Rise). Contains (rise_parts (y ∷ ys)) (right_of z)) (sym e) (Contains-tail (left_of y) (right_of y) (right_of y ∷ rise_parts ys) (Contains-head (right_of y) (rise_parts ys)))
  | inr later ↦ Contains-tail (left_of y) (right_of x) (right_of y ∷ rise_parts ys) (Contains-tail (right_of y) (right_of x) (rise_parts ys) (to-right ys x later))
]

-- and each of those is one of some rise
pub from-rise_parts : (xs : List Rise) (e : Part) → Contains (rise_parts xs) e → (x : Rise) × Contains xs x × ((left_of x ≡ e) ⊎ (right_of x ≡ e))
from-rise_parts [] e h = absurd (Contains-none e h)
from-rise_parts (y ∷ ys) e h = elim (Contains-cases (left_of y) e (right_of y ∷ rise_parts ys) h) [
  | inl is ↦ (y, Contains-head y ys, inl (sym is))
  | inr more ↦ elim (Contains-cases (right_of y) e (rise_parts ys) more) [
    | inl is ↦ (y, Contains-head y ys, inr (sym is))
    | inr later ↦ (let r = from-rise_parts ys e later in (r.0, Contains-tail y r.0 ys r.1, r.2))
  ]
]
