-- Ways of steps, turned and put together.
use Rattle.std.proofs.Common.{List, [], ◌∷◌, refl, sym, subst}
use Rattle.hd_map.specs.Path.{Leads}

module _ {V : Type 0} (R S : V → V → Type 0) where
  turn_onto : ((x y : V) → R x y → S y x) → (a : V) (xs : List V) (b c : V) → Leads R a xs b → (zs : List V) → Leads S a zs c → (ys : List V) × Leads S b ys c
  turn_onto f a [] b c l zs k = (zs, subst (λ v. Leads S v zs c) l k)
  turn_onto f a (x ∷ xs) b c l zs k = turn_onto f x xs b c l.1 (a ∷ zs) (f a x l.0, k)

  -- the way back
  pub Leads-turn : ((x y : V) → R x y → S y x) → (a : V) (xs : List V) (b : V) → Leads R a xs b → (ys : List V) × Leads S b ys a
  Leads-turn f a xs b l = turn_onto f a xs b a l [] refl

-- one way and then another
pub Leads-then : {V : Type 0} (R : V → V → Type 0) (a : V) (xs : List V) (b : V) (ys : List V) (c : V) → Leads R a xs b → Leads R b ys c → (zs : List V) × Leads R a zs c
Leads-then {V} R a [] b ys c l k = (ys, subst (λ (v : V). Leads R v ys c) (sym l) k)
Leads-then {V} R a (x ∷ xs) b ys c l k = let rest = Leads-then R x xs b ys c l.1 k in (x ∷ rest.0, (l.0, rest.1))
