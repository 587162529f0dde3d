-- A closed cut, and the paths that leave it.
use Rattle.std.proofs.Common.{◌≡◌, Bool, true, false, List, [], ◌∷◌, refl, subst}
use Rattle.hd_map.specs.Order.{IsNotAbove}
use Rattle.std.specs.Prelude.{Contains}
use Rattle.std.proofs.lemmas.List.Elements.{All-contains}
use Rattle.hd_map.specs.Path.{Leads, IsTop}
use Rattle.hd_map.proofs.Levels.{Contains-head, Contains-tail}

module _ {V : Type 0} (Near : V → V → Type 0) where
  -- a path from a cut that all neighbours of its points are in stays in it
  pub Leads-closed : (Cut : V → Type 0) → ((x y : V) → Cut x → Near x y → Cut y) → (a b : V) (xs : List V) → Leads Near a xs b → Cut a → Cut b
  Leads-closed Cut closed a b [] l h = subst Cut l h
  Leads-closed Cut closed a b (x ∷ xs) l h = Leads-closed Cut closed x b xs l.1 (closed a x h l.0)

  module _ (below : V → V → Bool) where
    -- a path that leaves a cut which is closed below s has a point that is not below s
    leaves_cut : (s : V) (Cut : V → Type 0) → ((x y : V) → Cut x → Near x y → below y s ≡ true → Cut y) → (a b : V) (xs : List V) → Leads Near a xs b → Cut a → (Cut b → ⊥)
        → (y : V) × Contains (a ∷ xs) y × IsNotAbove below s y
    leaves_cut s Cut closed a b [] l h out = absurd (out (subst Cut l h))
    leaves_cut s Cut closed a b (x ∷ xs) l h out = elim (below x s) as (λ v. below x s ≡ v → (y : V) × Contains (a ∷ x ∷ xs) y × IsNotAbove below s y) [
      | true ↦ λ e. (let r = leaves_cut s Cut closed x b xs l.1 (closed a x h l.0 e) out in (r.0, Contains-tail a r.0 (x ∷ xs) r.1, r.2))
      | false ↦ λ e. (x, Contains-tail a x (x ∷ xs) (Contains-head x xs), e)
    ] refl

    -- so no path out of it has a lower top
    pub IsTop-closed : ((a b c : V) → IsNotAbove below a b → IsNotAbove below b c → IsNotAbove below a c)
        → (s : V) (Cut : V → Type 0) → ((x y : V) → Cut x → Near x y → below y s ≡ true → Cut y) → (a b : V) → Cut a → (Cut b → ⊥)
        → (xs : List V) (t : V) → Leads Near a xs b → IsTop below t (a ∷ xs) → IsNotAbove below s t
    IsTop-closed trans s Cut closed a b h out xs t l top =
        let y = leaves_cut s Cut closed a b xs l h out in
        trans s y.0 t y.2 (All-contains (λ x. IsNotAbove below x t) (a ∷ xs) y.0 top.none_above y.1)
