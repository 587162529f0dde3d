-- Walks whose steps are walks of another kind.
use Rattle.hd_map.proofs.Levels.{Reach, here, step, reach-trans}

-- each step is a walk
pub reach-by : {V : Type 0} (R S : V → V → Type 0) → ((x y : V) → R x y → Reach S x y) → {a b : V} → Reach R a b → Reach S a b
reach-by R S f here = here
reach-by R S f (step {a} {b} {c} r p) = reach-trans S (f a b r) (reach-by R S f p)

-- each step is one between what its ends stand for
pub reach-as : {V W : Type 0} (f : V → W) (R : V → V → Type 0) (S : W → W → Type 0) → ((x y : V) → R x y → S (f x) (f y)) → {a b : V} → Reach R a b → Reach S (f a) (f b)
reach-as f R S g here = here
reach-as f R S g (step {a} {b} {c} r p) = step (g a b r) (reach-as f R S g p)
