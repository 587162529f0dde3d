use Rattle.std.proofs.Common.{◌≡◌, ℕ, zero, suc, refl, sym, ap}
use Rattle.hd_basin.specs.Inside.{step_down}
use Rattle.hd_basin.proofs.inside.step_down.Goals as goal

-- a step that is not the first
other : (step : ℕ) → (step ≡ 0 → ⊥) → 1 ≡ step_down step
other zero apart = absurd (apart refl)
other (suc step) apart = refl

pub returns-then-step-eq0-clause-value : goal.returns-then-step-eq0-clause-value
returns-then-step-eq0-clause-value c = sym (ap step_down c.if-step-eq0.true)

pub returns-else-step-eq0-clause-value : goal.returns-else-step-eq0-clause-value
returns-else-step-eq0-clause-value c = other c.args.step c.if-step-eq0.false
