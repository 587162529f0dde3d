-- Counts of faults, and the answers that they explain.
use Rattle.std.specs.Prelude.{◌≡◌, ◌≤◌, ◌+◌, ◌-◌, ◌^◌, ℕ, min, Result, OnOk, OnErr}

-- one more, where a count stays at its last value
abbrev pub one_more : ℕ → ℕ
one_more n = min (n + 1) (2 ^ 64 - 1)

-- exactly one more was counted
abbrev pub Rose : ℕ → ℕ → Type 0
Rose before now = now ≡ one_more before

-- an error comes only where one fault was counted, and no second one; an accepted call leaves the count
pub record HasCause {T E : Type 0} (before now : ℕ) (result : Result T E) : Type 0 where
  pub later : before ≤ now
  pub failed : OnErr result (Rose before now)
  pub accepted : OnOk result (now ≡ before)
