-- Rules that are tried in turn. A rule says of None that it holds, and of a position that it fails there.
use Rattle.std.specs.Prelude.{◌≡◌, ◌<◌, ◌+◌, ◌⊎◌, ℕ, List, [], ◌∷◌, Option, Some, None}
use Rattle.hd_map.specs.declared.types.Pos.{Pos}
use Rattle.hd_check.specs.declared.types.Verdict.{Verdict}
use Rattle.hd_check.specs.declared.types.Verdict.TheVariants.{Yes, No}

-- P holds, else the rule fails at this position
abbrev pub Asks : Type 0 → Pos → Option Pos → Type 0
Asks P at None = P
Asks P at (Some p) = (p ≡ at) × (P → ⊥)

-- P holds of each number below n, else the rule fails at the position of the first of which it does not
abbrev pub AsksEach : (ℕ → Type 0) → (ℕ → Pos) → ℕ → Option Pos → Type 0
AsksEach P at n None = (k : ℕ) → k < n → P k
AsksEach P at n (Some p) = (k : ℕ) × (k < n) × ((i : ℕ) → i < k → P i) × (P k → ⊥) × (p ≡ at k)

-- the first is asked, and then the second
abbrev pub Then : (Option Pos → Type 0) → (Option Pos → Type 0) → Option Pos → Type 0
Then A B None = A None × B None
Then A B (Some p) = A (Some p) ⊎ (A None × B (Some p))

-- nothing is asked
abbrev pub Skipped : Option Pos → Type 0
Skipped None = Unit {0}
Skipped (Some p) = ⊥

-- the rules, numbered from n on: yes exactly where all of them hold, else the first that fails, and where
abbrev pub TriedFrom : ℕ → List (Option Pos → Type 0) → Verdict → Type 0
TriedFrom n [] Yes = Unit {0}
TriedFrom n [] (No rule p) = ⊥
TriedFrom n (R ∷ Rs) Yes = R None × TriedFrom (n + 1) Rs Yes
TriedFrom n (R ∷ Rs) (No rule p) = ((rule ≡ n) × R (Some p)) ⊎ (R None × TriedFrom (n + 1) Rs (No rule p))
