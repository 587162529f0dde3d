use Rattle.std.proofs.Common.{◌≡◌, ◌<◌, ℕ}
use Rattle.hd_map.specs.Encoding.{number_in}
use Rattle.hd_steep.proofs.row.fill_missing.Given as goal

abbrev pub invariant-loop-key : goal.invariant-loop-key
invariant-loop-key g l = let code = g.L.Lane.code in
    (k : ℕ) → k < l.key-index → number_in code l.keys k ≡ code.missing
