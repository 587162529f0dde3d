use Rattle.std.proofs.Common.{◌≡◌, ◌<◌, ℕ, get_or}
use Rattle.hd_graph.specs.declared.graph.Low.{Low}
use Rattle.hd_survey.proofs.saddles.place_of.Given as goal

-- the place is the number of the lows before, and none of them is the pit
abbrev pub invariant-lows : goal.invariant-lows
invariant-lows l = record {
  place : l.place ≡ l.low-index;
  passed : (k : ℕ) (d : Low) → k < l.low-index → (get_or l.lows k d).rank ≡ l.fn.pit → ⊥;
}
