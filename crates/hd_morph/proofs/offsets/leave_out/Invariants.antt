use Rattle.std.proofs.Common.{◌≡◌, ◌<◌, ℕ, length}
use Rattle.hd_map.specs.Encoding.{number_in}
use Rattle.hd_morph.proofs.offsets.leave_out.Given as goal

abbrev pub invariant-loop-place : goal.invariant-loop-place
invariant-loop-place g l = record {
  whole : length l.tops ≡ length l.fn.tops;
  blank : (k : ℕ) → k < l.place → number_in g.L.Lane.code l.tops k ≡ g.L.Lane.code.missing;
}
