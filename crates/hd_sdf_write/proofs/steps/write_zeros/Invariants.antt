use Rattle.std.proofs.Common.{◌≡◌, ◌≤◌, ◌-◌, ◌++◌, drop, replicate}
use Rattle.hd_sdf_write.proofs.steps.write_zeros.Given as goal

abbrev pub invariant-zeros : goal.invariant-zeros
invariant-zeros l = record {
  text : drop l.start l.text ≡ replicate (l.to - l.start) 48 ++ drop l.to l.initial.text;
  least : l.from ≤ l.start;
  most : l.start ≤ l.to;
}

abbrev pub decreases-zeros : goal.decreases-zeros
decreases-zeros l = l.start - l.from
