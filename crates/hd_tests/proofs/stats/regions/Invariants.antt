use Rattle.std.proofs.Common.{◌≤◌, All}
use Rattle.hd_feature.specs.declared.region.Region.{Region}
use Rattle.hd_tests.proofs.stats.regions.Given as goal

abbrev pub invariant-loop-word : goal.invariant-loop-word
invariant-loop-word g l = All (λ (r : Region). r.points ≤ 4194304) l.regions
