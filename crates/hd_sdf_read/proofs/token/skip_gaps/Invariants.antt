use Rattle.std.proofs.Common.{◌≡◌, length}
use Rattle.hd_num.specs.Lines.{without_start}
use Rattle.hd_sdf_read.specs.Tokens.{is_gap}
use Rattle.hd_sdf_read.proofs.token.skip_gaps.Given as goal

abbrev pub invariant-gaps : goal.invariant-gaps
invariant-gaps l = without_start is_gap l.rest ≡ without_start is_gap l.text

abbrev pub decreases-gaps : goal.decreases-gaps
decreases-gaps l = length l.rest
