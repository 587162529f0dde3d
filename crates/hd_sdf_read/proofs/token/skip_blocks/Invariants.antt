use Rattle.std.proofs.Common.{◌≡◌, ◌≤◌, length}
use Rattle.hd_num.specs.Lines.{without_start}
use Rattle.hd_sdf_read.specs.Tokens.{is_gap}
use Rattle.hd_sdf_read.proofs.token.skip_blocks.Given as goal

abbrev pub invariant-spaces : goal.invariant-spaces
invariant-spaces l = record {
  same : without_start is_gap l.rest ≡ without_start is_gap l.text;
  few : length l.rest ≤ length l.text;
}

abbrev pub decreases-spaces : goal.decreases-spaces
decreases-spaces l = length l.rest
