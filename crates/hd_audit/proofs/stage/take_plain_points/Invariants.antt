use Rattle.std.proofs.Common.{◌≡◌, ◌≤◌, ◌+◌, ◌++◌, ℕ, List, length}
use Rattle.hd_audit.specs.Stages.{numbered, words_in}
use Rattle.hd_audit.proofs.Stages.{points_on}
use Rattle.hd_audit.proofs.stage.take_plain_points.Given as goal

abbrev pub invariant-points : goal.invariant-points
invariant-points l = record {
  same : (more : List (List (List ℕ))) → points_on l.head l.fn.points.lines l.fn.points.left (numbered l.fn.number (words_in l.fn.text ++ more))
      ≡ points_on l.head l.lines l.left (numbered l.number (words_in l.rest ++ more));
  fewer : length l.rest ≤ length l.fn.text;
  counted : l.number + length l.rest ≤ l.fn.number + length l.fn.text;
}

abbrev pub decreases-points : goal.decreases-points
decreases-points l = l.left
