use Rattle.std.proofs.Common.{◌≡◌, ◌≤◌, ◌+◌, ◌++◌, ℕ, List, length}
use Rattle.hd_audit.specs.Stages.{go_on, numbered, words_in}
use Rattle.hd_audit.proofs.stage.take_lines.Given as goal

abbrev pub invariant-lines : goal.invariant-lines
invariant-lines l = record {
  same : (more : List (List (List ℕ))) → go_on l.fn.stage (numbered l.fn.number (words_in l.fn.text ++ more)) ≡ go_on l.stage (numbered l.number (words_in l.rest ++ more));
  counted : l.number + length l.rest ≤ l.fn.number + length l.fn.text;
}

abbrev pub decreases-lines : goal.decreases-lines
decreases-lines l = length l.rest
