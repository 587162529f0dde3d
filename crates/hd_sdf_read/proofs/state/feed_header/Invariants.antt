use Rattle.std.proofs.Common.{◌≡◌, ◌+◌, ◌≤◌, ◌++◌, ℕ, List, length}
use Rattle.hd_sdf_read.specs.HeaderPieces.{header_on}
use Rattle.hd_sdf_read.proofs.state.feed_header.Given as goal

abbrev pub invariant-lines : goal.invariant-lines
invariant-lines l = record {
  same : (more : List ℕ) → header_on l.header (l.line.text ++ (l.rest ++ more)) ≡ header_on l.fn.header (l.fn.line.text ++ (l.fn.text ++ more));
  number : l.header.number + length l.rest ≤ l.fn.header.number + length l.fn.text;
}

abbrev pub decreases-lines : goal.decreases-lines
decreases-lines l = length l.rest
