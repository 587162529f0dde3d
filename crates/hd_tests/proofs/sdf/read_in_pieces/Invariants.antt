use Rattle.std.proofs.Common.{◌≤◌, ◌+◌, length}
use Rattle.hd_sdf_read.specs.Reader.{fed_of}
use Rattle.hd_tests.proofs.sdf.read_in_pieces.Given as goal

abbrev pub invariant-pieces : goal.invariant-pieces
invariant-pieces g l = fed_of l.reader + length l.rest ≤ length l.text

abbrev pub decreases-pieces : goal.decreases-pieces
decreases-pieces g l = length l.rest
