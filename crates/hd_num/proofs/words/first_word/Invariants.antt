use Rattle.std.proofs.Common.{[], ◌-◌, length}
use Rattle.hd_num.proofs.LinePieces.{AreWordsBefore}
use Rattle.hd_num.proofs.words.first_word.Given as goal

abbrev pub invariant-pieces : goal.invariant-pieces
invariant-pieces l = AreWordsBefore l.line [] l.start

abbrev pub decreases-pieces : goal.decreases-pieces
decreases-pieces l = length l.line - l.start
