use Rattle.std.proofs.Common.{◌-◌, length}
use Rattle.hd_num.proofs.LinePieces.{AreWordsBefore}
use Rattle.hd_num.proofs.words.split_words.Given as goal

abbrev pub invariant-pieces : goal.invariant-pieces
invariant-pieces l = AreWordsBefore l.line l.words l.start

abbrev pub decreases-pieces : goal.decreases-pieces
decreases-pieces l = length l.line - l.start
