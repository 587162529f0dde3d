use Rattle.std.proofs.Common.{◌-◌, length}
use Rattle.hd_check.proofs.ReadingSteps.{AreBlankBefore}
use Rattle.hd_check.proofs.reading.blank_lines.Given as goal

abbrev pub invariant-lines : goal.invariant-lines
invariant-lines l = AreBlankBefore l.bytes l.fn.start l.place

abbrev pub decreases-lines : goal.decreases-lines
decreases-lines l = length l.bytes - l.place.from
