use Rattle.hd_check.specs.Reading.{point_form}
use Rattle.hd_check.proofs.ReadingSteps.{AreItemsBefore}
use Rattle.hd_check.proofs.reading.point_lines.Given as goal

abbrev pub invariant-points : goal.invariant-points
invariant-points l = AreItemsBefore point_form l.bytes l.count l.fn.start l.points l.place l.k
