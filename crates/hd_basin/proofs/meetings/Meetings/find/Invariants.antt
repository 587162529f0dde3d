use Rattle.hd_basin.proofs.ChainedMeetings.{IsAhead, up_to}
use Rattle.hd_basin.proofs.meetings.Meetings.find.Given as goal

abbrev pub invariant-walk : goal.invariant-walk
invariant-walk l = IsAhead l.a l.b l.self.list.items l.here

abbrev pub decreases-walk : goal.decreases-walk
decreases-walk l = up_to l.here
