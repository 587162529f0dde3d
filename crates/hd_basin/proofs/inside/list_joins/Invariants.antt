use Rattle.std.proofs.Common.{◌≡◌, map, take}
use Rattle.hd_basin.specs.Inside.{join_of}
use Rattle.hd_basin.proofs.inside.list_joins.Given as goal

abbrev pub invariant-meetings : goal.invariant-meetings
invariant-meetings l = l.joins ≡ map join_of (take l.meeting-index l.meetings)
