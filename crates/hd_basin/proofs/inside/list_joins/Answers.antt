use Rattle.std.proofs.Common.{[], ◌∙◌}
use Rattle.hd_basin.specs.Inside.{join_of}
use Rattle.hd_basin.proofs.FlatLists.{map-more, map-whole}
use Rattle.hd_basin.proofs.inside.list_joins.Goals as goal

pub meetings-preserved : goal.meetings-preserved
meetings-preserved c = map-more join_of [] c.meetings.joins c.push.new.self c.args.meetings.now c.meetings.meeting-index _ c.join_of.result c.meetings-test.true c.join_of.ensures
    c.meetings.invariant c.in_ok-push.ensures.ok

pub returns : goal.returns
returns c = c.meetings.invariant ∙ map-whole join_of [] c.args.meetings.now c.meetings.meeting-index c.meetings-test.false
