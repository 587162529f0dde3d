use Rattle.std.proofs.lemmas.Option.{slice_get_within}
use Rattle.hd_basin.proofs.meetings.Meetings.note.Goals as goal

pub returns-in_default-clause-notes : goal.returns-in_default-clause-notes
returns-in_default-clause-notes g c = c.in_ok-add.ensures.adds g.S.Side.NAME c.in_default.ensures

pub lower-requires-clause-inside : goal.lower-requires-clause-inside
lower-requires-clause-inside g c = (let known = c.in-Some.ensures in slice_get_within c.args.self.now.list.items c.in-Some.number known.meeting known.at)

pub returns-clause-notes : goal.returns-clause-notes
returns-clause-notes g c = c.lower.ensures.lowers c.args.a c.args.b c.in-Some.ensures
