use Rattle.std.proofs.Common.{◌∙◌}
use Rattle.hd_survey.proofs.survey.Survey.find_presence.Goals as goal

pub returns-in-Some-sums-clause-presence : goal.returns-in-Some-sums-clause-presence
returns-in-Some-sums-clause-presence g c =
    let found = c.requires.sums c.in-Some-sums.sums c.in-Some-sums.is in
    record { count = c.presence_in.ensures.count ∙ found.are.count; range = c.presence_in.ensures.range ∙ found.are.range }
