use Rattle.hd_base.proofs.GivesNoMore.{GivesNoMore-without_both, GivesNoMore-without_group, GivesNoMore-without_owner}
use Rattle.hd_base.proofs.access.Access.handed_on.Goals as goal

pub returns-in-true-false-clause-no_more : goal.returns-in-true-false-clause-no_more
returns-in-true-false-clause-no_more c =
    let access = c.args.self in rw c.in-true-false.is-0 (rw c.in-true-false.is-1 (GivesNoMore-without_group access.owner access.group access.other))

pub returns-in-false-true-clause-no_more : goal.returns-in-false-true-clause-no_more
returns-in-false-true-clause-no_more c =
    let access = c.args.self in rw c.in-false-true.is-0 (rw c.in-false-true.is-1 (GivesNoMore-without_owner access.owner access.group access.other))

pub returns-in-false-false-clause-no_more : goal.returns-in-false-false-clause-no_more
returns-in-false-false-clause-no_more c =
    let access = c.args.self in rw c.in-false-false.is-0 (rw c.in-false-false.is-1 (GivesNoMore-without_both access.owner access.group access.other))
