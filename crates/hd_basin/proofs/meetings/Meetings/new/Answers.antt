use Rattle.std.proofs.Common.{◌≡◌, ℕ, List, Option, None, length, sym, ◌∙◌, ap, subst, rules}
use Rattle.std.specs.Prelude.{replicate}
use Rattle.std.proofs.lemmas.List.{length-replicate}
use Rattle.hd_basin.specs.declared.meetings.Meeting.{Meeting}
use Rattle.hd_basin.specs.Meetings.{AreChained}
use Rattle.hd_basin.proofs.ChainedMeetings.{chained-none}
use Rattle.hd_basin.proofs.meetings.Meetings.new.Goals as goal

pub returns-clause-chained : goal.returns-clause-chained
returns-clause-chained c =
    let lasts : List (Option ℕ) = c.in_ok-lasts.lasts.items in
    let all : lasts ≡ replicate c.args.nodes None = search rules in
    subst (λ (xs : List Meeting). AreChained lasts xs) (sym c.new-list.ensures.items) (chained-none lasts c.args.nodes all)

pub returns-clause-count : goal.returns-clause-count
returns-clause-count c =
    let lasts : List (Option ℕ) = c.in_ok-lasts.lasts.items in
    let all : lasts ≡ replicate c.args.nodes None = search rules in
    ap (λ (xs : List (Option ℕ)). length xs) all ∙ length-replicate c.args.nodes None
