use Rattle.std.proofs.Common.{◌≡◌, ℕ, List, [], ◌∷◌, ◌++◌, Option, Some, length, set, slice_get, inl, refl, sym, subst, rules}
use Rattle.std.proofs.lemmas.Option.{slice_get_read}
use Rattle.hd_basin.specs.declared.meetings.Meeting.{Meeting}
use Rattle.hd_basin.specs.Meetings.{AreChained}
use Rattle.hd_basin.proofs.ChainedMeetings.{chained-add}
use Rattle.hd_basin.proofs.meetings.Meetings.add.Goals as goal

pub returns-clause-chained : goal.returns-clause-chained
returns-clause-chained c =
    let lasts : List (Option ℕ) = c.args.self.now.lasts.items in
    let list : List Meeting = c.args.self.now.list.items in
    let before : Option ℕ = c.index-before.result.now in
    let x : Meeting = record { a = c.args.a; b = c.args.b; at = c.args.at; before = before } in
    let read : slice_get lasts c.args.a ≡ Some before = slice_get_read lasts (length lasts) c.args.a before refl c.requires.inside c.index-before.ensures in
    let number : c.len-number.result ≡ length list = search rules in
    subst (λ (xs : List Meeting). AreChained (set lasts c.args.a (Some c.len-number.result)) xs) (sym c.in_ok-push.ensures.items)
    (subst (λ (n : ℕ). AreChained (set lasts c.args.a (Some n)) (list ++ x ∷ [])) (sym number) (chained-add list x lasts c.requires.chained c.requires.inside read))

pub returns-clause-adds : goal.returns-clause-adds
returns-clause-adds c = λ s unknown. (
    let x : Meeting = record { a = c.args.a; b = c.args.b; at = c.args.at; before = c.index-before.result.now } in
    inl (unknown, (x, c.in_ok-push.ensures.items, record { lesser = refl; greater = refl; at = refl })))
