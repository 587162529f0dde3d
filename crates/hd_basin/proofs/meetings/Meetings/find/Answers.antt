use Rattle.std.proofs.Common.{◌<◌, List, Some, length, refl, sym, subst, arith}
use Rattle.std.specs.Prelude.{Option, ℕ}
use Rattle.std.proofs.lemmas.Option.{slice_get_read}
use Rattle.hd_basin.specs.declared.meetings.Meeting.{Meeting}
use Rattle.hd_basin.proofs.ChainedMeetings.{IsAhead, up_to, ahead-start, ahead-more}
use Rattle.hd_basin.proofs.meetings.Meetings.find.Goals as goal

-- the meeting that is looked at
abbrev Ahead : ℕ → ℕ → List Meeting → ℕ → Type 0
Ahead a b list number = IsAhead a b list (Some number)

pub walk-init : goal.walk-init
walk-init c =
    let lasts : List (Option ℕ) = c.args.self.now.lasts.items in
    let list : List Meeting = c.args.self.now.list.items in
    ahead-start c.args.a c.args.b list c.index-here.result.now (c.requires.chained.ends c.args.a c.index-here.result.now
    (slice_get_read lasts (length lasts) c.args.a c.index-here.result.now refl c.requires.inside c.index-here.ensures))

pub index-meeting-requires : goal.index-meeting-requires
index-meeting-requires c = (let ahead : Ahead c.args.a c.args.b c.args.self.now.list.items c.in-Some.number = subst
    (IsAhead c.args.a c.args.b c.args.self.now.list.items) c.in-Some.is c.walk.invariant in let inside = ahead.0 in omega (arith, inside, c.args.self.now.list.ok.0))

pub walk-smaller : goal.walk-smaller
walk-smaller c =
    let list : List Meeting = c.args.self.now.list.items in
    let ahead : Ahead c.args.a c.args.b list c.in-Some.number = subst (IsAhead c.args.a c.args.b list) c.in-Some.is c.walk.invariant in
    let x : Meeting = c.index-meeting.result.now in
    let read = slice_get_read list (length list) c.in-Some.number x refl ahead.0 c.index-meeting.ensures in
    subst (λ (o : Option ℕ). up_to x.before < up_to o) (sym c.in-Some.is) (ahead-more c.args.a c.args.b c.args.self.now.lasts.items list c.in-Some.number x c.requires.chained ahead
    read c.if-meeting-b.false).1

pub walk-preserved : goal.walk-preserved
walk-preserved c =
    let list : List Meeting = c.args.self.now.list.items in
    let ahead : Ahead c.args.a c.args.b list c.in-Some.number = subst (IsAhead c.args.a c.args.b list) c.in-Some.is c.walk.invariant in
    let x : Meeting = c.index-meeting.result.now in
    let read = slice_get_read list (length list) c.in-Some.number x refl ahead.0 c.index-meeting.ensures in
    (ahead-more c.args.a c.args.b c.args.self.now.lasts.items list c.in-Some.number x c.requires.chained ahead read c.if-meeting-b.false).0

pub returns-then-meeting-b : goal.returns-then-meeting-b
returns-then-meeting-b c =
    let list : List Meeting = c.args.self.now.list.items in
    let ahead : Ahead c.args.a c.args.b list c.in-Some.number = subst (IsAhead c.args.a c.args.b list) c.in-Some.is c.walk.invariant in
    let x : Meeting = c.index-meeting.result.now in
    let read = slice_get_read list (length list) c.in-Some.number x refl ahead.0 c.index-meeting.ensures in
    record { meeting = x; at = read; lesser = ahead.1 x read; greater = c.if-meeting-b.true }

pub returns-in_default : goal.returns-in_default
returns-in_default c = subst (IsAhead c.args.a c.args.b c.args.self.now.list.items) c.in_default.is c.walk.invariant
