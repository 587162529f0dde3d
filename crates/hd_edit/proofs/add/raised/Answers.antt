use Rattle.std.proofs.Common.{◌≡◌, Option, Result, Ok, Err, subst, sym, rules, w64, SFits}
use Rattle.std.specs.Prelude.{IfSome, IsErrAnd, MatchResult}
use Rattle.std.proofs.lemmas.Int.{to_z-of_z}
use Rattle.hd_morph.specs.declared.errors.MorphError.{MorphError}
use Rattle.hd_morph.specs.declared.new_heights.OldAndNew.{OldAndNew}
use Rattle.hd_morph.specs.Rectangle.{AreRaisedLists}
use Rattle.hd_edit.specs.declared.edit.EditError.{EditError}
use Rattle.hd_edit.specs.declared.stroke.Stroke.TheVariants as stroke
use Rattle.hd_edit.specs.Board.{IsRefusalBy}
use Rattle.hd_edit.specs.Filtered.{map_after, refusal_of}
use Rattle.hd_edit.specs.Stroke.{IsStroked}
use Rattle.hd_edit.proofs.RaisedStrokes.{IsRefusalBy-raise, IsStroked-raised, AreNewFor-raised}
use Rattle.hd_edit.proofs.add.raised.Goals as goal

-- a refusal that is passed on
passed_on : {X : Type 0} (P : X → Type 0) (Q : EditError → Type 0) (r : Result X EditError) (e : MorphError) → IsErrAnd r (λ error. error ≡ refusal_of e) → Q (refusal_of e) → MatchResult r P Q
passed_on P Q (Ok x) e is q = absurd is
passed_on P Q (Err error) e is q = subst Q (sym is) q

pub returns-in_err-lists-clause-edit : goal.returns-in_err-lists-clause-edit
returns-in_err-lists-clause-edit g c =
    let m = g.G.Heights.map c.args.grid.now in
    let delta = c.in-Raise.delta in
    let fits : SFits w64 delta = search rules in
    let refused = IsRefusalBy-raise m (g.met.G.Heights.whole c.args.grid.now) c.args.from c.args.to delta c.requires.accepted c.in_err-lists.field-0.0
    (rw (to_z-of_z w64 delta fits) at c.in_err-lists.ensures) in
    rw c.in-Raise.is
    (passed_on (λ (found : Option OldAndNew). IfSome found (λ (lists : OldAndNew). IsStroked m c.args.from c.args.to (stroke.Raise delta) (Ok (map_after m lists))))
    (IsRefusalBy (IsStroked m c.args.from c.args.to (stroke.Raise delta))) c.from_residual.result c.in_err-lists.field-0.0 c.from_residual.ensures.1 refused)

pub returns-in-Some-clause-edit : goal.returns-in-Some-clause-edit
returns-in-Some-clause-edit g c =
    let m = g.G.Heights.map c.args.grid.now in
    let lists = c.in-Some.lists in
    let fits : SFits w64 c.in-Raise.delta = search rules in
    let are : AreRaisedLists m c.args.from c.args.to c.in-Raise.delta lists.before.items lists.after.items = rw (c.in-Some.is, to_z-of_z w64 c.in-Raise.delta fits) at c.in_ok-lists.ensures in
    rw c.in-Raise.is (IsStroked-raised m (g.met.G.Heights.whole c.args.grid.now) c.args.from c.args.to c.in-Raise.delta lists.before.items lists.after.items are c.requires.accepted)

pub returns-in-Some-clause-heights : goal.returns-in-Some-clause-heights
returns-in-Some-clause-heights g c =
    let m = g.G.Heights.map c.args.grid.now in
    let lists = c.in-Some.lists in
    let fits : SFits w64 c.in-Raise.delta = search rules in
    let are : AreRaisedLists m c.args.from c.args.to c.in-Raise.delta lists.before.items lists.after.items = rw (c.in-Some.is, to_z-of_z w64 c.in-Raise.delta fits) at c.in_ok-lists.ensures in
    AreNewFor-raised m (g.met.G.Heights.whole c.args.grid.now) c.args.from c.args.to c.in-Raise.delta lists.before.items lists.after.items are
