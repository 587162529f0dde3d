use Rattle.std.proofs.Common.{◌∙◌, All, length, sym, ap, subst, arith}
use Rattle.std.proofs.lemmas.List.{length_push}
use Rattle.hd_edit.specs.Change.{IsChange, before_changes}
use Rattle.hd_edit.proofs.Changes.{before_changes-push, IsChange-still}
use Rattle.hd_edit.proofs.HeightNotes.{All-before}
use Rattle.hd_edit.proofs.change.put_changes_back.Goals as goal

pub loop-change-preserved : goal.loop-change-preserved
loop-change-preserved g c =
    let m = g.G.Heights.map c.loop-change.grid in
    let left = c.pop.new.self in
    record {
      map = ap (before_changes left) c.put_was.ensures.map ∙ sym (before_changes-push left c.in-Some.change m) ∙ ap (λ cs. before_changes cs m) (sym c.in-Some.ensures) ∙ c.loop-change.invariant.map;
      each = IsChange-still m (g.G.Heights.map c.put_was.new.grid) c.in-Some.change.was c.in-Some.change.index left c.put_was.ensures.map
          (All-before (IsChange m) left c.in-Some.change (subst (All (IsChange m)) c.in-Some.ensures c.loop-change.invariant.each));
      origin = g.met.G.Grid.onward c.args.grid.now c.loop-change.grid c.put_was.new.grid c.loop-change.invariant.origin c.put_was.ensures.origin;
      rises = omega (arith, c.loop-change.invariant.rises, c.put_was.ensures.count.0);
      few = (let long = length_push left c.in-Some.change in let one = ap (λ cs. length cs) c.in-Some.ensures in omega (arith, c.loop-change.invariant.few, c.put_was.ensures.count.1, long, one));
    }
