use Rattle.std.proofs.Common.{◌+◌, ◌∙◌, ℕ, List, Option, ap, subst, sym}
use Rattle.hd_map.specs.declared.types.Size.{Size}
use Rattle.hd_map.specs.Map.{position_at}
use Rattle.hd_audit.specs.Lines.{line_at}
use Rattle.hd_audit.proofs.PlaceAt.{ArePlacedBefore, place_at-new, AreAllPlaces-all, ArePlacedBefore-more}
use Rattle.hd_audit.proofs.FailedTests.{test-fails, test-holds}
use Rattle.hd_audit.proofs.places.first_not_new.Goals as goal

pub returns-then-not-is_new-clause-rule : goal.returns-then-not-is_new-clause-rule
returns-then-not-is_new-clause-rule g c =
    let m = g.G.Heights.map c.args.surface.now in (
      c.loop-k.k,
      rw c.len-k-end.ensures at c.loop-k-test.true,
      c.loop-k.invariant.new,
      λ new. test-fails c.is_new.result c.if-not-is_new.true (rw c.at-index.ensures at c.is_new.ensures)
          (new.inside, new.present, place_at-new m c.args.lines.now c.loop-k.places c.loop-k.k c.loop-k.invariant new),
      (rw c.at-index.ensures at c.position_named.ensures) ∙ ap (λ (s : Size). position_at s (line_at c.args.lines.now c.loop-k.k).index) c.size-size.ensures,
    )

pub loop-k-preserved : goal.loop-k-preserved
loop-k-preserved g c =
    let m = g.G.Heights.map c.args.surface.now in
    let new = test-holds c.is_new.result c.if-not-is_new.false (rw c.at-index.ensures at c.is_new.ensures) in
    subst (λ (places : List (Option ℕ)). ArePlacedBefore m c.args.lines.now places (c.loop-k.k + 1)) (sym (rw c.at-index.ensures at c.put.ensures))
    (ArePlacedBefore-more m c.args.lines.now c.loop-k.places c.loop-k.k c.loop-k.invariant new.0 new.1 new.2)

pub returns-clause-places : goal.returns-clause-places
returns-clause-places g c = λ e. AreAllPlaces-all (g.G.Heights.map c.args.surface.now) c.args.lines.now c.loop-k.places c.loop-k.k (rw c.len-k-end.ensures at c.loop-k-test.false)
    (rw c.len-k-end.ensures at c.loop-k.auto.k-end) c.loop-k.invariant
