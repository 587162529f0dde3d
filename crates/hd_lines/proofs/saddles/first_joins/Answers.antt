use Rattle.std.proofs.Common.{List, sym, subst}
use Rattle.std.specs.List.Sorted.{IsPermutation}
use Rattle.std.proofs.lemmas.Result.{IfOk-weaker}
use Rattle.hd_map.specs.Rank.{below_by}
use Rattle.hd_lines.specs.declared.saddles.NumberedBorder.{NumberedBorder}
use Rattle.hd_lines.proofs.NumberedBorders.{HasEnds-within, AreFirstJoins-from_marked, AreNumberedBorders-within, AreNumberedBorders-one_number}
use Rattle.hd_lines.proofs.saddles.first_joins.Given.{Over}
use Rattle.hd_lines.proofs.saddles.first_joins.Goals as goal
use Rattle.hd_lines.proofs.saddles.first_joins.Goals.{After-deref}

-- the numbered borders as they are read
same : (g : Over) (c : After-deref g) → IsPermutation c.in_ok-numbered_borders.field-0.items c.deref.result.now
same g c = subst (λ (xs : List NumberedBorder). IsPermutation c.in_ok-numbered_borders.field-0.items xs) (sym c.deref.ensures.value) c.sorted-numbered.ensures.same

pub mark_firsts-requires-clause-within : goal.mark_firsts-requires-clause-within
mark_firsts-requires-clause-within g c = HasEnds-within (below_by g.S.Side.NAME) g.met.S.Side.order c.args.borders.now c.in_ok-numbered_borders.field-0.items c.deref.result.now
    c.in_ok-numbered_borders.ensures
    (same g (goal.at.mark_firsts-requires-clause-within g c).After-deref) c.args.count c.requires.within

pub mark_firsts-requires-clause-numbered : goal.mark_firsts-requires-clause-numbered
mark_firsts-requires-clause-numbered g c = AreNumberedBorders-within (below_by g.S.Side.NAME) g.met.S.Side.order c.args.borders.now c.in_ok-numbered_borders.field-0.items
    c.deref.result.now c.in_ok-numbered_borders.ensures
    (same g (goal.at.mark_firsts-requires-clause-numbered g c).After-deref)

pub mark_firsts-requires-clause-one : goal.mark_firsts-requires-clause-one
mark_firsts-requires-clause-one g c = AreNumberedBorders-one_number (below_by g.S.Side.NAME) g.met.S.Side.order c.args.borders.now c.in_ok-numbered_borders.field-0.items
    c.deref.result.now c.in_ok-numbered_borders.ensures
    (same g (goal.at.mark_firsts-requires-clause-one g c).After-deref)

pub returns : goal.returns
returns g c = IfOk-weaker c.mark_firsts.result _ _
    (λ firsts marked. AreFirstJoins-from_marked (below_by g.S.Side.NAME) g.met.S.Side.order c.args.borders.now c.in_ok-numbered_borders.field-0.items c.deref.result.now
    c.in_ok-numbered_borders.ensures
    (same g (goal.at.returns g c).After-deref) firsts.items marked)
    c.mark_firsts.ensures
