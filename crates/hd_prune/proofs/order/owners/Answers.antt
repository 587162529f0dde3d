use Rattle.std.proofs.Common.{arith, false}
use Rattle.std.proofs.lemmas.Grind.{common_steps}
use Rattle.std.specs.Prelude.{pos}
use Rattle.hd_graph.specs.declared.graph.Low.{Low}
use Rattle.hd_prune.proofs.InOrder.{owned-more}
use Rattle.hd_prune.proofs.LowRanks.{rank-Contains}
use Rattle.hd_prune.proofs.order.owners.Goals as goal

pub owner_of-requires-clause-pit : goal.owner_of-requires-clause-pit
owner_of-requires-clause-pit g c = c.requires.pits _ (rank-Contains c.args.lows.now c.loop-low.low-index c.loop-low-test.true)

pub owner_of-requires-clause-linked : goal.owner_of-requires-clause-linked
owner_of-requires-clause-linked g c = (c.requires.linked.0, c.loop-low.invariant.kept c.requires.linked.0 c.requires.linked.1)

pub loop-low-preserved : goal.loop-low-preserved
loop-low-preserved g c =
    let d : Low = record { rank = record { height = pos 0; index = 0 }; pit = false } in
    record {
      owned = λ owner l. owned-more owner c.args.lows.now c.loop-low.low-index d c.in_ok-owner.owner c.loop-low.owners c.push.new.self _
          c.loop-low-test.true c.in_ok-push.ensures.ok (c.in_ok-owner.ensures.owner owner (c.loop-low.invariant.kept owner l)) (c.loop-low.invariant.owned owner l);
      kept = λ owner l. c.in_ok-owner.ensures.kept owner (c.loop-low.invariant.kept owner l);
    }

pub returns : goal.returns
returns g c = grind (arith, common_steps)
