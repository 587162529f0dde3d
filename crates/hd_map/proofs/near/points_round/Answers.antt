use Rattle.std.proofs.Common.{arith, ◌∙◌}
use Rattle.hd_map.proofs.Gather.{gathered_push, gathered_none, gathered_apart, gathered_centre, gathered_all}
use Rattle.hd_map.proofs.near.points_round.Goals as goal
use Rattle.hd_map.proofs.near.points_round.Goals.{then-step-ne4+in-Some+then-are_beside, then-step-ne4+in-Some+else-are_beside, then-step-ne4+in_default, else-step-ne4}

pub loop-step-preserved : goal.loop-step-preserved
loop-step-preserved g c =
    let m = g.G.Heights.map c.args.grid.now in
    let at = c.args.at in
    let step = c.loop-step.step in
    let found = c.loop-step.found.items in
    let below = c.loop-step-test.true in
    elim c.if-step-ne4.branch [
      | then-step-ne4+in-Some+then-are_beside w ↦ rw w.found-is (record {
        gathered = rw w.push_reserved.ensures.items (gathered_push m at w.in-Some.q step found c.requires w.if-step-ne4.true below w.in-Some.ensures.0 w.in-Some.ensures.1 w.in-Some.ensures.2
            (rw c.adjacency-adjacency.ensures at w.are_beside.ensures.0 w.if-are_beside.true) c.loop-step.invariant.gathered);
        capacity = w.push_reserved.ensures.capacity ∙ c.loop-step.invariant.capacity;
      })
      | then-step-ne4+in-Some+else-are_beside w ↦ rw w.found-is (record {
        gathered = gathered_apart m at w.in-Some.q step found below w.in-Some.ensures.0 w.in-Some.ensures.1
            (λ beside. (let is = w.are_beside.ensures.1 (rw (← c.adjacency-adjacency.ensures) at beside) in let not = w.if-are_beside.false in cc)) c.loop-step.invariant.gathered;
        capacity = c.loop-step.invariant.capacity;
      })
      | then-step-ne4+in_default w ↦ rw w.found-is (record {
        gathered = gathered_none m at step found below w.in_default.ensures c.loop-step.invariant.gathered;
        capacity = c.loop-step.invariant.capacity;
      })
      | else-step-ne4 w ↦ rw w.found-is (record {
        gathered = gathered_centre m at step found w.if-step-ne4.false c.loop-step.invariant.gathered;
        capacity = c.loop-step.invariant.capacity;
      })
    ]

pub returns-clause-all : goal.returns-clause-all
returns-clause-all g c = gathered_all (g.G.Heights.map c.args.grid.now) c.args.at c.loop-step.step c.loop-step.found.items (omega arith) c.loop-step.invariant.gathered
