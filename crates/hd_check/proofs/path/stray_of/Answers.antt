use Rattle.std.proofs.Common.{length, rules, arith}
use Rattle.hd_map.specs.Neighbour.{Neighbour}
use Rattle.hd_check.specs.Rules.{point_of}
use Rattle.hd_check.proofs.ConsecutivePairs.{consecutive_pairs-more, consecutive_pairs-stop}
use Rattle.hd_check.proofs.path.stray_of.Goals as goal

pub loop-k-preserved : goal.loop-k-preserved
loop-k-preserved g c =
    consecutive_pairs-more (Neighbour (g.G.Heights.map c.args.surface.now)) (point_of c.args.path.now) c.loop-k.k c.loop-k.auto.k c.loop-k.invariant (search rules)

pub returns-then-not-are_neighbours : goal.returns-then-not-are_neighbours
returns-then-not-are_neighbours g c =
    consecutive_pairs-stop (Neighbour (g.G.Heights.map c.args.surface.now)) (point_of c.args.path.now) c.loop-k.k c.loop-k.auto.k c.loop-k.invariant
    (length c.args.path.now) c.loop-k-test.true (search rules)

pub returns : goal.returns
returns g c = λ i below. c.loop-k.invariant i (omega (arith, below, c.loop-k-test.false))
