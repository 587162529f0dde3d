use Rattle.std.proofs.Common.{◌≡◌, ◌*◌, None, ap, replicate, rules, subst, arith, length}
use Rattle.hd_map.specs.Map.{cell_count}
use Rattle.hd_stats.specs.Volumes.{AreReached}
use Rattle.hd_stats.proofs.AreReached.{AreReached-none}
use Rattle.hd_stats.proofs.volumes.reached_below.Goals as goal

pub kept-init : goal.kept-init
kept-init g c =
    let m = g.G.Heights.map c.args.grid.now in
    let count : c.size-size.result.profiles * c.size-size.result.points ≡ cell_count m.size = ap cell_count c.size-size.ensures in
    let blank : c.in_ok-reached.reached.items ≡ replicate (c.size-size.result.profiles * c.size-size.result.points) None = search rules in
    rw (blank, count) (AreReached-none m g.S.Side.NAME c.args.kept.now)

pub returns : goal.returns
returns g c =
    let m = g.G.Heights.map c.args.grid.now in
    let all : c.kept.number ≡ length c.args.kept.now = omega (arith, c.kept-test.false) in
    subst (λ n. AreReached m g.S.Side.NAME c.args.kept.now n c.kept.reached.items) all c.kept.invariant
