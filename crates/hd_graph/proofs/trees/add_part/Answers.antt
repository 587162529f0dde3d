use Rattle.std.proofs.Common.{◌≡◌, true, false, refl}
use Rattle.std.proofs.lemmas.Result.{on_ok_weaker}
use Rattle.hd_map.specs.Rank.{below_by}
use Rattle.hd_graph.proofs.WithPart.{part-grows, part-adds}
use Rattle.hd_graph.proofs.trees.add_part.Goals as goal

pub returns-then-not-below : goal.returns-then-not-below
returns-then-not-below g c =
    let h : (below_by g.S.Side.NAME) c.in-Some.last.saddle c.args.part.saddle ≡ false = (let e = c.below.ensures in let f = c.if-not-below.true in cc) in
    part-grows (below_by g.S.Side.NAME) c.args.part c.args.joins.now.items c.pop.new.self.items c.push.new.self.items c.in-Some.last
    (record { saddle = c.in-Some.last.saddle; parts = c.in_ok-parts.parts }) c.in-Some.ensures.items c.in_ok-push.ensures.items refl c.in_ok-parts.ensures h

pub returns-in-Some : goal.returns-in-Some
returns-in-Some g c =
    let h : (below_by g.S.Side.NAME) c.in-Some.last.saddle c.args.part.saddle ≡ true = (let e = c.below.ensures in let f = c.if-not-below.false in cc) in
    on_ok_weaker c.add_join.result (λ adds. part-adds (below_by g.S.Side.NAME) c.args.part c.args.joins.now.items c.pop.new.self.items c.push-in-Some.new.self.items
    c.add_join.new.joins.items c.in-Some.last
    c.in-Some.ensures.items c.in_ok-push-2.ensures.items adds h) c.add_join.ensures
