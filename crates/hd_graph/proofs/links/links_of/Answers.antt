use Rattle.std.proofs.Common.{◌≡◌, arith, get_or, slice_get, Some}
use Rattle.std.specs.Prelude.{pos}
use Rattle.std.proofs.lemmas.List.Elements.{All-push}
use Rattle.hd_map.specs.declared.types.Pass.{Pass}
use Rattle.hd_map.specs.declared.types.Rank.{Rank}
use Rattle.hd_map.specs.declared.types.Link.{Link}
use Rattle.hd_graph.specs.Links.{HasEnds}
use Rattle.hd_graph.proofs.NumberedLinks.{number-within, link-of, links-more}
use Rattle.std.proofs.lemmas.Grind.{common_steps}
use Rattle.hd_graph.proofs.links.links_of.Goals as goal

pub number_of-a-requires : goal.number_of-a-requires
number_of-a-requires c = rw c.deref.ensures.value (number-within c.args.lows.now c.requires.different c.in_ok-numbers.numbers.items c.in_ok-numbers.ensures _
    (c.requires.joins c.loop-pass.pass-index _ c.loop-pass-test.true).0)

pub number_of-b-requires : goal.number_of-b-requires
number_of-b-requires c = rw c.deref-in-loop-pass.ensures.value (number-within c.args.lows.now c.requires.different c.in_ok-numbers.numbers.items c.in_ok-numbers.ensures _
    (c.requires.joins c.loop-pass.pass-index _ c.loop-pass-test.true).1)

pub loop-pass-preserved : goal.loop-pass-preserved
loop-pass-preserved c =
    let low : Rank = record { height = pos 0; index = 0 } in
    let none : Pass = record { a = low; b = low; at = low } in
    let p : Pass = get_or c.args.passes.now c.loop-pass.pass-index none in
    let at_a : slice_get c.in_ok-numbers.numbers.items p.a.index ≡ Some c.number_of-a.result = rw c.deref.ensures.value at c.number_of-a.ensures in
    let at_b : slice_get c.in_ok-numbers.numbers.items p.b.index ≡ Some c.number_of-b.result = rw c.deref-in-loop-pass.ensures.value at c.number_of-b.ensures in
    let joins = c.requires.joins c.loop-pass.pass-index none c.loop-pass-test.true in
    let l : Link = record { a = c.number_of-a.result; b = c.number_of-b.result; at = p.at } in
    let is = link-of c.args.lows.now c.requires.different c.in_ok-numbers.numbers.items c.in_ok-numbers.ensures p joins.0 joins.1 c.number_of-a.result c.number_of-b.result at_a at_b in
    record {
      passes = rw c.in_ok-push.ensures.items (links-more c.args.lows.now c.args.passes.now c.loop-pass.pass-index none c.loop-pass-test.true c.loop-pass.links.items l is.0
          c.loop-pass.invariant.passes);
      within = rw c.in_ok-push.ensures.items (All-push (HasEnds _) c.loop-pass.links.items l c.loop-pass.invariant.within is.1);
      long = (let long = c.in_ok-push.ensures.len in let was = c.loop-pass.invariant.long in omega (arith, long, was, c.push.new.self.ok.0, c.loop-pass.links.ok.0));
    }

pub returns-clause-passes : goal.returns-clause-passes
returns-clause-passes c = grind (arith, common_steps)
