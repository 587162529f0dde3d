use Rattle.std.proofs.Common.{◌≡◌, ◌<◌, ◌+◌, ◌∙◌, ℕ, List, length, slice_get, Some, refl, sym, subst, arith}
use Rattle.hd_map.proofs.Places.{get-from_read}
use Rattle.hd_map.specs.Map.{Map}
use Rattle.hd_steep.specs.declared.border.Border.{Border}
use Rattle.hd_steep.specs.Chains.{IsFirstFrom}
use Rattle.hd_steep.specs.Found.{AreFoundOf, AreIndexed}
use Rattle.hd_steep.proofs.Chained.{found-end, found-next, found-start}
use Rattle.hd_steep.proofs.pairs.find_borders.Given.{Over}
use Rattle.hd_steep.proofs.pairs.find_borders.Goals as goal
use Rattle.hd_steep.proofs.pairs.find_borders.Goals.{After-index-index-in-loop-index}

pub loop-index-init : goal.loop-index-init
loop-index-init g c =
    let m : Map = g.G.Heights.map c.args.grid.now in
    let chains = c.requires.chains in
    let k : ℕ = c.index-index.result.now in
    let at : slice_get c.args.chains.now.firsts.items c.args.place ≡ Some k = get-from_read c.args.chains.now.firsts.items c.args.place _ _
    (let long = chains.firsts.long in let inside = c.requires.inside in omega arith) (sym c.index-index.ensures) in
    let first : IsFirstFrom c.args.places.now c.args.place 0 k = chains.firsts.each c.args.place k at in
    record {
      there = first.there;
      found = record {
        borders = subst (λ (ls : List Border). AreFoundOf m g.S.Side.NAME c.args.places.now (λ p. p.from.index < k) c.args.place ls) (sym c.requires.none)
            (found-start m g.S.Side.NAME c.args.places.now c.args.place k first);
        indexed = subst (λ (ls : List Border). AreIndexed c.args.found.now.slots.items ls) (sym c.requires.none) (λ i l at. cc);
      };
      long = refl;
    }

-- the next index
first : (g : Over) (c : After-index-index-in-loop-index g) → IsFirstFrom c.args.places.now c.args.place (c.loop-index.index + 1) c.index-index-in-loop-index.result.now
first g c =
    let chains = c.requires.chains in
    let n : ℕ = c.loop-index.index in
    let inside : n < length c.args.chains.now.nexts.items = (let long = chains.nexts.long in let less = c.loop-index-test.true in omega arith) in
    let at : slice_get c.args.chains.now.nexts.items n ≡ Some c.index-index-in-loop-index.result.now = get-from_read c.args.chains.now.nexts.items n _ _ inside
    (sym c.index-index-in-loop-index.ensures) in
    chains.nexts.each n c.args.place c.index-index-in-loop-index.result.now (omega arith) (c.loop-index.invariant.there c.loop-index-test.true) at

pub loop-index-smaller : goal.loop-index-smaller
loop-index-smaller g c = (let from = (first g (goal.at.loop-index-smaller g c).After-index-index-in-loop-index).from in let less = c.loop-index-test.true in omega arith)

pub loop-index-preserved : goal.loop-index-preserved
loop-index-preserved g c =
    let next = first g (goal.at.loop-index-preserved g c).After-index-index-in-loop-index in
    record {
      there = next.there;
      found = record {
        borders = found-next (g.G.Heights.map c.args.grid.now) g.S.Side.NAME c.args.places.now c.args.place
            (c.loop-index.index + 1) c.index-index-in-loop-index.result.now next c.note_point.new.found.borders.items
            c.in_ok-note_point.ensures.found.borders;
        indexed = c.in_ok-note_point.ensures.found.indexed;
      };
      long = c.in_ok-note_point.ensures.long ∙ c.loop-index.invariant.long;
    }

pub returns-clause-found : goal.returns-clause-found
returns-clause-found g c = record {
  borders = found-end (g.G.Heights.map c.args.grid.now) g.S.Side.NAME c.args.places.now c.args.place c.loop-index.index c.loop-index-test.false c.loop-index.found.borders.items
      c.loop-index.invariant.found.borders;
  indexed = c.loop-index.invariant.found.indexed;
}
