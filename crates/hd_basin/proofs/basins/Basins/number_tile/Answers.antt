use Rattle.std.proofs.Common.{◌≡◌, ◌+◌, ◌∙◌, Some, ap, arith, slice_get, sym}
use Rattle.hd_basin.specs.Parts.{Pool}
use Rattle.hd_basin.specs.Roots.{nodes_before}
use Rattle.hd_basin.proofs.AreKnown.{known-more}
use Rattle.hd_basin.proofs.Spotted.{before-more, named-of}
use Rattle.hd_basin.proofs.basins.Basins.number_tile.Goals as goal

pub number_node-requires-clause-spot : goal.number_node-requires-clause-spot
number_node-requires-clause-spot g c =
    let pool = c.args.self.now in
    let part = c.part.result in
    let at : slice_get pool.parts c.args.tile ≡ Some part = ap (λ (p : Pool). slice_get p.parts c.args.tile) (sym c.self.view_is) ∙ c.part.ensures in
    let count = c.count-count.ensures in
    let less = c.numbers-test.true in
    named-of pool.parts c.args.tile c.numbers.number part at (omega (arith, count, less))

pub numbers-preserved : goal.numbers-preserved
numbers-preserved g c = (
  c.in_ok-number_node.ensures.known,
  λ place below. known-more c.numbers.roots.numbers c.number_node.new.roots.numbers
      (nodes_before c.args.self.now.parts c.args.tile + c.numbers.number) c.numbers.invariant.1 c.in_ok-number_node.ensures.kept c.in_ok-number_node.ensures.numbered place (omega (arith, below)),
)

pub returns-clause-through : goal.returns-clause-through
returns-clause-through g c =
    let pool = c.args.self.now in
    let part = c.part.result in
    let at : slice_get pool.parts c.args.tile ≡ Some part = ap (λ (p : Pool). slice_get p.parts c.args.tile) (sym c.self.view_is) ∙ c.part.ensures in
    let count = c.count-count.ensures in
    let past = c.numbers-test.false in
    let more = before-more pool.parts c.args.tile part at in
    λ place below. c.numbers.invariant.1 place (omega (arith, count, past, more, below))
