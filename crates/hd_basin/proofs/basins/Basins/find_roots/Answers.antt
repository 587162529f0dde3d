use Rattle.std.proofs.Common.{◌≡◌, ◌≢◌, ◌∙◌, List, ap, arith, length, subst, sym}
use Rattle.std.specs.Prelude.{AllPairs, Contains}
use Rattle.std.proofs.lemmas.List.{take_all}
use Rattle.hd_basin.specs.declared.node.Node.{Node}
use Rattle.hd_basin.specs.declared.part.Part.{Part}
use Rattle.hd_basin.specs.Known.{AreKnownTo}
use Rattle.hd_basin.specs.Parts.{Pool}
use Rattle.hd_basin.specs.Placed.{AreNumberedPits}
use Rattle.hd_basin.specs.Roots.{all_nodes}
use Rattle.hd_basin.proofs.AreKnown.{all-apart, all-small, known-first, roots-known}
use Rattle.hd_basin.proofs.basins.Basins.find_roots.Goals as goal

pub number_pits-requires-clause-apart : goal.number_pits-requires-clause-apart
number_pits-requires-clause-apart g c =
    subst (λ (p : Pool). AllPairs (λ (n : Node) (u : Node). n.low.index ≢ u.low.index) (all_nodes p.parts)) (sym c.self.view_is) (all-apart g.S.Side.NAME c.args.self.now c.requires)

pub number_pits-requires-clause-few : goal.number_pits-requires-clause-few
number_pits-requires-clause-few g c = λ n at. all-small g.S.Side.NAME c.args.self.now c.requires n (subst (λ (p : Pool). Contains (all_nodes p.parts) n) c.self.view_is at)

pub tiles-init : goal.tiles-init
tiles-init g c = (
  known-first g.S.Side.NAME c.args.self.now c.in_ok-roots.roots (subst (λ (p : Pool). AreNumberedPits p.parts c.in_ok-roots.roots) c.self.view_is c.in_ok-roots.ensures),
  λ place below. absurd (omega arith),
)

pub returns : goal.returns
returns g c =
    let parts = c.args.self.now.parts in
    let count : c.count-tiles.result ≡ length parts = c.count-tiles.ensures ∙ ap (λ (p : Pool). length p.parts) c.self.view_is in
    let past = c.tiles-test.false in
    roots-known g.S.Side.NAME c.args.self.now c.tiles.roots c.tiles.invariant.0
    (subst (λ (ps : List Part). AreKnownTo c.tiles.roots.numbers (length (all_nodes ps))) (take_all c.tiles.tile parts (omega (arith, count, past))) c.tiles.invariant.1)
