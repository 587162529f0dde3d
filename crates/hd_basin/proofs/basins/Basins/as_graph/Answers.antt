use Rattle.std.proofs.Common.{◌≡◌, sym, ◌∙◌, ap, subst, rules, List}
use Rattle.std.specs.List.{flat_map}
use Rattle.hd_map.specs.declared.types.Pass.{Pass}
use Rattle.hd_map.specs.Rank.{below_by}
use Rattle.hd_graph.specs.declared.graph.Low.{Low}
use Rattle.hd_graph.specs.Graph.{IsGraph}
use Rattle.hd_basin.specs.Graph.{lows_in, passes_in}
use Rattle.hd_basin.specs.Parts.{IsSound}
use Rattle.hd_basin.specs.Reading.{IsGraphOf}
use Rattle.hd_basin.proofs.PoolGraph.{pool-is_graph, pool-graph}
use Rattle.hd_basin.proofs.basins.Basins.as_graph.Goals as goal

pub new-requires : goal.new-requires
new-requires g c =
    let lows : c.in_ok-lows.lows ≡ flat_map lows_in c.args.self.now.parts = search rules in
    let passes : c.in_ok-passes.passes ≡ flat_map (passes_in g.S.Side.NAME c.args.self.now.parts) c.args.self.now.parts = search rules in
    subst (λ (ls : List Low). IsGraph (below_by g.S.Side.NAME) ls c.in_ok-passes.passes) (sym lows)
    (subst (λ (ps : List Pass). IsGraph (below_by g.S.Side.NAME) (flat_map lows_in c.args.self.now.parts) ps) (sym passes)
    (pool-is_graph g.S.Side.NAME c.args.self.now (subst IsSound c.self.view_is c.self.invariant) c.requires))

pub returns : goal.returns
returns g c =
    let lows : c.in_ok-lows.lows ≡ flat_map lows_in c.args.self.now.parts = search rules in
    let passes : c.in_ok-passes.passes ≡ flat_map (passes_in g.S.Side.NAME c.args.self.now.parts) c.args.self.now.parts = search rules in
    let ls : c.new.result.lows ≡ flat_map lows_in c.args.self.now.parts = c.new.ensures.lows ∙ lows in
    let ps : c.new.result.passes ≡ flat_map (passes_in g.S.Side.NAME c.args.self.now.parts) c.args.self.now.parts = c.new.ensures.passes ∙ passes in
    let is : c.new.result ≡ record { lows = flat_map lows_in c.args.self.now.parts; passes = flat_map (passes_in g.S.Side.NAME c.args.self.now.parts) c.args.self.now.parts } =
    ap (λ (v : List Low). record { lows = v; passes = c.new.result.passes }) ls ∙ ap (λ (v : List Pass). record { lows = flat_map lows_in c.args.self.now.parts; passes = v }) ps in
    λ m whole of. subst (IsGraphOf m g.S.Side.NAME c.args.self.now.side) (sym is) (pool-graph m g.S.Side.NAME c.args.self.now of (subst IsSound c.self.view_is c.self.invariant))
