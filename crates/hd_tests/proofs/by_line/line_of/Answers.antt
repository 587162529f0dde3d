use Rattle.std.proofs.Common.{List, Option, ℕ, map, sym, subst}
use Rattle.hd_map.specs.declared.types.Rank.{Rank}
use Rattle.hd_map.specs.Map.{Map}
use Rattle.hd_map.specs.Rank.{below_by}
use Rattle.hd_map.specs.Surface.{map_of}
use Rattle.hd_map.specs.SurfaceLaws.{surface-whole}
use Rattle.hd_graph.specs.declared.graph.Low.{Low}
use Rattle.hd_graph.specs.Graph.{IsGraph}
use Rattle.hd_graph.specs.Line.{IsFloodLine}
use Rattle.hd_survey.specs.PitLinks.{low_of}
use Rattle.hd_survey.proofs.MapPits.{lows_apart, lows_pits}
use Rattle.hd_tests.proofs.by_line.line_of.Goals as goal

pub new-graph-requires : goal.new-graph-requires
new-graph-requires g c =
    let m : Map = map_of c.args.surface.now in
    let side = g.S.Side.NAME in
    let roots : List (Option ℕ) = c.args.labels.now in
    let pits : List Rank = c.args.pits.now in
    let lows : List Low = map low_of pits in
    let laws = c.regions_are_basins.ensures in
    let crossings = c.passes_are_crossings.ensures m side roots c.expect-passes.result (rw c.expect-passes.ensures at c.passes.ensures.passes) in
    subst (λ (xs : List Low). IsGraph (below_by side) xs c.expect-passes.result) (sym (rw c.expect-lows.ensures at c.lows_of.ensures))
    (c.passes_of_basins_are_a_graph.ensures m side roots lows c.expect-passes.result (surface-whole c.args.surface.now) (laws.basins m side roots c.requires.labels) crossings
    (laws.lows m side roots lows c.requires.labels (lows_pits m side pits c.requires.pits)) (lows_apart m side pits c.requires.pits))

pub returns : goal.returns
returns g c =
    let m : Map = map_of c.args.surface.now in
    let side = g.S.Side.NAME in
    let roots : List (Option ℕ) = c.args.labels.now in
    let pits : List Rank = c.args.pits.now in
    let lows : List Low = map low_of pits in
    let laws = c.regions_are_basins.ensures in
    let crossings = c.passes_are_crossings.ensures m side roots c.expect-passes.result (rw c.expect-passes.ensures at c.passes.ensures.passes) in
    let flooded : IsFloodLine (below_by side) c.new-graph.result.lows c.new-graph.result.passes c.expect.result = rw c.expect.ensures at c.flood.ensures in
    c.flood_line_tells_the_saddles.ensures m side roots lows c.expect-passes.result c.expect.result (laws.basins m side roots c.requires.labels) crossings
    (laws.lows m side roots lows c.requires.labels (lows_pits m side pits c.requires.pits))
    (subst (λ ls. IsFloodLine (below_by side) ls c.expect-passes.result c.expect.result) (rw c.expect-lows.ensures at c.lows_of.ensures)
    (subst (λ ls. IsFloodLine (below_by side) ls c.expect-passes.result c.expect.result) c.new-graph.ensures.lows
    (subst (λ ps. IsFloodLine (below_by side) c.new-graph.result.lows ps c.expect.result) c.new-graph.ensures.passes flooded)))
