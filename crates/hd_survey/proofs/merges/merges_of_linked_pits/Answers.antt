use Rattle.std.proofs.Common.{◌≢◌, ◌∙◌, List, ap, arith, length, map, subst, sym}
use Rattle.std.specs.Prelude.{All, AllPairs}
use Rattle.hd_graph.specs.declared.graph.Low.{Low}
use Rattle.hd_map.specs.declared.types.Link.{Link}
use Rattle.hd_graph.specs.Links.{HasEnds, pass_of}
use Rattle.hd_graph.specs.Merges.{AreMerges}
use Rattle.hd_graph.specs.Walks.{LeastHighestIs}
use Rattle.hd_map.specs.declared.types.Rank.{Rank}
use Rattle.hd_map.specs.Pruning.{ArePits}
use Rattle.hd_map.specs.Rank.{below_by}
use Rattle.hd_map.specs.Saddle.{SaddleIs}
use Rattle.hd_prune.specs.Staying.{ranks_of}
use Rattle.hd_steep.specs.Crossings.{passes_of}
use Rattle.hd_survey.specs.PitLinks.{low_of}
use Rattle.hd_survey.proofs.MapPits.{lows_apart, lows_pits, lows_ranks}
use Rattle.hd_survey.proofs.PitLinks.{links-inside, links-passes}
use Rattle.hd_survey.proofs.merges.merges_of_linked_pits.Goals as goal

pub merges_by_links-requires-clause-different : goal.merges_by_links-requires-clause-different
merges_by_links-requires-clause-different g c =
    subst (AllPairs (λ (x : Low) (y : Low). x.rank.index ≢ y.rank.index)) (sym (c.as_slice.ensures ∙ c.requires.are_lows))
    (lows_apart (g.G.Heights.map c.args._grid.now) g.S.Side.NAME c.requires.pits c.requires.are_pits)

pub merges_by_links-requires-clause-within : goal.merges_by_links-requires-clause-within
merges_by_links-requires-clause-within g c =
    subst (λ (ls : List Low). All (HasEnds (length ls)) c.args.links.items) (sym (c.as_slice.ensures ∙ c.requires.are_lows))
    (links-inside g.S.Side.NAME c.requires.pits c.args.links.items c.requires.ends)

pub merges_by_links-requires-clause-few : goal.merges_by_links-requires-clause-few
merges_by_links-requires-clause-few g c =
    let m = g.G.Heights.map c.args._grid.now in
    let side = g.S.Side.NAME in
    let pits : List Rank = c.requires.pits in
    let roots = c.requires.crossings.0 in
    let regions = c.requires.crossings.1 in
    let lows : List Low = map low_of pits in
    let laws = c.regions_are_basins.ensures in
    let graph = c.passes_of_basins_are_a_graph.ensures m side roots lows (passes_of side pits c.args.links.items) (g.met.G.Heights.whole c.args._grid.now)
    (laws.basins m side roots regions) c.requires.crossings.2 (laws.lows m side roots lows regions (lows_pits m side pits c.requires.are_pits)) (lows_apart m side pits c.requires.are_pits) in
    let few = graph.few in
    let long = ap length (c.as_slice.ensures ∙ c.requires.are_lows) in
    omega (arith, few, long)

pub returns : goal.returns
returns g c =
    let m = g.G.Heights.map c.args._grid.now in
    let side = g.S.Side.NAME in
    let pits : List Rank = c.requires.pits in
    let roots = c.requires.crossings.0 in
    let regions = c.requires.crossings.1 in
    let xs : List Link = c.args.links.items in
    let lows : List Low = map low_of pits in
    let passes = passes_of side pits xs in
    let laws = c.regions_are_basins.ensures in
    let same = c.requires.are_lows in
    let made : AreMerges (below_by side) (LeastHighestIs (below_by side) (map (pass_of lows) xs)) lows c.in_ok-merges.merges =
    subst (λ (ls : List Low). AreMerges (below_by side) (LeastHighestIs (below_by side) (map (pass_of ls) xs)) ls c.in_ok-merges.merges) (c.as_slice.ensures ∙ same) c.in_ok-merges.ensures in
    record {
      roots = roots;
      regions = regions;
      pits = subst (ArePits m side) (sym (ap ranks_of same ∙ lows_ranks m side pits c.requires.are_pits)) c.requires.are_pits;
      merges = subst (λ (ls : List Low). AreMerges (below_by side) (SaddleIs m side) ls c.in_ok-merges.merges) (sym same)
          (c.merges_tell_the_saddles.ensures m side roots lows passes c.in_ok-merges.merges (laws.basins m side roots regions) c.requires.crossings.2
          (laws.lows m side roots lows regions (lows_pits m side pits c.requires.are_pits))
          (c.merges_rest_on_the_passes.ensures (below_by side) lows (map (pass_of lows) xs) passes c.in_ok-merges.merges g.met.S.Side.order (links-passes side pits xs c.requires.ends) made));
    }
