use Rattle.std.proofs.Common.{List, sym, subst, rules, SFits, w64}
use Rattle.std.proofs.lemmas.Int.{to_z-of_z}
use Rattle.hd_graph.specs.declared.graph.Low.{Low}
use Rattle.hd_graph.specs.declared.merges.Merge.{Merge}
use Rattle.hd_graph.specs.Merges.{AreMerges}
use Rattle.hd_map.specs.Pruning.{ArePits, SzIs}
use Rattle.hd_map.specs.Rank.{below_by}
use Rattle.hd_map.specs.Saddle.{SaddleIs}
use Rattle.hd_prune.specs.Staying.{AreKeptAlone, ranks_of}
use Rattle.hd_survey.proofs.FeaturePoints.{kept_inside}
use Rattle.hd_survey.proofs.kept.keep_pits.Goals as goal

pub returns-clause-pits : goal.returns-clause-pits
returns-clause-pits g c =
    let m = g.G.Heights.map c.args._grid.now in
    let side = g.S.Side.NAME in
    let whole = g.met.G.Heights.whole c.args._grid.now in
    let found = c.requires.merges in
    let pits : ArePits m side (ranks_of c.as_slice.result.now) = subst (λ (ls : List Low). ArePits m side (ranks_of ls)) (sym c.as_slice.ensures) found.pits in
    let merges : AreMerges (below_by side) (SaddleIs m side) c.as_slice.result.now c.as_slice-2.result.now =
    subst (λ (ls : List Low). AreMerges (below_by side) (SaddleIs m side) ls c.as_slice-2.result.now) (sym c.as_slice.ensures)
    (subst (λ (xs : List Merge). AreMerges (below_by side) (SaddleIs m side) c.args.merges.now.lows xs) (sym c.as_slice-2.ensures) found.merges) in
    let fits : SFits w64 c.height_span.result = search rules in
    let sz : SzIs m c.height_span.result = c.height_span.ensures m whole c.requires.range in
    let alone : AreKeptAlone m side c.args.percent.thousandths c.in_ok-pits.pits = c.in_ok-pits.ensures m whole pits (rw (to_z-of_z w64 c.height_span.result fits) sz) merges in
    record {
      roots = found.roots;
      regions = found.regions;
      alone = alone;
      inside = kept_inside m side c.args.percent.thousandths whole alone.steps alone.last alone.owner alone.pruning c.in_ok-pits.pits alone.are_kept;
    }
