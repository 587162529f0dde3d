use Rattle.std.proofs.Common.{List, sym, subst, rules, SFits, w64}
use Rattle.std.proofs.lemmas.Int.{to_z-of_z}
use Rattle.std.specs.Prelude.{IfOk}
use Rattle.hd_graph.specs.declared.graph.Low.{Low}
use Rattle.hd_graph.specs.Merges.{AreMerges}
use Rattle.hd_map.specs.Pruning.{ArePits, SzIs}
use Rattle.hd_map.specs.Rank.{below_by}
use Rattle.hd_map.specs.Saddle.{SaddleIs}
use Rattle.hd_prune.specs.Answer.{IsPruned}
use Rattle.hd_prune.specs.declared.pruning.Pruned.{Pruned}
use Rattle.hd_prune.specs.Staying.{ranks_of}
use Rattle.hd_survey.proofs.pruned.pruned_pits.Goals as goal

pub height_span-requires : goal.height_span-requires
height_span-requires g c = (g.G.Heights.map c.args.grid.now, g.met.G.Heights.whole c.args.grid.now, c.requires.range)

pub prune_by_merges-requires-clause-pits : goal.prune_by_merges-requires-clause-pits
prune_by_merges-requires-clause-pits g c =
    let side = g.S.Side.NAME in
    subst (λ x. ArePits (g.G.Heights.map x) side (ranks_of c.as_slice.result.now)) (sym c.new-falls.ensures)
    (subst (λ (ls : List Low). ArePits (g.G.Heights.map c.args.grid.now) side (ranks_of ls)) (sym c.as_slice.ensures) c.requires.merges.pits)

pub prune_by_merges-requires-clause-merges : goal.prune_by_merges-requires-clause-merges
prune_by_merges-requires-clause-merges g c =
    let side = g.S.Side.NAME in
    subst (λ x. AreMerges (below_by side) (SaddleIs (g.G.Heights.map x) side) c.as_slice.result.now c.as_slice-2.result.now) (sym c.new-falls.ensures)
    (rw (c.as_slice.ensures, c.as_slice-2.ensures) c.requires.merges.merges)

pub prune_by_merges-requires-clause-sz : goal.prune_by_merges-requires-clause-sz
prune_by_merges-requires-clause-sz g c =
    let m = g.G.Heights.map c.args.grid.now in
    let fits : SFits w64 c.height_span.result = search rules in
    rw (to_z-of_z w64 c.height_span.result fits)
    (subst (λ x. SzIs (g.G.Heights.map x) c.height_span.result) (sym c.new-falls.ensures) (c.height_span.ensures m (g.met.G.Heights.whole c.args.grid.now) c.requires.range))

pub returns : goal.returns
returns g c =
    subst (λ grid. IfOk c.prune_by_merges.result (λ (pruned : Pruned). IsPruned (g.G.Heights.map grid) g.S.Side.NAME c.args.percent.thousandths pruned.steps pruned.kept pruned.owners))
    c.new-falls.ensures c.prune_by_merges.ensures.pruned
