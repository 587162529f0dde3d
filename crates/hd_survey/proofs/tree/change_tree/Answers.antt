use Rattle.std.proofs.lemmas.Result.{IfOk-weaker}
use Rattle.hd_graph.specs.Tells.{AreMergesOf}
use Rattle.hd_survey.proofs.Inside.{joins_inside}
use Rattle.hd_survey.proofs.MapMerges.{merges_of_map}
use Rattle.hd_survey.proofs.tree.change_tree.Goals as goal

pub returns-clause-tree : goal.returns-clause-tree
returns-clause-tree g c =
    let m = g.G.Heights.map c.args.grid.now in
    let side = g.S.Side.NAME in
    let x = c.merges.result.now in
    let are : AreMergesOf m side c.as_slice.result.now c.as_slice-2.result.now = rw (c.as_slice.ensures, c.as_slice-2.ensures)
    (merges_of_map m side x (c.find_merges.ensures.findings.merges x c.merges.ensures)) in
    IfOk-weaker c.tree_of_merges.result _ _ (λ tree is. is m (g.met.G.Heights.whole c.args.grid.now) are) c.tree_of_merges.ensures

pub returns-clause-inside : goal.returns-clause-inside
returns-clause-inside g c =
    let m = g.G.Heights.map c.args.grid.now in
    let side = g.S.Side.NAME in
    let x = c.merges.result.now in
    let are : AreMergesOf m side c.as_slice.result.now c.as_slice-2.result.now = rw (c.as_slice.ensures, c.as_slice-2.ensures)
    (merges_of_map m side x (c.find_merges.ensures.findings.merges x c.merges.ensures)) in
    IfOk-weaker c.tree_of_merges.result _ _ (λ tree is. joins_inside m side tree.joins (is m (g.met.G.Heights.whole c.args.grid.now) are)) c.tree_of_merges.ensures

pub tree_of_merges-requires : goal.tree_of_merges-requires
tree_of_merges-requires g c =
    let m = g.G.Heights.map c.args.grid.now in
    let x = c.merges.result.now in
    (m, rw (c.as_slice.ensures, c.as_slice-2.ensures) (merges_of_map m g.S.Side.NAME x (c.find_merges.ensures.findings.merges x c.merges.ensures)))
