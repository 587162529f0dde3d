use Rattle.std.proofs.Common.{Bool, List}
use Rattle.hd_map.specs.declared.types.Rank.{Rank}
use Rattle.hd_map.specs.ChangeTree.{IsTree, Joining}
use Rattle.hd_map.specs.Rank.{below_by}
use Rattle.hd_graph.specs.declared.line.Stop.{Stop}
use Rattle.hd_graph.specs.declared.graph.Low.{Low}
use Rattle.hd_graph.specs.declared.merges.Merge.{Merge}
use Rattle.hd_graph.specs.Parts.{AreGrouped, rise_parts, rises_of}
use Rattle.hd_graph.specs.Tells.{AreMergesOn, IsPitOn, IsSaddleOn, SaddleOnIs, joins_of}
use Rattle.hd_graph.proofs.LineSaddles.{OnePlace}
use Rattle.hd_graph.proofs.MapTrees.{tree-of_line, tree-of_map}
use Rattle.hd_graph.proofs.MergedTrees.{two-lows}
use Rattle.hd_map.proofs.Places.{one_place}
use Rattle.hd_graph.proofs.trees.tree.Given.{Over}
use Rattle.hd_graph.proofs.trees.tree.Goals as goal

pub group-requires-clause-each : goal.group-requires-clause-each
group-requires-clause-each g c =
    let below : Rank → Rank → Bool = below_by g.S.Side.NAME in
    rw (c.as_slice.ensures, c.as_slice-2.ensures) (two-lows below (SaddleOnIs below c.args.line.now) c.in_ok-pits.field-0.pits c.in_ok-pits.field-0.merges c.in_ok-pits.ensures.of_line.at_saddles)

pub group-requires-clause-rising : goal.group-requires-clause-rising
group-requires-clause-rising g c = rw c.as_slice-2.ensures c.in_ok-pits.ensures.of_line.at_saddles.rising

on_line : (g : Over) (c : goal.After-drop-pits-inside-2 g) → IsTree (below_by g.S.Side.NAME) (IsSaddleOn (below_by g.S.Side.NAME) c.args.line.now) (IsPitOn c.args.line.now)
    (joins_of c.from_vec.result)
on_line g c =
    let below : Rank → Rank → Bool = below_by g.S.Side.NAME in
    let line : List Stop = c.args.line.now in
    let lows : List Low = c.in_ok-pits.field-0.pits in
    let merges : List Merge = c.in_ok-pits.field-0.merges in
    let are : AreMergesOn below line lows merges = c.in_ok-pits.ensures.of_line in
    let once : OnePlace line = one_place (λ (z : Stop). z.low) line are.once in
    let joins : List Joining = joins_of c.in_ok-joins.joins.items in
    let grouped : AreGrouped below (rise_parts (rises_of lows merges)) joins = rw (c.as_slice.ensures, c.as_slice-2.ensures) at c.in_ok-joins.ensures in
    rw c.from_vec.ensures (tree-of_line below g.met.S.Side.order line once lows merges are joins grouped)

pub returns-clause-of_line : goal.returns-clause-of_line
returns-clause-of_line g c = on_line g c

pub returns-clause-of_map : goal.returns-clause-of_map
returns-clause-of_map g c = λ m told.
    let once : OnePlace c.args.line.now = one_place (λ (z : Stop). z.low) c.args.line.now c.in_ok-pits.ensures.of_line.once in
    tree-of_map m g.S.Side.NAME c.args.line.now once told (joins_of c.from_vec.result) (on_line g c)
