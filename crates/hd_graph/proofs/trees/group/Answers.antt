use Rattle.std.proofs.Common.{ℕ, ◌+◌, ◌<◌, ◌∙◌, [], length, sym, ap, subst, take, arith}
use Rattle.std.specs.Prelude.{pos}
use Rattle.std.proofs.lemmas.List.{length-map, take_all}
use Rattle.hd_map.specs.Rank.{below_by}
use Rattle.hd_graph.specs.declared.merges.Merge.{Merge}
use Rattle.hd_graph.specs.Parts.{AreGrouped, left_of, right_of, rise_of, rises_of, rise_parts, with_part}
use Rattle.hd_graph.specs.Tells.{joins_of}
use Rattle.hd_graph.proofs.Grouped.{grouped-none}
use Rattle.hd_graph.proofs.MergedTrees.{merges-more}
use Rattle.hd_graph.proofs.trees.group.Goals as goal

pub loop-merge-init : goal.loop-merge-init
loop-merge-init g c = subst (λ js. AreGrouped (below_by g.S.Side.NAME) [] (joins_of js)) (sym c.in_ok-joins.ensures.items) (grouped-none (below_by g.S.Side.NAME) g.met.S.Side.order)

pub loop-merge-preserved : goal.loop-merge-preserved
loop-merge-preserved g c =
    let below = below_by g.S.Side.NAME in
    let lows = c.args.lows.now in
    let merges = c.args.merges.now in
    let d : Merge = record { low = 0; into = 0; at = record { height = pos 0; index = 0 } } in
    let n : ℕ = c.loop-merge.merge-index in
    let inside : n < length merges = omega arith in
    subst (λ js. AreGrouped below (rise_parts (take (n + 1) (rises_of lows merges))) js)
    (sym (c.in_ok-add_merge_parts.ensures ∙ ap (λ x. with_part below (right_of x) (with_part below (left_of x) (joins_of c.loop-merge.joins.items))) c.rise_of.ensures))
    (merges-more below g.met.S.Side.order lows merges c.requires.rising n d inside (joins_of c.loop-merge.joins.items) c.loop-merge.invariant)

pub returns : goal.returns
returns g c =
    let rises = rises_of c.args.lows.now c.args.merges.now in
    let long = length-map c.args.merges.now (rise_of c.args.lows.now) in
    subst (λ xs. AreGrouped (below_by g.S.Side.NAME) (rise_parts xs) (joins_of c.loop-merge.joins.items)) (take_all c.loop-merge.merge-index rises (omega (arith, long))) c.loop-merge.invariant
