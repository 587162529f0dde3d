use Rattle.std.proofs.Common.{sym, subst, ◌∙◌, rules}
use Rattle.hd_map.specs.Layouts.{narrow_map}
use Rattle.hd_map.specs.Map.{IsMap}
use Rattle.hd_map.specs.Packing.{over_least}
use Rattle.std.proofs.Math.ListN.{length-set}
use Rattle.hd_map.proofs.PackedPoints.{mask_set}
use Rattle.hd_map.proofs.Sets.{mask_kept}
use Rattle.hd_map.proofs.narrow.NarrowGrid.set_mask.Goals as goal

pub invariant_of-self-clause-whole : goal.invariant_of-self-clause-whole
invariant_of-self-clause-whole c =
    let s = c.args.self.now in
    let index = c.index_of-index in
    subst IsMap (sym (mask_set (over_least s.data_type) s.size s.data_type s.heights.items s.marks.items s.adjacency s.paired s.whole
    c.args.at index.result index.ensures.value index.ensures.in_map c.index.result.now c.index.ensures c.of.result c.args.masked
    (c.of.ensures.measured ∙ c.is_measured.ensures) c.of.ensures.masked)) (mask_kept (narrow_map s) c.args.at c.args.masked s.whole)

pub returns-clause-sets : goal.returns-clause-sets
returns-clause-sets c =
    let s = c.args.self.now in
    let index = c.index_of-index in (
      search rules,
      mask_set (over_least s.data_type) s.size s.data_type s.heights.items s.marks.items s.adjacency s.paired s.whole
          c.args.at index.result index.ensures.value index.ensures.in_map c.index.result.now c.index.ensures c.of.result c.args.masked
          (c.of.ensures.measured ∙ c.is_measured.ensures) c.of.ensures.masked,
    )

pub invariant_of-self-clause-paired : goal.invariant_of-self-clause-paired
invariant_of-self-clause-paired c =
    let s = c.args.self.now in
    s.paired ∙ sym (length-set s.marks.items c.index_of-index.result c.of.result)
