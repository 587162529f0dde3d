use Rattle.std.proofs.Common.{sym, subst, ◌∙◌, rules}
use Rattle.hd_map.specs.Layouts.{narrow_map}
use Rattle.hd_map.specs.Map.{IsMap, IsCellOf}
use Rattle.hd_map.specs.Packing.{over_least}
use Rattle.std.proofs.Math.ListN.{length-set}
use Rattle.hd_map.proofs.PackedPoints.{cell_set}
use Rattle.hd_map.proofs.Sets.{cell_kept}
use Rattle.hd_map.proofs.narrow.NarrowGrid.set_cell.Goals as goal

pub invariant_of-self-clause-whole : goal.invariant_of-self-clause-whole
invariant_of-self-clause-whole c =
    let s = c.args.self.now in
    let index = c.index_of-index in
    let packed = c.pack_narrow-packed in
    let of_type : IsCellOf s.data_type c.args.cell = search rules in
    subst IsMap (sym (cell_set (over_least s.data_type) s.size s.data_type s.heights.items s.marks.items s.adjacency s.paired s.whole
    c.args.at index.result index.ensures.value index.ensures.in_map c.index.result.now c.index.ensures packed.result.number packed.result.mark c.args.cell packed.ensures.cell
    (packed.ensures.mask ∙ c.is_masked.ensures))) (cell_kept (narrow_map s) c.args.at c.args.cell s.whole of_type)

pub returns-clause-sets : goal.returns-clause-sets
returns-clause-sets c =
    let s = c.args.self.now in
    let index = c.index_of-index in
    let packed = c.pack_narrow-packed in (
      search rules,
      search rules,
      cell_set (over_least s.data_type) s.size s.data_type s.heights.items s.marks.items s.adjacency s.paired s.whole
          c.args.at index.result index.ensures.value index.ensures.in_map c.index.result.now c.index.ensures packed.result.number packed.result.mark c.args.cell packed.ensures.cell
          (packed.ensures.mask ∙ c.is_masked.ensures),
    )

pub invariant_of-self-clause-paired : goal.invariant_of-self-clause-paired
invariant_of-self-clause-paired c =
    let s = c.args.self.now in
    let k = c.index_of-index.result in
    length-set s.heights.items k c.pack_narrow-packed.result.number ∙ s.paired ∙ sym (length-set s.marks.items k c.pack_narrow-packed.result.mark)
