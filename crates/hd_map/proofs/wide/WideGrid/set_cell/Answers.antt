use Rattle.std.proofs.Common.{SFits, w64, sym, subst, ◌∙◌, rules}
use Rattle.std.proofs.lemmas.Int.{to_z-of_z}
use Rattle.hd_map.specs.Layouts.{wide_map}
use Rattle.hd_map.specs.Map.{IsMap, IsCellOf}
use Rattle.hd_map.specs.Packing.{as_it_is}
use Rattle.std.proofs.Math.ListN.{length-set}
use Rattle.hd_map.proofs.PackedPoints.{cell_set}
use Rattle.hd_map.proofs.Sets.{cell_kept}
use Rattle.hd_map.proofs.wide.WideGrid.set_cell.Goals as goal

pub invariant_of-self-clause-whole : goal.invariant_of-self-clause-whole
invariant_of-self-clause-whole c =
    let s = c.args.self.now in
    let index = c.index_of-index in
    let packed = c.pack_wide-packed in
    let of_type : IsCellOf s.data_type c.args.cell = search rules in
    let fits : SFits w64 packed.result.number = search rules in
    rw (to_z-of_z w64 _ fits) (subst IsMap (sym (cell_set as_it_is s.size s.data_type s.heights.items s.marks.items s.adjacency s.paired s.whole
    c.args.at index.result index.ensures.value index.ensures.in_map c.index.result.now c.index.ensures packed.result.number packed.result.mark c.args.cell packed.ensures.cell
    (packed.ensures.mask ∙ c.is_masked.ensures))) (cell_kept (wide_map s) c.args.at c.args.cell s.whole of_type))

pub returns-clause-sets : goal.returns-clause-sets
returns-clause-sets c =
    let s = c.args.self.now in
    let index = c.index_of-index in
    let packed = c.pack_wide-packed in
    let fits : SFits w64 packed.result.number = search rules in (
      search rules,
      search rules,
      rw (to_z-of_z w64 _ fits) (cell_set as_it_is s.size s.data_type s.heights.items s.marks.items s.adjacency s.paired s.whole
          c.args.at index.result index.ensures.value index.ensures.in_map c.index.result.now c.index.ensures packed.result.number packed.result.mark c.args.cell packed.ensures.cell
          (packed.ensures.mask ∙ c.is_masked.ensures)),
    )

pub invariant_of-self-clause-paired : goal.invariant_of-self-clause-paired
invariant_of-self-clause-paired c =
    let s = c.args.self.now in
    let k = c.index_of-index.result in
    length-set s.heights.items k _ ∙ s.paired ∙ sym (length-set s.marks.items k c.pack_wide-packed.result.mark)
