use Rattle.std.proofs.Common.{◌∙◌, List, subst}
use Rattle.hd_map.specs.declared.mark.Mark.{Mark}
use Rattle.hd_map.specs.Packing.{over_least}
use Rattle.hd_map.specs.UnmaskedMarks.{AreUnmasked}
use Rattle.hd_map.proofs.PackedPoints.{unmasked_map, unmasked_paired, unmasked_whole}
use Rattle.hd_map.proofs.narrow.Narrow.without_masks.Goals as goal

pub invariant_of-result-clause-paired : goal.invariant_of-result-clause-paired
invariant_of-result-clause-paired c =
    let s = c.args.self.now in
    unmasked_paired (over_least s.data_type) s.size s.data_type s.heights.items c.in_ok-heights.heights.items s.marks.items s.adjacency s.whole
    (c.in_ok-heights.ensures.items ∙ c.as_slice.ensures.value) c.in_ok-marks.marks.items
    (subst (λ (ms : List Mark). AreUnmasked ms c.in_ok-marks.marks.items) c.as_slice-2.ensures.value c.in_ok-marks.ensures) s.paired

pub invariant_of-result-clause-whole : goal.invariant_of-result-clause-whole
invariant_of-result-clause-whole c =
    let s = c.args.self.now in
    unmasked_whole (over_least s.data_type) s.size s.data_type s.heights.items c.in_ok-heights.heights.items s.marks.items s.adjacency s.whole
    (c.in_ok-heights.ensures.items ∙ c.as_slice.ensures.value) c.in_ok-marks.marks.items
    (subst (λ (ms : List Mark). AreUnmasked ms c.in_ok-marks.marks.items) c.as_slice-2.ensures.value c.in_ok-marks.ensures)

pub returns : goal.returns
returns c =
    let s = c.args.self.now in
    unmasked_map (over_least s.data_type) s.size s.data_type s.heights.items c.in_ok-heights.heights.items s.marks.items s.adjacency s.whole
    (c.in_ok-heights.ensures.items ∙ c.as_slice.ensures.value) c.in_ok-marks.marks.items
    (subst (λ (ms : List Mark). AreUnmasked ms c.in_ok-marks.marks.items) c.as_slice-2.ensures.value c.in_ok-marks.ensures)
