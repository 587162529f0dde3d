use Rattle.std.proofs.Common.{◌≡◌, ◌++◌, ◌∙◌, rules}
use Rattle.hd_map.specs.Packing.{over_least}
use Rattle.hd_map.proofs.PackedPoints.{cells_append, cut_back, of_type_append, paired_append, unmasked_append}
use Rattle.hd_map.proofs.cells.Cells.extend_packed.Goals as goal

pub invariant_of-self : goal.invariant_of-self
invariant_of-self c =
    let s = c.args.self.now in
    let same = c.in_err-extend_from_slice.ensures.items in
    record { is_least = s.is_least; narrow = s.narrow; paired = rw same s.paired; unmasked = s.unmasked; of_type = rw same s.of_type }

pub invariant_of-self-then-is_err : goal.invariant_of-self-then-is_err
invariant_of-self-then-is_err c =
    let s = c.args.self.now in
    let same = cut_back s.heights.items c.args.overs.now c.truncate.new.self.items c.len-count.result (c.len-count.ensures ∙ s.heights.ok.0)
    (rw c.in_ok-extend_from_slice.ensures.items at c.truncate.ensures.items) in
    let same_marks : c.extend_from_slice-2.new.self.items ≡ s.marks.items = search rules in
    record { is_least = s.is_least; narrow = s.narrow; paired = rw (same, same_marks) s.paired; unmasked = rw same_marks s.unmasked; of_type = rw (same, same_marks) s.of_type }

pub invariant_of-self-else-is_err : goal.invariant_of-self-else-is_err
invariant_of-self-else-is_err c =
    let s = c.args.self.now in
    let added : c.extend_from_slice-2.new.self.items ≡ s.marks.items ++ c.args.marks.now = search rules in
    record {
      is_least = s.is_least;
      narrow = s.narrow;
      paired = rw (c.in_ok-extend_from_slice.ensures.items, added) (paired_append (over_least s.data_type) s.heights.items c.args.overs.now s.marks.items c.args.marks.now s.paired c.requires.paired);
      unmasked = rw added (unmasked_append s.marks.items c.args.marks.now s.unmasked c.requires.unmasked);
      of_type = rw (c.in_ok-extend_from_slice.ensures.items, added) (of_type_append
          (over_least s.data_type) s.heights.items c.args.overs.now s.marks.items c.args.marks.now s.paired c.requires.paired s.data_type s.of_type c.requires.of_type);
    }

pub returns-clause-ok : goal.returns-clause-ok
returns-clause-ok c =
    let s = c.args.self.now in
    let added : c.extend_from_slice-2.new.self.items ≡ s.marks.items ++ c.args.marks.now = search rules in
    rw (c.in_ok-extend_from_slice.ensures.items, added) (cells_append (over_least s.data_type) s.heights.items c.args.overs.now s.marks.items c.args.marks.now s.paired c.requires.paired)
