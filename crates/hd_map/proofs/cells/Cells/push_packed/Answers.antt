use Rattle.std.proofs.Common.{◌≡◌, ◌∷◌, ◌++◌, [], ap, ◌∙◌, ◌+◌, rules}
use Rattle.hd_map.specs.Packing.{over_least}
use Rattle.hd_map.proofs.PackedPoints.{cells_push, of_type_push, paired_push, popped, unmasked_push}
use Rattle.hd_map.proofs.cells.Cells.push_packed.Goals as goal

pub invariant_of-self : goal.invariant_of-self
invariant_of-self c =
    let s = c.args.self.now in
    let same = c.in_err-push.ensures.items in
    record { is_least = s.is_least; narrow = s.narrow; paired = rw same s.paired; unmasked = s.unmasked; of_type = rw same s.of_type }

pub invariant_of-self-then-is_err : goal.invariant_of-self-then-is_err
invariant_of-self-then-is_err c =
    let s = c.args.self.now in
    let count = c.in_ok-push.ensures.len ∙ ap (λ n. n + 1) s.heights.ok.0 in
    let same = popped s.heights.items c.pop.new.self.items c.args.over c.push.new.self.len count (rw c.in_ok-push.ensures.items at c.pop.ensures.rest) in
    let same_marks : c.push-2.new.self.items ≡ s.marks.items = search rules in
    record { is_least = s.is_least; narrow = s.narrow; paired = rw (same, same_marks) s.paired; unmasked = rw same_marks s.unmasked; of_type = rw (same, same_marks) s.of_type }

pub invariant_of-self-else-is_err : goal.invariant_of-self-else-is_err
invariant_of-self-else-is_err c =
    let s = c.args.self.now in
    let pushed : c.push-2.new.self.items ≡ s.marks.items ++ c.args.mark ∷ [] = search rules in
    record {
      is_least = s.is_least;
      narrow = s.narrow;
      paired = rw (c.in_ok-push.ensures.items, pushed) (paired_push (over_least s.data_type) s.heights.items s.marks.items s.paired c.args.over c.args.mark);
      unmasked = rw pushed (unmasked_push s.marks.items c.args.mark s.unmasked c.requires.unmasked);
      of_type = rw (c.in_ok-push.ensures.items, pushed) (of_type_push (over_least s.data_type) s.heights.items s.marks.items s.paired c.args.over c.args.mark s.data_type s.of_type c.requires.of_type);
    }

pub returns-clause-ok : goal.returns-clause-ok
returns-clause-ok c =
    let s = c.args.self.now in
    let pushed : c.push-2.new.self.items ≡ s.marks.items ++ c.args.mark ∷ [] = search rules in
    rw (c.in_ok-push.ensures.items, pushed) (cells_push (over_least s.data_type) s.heights.items s.marks.items s.paired c.args.over c.args.mark)
