use Rattle.std.proofs.Common.{◌+ℤ◌, ◌++◌, ℕ, ℤ, pos, true, List, take, ap, sym, subst, arith, ◌∙◌}
use Rattle.hd_map.specs.declared.mark.Mark.{Mark}
use Rattle.hd_map.specs.Cells.{cells_in}
use Rattle.hd_map.specs.Map.{AreCellsOf}
use Rattle.hd_map.specs.Packing.{kept_cells}
use Rattle.hd_num.specs.Whole.{signed_number}
use Rattle.hd_sdf_read.specs.ShortWords.{height_over}
use Rattle.hd_sdf_read.proofs.ShortWords.{AreData-fit, kept_cells-count}
use Rattle.hd_sdf_read.proofs.short_words.read_batch.Goals as goal

pub extend_packed-requires-clause-of_type : goal.extend_packed-requires-clause-of_type
extend_packed-requires-clause-of_type c =
    let t = c.args.cells.now.data_type in
    let overs : List ℕ = take c.fill-count.result.0 c.fill-count.new.overs in
    let marks : List Mark = take c.fill-count.result.0 c.fill-count.new.marks in
    subst (λ (z : ℤ). AreCellsOf t (kept_cells (λ (over : ℕ). z +ℤ pos over) overs marks)) c.requires.least
    (AreData-fit (signed_number true c.args.below) (pos c.args.greatest) t c.requires.least c.requires.greatest c.args.text.now c.fill-count.result.1.now
    (kept_cells (height_over c.args.below) overs marks) c.fill-count.ensures.cells)

pub returns : goal.returns
returns c =
    let overs : List ℕ = take c.fill-count.result.0 c.fill-count.new.overs in
    let marks : List Mark = take c.fill-count.result.0 c.fill-count.new.marks in
    record {
      more = kept_cells (height_over c.args.below) overs marks;
      reads = c.fill-count.ensures.cells;
      cells = c.in_ok-extend_packed.ensures.ok ∙ ap (λ (z : ℤ). cells_in c.args.cells.now ++ kept_cells (λ (over : ℕ). z +ℤ pos over) overs marks) (sym c.requires.least);
      data_type = c.extend_packed.ensures.data_type;
      count_is = kept_cells-count (height_over c.args.below) c.fill-count.new.overs c.fill-count.new.marks c.fill-count.result.0 (omega arith) (omega arith);
      few = omega (arith, c.fill-count.ensures.count, c.min.ensures);
    }
