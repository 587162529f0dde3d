use Rattle.std.proofs.Common.{◌++◌, ◌∷◌, [], ap, arith, ◌∙◌}
use Rattle.hd_map.specs.Cells.{wide_cells_in}
use Rattle.hd_map.specs.declared.types.Cell.{Cell}
use Rattle.hd_map.specs.declared.types.Cell.TheVariants.{Height}
use Rattle.hd_num.specs.Whole.{signed_number}
use Rattle.hd_sdf_read.specs.declared.scaled.Datum.TheVariants.{Measured, Unmeasured}
use Rattle.hd_sdf_read.proofs.Scaling.{ranged-not_pushed, ranged-not_refined, IsScaled-pushed, IsRefined-same}
use Rattle.hd_sdf_read.proofs.scaled.Scaled.push.Goals as goal

pub returns-then-not-refine : goal.returns-then-not-refine
returns-then-not-refine c = rw c.in-Measured.is (λ t before kept number _.
    ranged-not_refined before (Measured c.in-Measured.negative c.in-Measured.units c.in-Measured.places) c.args.number (c.if-not-refine.ensures.heights t before kept) number)

pub returns-in_ok-push_cell-in-Unmeasured : goal.returns-in_ok-push_cell-in-Unmeasured
returns-in_ok-push_cell-in-Unmeasured c = rw c.in-Unmeasured.is (λ t before kept.
    IsScaled-pushed c.args.self.now c.push_cell.new.self t before Unmeasured (IsRefined-same c.args.self.now t before 0 kept (omega arith))
    c.in_ok-push_cell-in-Unmeasured.ensures.ok c.push_cell.ensures.places c.push_cell.ensures.data_type)

pub returns-in_ok-push_cell-in-Some : goal.returns-in_ok-push_cell-in-Some
returns-in_ok-push_cell-in-Some c = rw c.in-Measured.is (λ t before kept.
    let s = c.refine.new.self in
    let cell = c.height_of.ensures ∙ ap (λ n. Height (signed_number c.in-Measured.negative n)) c.in-Some.ensures.0 in
    IsScaled-pushed s c.push_cell-in-Some.new.self t before (Measured c.in-Measured.negative c.in-Measured.units c.in-Measured.places) (c.if-not-refine.ensures.heights t before kept)
    (c.in_ok-push_cell-in-Some.ensures.ok ∙ ap (λ (x : Cell). wide_cells_in s.cells ++ x ∷ []) cell) c.push_cell-in-Some.ensures.places c.push_cell-in-Some.ensures.data_type)

pub returns-in-None : goal.returns-in-None
returns-in-None c = rw c.in-Measured.is (λ t before kept number _.
    ranged-not_pushed c.refine.new.self t before (Measured c.in-Measured.negative c.in-Measured.units c.in-Measured.places) c.args.number
    (c.if-not-refine.ensures.heights t before kept) c.in-None.ensures number)
