use Rattle.std.proofs.Common.{◌++◌, ℕ, List, sym, ap, ap₂, ◌∙◌}
use Rattle.hd_map.specs.Cells.{cells_in}
use Rattle.hd_map.specs.declared.types.Cell.{Cell}
use Rattle.hd_map.specs.declared.types.DataType.{DataType}
use Rattle.hd_sdf_read.specs.Bodies.{decimal_in, whole_in}
use Rattle.hd_sdf_read.specs.Scaling.{data_of}
use Rattle.hd_sdf_read.proofs.Bodies.{whole_in-first}
use Rattle.hd_sdf_read.proofs.DecimalCuts.{surveyed-decimal_in}
use Rattle.hd_sdf_read.proofs.part_body.new_body.Goals as goal

pub returns : goal.returns
returns c = λ more.
    whole_in-first c.args.size c.args.data_type more (sym c.has_decimals.ensures ∙ c.if-has_decimals.false)
    ∙ ap₂ (λ (t : DataType) (cs : List Cell). whole_in c.args.size t cs more) (sym c.in_ok-cells.ensures.data_type) (sym c.in_ok-cells.ensures.none)
    ∙ ap (λ (t : List ℕ). whole_in c.args.size c.in_ok-cells.cells.data_type (cells_in c.in_ok-cells.cells) (t ++ more)) (sym c.new-2.ensures)

pub returns-then-has_decimals : goal.returns-then-has_decimals
returns-then-has_decimals c = λ more.
    surveyed-decimal_in c.args.size c.args.data_type c.in_ok-scaled.scaled more (sym c.has_decimals.ensures ∙ c.if-has_decimals.true) c.in_ok-scaled.ensures
    ∙ ap (λ (t : List ℕ). decimal_in c.args.size c.args.data_type (data_of c.in_ok-scaled.scaled) (t ++ more)) (sym c.new.ensures)
