use Rattle.std.proofs.Common.{◌≡◌, ◌∙◌, ap, arith}
use Rattle.std.proofs.lemmas.Int.{ints}
use Rattle.hd_map.specs.declared.types.Cell.TheVariants.{Height}
use Rattle.hd_edit.specs.Change.{height_over}
use Rattle.hd_edit.proofs.HeightLimits.{IsCellOf-limits}
use Rattle.hd_edit.proofs.change.was_of.Goals as goal

pub overflow_sub-over : goal.overflow_sub-over
overflow_sub-over c = let limits = IsCellOf-limits c.args.data_type c.args.cell c.in-Height.height c.requires c.in-Height.is in omega (arith, ints, limits.0, limits.1, limits.2)

pub overflow_cast-over : goal.overflow_cast-over
overflow_cast-over c =
    let limits = IsCellOf-limits c.args.data_type c.args.cell c.in-Height.height c.requires c.in-Height.is in
    (omega (arith, ints, limits.0, limits.1, limits.2), omega (arith, ints, limits.0, limits.1, limits.2))

pub new-requires : goal.new-requires
new-requires c = let limits = IsCellOf-limits c.args.data_type c.args.cell c.in-Height.height c.requires c.in-Height.is in omega (arith, ints, limits.0, limits.1, limits.2)

pub returns-in-Height : goal.returns-in-Height
returns-in-Height c =
    let limits = IsCellOf-limits c.args.data_type c.args.cell c.in-Height.height c.requires c.in-Height.is in
    let same : c.in-Height.height ≡ height_over c.args.data_type c.new.result = omega (arith, ints, limits.0, limits.1, limits.2, c.new.ensures) in
    c.in-Height.is ∙ ap Height same
