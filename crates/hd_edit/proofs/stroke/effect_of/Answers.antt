use Rattle.std.proofs.Common.{ℤ, ◌+ℤ◌, FitsSigned, w64, refl, arith, rules}
use Rattle.std.proofs.lemmas.Int.{ints, to_z-of_z}
use Rattle.hd_map.specs.declared.types.Cell.TheVariants.{Height}
use Rattle.hd_map.specs.declared.types.DataType.{DataType}
use Rattle.hd_map.specs.Map.{IsCellOf}
use Rattle.hd_edit.proofs.HeightLimits.{IsCellOf-limits}
use Rattle.hd_edit.proofs.stroke.effect_of.Goals as goal

-- a height of a data type fits 64 bits
fits_long : (t : DataType) (z : ℤ) → IsCellOf t (Height z) → FitsSigned w64 z
fits_long t z is = let limits = IsCellOf-limits t (Height z) z is refl in omega (arith, ints, limits.0, limits.1, limits.2)

pub returns-in-None : goal.returns-in-None
returns-in-None c =
    let height : FitsSigned w64 c.in-Height.height = search rules in
    let delta : FitsSigned w64 c.in-Raise.delta = search rules in
    rw (c.in-Raise.is, c.in-Height.is, c.if-not-masked.true) (λ is. (simp to_z-of_z at c.in-None.ensures) (fits_long c.args.data_type (c.in-Height.height +ℤ c.in-Raise.delta) is))
