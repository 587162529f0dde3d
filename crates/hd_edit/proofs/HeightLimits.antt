-- The heights of the data types.
use Rattle.std.proofs.Common.{◌≡◌, ◌≤ℤ◌, ℤ, pos, arith}
use Rattle.std.specs.Prelude.{negsuc}
use Rattle.std.proofs.lemmas.Int.{ints}
use Rattle.hd_map.specs.declared.types.Cell.{Cell}
use Rattle.hd_map.specs.declared.types.Cell.TheVariants.{Height}
use Rattle.hd_map.specs.declared.types.DataType.{DataType}
use Rattle.hd_map.specs.Map.{IsCellOf, least_height}
use Rattle.hd_map.proofs.DataTypes.{type_limits}

-- a height of a data type is not below its least one, and both are within the widest limits
pub IsCellOf-limits : (t : DataType) (c : Cell) (z : ℤ) → IsCellOf t c → c ≡ Height z → (negsuc 9007199254740991 ≤ℤ least_height t) × (least_height t ≤ℤ z) × (z ≤ℤ pos 9007199254740992)
IsCellOf-limits t c z of is =
    let within = of z is in
    let limits = type_limits t in
    (limits.0, within.0, omega (arith, ints, within.1, limits.2))
