-- The heights of the data types.
use Rattle.std.proofs.Common.{◌≡◌, ◌<◌, ◌≤◌, ◌≤ℤ◌, ◌<ℤ◌, ◌+ℤ◌, ◌∙◌, ℕ, ℤ, pos, arith}
use Rattle.std.specs.Prelude.{negsuc, FitsSigned}
use mir.Syntax.{w64}
use mir.Val.{of_z, to_z}
use Rattle.std.proofs.lemmas.Int.{ints, to_z-of_z}
use Rattle.hd_map.specs.declared.types.DataType.{DataType}
use Rattle.hd_map.specs.declared.types.DataType.TheVariants.{U8, U16, U32, I8, I16, I32, Single, Double}
use Rattle.hd_map.specs.Map.{IsNarrow, four_bytes, least_height, greatest_height, most_places, places_of}
use Rattle.hd_map.specs.Packing.{over_least}

-- the heights of each data type are within the widest limits
pub type_limits : (t : DataType) → (negsuc 9007199254740991 ≤ℤ least_height t) × (least_height t ≤ℤ pos 0) × (greatest_height t ≤ℤ pos 9007199254740992)
type_limits U8 = (omega (arith, ints), omega (arith, ints), omega (arith, ints))
type_limits U16 = (omega (arith, ints), omega (arith, ints), omega (arith, ints))
type_limits U32 = (omega (arith, ints), omega (arith, ints), omega (arith, ints))
type_limits I8 = (omega (arith, ints), omega (arith, ints), omega (arith, ints))
type_limits I16 = (omega (arith, ints), omega (arith, ints), omega (arith, ints))
type_limits I32 = (omega (arith, ints), omega (arith, ints), omega (arith, ints))
type_limits (Single places) = (omega (arith, ints), omega (arith, ints), omega (arith, ints))
type_limits (Double places) = (omega (arith, ints), omega (arith, ints), omega (arith, ints))

-- the heights of a type that four bytes hold have few places, since they have none
pub narrow_places : (t : DataType) → IsNarrow t → places_of t ≤ most_places
narrow_places U8 narrow = omega arith
narrow_places U16 narrow = omega arith
narrow_places U32 narrow = omega arith
narrow_places I8 narrow = omega arith
narrow_places I16 narrow = omega arith
narrow_places I32 narrow = omega arith
narrow_places (Single places) narrow = absurd (omega (arith, ints, narrow))
narrow_places (Double places) narrow = absurd (omega (arith, ints, narrow))

-- each height of a type that four bytes hold is less than 2 ^ 32 over the least one
pub in_four_bytes : (t : DataType) (h : ℤ) → IsNarrow t → h ≤ℤ greatest_height t → h <ℤ (least_height t +ℤ pos 4294967296)
in_four_bytes t h narrow below = omega (arith, ints, below, narrow)

-- each height of a type is kept in 64 bits
pub in_64_bits : (t : DataType) (h : ℤ) → (least_height t ≤ℤ h) × (h ≤ℤ greatest_height t) → FitsSigned w64 h
in_64_bits t h within =
    let limits = type_limits t in
    let low = within.0 in
    let high = within.1 in
    omega (arith, ints, limits.0, limits.2, low, high)

-- the least height of a type is read from 64 bits as it is
pub least_read : (t : DataType) (least : ℤ) → least ≡ least_height t → to_z w64 (of_z w64 least) ≡ least_height t
least_read t least is =
    let limits = type_limits t in
    to_z-of_z w64 least (omega (arith, ints, limits.0, limits.1, is)) ∙ is

-- a height is read in 64 bits from how far it is over the least one
pub over_read : (t : DataType) (least : ℤ) (over : ℕ) → least ≡ least_height t → over < four_bytes → to_z w64 (of_z w64 (to_z w64 (of_z w64 least) +ℤ to_z w64 over)) ≡ over_least t over
over_read t least over is few =
    let limits = type_limits t in
    let read = least_read t least is in
    omega (arith, ints, limits.0, limits.1, read, few)
