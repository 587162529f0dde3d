-- A number for each rank that is less for what is below, on either side.
use Rattle.std.proofs.Common.{◌≡◌, ◌<◌, ◌+◌, ◌*◌, ◌-◌, ℕ, true, ◌⊎◌, inl, inr, ap, refl, arith}
use Rattle.std.specs.Prelude.{ℤ, pos, negsuc, ◌<ℤ◌, ◌≤ℤ◌}
use Rattle.std.proofs.lemmas.Int.{ints}
use Rattle.std.proofs.lemmas.Bool.Decides.{nat_tests}
use Rattle.hd_map.specs.declared.types.Cell.{Cell}
use Rattle.hd_map.specs.declared.types.Cell.TheVariants.{Height, Bad}
use Rattle.hd_map.specs.declared.types.DataType.{DataType}
use Rattle.hd_map.specs.declared.types.Rank.{Rank}
use Rattle.hd_map.specs.declared.types.SideName.{SideName}
use Rattle.hd_map.specs.declared.types.SideName.TheVariants.{Dales, Hills}
use Rattle.hd_map.specs.Map.{Map, IsMap, IsCellOf, cell_at, place_of, height_or_zero}
use Rattle.hd_map.specs.Rank.{IsPoint, comes_before, below_by}
use Rattle.hd_map.proofs.DataTypes.{type_limits}
use Rattle.hd_map.proofs.Points.{place_inside}

-- how far a height is above the least one
abbrev pub raised : ℤ → ℕ
raised (pos n) = n + 9007199254740992
raised (negsuc n) = 9007199254740991 - n

-- how far a height is below the greatest one
abbrev pub sunk : ℤ → ℕ
sunk (pos n) = 9007199254740992 - n
sunk (negsuc n) = 9007199254740993 + n

-- a rank as one number, which is less for what is below
abbrev pub depth_by : SideName → Rank → ℕ
depth_by Dales a = raised a.height * 4194304 + a.index
depth_by Hills a = sunk a.height * 4194304 + (4194303 - a.index)

-- a rank of a map of any size and data type
pub record InLimits (a : Rank) : Type 0 where
  pub low : negsuc 9007199254740991 ≤ℤ a.height
  pub high : a.height ≤ℤ pos 9007199254740992
  pub index : a.index < 4194304

-- of two heights the greater is raised higher
raised_less : (x y : ℤ) → negsuc 9007199254740991 ≤ℤ x → x <ℤ y → raised x < raised y
raised_less (pos a) (pos b) low h = omega (arith, ints)
raised_less (pos a) (negsuc b) low h = omega (arith, ints)
raised_less (negsuc a) (pos b) low h = omega (arith, ints)
raised_less (negsuc a) (negsuc b) low h = omega (arith, ints)

-- of two heights the less is sunk deeper
sunk_less : (x y : ℤ) → y ≤ℤ pos 9007199254740992 → x <ℤ y → sunk y < sunk x
sunk_less (pos a) (pos b) high h = omega (arith, ints)
sunk_less (pos a) (negsuc b) high h = omega (arith, ints)
sunk_less (negsuc a) (pos b) high h = omega (arith, ints)
sunk_less (negsuc a) (negsuc b) high h = omega (arith, ints)

-- what comes before is lower, or as high with a lesser index
before_cases : (a b : Rank) → comes_before a b ≡ true → (a.height <ℤ b.height) ⊎ ((a.height ≡ b.height) × (a.index < b.index))
before_cases a b h = grind (arith, ints, nat_tests)

-- what comes first is less deep on the side of dales, and deeper on that of hills
before_depths : (a b : Rank) → InLimits a → InLimits b → comes_before a b ≡ true → (depth_by Dales a < depth_by Dales b) × (depth_by Hills b < depth_by Hills a)
before_depths a b of of' h = elim (before_cases a b h) [
  | inl less ↦
      let r : raised a.height < raised b.height = raised_less a.height b.height of.low less in
      let s : sunk b.height < sunk a.height = sunk_less a.height b.height of'.high less in
      (omega (arith, r, of.index), omega (arith, s, of'.index))
  | inr same ↦
      let r : raised a.height ≡ raised b.height = ap raised same.0 in
      let s : sunk a.height ≡ sunk b.height = ap sunk same.0 in
      (omega (arith, r, same.1), omega (arith, s, same.1, of'.index))
]

-- the height of a cell of a data type is within the widest limits
cell_limits : (t : DataType) (c : Cell) → IsCellOf t c → (negsuc 9007199254740991 ≤ℤ height_or_zero c) × (height_or_zero c ≤ℤ pos 9007199254740992)
cell_limits t (Height h) of = let limits = type_limits t in let within = of h refl in (omega (arith, ints, limits.0, within.0), omega (arith, ints, limits.2, within.1))
cell_limits t Bad of = (omega (arith, ints), omega (arith, ints))

-- the rank of a point is within the limits
pub point_limits : (m : Map) (a : Rank) → IsMap m → IsPoint m a → InLimits a
point_limits m a whole point =
    let inside = place_inside m.size point.at point.present.in_grid in
    let cell = cell_limits m.data_type (cell_at m point.at) (whole.heights (place_of m.size point.at) (rw whole.cells inside)) in
    rw point.rank_is (record { low = cell.0; high = cell.1; index = omega (arith, inside, whole.size.cells) })

-- of two points the one below is less deep
pub depth_falls : (m : Map) (side : SideName) (a b : Rank) → IsMap m → IsPoint m a → IsPoint m b → below_by side a b ≡ true → depth_by side a < depth_by side b
depth_falls m Dales a b whole point point' h = (before_depths a b (point_limits m a whole point) (point_limits m b whole point') h).0
depth_falls m Hills a b whole point point' h = (before_depths b a (point_limits m b whole point') (point_limits m a whole point) h).1
