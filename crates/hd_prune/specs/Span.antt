-- Heights of some data type, and how far they are apart.
use Rattle.std.specs.Prelude.{◌≤ℤ◌, ◌^◌, ℕ, ℤ, pos, negsuc}
use Rattle.hd_map.specs.declared.height_range.HeightRange.{HeightRange}

-- a height of some data type
pub record IsHeight (h : ℤ) : Type 0 where
  pub least : negsuc 9007199254740991 ≤ℤ h
  pub greatest : h ≤ℤ pos 9007199254740992

-- how far two heights are apart at most
abbrev pub farthest_apart : ℕ
farthest_apart = 2 ^ 54

-- both ends of a range are heights
pub record IsHeightRange (range : HeightRange) : Type 0 where
  pub least : IsHeight range.least
  pub greatest : IsHeight range.greatest
