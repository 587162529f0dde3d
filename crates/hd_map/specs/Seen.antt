-- The points of a map that were seen, where the heights are plain numbers of 32 bits.
use Rattle.std.specs.Prelude.{◌≡◌, ◌≤ℤ◌, ℤ, pos, List, length, MatchOption, if◌then◌else◌, is_some}
use Rattle.hd_map.specs.declared.by_rows.Seen.{Seen}
use Rattle.hd_map.specs.Encoding.{narrow}
use Rattle.hd_map.specs.HeightRange.{range_of}

-- the greatest number of 32 bits
abbrev pub greatest_number : ℤ
greatest_number = pos 2147483647

-- the number, or the greatest one where it stands for no height
abbrev pub or_greatest : ℤ → ℤ
or_greatest number = if is_some (narrow.shown number) then number else greatest_number

-- from the number for no height to the greatest one
pub record IsWithin (number : ℤ) : Type 0 where
  pub low : narrow.missing ≤ℤ number
  pub high : number ≤ℤ greatest_number

-- no heights were seen
pub record AreNoneSeen (seen : Seen) : Type 0 where
  pub least : seen.least ≡ greatest_number
  pub greatest : seen.greatest ≡ narrow.missing

-- the points with these heights were seen
pub record AreSeen (heights : List ℤ) (seen : Seen) : Type 0 where
  pub count : seen.count ≡ length heights
  pub range : MatchOption (range_of heights) (AreNoneSeen seen) (λ range. (seen.least ≡ range.least) × (seen.greatest ≡ range.greatest))
  pub least : IsWithin seen.least
  pub greatest : IsWithin seen.greatest
