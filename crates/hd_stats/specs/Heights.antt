-- The height parameters of the present points of a map.
use Rattle.std.specs.Prelude.{◌≡◌, ◌<◌, ◌*◌, ◌*ℤ◌, ◌-ℤ◌, neg_ℤ, ℕ, ℤ, pos, int_le, unsigned_abs, List, [], length, count_by, sum_by, Option, MatchOption}
use Rattle.hd_num.specs.declared.frac.Frac.{Frac}
use Rattle.hd_num.specs.Frac.{IsFraction}
use Rattle.hd_map.specs.Map.{Map}
use Rattle.hd_map.specs.Presence.{present_heights}
use Rattle.hd_feature.specs.Value.{greatest, least, total}
use Rattle.hd_stats.specs.declared.name.HeightName.{HeightName}
use Rattle.hd_stats.specs.declared.name.HeightName.TheVariants.{Sp, Sv, Sa, Smr}

-- so many times the height less the mean of the heights, as there are heights
abbrev pub deviation : List ℤ → ℤ → ℤ
deviation heights h = h *ℤ pos (length heights) -ℤ total heights

-- the sum of the absolute values of these
abbrev pub deviations : List ℤ → ℕ
deviations heights = sum_by (λ h. unsigned_abs (deviation heights h)) heights

-- how many heights are at least c
abbrev pub at_least : ℤ → List ℤ → ℕ
at_least c heights = count_by (λ h. int_le c h) heights

-- a height parameter of some heights is this over: for Sp the greatest height less the mean, for Sv the mean less the
-- least height, for Sa the mean absolute value of the heights less the mean, and for Smr the part at least as high as c
abbrev pub over : HeightName → List ℤ → ℤ
over Sp heights = deviation heights (greatest heights)
over Sv heights = neg_ℤ (deviation heights (least heights))
over Sa heights = pos (deviations heights)
over (Smr c) heights = pos (at_least c heights)

-- that
abbrev pub under : HeightName → List ℤ → ℕ
under Sa heights = length heights * length heights
under name heights = length heights

-- the fraction is the height parameter of some heights
pub record IsHeightParameter (name : HeightName) (heights : List ℤ) (f : Frac) : Type 0 where
  pub some : 0 < length heights
  pub fraction : IsFraction (over name heights) (under name heights) f.num f.den

-- the value of a height parameter over the heights of the present points: none exactly where no point is present
abbrev pub IsHeightValue : Map → HeightName → Option Frac → Type 0
IsHeightValue m name value = MatchOption value (present_heights m ≡ []) (IsHeightParameter name (present_heights m))
