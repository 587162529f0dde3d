-- Why nothing is told of a point or of two.
use Rattle.std.specs.Prelude.{◌++◌, ℕ, List, codes}
use Rattle.hd_map.specs.declared.types.Pos.{Pos}
use Rattle.hd_report.specs.Place.{place_text}

-- `X Y is outside`
abbrev pub outside_text : Pos → List ℕ
outside_text at = place_text at ++ codes " is outside"

-- `X Y is not present`
abbrev pub not_present_text : Pos → List ℕ
not_present_text at = place_text at ++ codes " is not present"

-- two points have one pit
abbrev pub one_region_text : List ℕ
one_region_text = codes "both points are in one region"
