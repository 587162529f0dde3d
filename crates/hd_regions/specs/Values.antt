-- The values of feature parameters.
use Rattle.std.specs.Prelude.{◌≡◌, ◌*◌, List, length, Option, Some, None, if◌then◌else◌}
use Rattle.hd_feature.specs.declared.notation.Kind.{Kind}
use Rattle.hd_feature.specs.declared.notation.Notation.{Notation}
use Rattle.hd_feature.specs.declared.notation.Parameter.{Parameter}
use Rattle.hd_feature.specs.declared.notation.Parameter.TheVariants.{One, Sum}
use Rattle.hd_feature.specs.declared.region.Region.{Region}
use Rattle.hd_feature.specs.Notation.{takes_hills}
use Rattle.hd_feature.specs.Value.{IsValue}
use Rattle.hd_map.specs.declared.types.SideName.{SideName}
use Rattle.hd_map.specs.declared.types.SideName.TheVariants.{Dales, Hills}
use Rattle.hd_map.specs.Map.{Map}
use Rattle.hd_map.specs.Presence.{present_heights}
use Rattle.hd_num.specs.declared.frac.Frac.{Frac}
use Rattle.hd_num.specs.Frac.{IsFraction, sum_over_product}
use Rattle.hd_regions.specs.Features.{AreFeatures}

-- the side of a type: hills and peaks take the hills after pruning, dales and pits the dales
abbrev pub side_of : Kind → SideName
side_of kind = if takes_hills kind then Hills else Dales

-- the value of a notation: that over the regions after its pruning, where the definition area is the number of
-- present points
pub record IsNotationValue (m : Map) (n : Notation) (value : Option Frac) : Type 0 where
  pub features : List Region
  pub are : AreFeatures m (side_of n.kind) n.percent.thousandths features
  pub is : IsValue n features (length (present_heights m)) value

-- the sum of two values, and none where one of them is none
abbrev pub IsSum : Option Frac → Option Frac → Option Frac → Type 0
IsSum (Some a) (Some b) (Some c) = IsFraction (sum_over_product a.num a.den b.num b.den) (a.den * b.den) c.num c.den
IsSum (Some a) (Some b) None = ⊥
IsSum (Some a) None sum = sum ≡ None
IsSum None b sum = sum ≡ None

-- the value of a parameter
abbrev pub IsParameterValue : Map → Parameter → Option Frac → Type 0
IsParameterValue m (One n) value = IsNotationValue m n value
IsParameterValue m (Sum n k) value = (a : Option Frac) × (b : Option Frac) × IsNotationValue m n a × IsNotationValue m k b × IsSum a b value
