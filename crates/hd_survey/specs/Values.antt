-- The regions that serve the value of a notation.
use Rattle.std.specs.Prelude.{◌≡◌, ◌⊎◌, true, List, map}
use Rattle.hd_feature.specs.declared.notation.Notation.{Notation}
use Rattle.hd_feature.specs.declared.region.Region.{Region}
use Rattle.hd_feature.specs.HeightsAlone.{height_alone, heights_serve}
use Rattle.hd_map.specs.Map.{Map}
use Rattle.hd_survey.specs.Features.{AreFeatures}
pub use Rattle.hd_regions.specs.Values.{IsNotationValue, IsParameterValue, IsSum, side_of}

-- the regions of a notation's side after its pruning, or, where they serve it, their pits and local heights alone
pub record AreServing (m : Map) (n : Notation) (list : List Region) : Type 0 where
  pub features : List Region
  pub are : AreFeatures m (side_of n.kind) n.percent.thousandths features
  pub serve : (list ≡ features) ⊎ ((heights_serve n ≡ true) × (list ≡ map height_alone features))
