-- What reports find of a map and of both its sides.
use Rattle.std.specs.Option.{ForSome}
use Rattle.hd_map.specs.declared.types.SideName.TheVariants.{Dales, Hills}
use Rattle.hd_map.specs.Map.{Map}
use Rattle.hd_map.specs.Presence.{IsPresence, present_heights}
use Rattle.hd_stats.specs.declared.sums.Sums.{Sums}
use Rattle.hd_stats.specs.Sums.{AreSmall, AreSums}
use Rattle.hd_survey.specs.declared.survey.Survey.{Survey}
use Rattle.hd_survey.specs.Findings.{AreFindings}

-- the sums over the heights of the present points
pub record AreMapSums (m : Map) (sums : Sums) : Type 0 where
  pub are : AreSums (present_heights m) sums
  pub small : AreSmall sums 4194304

-- what was found is that of the map
pub record IsSurvey (m : Map) (survey : Survey) : Type 0 where
  pub presence : ForSome survey.presence (IsPresence (present_heights m))
  pub sums : ForSome survey.sums (AreMapSums m)
  pub dales : AreFindings m Dales survey.dales
  pub hills : AreFindings m Hills survey.hills
