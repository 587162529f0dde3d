-- The neighbours below a point.
use Rattle.std.specs.Prelude.{List, map, filter}
use Rattle.hd_map.specs.declared.types.Pos.{Pos}
use Rattle.hd_map.specs.declared.types.Rank.{Rank}
use Rattle.hd_map.specs.declared.types.SideName.{SideName}
use Rattle.hd_map.specs.Map.{Map}
use Rattle.hd_map.specs.Rank.{below_by, rank}
use Rattle.hd_survey.specs.declared.falls.Lower.{Lower}

-- their ranks
abbrev pub ranks_of : List Lower → List Rank
ranks_of lower = map {A = Lower} {B = Rank} (λ x. x.rank) lower

-- the ranks below a point among those at these places
abbrev pub ranks_below : Map → SideName → Rank → List Pos → List Rank
ranks_below m side point places = filter (λ q. below_by side q point) (map (rank m) places)
