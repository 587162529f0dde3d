-- A grid in tiles that a script works on, with what was found of it.
use Rattle.std.specs.Prelude.{ℕ, List}
use Rattle.hd_map.specs.declared.types.SideName.TheVariants.{Dales, Hills}
use Rattle.hd_map.specs.Map.{Map}
use Rattle.hd_pool.specs.Following.{Follows, KeptSide}
use Rattle.hd_survey.specs.declared.survey.Survey.{Survey}
use Rattle.hd_survey.specs.Survey.{IsSurvey}
use Rattle.hd_session.specs.State.{State}

-- the state, and how many changes of the grid were counted
pub record TiledState : Type 0 where
  pub state : State
  pub changes : ℕ

-- what was found is that of the map, and what is kept of the sides follows it
pub record KeepsUp (m : Map) (t : ℕ) (stamps : List ℕ) (found : Survey) (low high : KeptSide) : Type 0 where
  pub survey : IsSurvey m found
  pub dales : Follows m Dales t stamps low
  pub hills : Follows m Hills t stamps high
