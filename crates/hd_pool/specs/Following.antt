-- What is kept of a side of a map in tiles follows the map.
use Rattle.std.specs.Prelude.{◌≡◌, ◌||◌, ◌&&◌, ◌*◌, ◌-◌, ◌^◌, ℕ, Bool, min, nat_eq, not, List, Option, Some, None, if◌then◌else◌}
use Rattle.std.specs.Option.{ForSome, is_some}
use Rattle.hd_map.specs.declared.types.SideName.{SideName}
use Rattle.hd_map.specs.Map.{Map}
use Rattle.hd_basin.specs.InStep.{IsInStep, IsPoolOf}
use Rattle.hd_basin.specs.Parts.{Pool}
use Rattle.hd_pool.specs.declared.outlay.Outlay.{Outlay}
use Rattle.hd_pool.specs.Outlay.{are_most_touched, is_worth, nothing_spent, paid, reported, touched_after}

-- what is kept of a side: its pool, where it is made, and what was spent towards it
pub record KeptSide : Type 0 where
  pub pool : Option Pool
  pub outlay : Outlay

-- nothing is kept yet
abbrev pub nothing_kept : KeptSide
nothing_kept = record { pool = None; outlay = nothing_spent }

-- the pool is in step with the map and the stamps of its tiles, which have this side
pub record IsFollowing (m : Map) (side : SideName) (t : ℕ) (stamps : List ℕ) (pool : Pool) : Type 0 where
  pub same_side : pool.side ≡ t
  pub in_step : IsInStep m side stamps pool

-- so is the pool that is kept, where there is one
abbrev pub Follows : Map → SideName → ℕ → List ℕ → KeptSide → Type 0
Follows m side t stamps kept = ForSome kept.pool (IsFollowing m side t stamps)

-- there is a pool, and it is that of the map
pub record IsReady (m : Map) (side : SideName) (kept : KeptSide) : Type 0 where
  pub made : Pool
  pub is : kept.pool ≡ Some made
  pub whole : IsPoolOf m side made

-- how many points the pool takes in where it is brought up: those of the tiles that were touched since, and without a pool
-- those of the map
abbrev pub points_to_take : ℕ → ℕ → List ℕ → KeptSide → ℕ
points_to_take points t stamps kept = if is_some kept.pool then touched_after kept.outlay.last stamps * (t * t) else points

-- there is a pool of a map of so many points, or one is worth it
abbrev pub has_or_earns : ℕ → KeptSide → Bool
has_or_earns points kept = is_some kept.pool || is_worth points kept.outlay

-- a report is told by the pool where there is one, or where one is worth it, unless most tiles were touched since
abbrev pub reports_by_pool : ℕ → List ℕ → KeptSide → Bool
reports_by_pool points stamps kept = has_or_earns points kept && not (are_most_touched kept.outlay.last stamps)

-- in that case all counts from nothing again
abbrev pub after_report : ℕ → ℕ → ℕ → List ℕ → KeptSide → Outlay
after_report points t changes stamps kept = if reports_by_pool points stamps kept then paid changes (points_to_take points t stamps kept) kept.outlay
    else reported changes points (if has_or_earns points kept then nothing_spent else kept.outlay)

-- nothing changed since the pool was brought up, or it is worth it to take in a tile of this side
abbrev pub may_take : ℕ → ℕ → KeptSide → Bool
may_take t changes kept = nat_eq changes kept.outlay.last || is_worth (t * t) kept.outlay

-- a step that was walked where there is a pool counts eight times
abbrev pub steps_earned : ℕ → KeptSide → ℕ
steps_earned steps kept = if is_some kept.pool then min (steps * 8) (2 ^ 64 - 1) else steps

-- a label is told by the pool where it is worth it to bring it up
abbrev pub labels_by_pool : ℕ → ℕ → ℕ → List ℕ → KeptSide → Bool
labels_by_pool points t changes stamps kept = may_take t changes kept && is_worth (points_to_take points t stamps kept) kept.outlay
