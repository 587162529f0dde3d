use Rattle.std.proofs.Common.{◌≡◌, ℕ, List, map, take}
use Rattle.std.specs.Prelude.{Option}
use Rattle.hd_survey.specs.Regions.{AreCountsOf, region_size}
use Rattle.hd_survey.proofs.sizes.size_pits.Given as goal

-- the regions so far
abbrev pub invariant-pits : goal.invariant-pits
invariant-pits l = (roots : List (Option ℕ)) → AreCountsOf roots l.fn.pits l.fn.points → l.sizes ≡ map (region_size roots) (take l.number l.fn.pits)
