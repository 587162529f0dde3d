use Rattle.std.proofs.Common.{◌≡◌, map, take}
use Rattle.hd_survey.specs.PitLinks.{low_of}
use Rattle.hd_survey.proofs.pits.lows_of.Given as goal

-- the lows so far
abbrev pub invariant-pits : goal.invariant-pits
invariant-pits l = l.lows ≡ map low_of (take l.pit-index l.pits)
