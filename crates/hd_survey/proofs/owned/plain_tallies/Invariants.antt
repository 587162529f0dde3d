use Rattle.std.proofs.Common.{◌≡◌, map, take}
use Rattle.hd_survey.specs.Owned.{plain_tally}
use Rattle.hd_survey.proofs.owned.plain_tallies.Given as goal

-- the tallies so far
abbrev pub invariant-regions : goal.invariant-regions
invariant-regions l = l.tallies.items ≡ map plain_tally (take l.size-index l.sizes)
