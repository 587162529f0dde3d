use Rattle.hd_survey.specs.Owned.{AreSized}
use Rattle.hd_survey.proofs.owned.size_kept.Given as goal

-- the regions so far
abbrev pub invariant-pits : goal.invariant-pits
invariant-pits l = AreSized l.kept l.fn.tallies l.place l.list
