use Rattle.hd_survey.specs.Features.{AreHeightsWith}
use Rattle.hd_survey.proofs.features.list_heights.Given as goal

-- the regions so far
abbrev pub invariant-pits : goal.invariant-pits
invariant-pits l = AreHeightsWith l.fn.side l.fn.range l.kept l.pit-index l.list
