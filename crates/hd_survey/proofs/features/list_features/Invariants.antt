use Rattle.hd_survey.specs.Features.{AreFeaturesWith}
use Rattle.hd_survey.proofs.features.list_features.Given as goal

-- the regions so far
abbrev pub invariant-pits : goal.invariant-pits
invariant-pits l = AreFeaturesWith l.fn.side l.fn.range l.kept l.fn.tallies l.place l.list
