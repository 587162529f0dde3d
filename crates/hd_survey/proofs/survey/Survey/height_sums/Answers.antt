use Rattle.hd_survey.proofs.survey.Survey.height_sums.Goals as goal

pub returns-in-Some-clause-sums : goal.returns-in-Some-clause-sums
returns-in-Some-clause-sums g c = c.requires.sums c.in-Some.sums c.in-Some.is
