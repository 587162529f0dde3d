use Rattle.hd_engine.proofs.workpiece.Workpiece.borders.Goals as goal

pub returns-in_err-text-in-Dales-clause-survey : goal.returns-in_err-text-in-Dales-clause-survey
returns-in_err-text-in-Dales-clause-survey g c = rw (← c.grid-grid.ensures) (record {
  presence = c.presence-range.ensures.survey.presence;
  sums = c.presence-range.ensures.survey.sums;
  dales = c.report_borders.ensures.findings;
  hills =
      c.presence-range.ensures.survey.hills;
})

pub returns-in_err-text-in-Hills-clause-survey : goal.returns-in_err-text-in-Hills-clause-survey
returns-in_err-text-in-Hills-clause-survey g c = rw (← c.grid-grid.ensures) (record {
  presence = c.presence-range.ensures.survey.presence;
  sums = c.presence-range.ensures.survey.sums;
  dales = c.presence-range.ensures.survey.dales;
  hills =
      c.report_borders-in-Hills.ensures.findings;
})

pub returns-in_ok-text-in-Dales-clause-survey : goal.returns-in_ok-text-in-Dales-clause-survey
returns-in_ok-text-in-Dales-clause-survey g c = rw (← c.grid-grid.ensures) (record {
  presence = c.presence-range.ensures.survey.presence;
  sums = c.presence-range.ensures.survey.sums;
  dales = c.report_borders.ensures.findings;
  hills =
      c.presence-range.ensures.survey.hills;
})

pub returns-in_ok-text-in-Hills-clause-survey : goal.returns-in_ok-text-in-Hills-clause-survey
returns-in_ok-text-in-Hills-clause-survey g c = rw (← c.grid-grid.ensures) (record {
  presence = c.presence-range.ensures.survey.presence;
  sums = c.presence-range.ensures.survey.sums;
  dales = c.presence-range.ensures.survey.dales;
  hills =
      c.report_borders-in-Hills.ensures.findings;
})
