use Rattle.hd_engine.proofs.surveyed.Surveyed.label.Goals as goal

pub invariant_of-self : goal.invariant_of-self
invariant_of-self g c =
    let were = c.self.invariant.survey in
    record {
      survey = record { presence = were.presence; sums = were.sums; dales = c.show_label.ensures.findings; hills = were.hills };
      dales = c.show_label.ensures.follows;
      hills = c.self.invariant.hills;
    }

pub invariant_of-self-in-Hills : goal.invariant_of-self-in-Hills
invariant_of-self-in-Hills g c =
    let were = c.self.invariant.survey in
    record {
      survey = record { presence = were.presence; sums = were.sums; dales = were.dales; hills = c.show_label-in-Hills.ensures.findings };
      dales = c.self.invariant.dales;
      hills = c.show_label-in-Hills.ensures.follows;
    }

pub returns-in-Dales-clause-ok : goal.returns-in-Dales-clause-ok
returns-in-Dales-clause-ok g c = rw (← c.self.view_is, c.in-Dales.is) c.show_label.ensures.answer

pub returns-in-Hills-clause-ok : goal.returns-in-Hills-clause-ok
returns-in-Hills-clause-ok g c = rw (← c.self.view_is, c.in-Hills.is) c.show_label-in-Hills.ensures.answer
