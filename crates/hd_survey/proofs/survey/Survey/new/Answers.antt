use Rattle.std.proofs.Common.{rules}
use Rattle.hd_survey.proofs.survey.Survey.new.Goals as goal

pub returns : goal.returns
returns c m = record { presence = search rules; sums = search rules; dales = c.new.ensures m; hills = c.new-2.ensures m }
