use Rattle.hd_words.proofs.Matched.{RunOf-dales, Asks-dales_names}
use Rattle.hd_words.proofs.jobs.dales_job.Goals as goal

pub name_in-requires : goal.name_in-requires
name_in-requires c = Asks-dales_names c.args.matches.now c.requires.0 c.requires.1

pub returns : goal.returns
returns c = λ request asked. RunOf-dales c.args.matches.now request c.name_in.result.now asked c.name_in.ensures
