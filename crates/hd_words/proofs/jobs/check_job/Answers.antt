use Rattle.hd_words.proofs.Matched.{CheckOf-asked, Asks-check_names}
use Rattle.hd_words.proofs.jobs.check_job.Goals as goal

pub name_in-requires : goal.name_in-requires
name_in-requires c = (Asks-check_names c.args.matches.now c.requires.0 c.requires.1).0

pub name_in-requires-2 : goal.name_in-requires-2
name_in-requires-2 c = (Asks-check_names c.args.matches.now c.requires.0 c.requires.1).1

pub returns : goal.returns
returns c = λ request asked. CheckOf-asked c.args.matches.now request c.name_in.result.now c.name_in-2.result.now asked c.name_in.ensures c.name_in-2.ensures
