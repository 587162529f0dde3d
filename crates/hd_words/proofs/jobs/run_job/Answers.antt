use Rattle.std.specs.Option.{option_copied}
use Rattle.hd_words.proofs.Matched.{RunOf-asked, Asks-run_names}
use Rattle.hd_words.proofs.jobs.run_job.Goals as goal

pub name_in-requires : goal.name_in-requires
name_in-requires c = (Asks-run_names c.args.matches.now c.requires.0 c.requires.1).0

pub name_in-requires-2 : goal.name_in-requires-2
name_in-requires-2 c = (Asks-run_names c.args.matches.now c.requires.0 c.requires.1).1

pub returns : goal.returns
returns c = λ request asked named.
    RunOf-asked c.args.matches.now request c.name_in.result.now c.name_in-2.result.now c.args.tile (option_copied c.get_str.result) asked named c.name_in.ensures c.name_in-2.ensures c.get_str.ensures
