use Rattle.hd_words.specs.GivenWords.{given_of}
use Rattle.hd_words.specs.WordSteps.{found_so_far, names_in}
use Rattle.hd_words.specs.declared.found.Stage.TheVariants.{Options}
use Rattle.hd_words.proofs.WordSteps.{with_save-first, with_save-full}
use Rattle.hd_words.proofs.found.with_save.Goals as goal

pub returns-in-Some-clause-none : goal.returns-in-Some-clause-none
returns-in-Some-clause-none c = λ words. rw c.in-Some.is (with_save-full (names_in c.args.found.names) (found_so_far c.args.found).tiles c.in-Some.field-0.now c.args.value.now
    (given_of Options words))

pub returns-in-None-clause-some : goal.returns-in-None-clause-some
returns-in-None-clause-some c = λ words. rw c.in-None.is (with_save-first (names_in c.args.found.names) (found_so_far c.args.found).tiles c.args.value.now (given_of Options words))
