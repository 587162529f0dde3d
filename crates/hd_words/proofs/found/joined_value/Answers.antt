use Rattle.hd_words.proofs.StartsWith.{starts_with-strips}
use Rattle.hd_words.proofs.found.joined_value.Goals as goal

pub returns : goal.returns
returns c = starts_with-strips c.args.word.now c.args.option.now c.strip_prefix.result c.strip_prefix.ensures.cases
