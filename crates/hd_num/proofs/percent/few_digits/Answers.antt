use Rattle.std.proofs.Common.{◌∙◌, arith}
use Rattle.hd_num.proofs.Percents.{few_digits_of-is_count, few_digits_of-small}
use Rattle.hd_num.proofs.percent.few_digits.Goals as goal

pub returns-clause-value : goal.returns-clause-value
returns-clause-value c = c.read_count.ensures ∙ few_digits_of-is_count c.args.text.now (omega arith)

pub returns-clause-small : goal.returns-clause-small
returns-clause-small c = few_digits_of-small c.args.text.now c.read_count.result (omega arith) (c.read_count.ensures ∙ few_digits_of-is_count c.args.text.now (omega arith))
