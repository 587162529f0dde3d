use Rattle.hd_num.proofs.WholeReadsBack.{count_of-decimal, whole_value-decimal}
use Rattle.hd_num.proofs.print.push_unsigned.Goals as goal

pub returns-clause-reads_back : goal.returns-clause-reads_back
returns-clause-reads_back c = whole_value-decimal c.args.number c.ranges.number.fits

pub returns-clause-count : goal.returns-clause-count
returns-clause-count c = count_of-decimal c.args.number
