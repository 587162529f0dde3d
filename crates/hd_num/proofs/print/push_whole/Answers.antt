use Rattle.hd_num.proofs.WholeReadsBack.{whole_of-signed_decimal}
use Rattle.hd_num.proofs.print.push_whole.Goals as goal

pub returns-clause-reads_back : goal.returns-clause-reads_back
returns-clause-reads_back c = whole_of-signed_decimal c.args.n c.ranges.n
