use Rattle.hd_sdf_read.proofs.DecimalCuts.{HasDecimalsOn}
use Rattle.hd_sdf_read.proofs.decimal_data.read_decimals_on.Given as goal

abbrev pub invariant-data : goal.invariant-data
invariant-data l = HasDecimalsOn l.fn.size l.fn.data_type l.fn.scaled l.text l.scaled l.rest l.read
