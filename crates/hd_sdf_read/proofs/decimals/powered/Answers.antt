use Rattle.std.proofs.Common.{arith}
use Rattle.hd_sdf_read.proofs.Scaling.{ten_power-high, ten_power-many_digits}
use Rattle.hd_sdf_read.proofs.decimals.powered.Goals as goal

pub returns-then-digits-from : goal.returns-then-digits-from
returns-then-digits-from c = ten_power-many_digits c.args.digits c.args.power (omega arith)

pub returns-then-power-from : goal.returns-then-power-from
returns-then-power-from c = ten_power-high c.args.digits c.args.power (omega arith) (omega arith)
