-- Pruning certificates whose text can be read.
use Rattle.std.specs.Prelude.{◌<◌, ◌≤◌, ◌^◌, length, All, IfSome}
use Rattle.hd_audit.specs.declared.types.Audit.{Audit}
use Rattle.hd_audit.specs.declared.types.AuditLine.{AuditLine}

-- its numbers are counts
pub record IsWritableLine (x : AuditLine) : Type 0 where
  pub index : x.index < 2 ^ 32
  pub parent : IfSome x.parent (λ n. n < 2 ^ 32)
  pub cut : IfSome x.cut (λ n. n < 2 ^ 32)

-- its numbers and that of its lines are counts, and its percent is at most 100
pub record IsWritable (a : Audit) : Type 0 where
  pub percent : a.percent.thousandths ≤ 100000
  pub few : length a.lines < 2 ^ 32
  pub each : All IsWritableLine a.lines
