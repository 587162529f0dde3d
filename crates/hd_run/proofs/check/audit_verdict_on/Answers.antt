use Rattle.std.proofs.Common.{sym, subst}
use Rattle.std.specs.Prelude.{IfOk}
use Rattle.hd_audit.specs.Rules.{IsVerdict}
use Rattle.hd_map.specs.declared.surface.Surface.{Surface}
use Rattle.hd_map.specs.Surface.{map_of}
use Rattle.hd_run.proofs.check.audit_verdict_on.Goals as goal

pub returns-in-Narrow : goal.returns-in-Narrow
returns-in-Narrow c = subst (λ (s : Surface). IfOk c.check_audit.result (IsVerdict (map_of s) c.args.audit.now)) (sym c.in-Narrow.is) c.check_audit.ensures

pub returns-in-Wide : goal.returns-in-Wide
returns-in-Wide c = subst (λ (s : Surface). IfOk c.check_audit-in-Wide.result (IsVerdict (map_of s) c.args.audit.now)) (sym c.in-Wide.is) c.check_audit-in-Wide.ensures
