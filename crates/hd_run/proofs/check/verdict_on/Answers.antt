use Rattle.std.proofs.Common.{sym, subst}
use Rattle.hd_check.specs.Rules.{IsVerdict}
use Rattle.hd_map.specs.declared.surface.Surface.{Surface}
use Rattle.hd_map.specs.Surface.{map_of}
use Rattle.hd_run.proofs.check.verdict_on.Goals as goal

pub returns-in-Narrow : goal.returns-in-Narrow
returns-in-Narrow c = subst (λ (s : Surface). IsVerdict (map_of s) c.args.certificate.now c.check.result) (sym c.in-Narrow.is) c.check.ensures

pub returns-in-Wide : goal.returns-in-Wide
returns-in-Wide c = subst (λ (s : Surface). IsVerdict (map_of s) c.args.certificate.now c.check-in-Wide.result) (sym c.in-Wide.is) c.check-in-Wide.ensures
