use Rattle.std.proofs.Common.{◌∙◌, ap, subst, sym}
use Rattle.hd_map.specs.Map.{position_at}
use Rattle.hd_audit.specs.declared.types.AuditLine.{AuditLine}
use Rattle.hd_audit.specs.Leaks.{FirstLeakRound}
use Rattle.hd_audit.proofs.Leaking.{FirstLeak-line}
use Rattle.hd_audit.proofs.cuts.leak_of.Goals as goal

pub returns-in-Some : goal.returns-in-Some
returns-in-Some g c =
    let m = g.G.Heights.map c.args.surface.now in
    let l = c.args.limit.now in
    let cut = c.in-Some.cut in
    let found = subst (λ (x : AuditLine). FirstLeakRound m l.side l.percent.thousandths l.sz c.args.lines.now cut (position_at m.size x.index) c.leak_round.result)
    c.at-line.ensures c.leak_round.ensures in
    FirstLeak-line m l.side l.percent.thousandths l.sz c.args.lines.now c.args.k cut (ap (λ (x : AuditLine). x.cut) (sym c.at-line.ensures) ∙ c.in-Some.is) c.leak_round.result found
