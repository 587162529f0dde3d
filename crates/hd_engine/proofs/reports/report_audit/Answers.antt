use Rattle.hd_survey.proofs.Found.{kept_known}
use Rattle.hd_engine.proofs.reports.report_audit.Goals as goal

pub make_audit-requires : goal.make_audit-requires
make_audit-requires g c =
    (kept_known (g.G.Heights.map c.args.grid.now) g.S.Side.NAME c.args.percent.thousandths c.find_kept.new.self c.kept-kept.result.now c.find_kept.ensures.findings
    c.in_ok-find_kept.ensures.found c.kept-kept.ensures).alone
