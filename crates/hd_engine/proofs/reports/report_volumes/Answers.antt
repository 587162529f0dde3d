use Rattle.std.proofs.Common.{◌<◌, List, sym, subst, rules}
use Rattle.std.specs.Prelude.{All}
use Rattle.hd_map.specs.declared.types.Size.{Size}
use Rattle.hd_map.specs.Map.{cell_count}
use Rattle.hd_prune.specs.declared.step.Kept.{Kept}
use Rattle.hd_report.specs.Volumes.{AreWithVolumes}
use Rattle.hd_survey.proofs.Found.{kept_known}
use Rattle.hd_engine.proofs.reports.report_volumes.Goals as goal

pub fill-requires : goal.fill-requires
fill-requires g c = (
  c.args.percent.thousandths,
  (kept_known (g.G.Heights.map c.args.grid.now) g.S.Side.NAME c.args.percent.thousandths c.find_kept.new.self c.kept-kept.result.now c.find_kept.ensures.findings
      c.in_ok-find_kept.ensures.found c.kept-kept.ensures).alone,
)

pub list_volumes-requires-clause-inside : goal.list_volumes-requires-clause-inside
list_volumes-requires-clause-inside g c =
    let m = g.G.Heights.map c.args.grid.now in
    let kept = kept_known m g.S.Side.NAME c.args.percent.thousandths c.find_kept.new.self c.kept-kept.result.now c.find_kept.ensures.findings c.in_ok-find_kept.ensures.found c.kept-kept.ensures in
    subst (λ (s : Size). All (λ (k : Kept). k.pit.index < cell_count s) c.as_slice.result.now) (sym c.size.ensures)
    (subst (λ (ks : List Kept). All (λ (k : Kept). k.pit.index < cell_count m.size) ks) (sym c.as_slice.ensures) kept.inside)

pub returns-clause-text : goal.returns-clause-text
returns-clause-text g c =
    let kept = kept_known (g.G.Heights.map c.args.grid.now) g.S.Side.NAME c.args.percent.thousandths c.find_kept.new.self c.kept-kept.result.now c.find_kept.ensures.findings
    c.in_ok-find_kept.ensures.found c.kept-kept.ensures in
    let listed = c.in_ok-text.ensures in (
      c.kept-kept.result.now.pits,
      c.in_ok-volumes.volumes,
      kept.alone,
      c.in_ok-volumes.ensures,
      listed.0,
      subst (λ (ks : List Kept). AreWithVolumes ks c.in_ok-volumes.volumes listed.0) c.as_slice.ensures (subst (λ vs. AreWithVolumes c.as_slice.result.now vs listed.0) c.as_slice-2.ensures listed.1),
      search rules,
    )
