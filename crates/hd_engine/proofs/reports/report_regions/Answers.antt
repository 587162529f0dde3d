use Rattle.std.proofs.Common.{◌<◌, ◌∙◌, ap, sym, subst}
use Rattle.std.specs.Prelude.{All}
use Rattle.hd_map.specs.declared.types.RegionSize.{RegionSize}
use Rattle.hd_map.specs.declared.types.SideName.{SideName}
use Rattle.hd_map.specs.declared.types.Size.{Size}
use Rattle.hd_map.specs.Map.{cell_count}
use Rattle.hd_report.specs.Regions.{regions_text}
use Rattle.hd_engine.proofs.reports.report_regions.Goals as goal

pub list_regions-requires : goal.list_regions-requires
list_regions-requires g c =
    subst (λ (s : Size). All (λ (r : RegionSize). r.pit.index < cell_count s) c.sizes.result.now) (sym c.size.ensures)
    (c.find_sizes.ensures.findings.sizes c.sizes.result.now c.sizes.ensures).inside

pub returns-clause-text : goal.returns-clause-text
returns-clause-text g c = (
  c.sizes.result.now,
  (c.find_sizes.ensures.findings.sizes c.sizes.result.now c.sizes.ensures).are,
  c.in_ok-text.ensures ∙ ap (λ (name : SideName). regions_text name c.size.result c.sizes.result.now) c.NAME.ensures
      ∙ ap (λ (s : Size). regions_text g.S.Side.NAME s c.sizes.result.now) c.size.ensures,
)
