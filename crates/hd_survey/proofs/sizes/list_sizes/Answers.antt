use Rattle.std.proofs.Common.{◌≡◌, ◌∙◌, ℕ, List, length, map, ap, sym, subst}
use Rattle.std.specs.Prelude.{IfOk}
use Rattle.hd_map.specs.declared.types.Rank.{Rank}
use Rattle.hd_map.specs.declared.types.RegionSize.{RegionSize}
use Rattle.hd_steep.specs.Numbering.{roots_of}
use Rattle.hd_survey.specs.Regions.{AreCountsOf, region_size}
use Rattle.hd_survey.proofs.Numbers.{counts_of}
use Rattle.hd_survey.proofs.sizes.list_sizes.Goals as goal

pub size_pits-requires : goal.size_pits-requires
size_pits-requires c = ap length c.deref.ensures.value ∙ c.in_ok-points.ensures.whole ∙ ap length (sym c.pits.ensures)

pub returns : goal.returns
returns c =
    let regions = c.args.regions.now in
    let roots = roots_of regions in
    let read : c.pits.result.now ≡ regions.pits = c.pits.ensures in
    let counts = counts_of regions c.in_ok-points.points.items c.requires.ordered c.in_ok-points.ensures in
    subst (λ (ps : List Rank). IfOk c.size_pits.result (λ (sizes : List RegionSize). sizes ≡ map (region_size roots) ps)) read
    (c.size_pits.ensures roots
    (subst (λ (ps : List Rank). AreCountsOf roots ps c.deref.result.now) (sym read) (subst (λ (xs : List ℕ). AreCountsOf roots regions.pits xs) (sym c.deref.ensures.value) counts)))
