-- What was found stays right when more is found.
use Rattle.std.proofs.Common.{◌≡◌, ℕ, List, None, Some, rules, subst}
use Rattle.hd_map.specs.declared.types.RegionSize.{RegionSize}
use Rattle.hd_map.specs.declared.types.SideName.{SideName}
use Rattle.hd_map.specs.Map.{Map}
use Rattle.hd_steep.specs.Numbering.{AreNumbered, Numbering}
use Rattle.hd_survey.specs.declared.features.KeptFeatures.{KeptFeatures}
use Rattle.hd_survey.specs.declared.kept.KeptPits.{KeptPits}
use Rattle.hd_survey.specs.declared.merges.PitMerges.{PitMerges}
use Rattle.hd_survey.specs.declared.pruned.PrunedRegions.{PrunedRegions}
use Rattle.hd_survey.specs.Findings.{AreFeaturesAt, AreFindings, AreKeptAt, AreKeptFeatures, AreKeptPits, ArePitMerges, AreSizes, Found, TellsPruning, WasPrunedAt}

pub with_sizes : (m : Map) (side : SideName) (f : Found) (sizes : List RegionSize) → AreFindings m side f → AreSizes m side sizes
    → AreFindings m side (record { sizes = Some sizes; merges = f.merges; kept = f.kept; pruned = f.pruned; features = f.features; regions = f.regions })
with_sizes m side f sizes are new = record { sizes = search rules; merges = are.merges; kept = are.kept; pruned = are.pruned; features = are.features; regions = are.regions }

pub with_merges : (m : Map) (side : SideName) (f : Found) (merges : PitMerges) → AreFindings m side f → ArePitMerges m side merges
    → AreFindings m side (record { sizes = f.sizes; merges = Some merges; kept = f.kept; pruned = f.pruned; features = f.features; regions = f.regions })
with_merges m side f merges are new = record { sizes = are.sizes; merges = search rules; kept = are.kept; pruned = are.pruned; features = are.features; regions = are.regions }

pub with_kept : (m : Map) (side : SideName) (f : Found) (kept : KeptPits) → AreFindings m side f → AreKeptPits m side kept.percent.thousandths kept.pits
    → AreFindings m side (record { sizes = f.sizes; merges = f.merges; kept = Some kept; pruned = f.pruned; features = f.features; regions = f.regions })
with_kept m side f kept are new = record { sizes = are.sizes; merges = are.merges; kept = search rules; pruned = are.pruned; features = are.features; regions = are.regions }

pub with_pruned : (m : Map) (side : SideName) (f : Found) (pruned : PrunedRegions) → AreFindings m side f → TellsPruning m side pruned.percent.thousandths pruned
    → AreFindings m side (record { sizes = f.sizes; merges = f.merges; kept = f.kept; pruned = Some pruned; features = f.features; regions = f.regions })
with_pruned m side f pruned are new = record { sizes = are.sizes; merges = are.merges; kept = are.kept; pruned = search rules; features = are.features; regions = are.regions }

-- a pruning that was found is given up
pub without_pruned : (m : Map) (side : SideName) (f : Found) → AreFindings m side f
    → AreFindings m side (record { sizes = f.sizes; merges = f.merges; kept = f.kept; pruned = None; features = f.features; regions = f.regions })
without_pruned m side f are = record { sizes = are.sizes; merges = are.merges; kept = are.kept; pruned = search rules; features = are.features; regions = are.regions }

pub with_features : (m : Map) (side : SideName) (f : Found) (features : KeptFeatures) → AreFindings m side f → AreKeptFeatures m side features.percent.thousandths features.list
    → AreFindings m side (record { sizes = f.sizes; merges = f.merges; kept = f.kept; pruned = f.pruned; features = Some features; regions = f.regions })
with_features m side f features are new = record { sizes = are.sizes; merges = are.merges; kept = are.kept; pruned = are.pruned; features = search rules; regions = are.regions }

-- regions after a pruning that were found are given up
pub without_features : (m : Map) (side : SideName) (f : Found) → AreFindings m side f
    → AreFindings m side (record { sizes = f.sizes; merges = f.merges; kept = f.kept; pruned = f.pruned; features = None; regions = f.regions })
without_features m side f are = record { sizes = are.sizes; merges = are.merges; kept = are.kept; pruned = are.pruned; features = search rules; regions = are.regions }

pub with_regions : (m : Map) (side : SideName) (f : Found) (regions : Numbering) → AreFindings m side f → AreNumbered m side regions
    → AreFindings m side (record { sizes = f.sizes; merges = f.merges; kept = f.kept; pruned = f.pruned; features = f.features; regions = Some regions })
with_regions m side f regions are new = record { sizes = are.sizes; merges = are.merges; kept = are.kept; pruned = are.pruned; features = are.features; regions = search rules }

-- the region of each point is given up
pub without_regions : (m : Map) (side : SideName) (f : Found) → AreFindings m side f
    → AreFindings m side (record { sizes = f.sizes; merges = f.merges; kept = f.kept; pruned = f.pruned; features = f.features; regions = None })
without_regions m side f are = record { sizes = are.sizes; merges = are.merges; kept = are.kept; pruned = are.pruned; features = are.features; regions = search rules }

-- the kept pits that were found at a percent are those of its pruning
pub kept_known : (m : Map) (side : SideName) (thousandths : ℕ) (f : Found) (x : KeptPits) → AreFindings m side f → AreKeptAt thousandths f.kept → f.kept ≡ Some x
    → AreKeptPits m side thousandths x.pits
kept_known m side thousandths f x are found is = subst (λ n. AreKeptPits m side n x.pits) (subst (AreKeptAt thousandths) is found) (are.kept x is)

-- the regions that were found after the pruning at a percent are those after it
pub features_known : (m : Map) (side : SideName) (thousandths : ℕ) (f : Found) (x : KeptFeatures) → AreFindings m side f → AreFeaturesAt thousandths f.features → f.features ≡ Some x
    → AreKeptFeatures m side thousandths x.list
features_known m side thousandths f x are found is = subst (λ n. AreKeptFeatures m side n x.list) (subst (AreFeaturesAt thousandths) is found) (are.features x is)

-- the pruning that was found at a percent is the one at it
pub pruned_known : (m : Map) (side : SideName) (thousandths : ℕ) (f : Found) (x : PrunedRegions) → AreFindings m side f → WasPrunedAt thousandths f.pruned → f.pruned ≡ Some x
    → TellsPruning m side thousandths x
pruned_known m side thousandths f x are found is = subst (λ n. TellsPruning m side n x) (subst (WasPrunedAt thousandths) is found) (are.pruned x is)
