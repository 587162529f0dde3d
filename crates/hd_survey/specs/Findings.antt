-- What reports find of a side of a map.
use Rattle.std.specs.Prelude.{◌≡◌, ◌<◌, ◌≤◌, ℕ, List, Option, Some, None, All, length, unsigned_abs}
use Rattle.std.specs.Option.{ForSome}
use Rattle.hd_feature.specs.declared.region.Region.{Region}
use Rattle.hd_graph.specs.Merges.{AreMerges}
use Rattle.hd_map.specs.declared.types.RegionSize.{RegionSize}
use Rattle.hd_map.specs.declared.types.SideName.{SideName}
use Rattle.hd_map.specs.Map.{Map, cell_count}
use Rattle.hd_map.specs.Pruning.{ArePits}
use Rattle.hd_map.specs.Rank.{below_by}
use Rattle.hd_map.specs.Region.{AreRegions}
use Rattle.hd_map.specs.Saddle.{SaddleIs}
use Rattle.hd_prune.specs.declared.step.Kept.{Kept}
use Rattle.hd_prune.specs.Pruned.{leavings_of}
use Rattle.hd_prune.specs.Staying.{AreKeptAlone, ranks_of}
use Rattle.hd_steep.specs.Numbering.{AreNumbered, Numbering}
use Rattle.hd_survey.specs.declared.features.KeptFeatures.{KeptFeatures}
use Rattle.hd_survey.specs.declared.kept.KeptPits.{KeptPits}
use Rattle.hd_survey.specs.declared.merges.PitMerges.{PitMerges}
use Rattle.hd_survey.specs.declared.pruned.PrunedRegions.{PrunedRegions}
use Rattle.hd_survey.specs.Features.{AreFeatures}
use Rattle.hd_survey.specs.Heights.{farthest_apart}
use Rattle.hd_survey.specs.Inside.{IsStepOn}
use Rattle.hd_survey.specs.Owned.{ArePrunedRegions}
use Rattle.hd_survey.specs.Regions.{AreRegionSizes, AreSizesByRoots}

-- the pits of the map in position order, and their merges
pub record ArePitMerges (m : Map) (side : SideName) (x : PitMerges) : Type 0 where
  pub roots : List (Option ℕ)
  pub regions : AreRegions m side roots
  pub pits : ArePits m side (ranks_of x.lows)
  pub merges : AreMerges (below_by side) (SaddleIs m side) x.lows x.merges

-- the regions of the map, whose pits are points of it
pub record AreSizes (m : Map) (side : SideName) (sizes : List RegionSize) : Type 0 where
  pub are : AreRegionSizes m side sizes
  pub by_roots : AreSizesByRoots m side sizes
  pub inside : All (λ size. size.pit.index < cell_count m.size) sizes

-- the pits that the pruning of the map at a percent keeps, which are points of it
pub record AreKeptPits (m : Map) (side : SideName) (thousandths : ℕ) (pits : List Kept) : Type 0 where
  pub roots : List (Option ℕ)
  pub regions : AreRegions m side roots
  pub alone : AreKeptAlone m side thousandths pits
  pub inside : All (λ k. k.pit.index < cell_count m.size) pits

-- kept pits were found, and are those of the pruning at this percent
abbrev pub AreKeptAt : ℕ → Option KeptPits → Type 0
AreKeptAt thousandths None = ⊥
AreKeptAt thousandths (Some x) = x.percent.thousandths ≡ thousandths

-- the regions of the map after its pruning at a percent, by what parameters take of them
pub record AreKeptFeatures (m : Map) (side : SideName) (thousandths : ℕ) (list : List Region) : Type 0 where
  pub are : AreFeatures m side thousandths list
  pub points : All (λ r. r.points ≤ 4194304) list
  pub heights : All (λ r. unsigned_abs r.lpvh ≤ farthest_apart) list
  pub few : length list ≤ 4194304

-- such regions were found, and are those after the pruning at this percent
abbrev pub AreFeaturesAt : ℕ → Option KeptFeatures → Type 0
AreFeaturesAt thousandths None = ⊥
AreFeaturesAt thousandths (Some x) = x.percent.thousandths ≡ thousandths

-- it tells the pruning of the map at a percent, by points of the map
pub record TellsPruning (m : Map) (side : SideName) (thousandths : ℕ) (x : PrunedRegions) : Type 0 where
  pub are : ArePrunedRegions m side thousandths (leavings_of x.steps) x.kept
  pub steps : All (IsStepOn m.size) x.steps
  pub kept : All (λ region. region.pit.index < cell_count m.size) x.kept

-- a pruning was found, and is the one at this percent
abbrev pub WasPrunedAt : ℕ → Option PrunedRegions → Type 0
WasPrunedAt thousandths None = ⊥
WasPrunedAt thousandths (Some x) = x.percent.thousandths ≡ thousandths

-- the regions with the numbers of their points, the merges of the pits, the pits that were kept last, the pruning that
-- was done last, the regions after a pruning by what parameters take of them, and the region of each point, each where it
-- was found
pub record Found : Type 0 where
  pub sizes : Option (List RegionSize)
  pub merges : Option PitMerges
  pub kept : Option KeptPits
  pub pruned : Option PrunedRegions
  pub features : Option KeptFeatures
  pub regions : Option Numbering

-- what was found is that of the map on the side
pub record AreFindings (m : Map) (side : SideName) (found : Found) : Type 0 where
  pub sizes : ForSome found.sizes (AreSizes m side)
  pub merges : ForSome found.merges (ArePitMerges m side)
  pub kept : ForSome found.kept (λ x. AreKeptPits m side x.percent.thousandths x.pits)
  pub pruned : ForSome found.pruned (λ x. TellsPruning m side x.percent.thousandths x)
  pub features : ForSome found.features (λ x. AreKeptFeatures m side x.percent.thousandths x.list)
  pub regions : ForSome found.regions (AreNumbered m side)
