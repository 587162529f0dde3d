-- The sizes of the regions of a map.
use Rattle.std.proofs.Common.{◌≡◌, ◌<◌, List, map, sym, ap, ◌∙◌, subst}
use Rattle.std.specs.Prelude.{All}
use Rattle.hd_map.specs.declared.types.Rank.{Rank}
use Rattle.hd_map.specs.declared.types.RegionSize.{RegionSize}
use Rattle.hd_map.specs.declared.types.SideName.{SideName}
use Rattle.hd_map.specs.Map.{Map, IsMap, cell_count}
use Rattle.hd_map.proofs.Prunings.{pits-unique}
use Rattle.hd_steep.specs.Numbering.{AreNumbered, Numbering, roots_of}
use Rattle.hd_survey.specs.Regions.{AreSizesByRoots, pit_ranks, region_size}
use Rattle.hd_survey.proofs.Lists.{All-map}
use Rattle.hd_survey.proofs.MapPits.{pits_inside, ranks_pits}

-- the pits of regions are points of the grid
pub sizes_inside : (m : Map) (side : SideName) (sizes : List RegionSize) → IsMap m → AreSizesByRoots m side sizes → All (λ size. size.pit.index < cell_count m.size) sizes
sizes_inside m side sizes whole are =
    subst (λ (xs : List RegionSize). All (λ (size : RegionSize). size.pit.index < cell_count m.size) xs) (sym are.are)
    (All-map (region_size are.roots) (λ (size : RegionSize). size.pit.index < cell_count m.size) (pit_ranks m are.roots)
    (pits_inside m side (pit_ranks m are.roots) (ranks_pits m side are.roots whole are.regions)))

-- the regions of the pits that are numbered are those of the map
pub sizes_numbered : (m : Map) (side : SideName) (regions : Numbering) (sizes : List RegionSize) → IsMap m → AreNumbered m side regions
    → sizes ≡ map (region_size (roots_of regions)) regions.pits → AreSizesByRoots m side sizes
sizes_numbered m side regions sizes whole are is =
    let pits : regions.pits ≡ pit_ranks m (roots_of regions) = pits-unique m side regions.pits (pit_ranks m (roots_of regions)) are.pits (ranks_pits m side (roots_of regions) whole are.roots) in
    record { roots = roots_of regions; regions = are.roots; are = is ∙ ap (λ (ps : List Rank). map (region_size (roots_of regions)) ps) pits }
