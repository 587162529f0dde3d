-- The answers that list regions, and that tell in which region a point lies.
use Rattle.std.specs.Prelude.{◌⊎◌, ℕ, List}
use Rattle.hd_map.specs.declared.types.Pos.{Pos}
use Rattle.hd_map.specs.declared.types.RegionSize.{RegionSize}
use Rattle.hd_map.specs.declared.types.SideName.{SideName}
use Rattle.hd_map.specs.Map.{InGrid, Present}
use Rattle.hd_map.specs.Rank.{rank}
use Rattle.hd_map.specs.Region.{IsRoot}
use Rattle.hd_regions.specs.Regions.{AreRegionSizes}
use Rattle.hd_report.specs.Points.{not_present_text, outside_text}
use Rattle.hd_report.specs.Regions.{label_text, regions_text}
use Rattle.hd_session.specs.Reply.{Reply, Reports, Refuses, accepted_with}
use Rattle.hd_session.specs.State.{State}

-- the regions of the present map are listed
pub record IsRegionsAnswer (s : State) (side : SideName) (reply : Reply) (after : State) : Type 0 where
  pub regions : List RegionSize
  pub are : AreRegionSizes s.map side regions
  pub answer : Reports s after (accepted_with (regions_text side s.map.size regions)) reply

-- the pit of the region that a present point lies in
pub record TellsRoot (s : State) (side : SideName) (at : Pos) (reply : Reply) (after : State) : Type 0 where
  pub present : Present s.map at
  pub root : Pos
  pub root_present : Present s.map root
  pub is_root : IsRoot s.map side (rank s.map at) (rank s.map root)
  pub answer : Reports s after (accepted_with (label_text side at root)) reply

-- a position outside is refused, then one that is not present; else its region's pit is told
abbrev pub IsLabelAnswer : State → ℕ → SideName → Pos → Reply → State → Type 0
IsLabelAnswer s number side at reply after =
    ((InGrid s.map.size at → ⊥) × Refuses s number (outside_text at) reply after)
    ⊎ (InGrid s.map.size at × (Present s.map at → ⊥) × Refuses s number (not_present_text at) reply after)
    ⊎ TellsRoot s side at reply after
