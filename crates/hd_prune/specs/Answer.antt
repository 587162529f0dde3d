-- What pruning gives.
use Rattle.std.specs.Prelude.{◌≡◌, ℕ, List}
use Rattle.hd_map.specs.declared.types.Rank.{Rank}
use Rattle.hd_map.specs.declared.types.SideName.{SideName}
use Rattle.hd_map.specs.Map.{Map}
use Rattle.hd_map.specs.Pruning.{IsPruning}
use Rattle.hd_prune.specs.declared.step.Kept.{Kept}
use Rattle.hd_prune.specs.declared.step.Owned.{Owned}
use Rattle.hd_prune.specs.declared.step.Step.{Step}
use Rattle.hd_prune.specs.Kept.{AreKept}
use Rattle.hd_prune.specs.Pruned.{leavings_of, owned_by}

-- the steps are those of the pruning of the map, the kept pits its last set, each with its nearest
-- saddle there, and each pit of the map stands with its last owner; pits are in position order
pub record IsPruned (m : Map) (side : SideName) (thousandths : ℕ) (steps : List Step) (kept : List Kept) (owners : List Owned) : Type 0 where
  pub last : List Rank
  pub owner : Rank → Rank
  pub pruning : IsPruning m side thousandths (leavings_of steps) last owner
  pub are_kept : AreKept m side last kept
  pub owned : owners ≡ owned_by owner pruning.pits
