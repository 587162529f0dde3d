-- What pruning gives.
use Rattle.std.proofs.Common.{◌≡◌, List, subst}
use Rattle.hd_map.specs.declared.types.Rank.{Rank}
use Rattle.hd_map.specs.declared.types.SideName.{SideName}
use Rattle.hd_map.specs.Map.{Map, IsMap}
use Rattle.hd_map.specs.Pruning.{ArePits, SzIs}
use Rattle.hd_map.specs.Rank.{below_by}
use Rattle.hd_map.specs.Saddle.{SaddleIs}
use Rattle.hd_map.proofs.Prunings.{pruning-unique}
use Rattle.hd_graph.specs.declared.graph.Low.{Low}
use Rattle.hd_graph.specs.declared.merges.Merge.{Merge}
use Rattle.hd_graph.specs.Merges.{AreMerges}
use Rattle.hd_prune.specs.declared.leaving.Leaver.{Leaver}
use Rattle.hd_prune.specs.declared.leaving.Limit.{Limit}
use Rattle.hd_prune.specs.declared.step.Kept.{Kept}
use Rattle.hd_prune.specs.declared.step.Owned.{Owned}
use Rattle.hd_prune.specs.declared.step.Step.{Step}
use Rattle.hd_prune.specs.Answer.{IsPruned}
use Rattle.hd_prune.specs.Heights.{local_on}
use Rattle.hd_prune.specs.Kept.{AreKept}
use Rattle.hd_prune.specs.Leaving.{IsLeavingIn, IsLeaving, AreLeaving, goes_at}
use Rattle.hd_prune.specs.Pruned.{leavings_of, owned_by}
use Rattle.hd_prune.specs.Staying.{AreKeptAlone, ranks_of}
use Rattle.hd_prune.specs.Taken.{AreTaken, owner_after}
use Rattle.hd_prune.proofs.Elder.{left_after}
use Rattle.hd_prune.proofs.Leavers.{leaving-same, steps_of}
use Rattle.hd_prune.proofs.MergesLeaving.{in-leaving}
use Rattle.hd_prune.proofs.TakeOver.{pruned, pruning}

module _ (m : Map) (whole : IsMap m) (side : SideName) (lows : List Low) (merges : List Merge) (are_pits : ArePits m side (ranks_of lows))
    (are : AreMerges (below_by side) (SaddleIs m side) lows merges)
    (limit : Limit) (leavers : List Leaver) (in_merges : AreLeaving (below_by side) (IsLeavingIn (local_on side) (goes_at limit) lows merges) leavers) where
  -- the lows that leave at their merges are those that leave the map
  pub leaving-in : AreLeaving (below_by side) (IsLeaving m side (goes_at limit)) leavers
  leaving-in = leaving-same (below_by side) (IsLeavingIn (local_on side) (goes_at limit) lows merges) (IsLeaving m side (goes_at limit)) leavers
      (in-leaving m side lows merges are_pits are (goes_at limit)) in_merges

  pub pruned-in : SzIs m limit.sz → (ys : List Step) → AreTaken m side (λ p. p) leavers ys → (kept : List Kept) → AreKeptAlone m side limit.percent.thousandths kept →
      (owners : List Owned) → owners ≡ owned_by (owner_after side (λ p. p) ys) (ranks_of lows) → IsPruned m side limit.percent.thousandths ys kept owners
  pruned-in sz ys t kept alone owners owned =
      let last : List Rank = left_after (below_by side) (ranks_of lows) (steps_of leavers) in
      -- the map has one pruning
      let same = pruning-unique m side limit.percent.thousandths alone.steps (leavings_of ys) alone.last last alone.owner (owner_after side (λ p. p) ys) alone.pruning
      (pruning m whole side limit leavers leaving-in (ranks_of lows) are_pits sz ys t) in
      pruned m whole side limit leavers leaving-in (ranks_of lows) are_pits sz ys t kept (subst (λ (ps : List Rank). AreKept m side ps kept) same.1 alone.are_kept) owners owned
