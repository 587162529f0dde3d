use Rattle.hd_lines.proofs.Owners.{AreOwners-pruned}
use Rattle.hd_prune.proofs.Existing.{root_of}
use Rattle.hd_stats.proofs.ReachedByKept.{IsReachedBelow-owned, IsReachedBelow-point}
use Rattle.hd_stats.proofs.laws.filled_points_are_owned.Goals as goal

pub returns : goal.returns
returns c = λ m side thousandths steps last owner whole pruning p s xs at nearest filled x at_x.
    let w = AreOwners-pruned m side thousandths steps last owner pruning in
    let reached = (filled.exactly x).0 at_x in
    let root = root_of m whole side x (IsReachedBelow-point m side s p x reached) in
    record { root = root.0; is_root = root.1; owned = IsReachedBelow-owned m side last owner w p s at nearest x root.0 reached root.1 }
