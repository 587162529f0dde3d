use Rattle.std.proofs.Common.{subst, Some}
use Rattle.hd_map.specs.Shown.{IsReachedBelow}
use Rattle.hd_lines.proofs.Owners.{AreOwners-pruned}
use Rattle.hd_stats.proofs.ReachedByKept.{IsReachedBelow-apart}
use Rattle.hd_stats.proofs.laws.filled_points_are_apart.Goals as goal

pub returns : goal.returns
returns c = λ m side thousandths steps last owner pruning p q s u xs ys at_p at_q ne nearest nearest' filled filled' x y at_x at_y same.
    let w = AreOwners-pruned m side thousandths steps last owner pruning in
    IsReachedBelow-apart m side last p q s u y (w.among p at_p).point (w.among q at_q).point at_p at_q ne nearest nearest'
    (subst (λ z. IsReachedBelow m side (Some s) p z) same ((filled.exactly x).0 at_x)) ((filled'.exactly y).0 at_y)
