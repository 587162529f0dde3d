use Rattle.std.proofs.Common.{ℤ, w64, subst}
use Rattle.std.specs.Prelude.{IfOk}
use Rattle.std.proofs.lemmas.Int.{to_z-of_z}
use Rattle.hd_map.specs.Map.{Map}
use Rattle.hd_prune.specs.Kept.{AreNotUndercut}
use Rattle.hd_prune.proofs.LowRanks.{low-pits}
use Rattle.hd_prune.proofs.pruning.prune.Goals as goal

pub prune_by_merges-requires-clause-pits : goal.prune_by_merges-requires-clause-pits
prune_by_merges-requires-clause-pits g c =
    let m : Map = g.A.Around.map c.args.around.now in
    let of_map = c.in_ok-pits.ensures.of_map m c.requires.told in
    rw c.as_slice.ensures (low-pits m g.S.Side.NAME c.in_ok-pits.field-0.pits of_map.pits c.in_ok-pits.ensures.in_order)

pub returns-clause-undercut : goal.returns-clause-undercut
returns-clause-undercut g c = subst (λ (sz : ℤ). IfOk c.prune_by_merges.result (λ pruned. AreNotUndercut (g.A.Around.map c.args.around.now) g.S.Side.NAME c.args.percent.thousandths sz pruned.kept))
    (to_z-of_z w64 c.args.sz c.ranges.sz) c.prune_by_merges.ensures.undercut
