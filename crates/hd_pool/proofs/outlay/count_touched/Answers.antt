use Rattle.std.proofs.Common.{◌+◌, sym, ◌∙◌, ap}
use Rattle.hd_pool.proofs.Touched.{touched-more, touched-same}
use Rattle.hd_pool.proofs.outlay.count_touched.Goals as goal
use Rattle.hd_pool.proofs.outlay.count_touched.Goals.{then-stamp-changes, else-stamp-changes}

pub tiles-preserved : goal.tiles-preserved
tiles-preserved g c =
    let stamps = c.args.tiles.now.stamps.items in
    elim c.if-stamp-changes.branch [
      | then-stamp-changes w ↦ w.touched-is ∙ ap (λ n. n + 1) c.tiles.invariant ∙ sym (touched-more c.args.changes stamps c.tiles.tile c.stamp.result c.stamp.ensures w.if-stamp-changes.true)
      | else-stamp-changes w ↦ w.touched-is ∙ c.tiles.invariant ∙ sym (touched-same c.args.changes stamps c.tiles.tile c.stamp.result c.stamp.ensures w.if-stamp-changes.false)
    ]
