use Rattle.std.specs.Int.{w128}
use Rattle.std.proofs.lemmas.Int.{to_z-of_z}
use Rattle.hd_stats.specs.Gathering.{deviation_by}
use Rattle.hd_stats.proofs.Deviations.{height-kept, count-kept, total-kept, product-fits, deviation_by-fits, deviation_by-small}
use Rattle.hd_stats.proofs.heights.deviation.Goals as goal

pub overflow_mul-result : goal.overflow_mul-result
overflow_mul-result c =
    rw (height-kept _ _ c.ranges.height c.from.ensures, count-kept _ _ c.requires.count c.from-2.ensures) (product-fits c.args.height c.args.sums.now.count c.ranges.height c.requires.count)

pub overflow_sub-result : goal.overflow_sub-result
overflow_sub-result c =
    rw (
      height-kept _ _ c.ranges.height c.from.ensures,
      count-kept _ _ c.requires.count c.from-2.ensures,
      to_z-of_z w128 _ (product-fits c.args.height c.args.sums.now.count c.ranges.height c.requires.count),
      total-kept c.args.sums.now.total c.requires.total,
    ) (deviation_by-fits c.args.sums.now c.args.height c.ranges.height c.requires)

pub returns-clause-small : goal.returns-clause-small
returns-clause-small c =
    rw (
      height-kept _ _ c.ranges.height c.from.ensures,
      count-kept _ _ c.requires.count c.from-2.ensures,
      to_z-of_z w128 _ (product-fits c.args.height c.args.sums.now.count c.ranges.height c.requires.count),
      total-kept c.args.sums.now.total c.requires.total,
      to_z-of_z w128 (deviation_by c.args.sums.now c.args.height) (deviation_by-fits c.args.sums.now c.args.height c.ranges.height c.requires),
    ) (deviation_by-small c.args.sums.now c.args.height c.ranges.height c.requires)
