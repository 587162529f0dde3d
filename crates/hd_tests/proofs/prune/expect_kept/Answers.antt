use Rattle.std.proofs.Common.{length}
use Rattle.hd_tests.proofs.WrittenGraphs.{within-from}
use Rattle.hd_tests.proofs.prune.expect_kept.Goals as goal

pub keep-requires : goal.keep-requires
keep-requires g c = within-from (length c.args.lows.now) c.args.merges.now c.requires
