use Rattle.hd_tests.proofs.by_line.expect_same.Goals as goal

pub find_pruned-requires : goal.find_pruned-requires
find_pruned-requires g c = c.new-findings.ensures _
