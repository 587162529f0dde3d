use Rattle.std.proofs.Common.{◌≡◌, ◌++◌, drop}
use Rattle.std.specs.List.{flat_map}
use Rattle.hd_report.specs.Distributions.{count_text}
use Rattle.hd_report.proofs.distributions.push_all.Given as goal

-- the counts so far, and then those that are left
abbrev pub invariant-counts : goal.invariant-counts
invariant-counts l = l.text ++ flat_map count_text (drop l.count-index l.counts) ≡ l.fn.text ++ flat_map count_text l.counts
