use Rattle.std.proofs.Common.{◌≡◌, take, get_or, fold, pos}
use Rattle.std.specs.Int.{int_min}
use Rattle.hd_feature.proofs.statistic.least.Given as goal

abbrev pub invariant-values : goal.invariant-values
invariant-values l = l.least ≡ fold int_min (get_or l.values 0 (pos 0)) (take l.value-index l.values)
