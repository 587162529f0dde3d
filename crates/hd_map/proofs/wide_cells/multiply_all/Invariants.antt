use Rattle.std.proofs.Common.{◌≡◌, ◌*ℤ◌, ◌++◌, take, drop, map}
use Rattle.std.specs.Int.{int_wrap, w64}
use Rattle.hd_map.proofs.wide_cells.multiply_all.Given as goal

abbrev pub invariant-loop-index : goal.invariant-loop-index
invariant-loop-index l = l.numbers.items ≡ map (λ number. int_wrap w64 (number *ℤ l.fn.factor)) (take l.index l.fn.numbers.items) ++ drop l.index l.fn.numbers.items
