use Rattle.std.proofs.Common.{◌≡◌, ◌<◌, ℕ, slice_index_or, Some, None}
use Rattle.hd_morph.proofs.flat.flat_number.Given as goal

abbrev pub invariant-loop-index : goal.invariant-loop-index
invariant-loop-index l = (k : ℕ) → k < l.index → slice_index_or l.element.table k None ≡ Some l.first
