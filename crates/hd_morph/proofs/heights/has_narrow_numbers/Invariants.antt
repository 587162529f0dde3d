use Rattle.std.proofs.Common.{◌<◌, ℕ, slice_index_or, None}
use Rattle.hd_map.specs.Encoding.{narrow}
use Rattle.hd_map.specs.Lanes.{IsBounded}
use Rattle.hd_morph.proofs.heights.has_narrow_numbers.Given as goal

abbrev pub invariant-loop-index : goal.invariant-loop-index
invariant-loop-index l = (k : ℕ) → k < l.index → IsBounded narrow.most_number (slice_index_or l.element.table k None)
