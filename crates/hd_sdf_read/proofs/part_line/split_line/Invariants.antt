use Rattle.std.proofs.Common.{◌≡◌, ◌<◌, ℕ, false, get_or}
use Rattle.hd_num.specs.Lines.{is_line_feed}
use Rattle.hd_sdf_read.proofs.part_line.split_line.Given as goal

abbrev pub invariant-bytes : goal.invariant-bytes
invariant-bytes l = (k : ℕ) → k < l.place → is_line_feed (get_or l.text k 0) ≡ false
