use Rattle.std.proofs.Common.{◌≡◌, ◌<◌, ℕ, false, get_or}
use Rattle.hd_sdf_read.specs.Entries.{is_equals}
use Rattle.hd_sdf_read.proofs.entries.split_at_equals.Given as goal

abbrev pub invariant-bytes : goal.invariant-bytes
invariant-bytes l = (k : ℕ) → k < l.place → is_equals (get_or l.text k 0) ≡ false
