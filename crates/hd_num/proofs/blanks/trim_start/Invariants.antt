use Rattle.std.proofs.Common.{◌≡◌, ◌<◌, ℕ, true, get_or}
use Rattle.hd_num.specs.Lines.{is_blank}
use Rattle.hd_num.proofs.blanks.trim_start.Given as goal

abbrev pub invariant-bytes : goal.invariant-bytes
invariant-bytes l = (k : ℕ) → k < l.place → is_blank (get_or l.text k 0) ≡ true
