use Rattle.std.proofs.Common.{◌≡◌, ◌<◌, ◌≤◌, ℕ, true, get_or, length}
use Rattle.hd_num.specs.Lines.{is_blank}
use Rattle.hd_num.proofs.blanks.trim_end.Given as goal

abbrev pub invariant-bytes : goal.invariant-bytes
invariant-bytes l = record {
  within : l.end ≤ length l.text;
  blanks : (k : ℕ) → l.end ≤ k → k < length l.text → is_blank (get_or l.text k 0) ≡ true;
}

abbrev pub decreases-bytes : goal.decreases-bytes
decreases-bytes l = l.end
