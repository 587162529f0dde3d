use Rattle.std.proofs.Common.{◌≡◌, ◌<◌, ℕ, false, get_or}
use Rattle.hd_feature.specs.Parts.{is_separator}
use Rattle.hd_feature.proofs.parts.split_part.Given as goal

abbrev pub invariant-bytes : goal.invariant-bytes
invariant-bytes l = (k : ℕ) → k < l.place → is_separator (get_or l.text k 0) ≡ false
