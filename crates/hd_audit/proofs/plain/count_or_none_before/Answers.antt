use Rattle.std.proofs.Common.{[], ◌∷◌, refl}
use Rattle.hd_audit.proofs.PlainLines.{count_or_none-given}
use Rattle.hd_audit.proofs.plain.count_or_none_before.Goals as goal

pub returns-in-Some : goal.returns-in-Some
returns-in-Some c = record { word = 45 ∷ []; whole = c.in-Some.ensures; reads = refl }

pub returns : goal.returns
returns c = let found = c.in_ok-count.ensures in record { word = found.word; whole = found.whole; reads = count_or_none-given found.word c.in_ok-count.count found.reads }
