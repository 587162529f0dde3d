use Rattle.std.proofs.Common.{◌≡◌, take}
use Rattle.hd_engine.proofs.copies.extras.Given as goal

-- the copies so far
abbrev pub invariant-entries : goal.invariant-entries
invariant-entries l = l.copies ≡ take l.entry-index l.entries
