use Rattle.std.proofs.Common.{take}
use Rattle.hd_basin.specs.Known.{AreNoted}
use Rattle.hd_basin.proofs.spot.note.Given as goal

abbrev pub invariant-places : goal.invariant-places
invariant-places l = AreNoted (take l.place-index l.places) l.number l.fn.numbers.items l.numbers.items
