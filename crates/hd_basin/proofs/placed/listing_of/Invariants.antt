use Rattle.hd_basin.proofs.AreListed.{AreListedTo}
use Rattle.hd_basin.proofs.placed.listing_of.Given as goal

abbrev pub invariant-tiles : goal.invariant-tiles
invariant-tiles l = AreListedTo l.stock l.tile l.firsts.items l.pits.items l.numbers.items
