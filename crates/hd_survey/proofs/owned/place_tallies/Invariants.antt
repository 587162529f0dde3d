use Rattle.hd_survey.proofs.PlacedTallies.{ArePlacedBefore}
use Rattle.hd_survey.proofs.owned.place_tallies.Given as goal

-- the tallies so far, and then those of the pits that are left
abbrev pub invariant-pits : goal.invariant-pits
invariant-pits l = ArePlacedBefore l.fn.count l.places l.owners l.tallies l.number l.all.items
