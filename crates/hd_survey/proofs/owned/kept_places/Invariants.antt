use Rattle.hd_survey.proofs.KeptPlaces.{KeptPlacesBefore}
use Rattle.hd_survey.proofs.owned.kept_places.Given as goal

-- the places of the kept pits so far
abbrev pub invariant-pits : goal.invariant-pits
invariant-pits l = KeptPlacesBefore l.kept l.fn.count l.place l.places.items
