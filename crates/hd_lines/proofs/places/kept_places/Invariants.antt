use Rattle.std.proofs.Common.{◌≡◌, ◌<◌, ◌≤◌, ℕ, length}
use Rattle.std.specs.Prelude.{All}
use Rattle.hd_lines.specs.Places.{AreKeptPlaces}
use Rattle.hd_lines.proofs.places.kept_places.Given as goal

abbrev pub invariant-pits : goal.invariant-pits
invariant-pits l = record {
  whole : length l.places.items ≡ length l.fn.regions.pits;
  are : AreKeptPlaces l.kept l.fn.regions.numbers l.place l.places.items;
  within : (room : ℕ) → 0 < room → length l.kept ≤ room → All (λ p. p < room) l.places.items;
}
