-- The places of kept pits, and the tallies of what they own.
use Rattle.std.specs.Prelude.{◌≡◌, ◌<◌, ℕ, Bool, false, List, [], ◌∷◌, length, map, filter, Option, Some, None, nat_eq, slice_index_or, if◌then◌else◌}
use Rattle.std.specs.List.{range_with_len}
use Rattle.hd_map.specs.declared.types.Rank.{Rank}
use Rattle.hd_map.specs.declared.types.RegionSize.{RegionSize}
use Rattle.hd_map.specs.declared.types.SideName.{SideName}
use Rattle.hd_map.specs.Map.{Map, cell_count}
use Rattle.hd_map.specs.Region.{AreRegions}
use Rattle.hd_prune.specs.declared.step.Kept.{Kept}
use Rattle.hd_prune.specs.declared.step.Owned.{Owned}
use Rattle.hd_regions.specs.declared.tally.Tally.{Tally}
use Rattle.hd_survey.specs.Regions.{pit_ranks, points_of, rank_at}
use Rattle.hd_survey.specs.Tallies.{joined, no_tally}
pub use Rattle.hd_regions.specs.Owned.{ArePrunedRegions}

-- the index of the pit that owns the pit of this index
abbrev pub owner_of : Map → (Rank → Rank) → ℕ → ℕ
owner_of m owner pit = (owner (rank_at m pit)).index

-- whether a kept pit owns this root
abbrev pub owns : Map → (Rank → Rank) → ℕ → Option ℕ → Bool
owns m owner pit (Some root) = nat_eq (owner_of m owner root) pit
owns m owner pit None = false

-- of the points with an index below n, those whose roots a kept pit owns
abbrev pub owned_below : Map → (Rank → Rank) → List (Option ℕ) → ℕ → ℕ → List ℕ
owned_below m owner roots pit n = filter (λ k. owns m owner pit (slice_index_or roots k None)) (range_with_len 0 n)

-- all points whose roots a kept pit owns
abbrev pub owned_points : Map → (Rank → Rank) → List (Option ℕ) → ℕ → List ℕ
owned_points m owner roots pit = owned_below m owner roots pit (cell_count m.size)

-- a kept pit, and how many points it owns
abbrev pub owned_size : Map → (Rank → Rank) → List (Option ℕ) → Rank → RegionSize
owned_size m owner roots pit = record { pit = pit; points = length (owned_points m owner roots pit.index) }

-- by index of a kept pit, its place among them: no other index has that place
pub record AreKeptPlaces (kept : List Kept) (count : ℕ) (places : List ℕ) : Type 0 where
  pub whole : length places ≡ count
  pub each : (n i : ℕ) (d : Kept) → n < count → i < length kept → nat_eq n (slice_index_or kept i d).pit.index ≡ nat_eq (slice_index_or places n 0) i

-- the tallies of some of the owned pits, taken together
abbrev pub joined_of : (Owned → Bool) → List Owned → List Tally → Tally
joined_of own [] ts = no_tally
joined_of own (o ∷ os) [] = no_tally
joined_of own (o ∷ os) (t ∷ ts) = if own o then joined t (joined_of own os ts) else joined_of own os ts

-- whether the owner of a pit has this place
abbrev pub is_placed : List ℕ → ℕ → Owned → Bool
is_placed places i o = nat_eq (slice_index_or places o.owner.index 0) i

-- whether the owner of a pit has this index
abbrev pub is_owned : ℕ → Owned → Bool
is_owned pit o = nat_eq o.owner.index pit

-- by place, the tallies of the pits whose owners have that place, taken together
pub record ArePlacedTallies (count : ℕ) (places : List ℕ) (owners : List Owned) (tallies all : List Tally) : Type 0 where
  pub whole : length all ≡ count
  pub each : (i : ℕ) (d : Tally) → i < count → slice_index_or all i d ≡ joined_of (is_placed places i) owners tallies

-- by place of a kept pit, the tallies of the pits that it owns, taken together
pub record AreOwnedTallies (kept : List Kept) (owners : List Owned) (tallies all : List Tally) : Type 0 where
  pub whole : length all ≡ length kept
  pub each : (i : ℕ) (d : Tally) (k : Kept) → i < length kept → slice_index_or all i d ≡ joined_of (is_owned (slice_index_or kept i k).pit.index) owners tallies

-- the tally of this place is joined with another, where there is one
pub record JoinsAt (old : List Tally) (place : ℕ) (tally : Tally) (new : List Tally) : Type 0 where
  pub whole : length new ≡ length old
  pub each : (i : ℕ) (d : Tally) → i < length old → slice_index_or new i d ≡ (if nat_eq place i then joined (slice_index_or old i d) tally else slice_index_or old i d)

-- these numbers of points are those of the regions of a map, in position order of their pits
pub record HavePoints (m : Map) (side : SideName) (points : List ℕ) : Type 0 where
  pub roots : List (Option ℕ)
  pub regions : AreRegions m side roots
  pub are : points ≡ map (λ pit. points_of roots pit.index) (pit_ranks m roots)

-- a region without regard to its edges
abbrev pub plain_tally : RegionSize → Tally
plain_tally region = record { points = region.points; edge = None }

-- the region of a kept pit with this tally
abbrev pub sized : Kept → Tally → RegionSize
sized k tally = record { pit = k.pit; points = tally.points }

-- the regions of the kept pits with these tallies
pub record AreSized (kept : List Kept) (tallies : List Tally) (n : ℕ) (list : List RegionSize) : Type 0 where
  pub whole : length list ≡ n
  pub each : (i : ℕ) (d : RegionSize) (k : Kept) (t : Tally) → i < n → slice_index_or list i d ≡ sized (slice_index_or kept i k) (slice_index_or tallies i t)
