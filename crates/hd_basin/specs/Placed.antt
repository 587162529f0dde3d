-- The nodes of all tiles by their places, and the numbers of the pits among them.
use Rattle.std.specs.Prelude.{◌≡◌, ◌≢◌, ◌<◌, ℕ, Bool, List, AllPairs, Contains, Some, None, length, nat_lt, slice_get, slice_index}
use Rattle.hd_map.specs.declared.types.Rank.{Rank}
use Rattle.hd_basin.specs.declared.node.Node.{Node}
use Rattle.hd_basin.specs.declared.part.Part.{Part}
use Rattle.hd_basin.specs.declared.placed.PlacedPit.{PlacedPit}
use Rattle.hd_basin.specs.declared.placed.Listing.{Listing}
use Rattle.hd_basin.specs.Roots.{AreFirsts, Rooted, all_nodes}

-- what stands where no number is known, which is the number of no pit
abbrev pub unknown : ℕ
unknown = 4294967295

abbrev pub pit_of : PlacedPit → Rank
pit_of p = p.pit

-- whether a comes before b in position order
abbrev pub comes_first : PlacedPit → PlacedPit → Bool
comes_first a b = nat_lt a.pit.index b.pit.index

-- the pit is the sink of the node at its place, which flows nowhere
pub record IsPlaced (nodes : List Node) (p : PlacedPit) : Type 0 where
  pub node : Node
  pub at : slice_get nodes p.place ≡ Some node
  pub ends : node.flows ≡ None
  pub pit_is : p.pit ≡ node.low

-- of these nodes each that flows nowhere has its pit with its place, once, and no number is known
pub record AreListed (nodes : List Node) (pits : List PlacedPit) (numbers : List ℕ) : Type 0 where
  pub each : (p : PlacedPit) → Contains pits p → IsPlaced nodes p
  pub all : (place : ℕ) (n : Node) → slice_get nodes place ≡ Some n → n.flows ≡ None
      → (p : PlacedPit) × Contains pits p × (p.place ≡ place)
  pub apart : AllPairs (λ (p q : PlacedPit). p.place ≢ q.place) pits
  pub whole : length numbers ≡ length nodes
  pub none : (place : ℕ) → place < length numbers → slice_index numbers place ≡ unknown

pub record IsListing (parts : List Part) (l : Listing) : Type 0 where
  pub firsts : AreFirsts parts l.firsts.items
  pub nodes : AreListed (all_nodes parts) l.pits.items l.numbers.items

-- at the place of each pit stands its number in the list, and all else is as it was
pub record AreNumbered (placed : List PlacedPit) (old new : List ℕ) : Type 0 where
  pub whole : length new ≡ length old
  pub each : (number : ℕ) (p : PlacedPit) → slice_get placed number ≡ Some p
      → slice_index new p.place ≡ number
  pub others : (place : ℕ) → ((p : PlacedPit) → Contains placed p → p.place ≢ place)
      → slice_index new place ≡ slice_index old place

-- the number of a node that flows nowhere is that of its sink among the pits; no other node has one
pub record HasNumber (pits : List Rank) (n : Node) (number : ℕ) : Type 0 where
  pub ends : n.flows ≡ None → slice_get pits number ≡ Some n.low
  pub onward : (n.flows ≡ None → ⊥) → number ≡ unknown

-- the pits are the sinks of the nodes that flow nowhere, in position order
pub record AreNumberedPits (parts : List Part) (roots : Rooted) : Type 0 where
  pub firsts : AreFirsts parts roots.firsts
  pub whole : length roots.numbers ≡ length (all_nodes parts)
  pub few : length roots.pits < unknown
  pub each : (p : Rank) → Contains roots.pits p
      → (n : Node) × Contains (all_nodes parts) n × (n.flows ≡ None) × (n.low ≡ p)
  pub in_order : AllPairs (λ a b. a.index < b.index) roots.pits
  pub numbers : (place : ℕ) (n : Node) → slice_get (all_nodes parts) place ≡ Some n
      → HasNumber roots.pits n (slice_index roots.numbers place)
