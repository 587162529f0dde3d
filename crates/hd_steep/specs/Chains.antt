-- The indexes of a place, one after the other.
use Rattle.std.specs.Prelude.{◌≡◌, ◌<◌, ◌≤◌, ◌+◌, ℕ, List, length, slice_get, Some}
use Rattle.hd_steep.specs.declared.chains.Chains.{Chains}

-- k is the least index from n on at which the place stands, and the number of indexes where there is none
pub record IsFirstFrom (places : List ℕ) (place n k : ℕ) : Type 0 where
  pub from : n ≤ k
  pub most : k ≤ length places
  pub there : k < length places → slice_get places k ≡ Some place
  pub none : (j : ℕ) → n ≤ j → j < k → slice_get places j ≡ Some place → ⊥

-- the first index of each place below a bound
pub record AreFirstsFrom (places : List ℕ) (room n : ℕ) (firsts : List ℕ) : Type 0 where
  pub long : length firsts ≡ room
  pub each : (place k : ℕ) → slice_get firsts place ≡ Some k → IsFirstFrom places place n k

-- by index from n on, the next index of the same place
pub record AreNextsFrom (places : List ℕ) (n : ℕ) (nexts : List ℕ) : Type 0 where
  pub long : length nexts ≡ length places
  pub each : (i place k : ℕ) → n ≤ i → slice_get places i ≡ Some place → slice_get nexts i ≡ Some k → IsFirstFrom places place (i + 1) k

-- the chains of all places below a bound
pub record AreChains (places : List ℕ) (room : ℕ) (chains : Chains) : Type 0 where
  pub firsts : AreFirstsFrom places room 0 chains.firsts.items
  pub nexts : AreNextsFrom places 0 chains.nexts.items
