-- Pairs of neighbours of which each lies in its own region, and how many there are.
use Rattle.std.specs.Prelude.{◌≡◌, ◌≢◌, ◌↔◌, ℕ, List, length, Contains, AllPairs}
use Rattle.hd_map.specs.declared.types.Rank.{Rank}
use Rattle.hd_map.specs.declared.types.SideName.{SideName}
use Rattle.hd_map.specs.Map.{Map}
use Rattle.hd_map.specs.Order.{IsNotAbove}
use Rattle.hd_map.specs.Passes.{higher_by}
use Rattle.hd_map.specs.Rank.{Near, below_by}

-- two points, the first of one region and the second of another
pub record Pair : Type 0 where
  pub from : Rank
  pub to : Rank

-- the higher point of a pair
abbrev pub higher_of : SideName → Pair → Rank
higher_of side p = higher_by side p.from p.to

-- p is a pair of neighbours, the first of a and the second of b, where In x a says that the point x is of a
pub record IsAcross (m : Map) {K : Type 0} (In : Rank → K → Type 0) (a b : K) (p : Pair) : Type 0 where
  pub near : Near m p.from p.to
  pub from_in : In p.from a
  pub to_in : In p.to b

-- of the pairs with this property there are so many, and the pass is the lowest, over these pairs, of the
-- higher of the pair
pub record AreCounted (side : SideName) (Of : Pair → Type 0) (pairs : ℕ) (pass : Rank) : Type 0 where
  pub list : List Pair
  pub exactly : (p : Pair) → Contains list p ↔ Of p
  pub different : AllPairs (λ p q. p ≢ q) list
  pub many : pairs ≡ length list
  pub reached : (p : Pair) × Of p × (pass ≡ higher_of side p)
  pub least : (p : Pair) → Of p → IsNotAbove (below_by side) pass (higher_of side p)
