-- Change trees: for each saddle of two pits, the classes of pits that it joins.
use Rattle.std.specs.Prelude.{◌≡◌, ◌≢◌, ◌⊎◌, ◌↔◌, Bool, true, List, Contains, AllPairs}
use Rattle.hd_map.specs.declared.types.Rank.{Rank}
use Rattle.hd_map.specs.declared.types.SideName.{SideName}
use Rattle.hd_map.specs.Map.{Map}
use Rattle.hd_map.specs.Order.{IsNotAbove}
use Rattle.hd_map.specs.Rank.{below_by}
use Rattle.hd_map.specs.Region.{IsPit}
use Rattle.hd_map.specs.Saddle.{IsSaddle}

-- a saddle, and the classes that it joins, each named by its lowest pit
pub record Joining : Type 0 where
  pub saddle : Rank
  pub parts : List Rank

-- the tree of some pits, where Has p q s says that s is the saddle of p and q
module _ (below : Rank → Rank → Bool) (Has : Rank → Rank → Rank → Type 0) (Pit : Rank → Type 0) where
  -- s is the saddle of the two pits p and q
  pub record IsSaddleOfPits (p q s : Rank) : Type 0 where
    pub first : Pit p
    pub second : Pit q
    pub different : p ≢ q
    pub saddle : Has p q s

  -- p and q are in one class at s: they are the same, or their saddle is below s
  abbrev pub AreTogether : Rank → Rank → Rank → Type 0
  AreTogether s p q = (p ≡ q) ⊎ ((u : Rank) × Has p q u × (below u s ≡ true))

  -- r is the lowest pit of its class at s, and some pit of that class has saddle s with some pit
  pub record IsPart (s r : Rank) : Type 0 where
    pub is_pit : Pit r
    pub lowest : (q : Rank) → Pit q → AreTogether s r q → IsNotAbove below r q
    pub joined : (p : Rank) × (q : Rank) × AreTogether s r p × IsSaddleOfPits p q s

  -- the parts are those that the saddle joins, each once, in the side's order
  pub record IsJoining (x : Joining) : Type 0 where
    pub exactly : (r : Rank) → Contains x.parts r ↔ IsPart x.saddle r
    pub in_order : AllPairs (λ a b. below a b ≡ true) x.parts

  -- the saddles are those of two pits, each once, in the side's order, each with its parts
  pub record IsTree (joins : List Joining) : Type 0 where
    pub saddles : (s : Rank) → ((x : Joining) × Contains joins x × (x.saddle ≡ s))
        ↔ ((p : Rank) × (q : Rank) × IsSaddleOfPits p q s)
    pub each : (x : Joining) → Contains joins x → IsJoining x
    pub in_order : AllPairs (λ a b. below a.saddle b.saddle ≡ true) joins

-- the change tree of the map on the side
abbrev pub IsChangeTree : Map → SideName → List Joining → Type 0
IsChangeTree m side joins = IsTree (below_by side) (IsSaddle m side) (IsPit m side) joins
