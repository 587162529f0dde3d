-- Basins of a map: each point lies in one, and reaches its low without rising. The regions are basins,
-- and so are the parts of regions that a tile holds.
use Rattle.std.specs.Prelude.{◌≡◌, ◌↔◌, true, List, All, Contains}
use Rattle.hd_map.specs.declared.types.Rank.{Rank}
use Rattle.hd_map.specs.declared.types.SideName.{SideName}
use Rattle.hd_map.specs.Map.{Map}
use Rattle.hd_map.specs.Order.{IsNotAbove}
use Rattle.hd_map.specs.Path.{IsPath}
use Rattle.hd_map.specs.Rank.{IsPoint, below_by}
use Rattle.hd_map.specs.Region.{IsPit}
use Rattle.hd_graph.specs.declared.graph.Low.{Low}

-- where In x a says that the point x lies in the basin of a
module _ (m : Map) (side : SideName) (In : Rank → Rank → Type 0) where
  pub record AreBasins : Type 0 where
    pub some : (x : Rank) → IsPoint m x → (a : Rank) × In x a
    pub one : (x a b : Rank) → In x a → In x b → a ≡ b
    pub settles : (x a : Rank) → In x a → (xs : List Rank) × IsPath m x xs a
        × All (λ y. IsNotAbove (below_by side) y x) xs

  -- the lows are those of the basins, and such a low is a pit exactly where the map has a pit there
  pub record AreLowsOf (lows : List Low) : Type 0 where
    pub low : (x : Low) → Contains lows x → In x.rank x.rank
    pub all : (x a : Rank) → In x a → (l : Low) × Contains lows l × (l.rank ≡ a)
    pub pit : (x : Low) → Contains lows x → (x.pit ≡ true) ↔ IsPit m side x.rank

-- the lows are the pits of the map, and said to be pits
abbrev pub ArePitsOf : Map → SideName → List Low → Type 0
ArePitsOf m side lows = (x : Low) → Contains lows x ↔ (IsPit m side x.rank × (x.pit ≡ true))
