-- Graphs of lows and the passes between them.
use Rattle.std.specs.Prelude.{◌≡◌, ◌≢◌, ◌<◌, ◌^◌, Bool, List, length, All, AllPairs, Contains}
use Rattle.hd_map.specs.declared.types.Pass.{Pass}
use Rattle.hd_map.specs.declared.types.Rank.{Rank}
use Rattle.hd_map.specs.Order.{IsNotAbove}
use Rattle.hd_graph.specs.declared.graph.Low.{Low}

-- a graph as its two lists
pub record Net : Type 0 where
  pub lows : List Low
  pub passes : List Pass

-- one of the lows has this rank
abbrev pub IsLow : List Low → Rank → Type 0
IsLow lows r = (x : Low) × Contains lows x × (x.rank ≡ r)

-- a pass joins two of the lows, and is below neither
pub record IsPassOf (below : Rank → Rank → Bool) (lows : List Low) (p : Pass) : Type 0 where
  pub first : IsLow lows p.a
  pub second : IsLow lows p.b
  pub different : p.a ≢ p.b
  pub above_first : IsNotAbove below p.a p.at
  pub above_second : IsNotAbove below p.b p.at

-- there are at most 2,147,483,647 lows, which have different indexes, and each pass joins two of them
pub record IsGraph (below : Rank → Rank → Bool) (lows : List Low) (passes : List Pass) : Type 0 where
  pub few : length lows < 2 ^ 31
  pub different : AllPairs (λ x y. x.rank.index ≢ y.rank.index) lows
  pub joins : All (IsPassOf below lows) passes
