-- The places of pits in their list.
use Rattle.std.specs.Prelude.{◌≡◌, ◌<◌, ℕ, List, length}
use Rattle.hd_graph.specs.declared.graph.Low.{Low}
use Rattle.hd_graph.specs.Links.{rank_at}
use Rattle.hd_map.specs.declared.types.Rank.{Rank}

-- the pit stands at this place
pub record IsPlaceOf (lows : List Low) (pit : Rank) (place : ℕ) : Type 0 where
  pub inside : place < length lows
  pub low : rank_at lows place ≡ pit
