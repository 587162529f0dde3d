-- A node flows to another one, or is its own root.
use Rattle.std.proofs.Common.{◌≡◌, ℕ, Option, Some, None, subst}
use Rattle.std.specs.Prelude.{MatchOption}
use Rattle.hd_map.specs.declared.types.Pos.{Pos}
use Rattle.hd_map.specs.declared.types.SideName.{SideName}
use Rattle.hd_map.specs.Map.{Map, InGrid, position_at}
use Rattle.hd_map.specs.Region.{IsPit, IsRoot}
use Rattle.hd_map.proofs.Nexts.{root-pit}
use Rattle.hd_basin.specs.declared.node.Node.{Node}
use Rattle.hd_basin.specs.Basin.{FlowsTo}
use Rattle.hd_basin.specs.InStep.{IsPoolOf, HasMap}
use Rattle.hd_basin.specs.Parts.{Pool, HasNode, node_of}
use Rattle.hd_basin.proofs.PointRoots.{OnWay, way-own, way-inside, way-labelled}

-- a node that flows nowhere is its own root
pub root-here : (side : SideName) (pool : Pool) (tile : ℕ) (n : Node) → HasNode pool.parts tile n → n.flows ≡ None → (m : Map) → IsPoolOf m side pool → IsRoot m side n.low n.low
root-here side pool tile n h ends m of =
    let is = (of.has.right.nodes tile n tt h).0 in
    root-pit m side n.low (subst (λ (o : Option Pos). MatchOption o (IsPit m side n.low) (FlowsTo m side n.low)) ends is.flows)

module _ (side : SideName) (pool : Pool) (tile : ℕ) (n : Node) (h : HasNode pool.parts tile n) (q : Pos) (onward : n.flows ≡ Some q) where
  way : OnWay side pool (position_at pool.size n.low.index) n
  way = way-own side pool tile n h

  -- a node flows into the grid, where there is a node
  pub onward-inside : HasMap side pool → InGrid pool.size q
  onward-inside = way-inside side pool (position_at pool.size n.low.index) n q way onward

  pub onward-labelled : HasMap side pool → InGrid pool.size q → node_of pool.size pool.side pool.parts q ≡ None → ⊥
  onward-labelled = way-labelled side pool (position_at pool.size n.low.index) n q way onward
