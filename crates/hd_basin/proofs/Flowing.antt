-- Where a sink flows, by the labels of a pool, and that this ends.
use Rattle.std.proofs.Common.{◌≡◌, ◌<◌, ℕ, true, false, Some, refl, sym, ◌∙◌, ap, subst, arith}
use Rattle.hd_map.specs.declared.types.Pos.{Pos}
use Rattle.hd_map.specs.declared.types.Rank.{Rank}
use Rattle.hd_map.specs.declared.types.SideName.{SideName}
use Rattle.hd_map.specs.Map.{Map, IsMap, Present}
use Rattle.hd_map.specs.Rank.{rank, below_by}
use Rattle.hd_map.specs.Region.{IsRoot}
use Rattle.hd_map.proofs.Points.{Near-to, rank_position}
use Rattle.hd_map.specs.SideLaws.{below_by-order}
use Rattle.hd_map.proofs.Depth.{depth_by, depth_falls}
use Rattle.hd_map.proofs.Nexts.{next-falls, root-step}
use Rattle.hd_basin.specs.Basin.{IsSinkOf, FlowsTo, IsLabel}
use Rattle.hd_basin.proofs.SinkLaws.{FlowsInto, sink-is_sink, sink-not_above, sink-root}

module _ (m : Map) (side : SideName) (t : ℕ) where
  -- the point that a sink flows to is present at the node's position
  pub flows-point : (s : Rank) (q : Pos) (f : FlowsTo m side s q) → Present m q × (rank m q ≡ f.to)
  flows-point s q f =
      let point = Near-to m s f.to f.is_next.lower.near in
      let same : point.at ≡ q = sym (rank_position m f.to point.at point.present point.rank_is) ∙ sym f.at in
      (subst (Present m) same point.present, ap (rank m) (sym same) ∙ sym point.rank_is)

  -- and a sink flows into the basin of that label
  pub flows-into : (s : Rank) (q : Pos) (u : Rank) → FlowsTo m side s q → IsLabel m side t q (Some u) → FlowsInto m side t s u
  flows-into s q u f l = record { next = f.to; is_next = f.is_next; sink = subst (λ (r : Rank). IsSinkOf m side t r u) (flows-point s q f).1 l.1 }

  -- which is less deep
  pub flows-falls : (s u : Rank) → IsMap m → FlowsInto m side t s u → depth_by side u < depth_by side s
  flows-falls s u whole f =
      let first = next-falls m side s f.next whole f.is_next in
      let low = sink-not_above m side t f.next u f.sink in
      elim (below_by side u f.next) as (λ v. below_by side u f.next ≡ v → depth_by side u < depth_by side s) [
        | true ↦ λ e. (let second = depth_falls m side u f.next whole (sink-is_sink m side t f.next u f.sink).point (Near-to m s f.next f.is_next.lower.near) e in omega arith)
        | false ↦ λ e. (let same : u ≡ f.next = (below_by-order side).total u f.next e low in subst (λ (r : Rank). depth_by side r < depth_by side s) (sym same) first)
      ] refl

  -- the root of where a sink flows is its own
  pub flows-root_step : (s u r : Rank) → FlowsInto m side t s u → IsRoot m side u r → IsRoot m side s r
  flows-root_step s u r f root = root-step m side s f.next r f.is_next ((sink-root m side t f.next u r f.sink).1 root)
