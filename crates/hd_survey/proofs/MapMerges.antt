-- The merges of the pits of a map, as a graph tells them.
use Rattle.std.proofs.Common.{◌≡◌, ◌≢◌, ◌<◌, ◌^◌, length, get_or, refl, ap, subst, arith}
use Rattle.std.specs.Prelude.{AllPairs, Contains, ◌↔◌}
use Rattle.std.proofs.lemmas.List.{get_or-map, length-map}
use Rattle.hd_map.specs.declared.types.Rank.{Rank}
use Rattle.hd_map.specs.declared.types.SideName.{SideName}
use Rattle.hd_map.specs.Map.{IsMap, Map}
use Rattle.hd_map.specs.Region.{IsPit}
use Rattle.hd_map.proofs.Apart.{length-le_from_apart}
use Rattle.hd_map.proofs.Depth.{point_limits}
use Rattle.hd_graph.specs.declared.graph.Low.{Low}
use Rattle.hd_graph.specs.Graph.{IsLow}
use Rattle.hd_graph.specs.Tells.{AreMergesOf}
use Rattle.hd_prune.specs.Staying.{ranks_of}
use Rattle.hd_survey.specs.declared.merges.PitMerges.{PitMerges}
use Rattle.hd_survey.specs.Findings.{ArePitMerges}
use Rattle.hd_survey.proofs.Lists.{Contains-map, map-Contains}

module _ (m : Map) (side : SideName) (x : PitMerges) (are : ArePitMerges m side x) where
  low_pits : (p : Rank) → IsLow x.lows p ↔ IsPit m side p
  low_pits p = (
    λ h. (are.pits.exactly p).0 (subst (λ r. Contains (ranks_of x.lows) r) h.2 (map-Contains (λ (l : Low). l.rank) x.lows h.0 h.1)),
    λ pit. Contains-map (λ (l : Low). l.rank) x.lows p ((are.pits.exactly p).1 pit),
  )

  pub merges_of_map : AreMergesOf m side x.lows x.merges
  merges_of_map = record { pits = low_pits; at_saddles = are.merges }

  pub lows_different : AllPairs (λ x y. x.rank.index ≢ y.rank.index) x.lows
  lows_different i j d less inside same =
      let long : length (ranks_of x.lows) ≡ length x.lows = length-map x.lows (λ (l : Low). l.rank) in
      let rises = are.pits.in_order i j d.rank less (omega (arith, inside, long)) in
      let a : get_or (ranks_of x.lows) i d.rank ≡ (get_or x.lows i d).rank = get_or-map (λ (l : Low). l.rank) x.lows i d d.rank (omega (arith, less, inside)) in
      let b : get_or (ranks_of x.lows) j d.rank ≡ (get_or x.lows j d).rank = get_or-map (λ (l : Low). l.rank) x.lows j d d.rank inside in
      let c = ap (λ (r : Rank). r.index) a in
      let e = ap (λ (r : Rank). r.index) b in
      omega (arith, rises, same, c, e)

  -- there are fewer pits than a number of 32 bits counts
  pub few_lows : IsMap m → length x.lows < 2 ^ 32
  few_lows whole =
      let most = length-le_from_apart (λ (l : Low). l.rank.index) 4194304 x.lows lows_different (λ l at. (point_limits m l.rank whole ((low_pits l.rank).0 (l, at, refl)).point).index) in
      omega (arith, most)
