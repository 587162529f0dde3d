-- The regions of a map are basins, and its pits their lows.
use Rattle.std.proofs.Common.{ℕ, List, [], ◌∷◌, Option, refl, true}
use Rattle.std.specs.Prelude.{All}
use Rattle.std.proofs.lemmas.List.Elements.{All-nil, All-cons, All-weaker}
use Rattle.hd_map.specs.declared.types.Rank.{Rank}
use Rattle.hd_map.specs.declared.types.SideName.{SideName}
use Rattle.hd_map.specs.Map.{Map}
use Rattle.hd_map.specs.Order.{IsNotAbove}
use Rattle.hd_map.specs.Passes.{IsLabelled}
use Rattle.hd_map.specs.Path.{Leads}
use Rattle.hd_map.specs.Rank.{Near, below_by}
use Rattle.hd_map.specs.Region.{AreNexts, AreRegions}
use Rattle.hd_map.specs.SideLaws.{below_by-order}
use Rattle.hd_map.proofs.Nexts.{root-is_pit, root-unique, root-pit}
use Rattle.hd_map.proofs.Regions.{labelled-root, region-of, root-labelled}
use Rattle.hd_map.proofs.Order.{not_above-trans, below-not_above}
use Rattle.hd_graph.specs.declared.graph.Low.{Low}
use Rattle.hd_graph.specs.Basins.{AreBasins, AreLowsOf, ArePitsOf}

module _ (m : Map) (side : SideName) where
  -- the nexts of a point are a path that does not rise above it
  nexts-path : (p r : Rank) (xs : List Rank) → AreNexts m side p xs r → Leads (Near m) p xs r × All (λ y. IsNotAbove (below_by side) y p) xs
  nexts-path p r [] h = (h.0, All-nil (λ y. IsNotAbove (below_by side) y p))
  nexts-path p r (q ∷ qs) h =
      let lower = (h.0).lower in
      let rest = nexts-path q r qs h.1 in
      let low : IsNotAbove (below_by side) q p = below-not_above (below_by side) (below_by-order side) q p lower.below in (
        (lower.near, rest.0),
        All-cons (λ y. IsNotAbove (below_by side) y p) q qs low
            (All-weaker (λ y. IsNotAbove (below_by side) y q) (λ y. IsNotAbove (below_by side) y p) (λ y h. not_above-trans (below_by side) (below_by-order side) y q p h low) qs rest.1),
      )

  module _ (labels : List (Option ℕ)) (regions : AreRegions m side labels) where
    pub regions-basins : AreBasins m side (IsLabelled m labels)
    regions-basins = record {
      some = λ x point. (let r = region-of m side labels regions x point in (r.0, r.2));
      one = λ x a b xa xb. root-unique m side x a b (labelled-root m side labels regions x a xa) (labelled-root m side labels regions x b xb);
      settles = λ x a h.
          let root = labelled-root m side labels regions x a h in
          let p = nexts-path x a root.0 root.1 in
          (root.0, record { point = h.point; leads = p.0 }, p.1);
    }

    pub regions-lows : (lows : List Low) → ArePitsOf m side lows → AreLowsOf m side (IsLabelled m labels) lows
    regions-lows lows pits = record {
      low = λ x at. let pit = ((pits x).0 at).0 in root-labelled m side labels regions x.rank x.rank pit.point (root-pit m side x.rank pit);
      all = λ x a h. (
          let low : Low = record { rank = a; pit = true } in
          (low, (pits low).1 (root-is_pit m side x a (labelled-root m side labels regions x a h), refl), refl));
      pit = λ x at. (λ e. ((pits x).0 at).0, λ pit. ((pits x).0 at).1);
    }
