-- Points below a saddle are reached from a point exactly where the pits of their regions are.
use Rattle.std.proofs.Common.{◌≡◌, ℕ, true, false, List, [], ◌∷◌, Option, Some, None, slice_index, slice_index_or, ◌∙◌, refl, sym, subst}
use Rattle.std.specs.Prelude.{Bool}
use Rattle.std.proofs.lemmas.Option.{same_Some}
use Rattle.hd_map.specs.declared.types.Pos.{Pos}
use Rattle.hd_map.specs.declared.types.Rank.{Rank}
use Rattle.hd_map.specs.declared.types.SideName.{SideName}
use Rattle.hd_map.specs.Map.{Map, Present, cell_count, place_of}
use Rattle.hd_map.specs.Neighbour.{Neighbour}
use Rattle.hd_map.specs.Rank.{rank, below_by}
use Rattle.hd_map.specs.Region.{AreNexts}
use Rattle.hd_map.specs.Shown.{IsReachedBelow}
use Rattle.hd_map.specs.SideLaws.{below_by-order}
use Rattle.hd_map.proofs.Points.{place_inside, point_at, same_point}
use Rattle.hd_check.proofs.Searching.{Contains-place}
use Rattle.hd_steep.specs.Crossings.{IsNumberOf, pit_at}
use Rattle.hd_steep.specs.Numbering.{AreNumbered, Numbering, number_of}
use Rattle.hd_steep.specs.Reached.{AreReachedPits}
use Rattle.hd_steep.proofs.NumberedCrossings.{number-of_point}
use Rattle.hd_cert.specs.Listed.{AreListed}
use Rattle.hd_cert.specs.Routes.{IsRouteCut}
use Rattle.hd_reach.specs.Reached.{IsLowStep, IsReachedLow}
use Rattle.hd_reach.specs.Within.{LiesWithin, within}
use Rattle.hd_reach.proofs.ReachedBelow.{IsReachedLow-sym, IsReachedLow-trans, IsLow-end, IsReachedBelow-low, IsReachedLow-below}

module _ (m : Map) (side : SideName) where
  -- what is below a point below the saddle is below it too
  within_lower : (saddle : Option Rank) (a b : Rank) → below_by side b a ≡ true → within side saddle true a ≡ true → within side saddle true b ≡ true
  within_lower None a b down low = refl
  within_lower (Some s) a b down low = (below_by-order side).transitive b a s down low

  module _ (saddle : Option Rank) where
    -- a point below the saddle reaches its root
    root_reached : (p : Pos) (path : List Rank) (r : Rank) → LiesWithin m side saddle true p → AreNexts m side (rank m p) path r → (q : Pos) × (rank m q ≡ r) × IsReachedLow m side saddle p q
    root_reached p [] r low nexts = (p, nexts.0, ([], refl))
    root_reached p (y ∷ path) r low nexts =
        let near = nexts.0.lower.near in
        let same : near.from ≡ p = same_point m near.from p near.neighbour.from low.present (sym near.from_rank) in
        let low' : LiesWithin m side saddle true near.to = record {
          present = near.neighbour.to;
          low = subst (λ (x : Rank). within side saddle true x ≡ true) near.to_rank (within_lower saddle (rank m p) y nexts.0.lower.below low.low);
        } in
        let rest = root_reached near.to path r low' (subst (λ (x : Rank). AreNexts m side x path r) near.to_rank nexts.1) in
        let first : IsLowStep m side saddle p near.to = record { neighbour = subst (λ (x : Pos). Neighbour m x near.to) same near.neighbour; from = low; to = low' } in
        (rest.0, rest.1, (near.to ∷ (rest.2).0, (first, (rest.2).1)))

    module _ (regions : Numbering) (are : AreNumbered m side regions) (a : Pos) (reached : List Bool) (known : AreReachedPits m side saddle (rank m a) regions.pits reached)
        (low : LiesWithin m side saddle true a) (p : Pos) (k : ℕ) (place : k ≡ place_of m.size p) where
      abbrev number : Option ℕ
      number = number_of regions.pits (slice_index regions.numbers k)

      numbered : Present m p → IsNumberOf m side regions.pits (rank m p) (slice_index regions.numbers k) × (number ≡ Some (slice_index regions.numbers k))
      numbered there = rw place (number-of_point m side regions are (rank m p) (point_at m p there))

      -- what is reached is below the saddle
      pub LiesWithin-reached : IsReachedLow m side saddle a p → LiesWithin m side saddle true p
      LiesWithin-reached w = IsLow-end m side saddle a w.0 p low w.1

      -- where no point is present, none is reached
      pub IsReachedLow-none : number ≡ None → IsReachedLow m side saddle a p → ⊥
      IsReachedLow-none none w = let some : None ≡ Some (slice_index regions.numbers k) = sym none ∙ (numbered (LiesWithin-reached w).present).1 in cc

      module _ (n : ℕ) (is : number ≡ Some n) where
        numbered_by : Present m p → IsNumberOf m side regions.pits (rank m p) n
        numbered_by there =
            let so = numbered there in
            subst (IsNumberOf m side regions.pits (rank m p)) (same_Some (slice_index regions.numbers k) n (sym so.1 ∙ is)) so.0

        -- the pit of a point that is reached is reached
        pub IsReachedLow-pit : IsReachedLow m side saddle a p → slice_index_or reached n false ≡ true
        IsReachedLow-pit w =
            let lies = LiesWithin-reached w in
            let so = numbered_by lies.present in
            let way = root_reached p so.root.0 (pit_at regions.pits n) lies so.root.1 in
            (known.each n so.inside).1 (subst (IsReachedBelow m side saddle (rank m a)) way.1 (IsReachedBelow-low m side saddle a way.0 low (IsReachedLow-trans m side saddle a p way.0 w way.2)))

        -- a point below the saddle is reached where its pit is
        pub IsReachedLow-by_pit : slice_index_or reached n false ≡ true → LiesWithin m side saddle true p → IsReachedLow m side saddle a p
        IsReachedLow-by_pit flag lies =
            let so = numbered_by lies.present in
            let way = root_reached p so.root.0 (pit_at regions.pits n) lies so.root.1 in
            let to = IsReachedLow-below m side saddle a (pit_at regions.pits n) low.present ((known.each n so.inside).0 flag) in
            let same : to.0 ≡ way.0 = same_point m to.0 way.0 (IsLow-end m side saddle a (to.2).0 to.0 low (to.2).1).present
            (IsLow-end m side saddle p (way.2).0 way.0 lies (way.2).1).present (to.1 ∙ sym way.1) in
            IsReachedLow-trans m side saddle a way.0 p (subst (IsReachedLow m side saddle a) same to.2) (IsReachedLow-sym m side saddle p way.0 way.2)

-- the points that are reached, listed in position order, are the cut
pub IsRouteCut-listed : (m : Map) (side : SideName) (saddle : Option Rank) (a : Pos) (cut : List Pos) → LiesWithin m side saddle true a
    → AreListed m.size (IsReachedLow m side saddle a) (cell_count m.size) cut → IsRouteCut m side saddle a cut
IsRouteCut-listed m side saddle a cut low listed = record {
  rises = listed.rises;
  low = low;
  all = λ p. (
    λ c. (let f = Contains-place cut p c in subst (IsReachedLow m side saddle a) f.2 (listed.chosen f.0 f.1)),
    λ w. (let there = (IsLow-end m side saddle a w.0 p low w.1).present in listed.all p there.in_grid (place_inside m.size p there.in_grid) w),
  );
}
