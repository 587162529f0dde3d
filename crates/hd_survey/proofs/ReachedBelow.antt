-- Pits are reached below a saddle where they are joined below it.
use Rattle.std.proofs.Common.{◌≡◌, ◌<◌, ℕ, false, Bool, List, [], ◌∷◌, length, Option, Some, None, inl, inr, sym, ◌∙◌, subst, arith}
use Rattle.std.specs.Prelude.{pos}
use Rattle.std.proofs.lemmas.List.{get_or-map, length-map}
use Rattle.std.proofs.lemmas.List.Elements.{All-contains, All-cons, All-nil, All-weaker}
use Rattle.hd_map.specs.declared.types.Rank.{Rank}
use Rattle.hd_map.specs.declared.types.SideName.{SideName}
use Rattle.hd_map.specs.Map.{Map}
use Rattle.hd_map.specs.Order.{IsNotAbove}
use Rattle.hd_map.specs.Pruning.{ArePits}
use Rattle.hd_map.specs.Rank.{IsPoint, below_by}
use Rattle.hd_map.specs.Shown.{IsBelowSaddle, IsReachedBelow}
use Rattle.hd_map.specs.SideLaws.{below_by-order}
use Rattle.hd_map.proofs.Levels.{top_of}
use Rattle.hd_map.proofs.Order.{not_above-along}
use Rattle.hd_map.proofs.Prunings.{pits-unique}
use Rattle.hd_map.proofs.Saddles.{saddle-exists}
use Rattle.hd_graph.specs.declared.graph.Low.{Low}
use Rattle.hd_graph.specs.Links.{rank_at}
use Rattle.hd_graph.specs.Tells.{AreJoinedBelow, AreJoinedLows}
use Rattle.hd_prune.specs.Staying.{ranks_of}
use Rattle.hd_steep.specs.Crossings.{pit_at}
use Rattle.hd_steep.specs.Reached.{AreReachedPits}

module _ (m : Map) (side : SideName) where
  -- what is not above a rank below the saddle is below it
  below_saddle-along : (saddle : Option Rank) (x t : Rank) → IsNotAbove (below_by side) x t → IsBelowSaddle side saddle t → IsBelowSaddle side saddle x
  below_saddle-along None x t low h = tt
  below_saddle-along (Some s) x t low h = not_above-along (below_by side) (below_by-order side) x t s low h

  module _ (saddle : Option Rank) (p : Rank) (point : IsPoint m p) (low : IsBelowSaddle side saddle p) where
    reached_below : (q : Rank) → AreJoinedBelow m side saddle p q → IsReachedBelow m side saddle p q
    reached_below q (inl same) = record {
      points = [];
      path = record { point = point; leads = same };
      below = All-cons (IsBelowSaddle side saddle) p [] low (All-nil (IsBelowSaddle side saddle));
    }
    reached_below q (inr (s, is, h)) =
        let r = is.reached in
        record {
          points = r.0;
          path = r.1;
          below = All-weaker (λ x. IsNotAbove (below_by side) x s) (IsBelowSaddle side saddle) (λ x not. below_saddle-along saddle x s not h) (p ∷ r.0) r.2.none_above;
        }

    joined_below : (q : Rank) → IsReachedBelow m side saddle p q → AreJoinedBelow m side saddle p q
    joined_below q r =
        let s = saddle-exists m side p q r.points r.path in
        let u = top_of (below_by side) (below_by-order side) p r.points in
        let top : IsBelowSaddle side saddle u.0 = All-contains (IsBelowSaddle side saddle) (p ∷ r.points) u.0 r.below u.1.one_of in
        inr (s.0, s.1, below_saddle-along saddle s.0 u.0 (s.1.least r.points u.0 r.path u.1) top)

    -- so the lows that are joined with it are the pits that are reached
    pub reached-lows : (lows : List Low) (place : ℕ) → rank_at lows place ≡ p → (joined : List Bool) → AreJoinedLows m side lows place saddle joined
        → ArePits m side (ranks_of lows) → (pits : List Rank) → ArePits m side pits
        → AreReachedPits m side saddle p pits joined
    reached-lows lows place at joined told are pits are' = subst (λ (ps : List Rank). AreReachedPits m side saddle p ps joined) (pits-unique m side (ranks_of lows) pits are are') (record {
      whole = told.whole ∙ sym count;
      each = λ k inside.
          (let inside' : k < length lows = omega (arith, inside, count) in
          let so = told.each k inside' in
          let read : pit_at (ranks_of lows) k ≡ rank_at lows k = get_or-map (λ (x : Low). x.rank) lows k none none.rank inside' in (
            λ flag. subst (IsReachedBelow m side saddle p) (sym read) (reached_below (rank_at lows k) (subst (λ z. AreJoinedBelow m side saddle z (rank_at lows k)) at (so.0 flag))),
            λ reached. so.1 (subst (λ z. AreJoinedBelow m side saddle z (rank_at lows k)) (sym at) (joined_below (rank_at lows k) (subst (IsReachedBelow m side saddle p) read reached))),
          ));
    })
      where
        none : Low
        none = record { rank = record { height = pos 0; index = 0 }; pit = false }

        count : length (ranks_of lows) ≡ length lows
        count = length-map lows (λ (x : Low). x.rank)
