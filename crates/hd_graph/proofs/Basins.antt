-- A path of points changes its basin only at a pair whose higher point is not above the path's top, so
-- passes that are not above it lead along; and a pass is a path of points that descends on both sides. So
-- two lows are joined by passes exactly where paths of points join them.
use Rattle.std.proofs.Common.{◌≡◌, ◌≢◌, ◌≤◌, ℕ, List, [], ◌∷◌, length, true, false, Option, Some, None, inl, inr, cond, refl, sym, ◌∙◌, ap, subst, arith, slice_get}
use Rattle.std.specs.Prelude.{◌↔◌, AllPairs, Contains}
use Rattle.std.proofs.lemmas.List.Elements.{All-cons, All-nil, All-contains_itself, All-weaker}
use Rattle.hd_map.specs.declared.types.Pass.{Pass}
use Rattle.hd_map.specs.declared.types.Rank.{Rank}
use Rattle.hd_map.specs.declared.types.SideName.{SideName}
use Rattle.hd_map.specs.Crossings.{AreCrossings}
use Rattle.hd_map.specs.Map.{Map, IsMap, most_cells}
use Rattle.hd_map.specs.Order.{IsNotAbove, IsStrictOrder}
use Rattle.hd_map.specs.Passes.{IsMeeting, ArePasses, higher_by}
use Rattle.hd_map.specs.Rank.{IsPoint, Near, below_by}
use Rattle.hd_map.specs.Region.{IsPit}
use Rattle.hd_map.specs.Saddle.{IsSaddle, SaddleIs}
use Rattle.hd_map.specs.SideLaws.{below_by-order}
use Rattle.hd_map.proofs.Apart.{length-le_from_apart}
use Rattle.hd_map.proofs.Higher.{higher-bounds, higher-least, higher-sym, not_above-below}
use Rattle.hd_map.proofs.Depth.{point_limits}
use Rattle.hd_map.proofs.Levels.{Reach, here, step, PointStep, reach-trans, reach-sym, reach-from_path, path-from_reach, reach-higher, points-both, same_or_not, none_above-higher, top_of}
use Rattle.hd_map.proofs.Points.{Near-to, Near-apart}
use Rattle.hd_map.proofs.Saddles.{near-sym, level-from_saddle, saddle-from_level}
use Rattle.hd_map.proofs.Order.{not_above-trans, not_above-refl, below-not_above, below-apart}
use Rattle.hd_graph.specs.declared.graph.Low.{Low}
use Rattle.hd_graph.specs.declared.line.Stop.{Stop}
use Rattle.hd_graph.specs.Basins.{AreBasins, AreLowsOf}
use Rattle.hd_graph.specs.Graph.{IsGraph, IsPassOf}
use Rattle.hd_graph.specs.Line.{IsFloodLine, rise_between}
use Rattle.hd_graph.specs.Tells.{IsPitOn, TellsSaddles}
use Rattle.hd_map.specs.Walks.{HasPass, Stride, passes_of}
use Rattle.hd_graph.specs.Walks.{IsLeastHighest, LeastHighestIs}
use Rattle.hd_map.proofs.Places.{at_place, one_place}
use Rattle.hd_graph.proofs.PrimOrder.{PassStep, reach-from_walk, walk-from_reach, walk_top, least-from_level, level-from_least}

module _ (m : Map) (side : SideName) (In : Rank → Rank → Type 0) where
  -- a meeting of two basins is one both ways
  meeting-sym : (a b w : Rank) → IsMeeting m side In a b w → IsMeeting m side In b a w
  meeting-sym a b w h = record { from = h.to; to = h.from; near = near-sym m h.from h.to h.near; from_in = h.to_in; to_in = h.from_in; higher = h.higher ∙ higher-sym side h.from h.to }

  -- where two basins meet, a pass at their lowest meeting joins them
  pass_along : (passes : List Pass) → ArePasses m side In passes → (a b u : Rank) → below_by side a b ≡ true → IsMeeting m side In a b u → (w : Rank)
      × Contains passes (record { a = a; b = b; at = w }) × IsNotAbove (below_by side) w u
  pass_along passes right a b u low meet =
      let p = right.all a b u low meet in
      let is : p.0 ≡ record { a = a; b = b; at = (p.0).at } = same_pass p.0 a b p.2 p.3 in (
        (p.0).at,
        subst (λ (q : Pass). Contains passes q) is p.1,
        (right.each p.0 p.1).lowest u
            (subst (λ v. IsMeeting m side In v (p.0).b u) (sym p.2) (subst (λ v. IsMeeting m side In a v u) (sym p.3) meet)),
      )
    where
      same_pass : (q : Pass) (x y : Rank) → q.a ≡ x → q.b ≡ y → q ≡ record { a = x; b = y; at = q.at }
      same_pass q x y e f = ap (λ v. record { a = v; b = q.b; at = q.at }) e ∙ ap (λ v. record { a = x; b = v; at = q.at }) f

  -- the same, whichever of the two is below the other
  pass_at : (passes : List Pass) → ArePasses m side In passes → (a b u : Rank) → a ≢ b → IsMeeting m side In a b u → (w : Rank) × HasPass passes a b w × IsNotAbove (below_by side) w u
  pass_at passes right a b u apart meet = elim (below_by side a b) as (λ v. below_by side a b ≡ v → (w : Rank) × HasPass passes a b w × IsNotAbove (below_by side) w u) [
    | true ↦ λ e. (let p = pass_along passes right a b u e meet in (p.0, inl p.1, p.2))
    | false ↦ λ e. (let p = pass_along passes right b a u (not_above-below side b a e (λ same. apart (sym same))) (meeting-sym a b u meet) in (p.0, inr p.1, p.2))
  ] refl

  -- the passes are crossings: a walk over one of them joins two basins that meet
  pub passes-crossings : (passes : List Pass) → ArePasses m side In passes → AreCrossings m side In passes
  passes-crossings passes right = record {
    ends = λ p at. (right.each p at).ends;
    meets = λ p at. (right.each p at).meeting;
    enough = λ a b u meet. elim (same_or_not (below_by side) (below_by-order side) a b) [
      | inl e ↦ ([], e, All-nil (λ w. IsNotAbove (below_by side) w u))
      | inr apart ↦ (
          let p = pass_at passes right a b u apart meet in
          let stride : Stride = record { to = b; at = p.0 } in
          (stride ∷ [], (p.1, refl), All-cons (λ w. IsNotAbove (below_by side) w u) p.0 [] p.2 (All-nil (λ w. IsNotAbove (below_by side) w u))))
    ];
  }

module _ (m : Map) (side : SideName) (In : Rank → Rank → Type 0) (basins : AreBasins m side In) where
  -- a low is a point, not above the points of its basin
  low-point : (x a : Rank) → In x a → IsPoint m x
  low-point x a h = (basins.settles x a h).1.point

  -- a point reaches its low at each level that it is not above
  pub basin-settled : (t x a : Rank) → IsNotAbove (below_by side) x t → In x a → Reach (PointStep (Near m) (below_by side) t) x a
  basin-settled t x a low h =
      let s = basins.settles x a h in
      reach-higher (Near m) (below_by side) (below_by-order side) x t low (reach-from_path (Near m) (below_by side) (below_by-order side) x x a s.0 s.1.leads
      (All-cons (λ y. IsNotAbove (below_by side) y x) x s.0 (not_above-refl (below_by side) (below_by-order side) x) s.2))

  low-not_above : (x a : Rank) → In x a → IsNotAbove (below_by side) a x
  low-not_above x a h = reach-not_above (not_above-refl (below_by side) (below_by-order side) x) (basin-settled x x a (not_above-refl (below_by side) (below_by-order side) x) h)
    where
      reach-not_above : {b c : Rank} → IsNotAbove (below_by side) b x → Reach (PointStep (Near m) (below_by side) x) b c → IsNotAbove (below_by side) c x
      reach-not_above low here = low
      reach-not_above low (step s r) = reach-not_above s.2 r

  -- a pit is the low of its own basin
  pub pit-own : (p : Rank) → IsPit m side p → In p p
  pit-own p pit =
      let b = basins.some p pit.point in
      subst (λ a. In p a) (stays (basin-settled p p b.0 (not_above-refl (below_by side) (below_by-order side) p) b.1)) b.1
    where
      stays : {a : Rank} → Reach (PointStep (Near m) (below_by side) p) p a → a ≡ p
      stays here = refl
      stays (step {a} {b} {c} s r) = absurd (elim (same_or_not (below_by side) (below_by-order side) b p) [
        | inl e ↦ Near-apart m p b s.0 (sym e)
        | inr ne ↦ pit.alone b (record { near = s.0; below = not_above-below side b p s.2 ne })
      ])

  module _ (passes : List Pass) (right : AreCrossings m side In passes) where
    -- a pass joins two basins at a meeting
    meeting_of : (a b w : Rank) → HasPass passes a b w → IsMeeting m side In a b w
    meeting_of a b w (inl h) = right.meets (record { a = a; b = b; at = w }) h
    meeting_of a b w (inr h) = meeting-sym m side In b a w (right.meets (record { a = b; b = a; at = w }) h)

    -- the basins of neighbours are joined by passes that are not above the two
    crossed : (t x y a b : Rank) → PointStep (Near m) (below_by side) t x y → In x a → In y b → Reach (PassStep (below_by side) passes t) a b
    crossed t x y a b s xa yb =
        let w : Rank = higher_by side x y in
        let walk = right.enough a b w (record { from = x; to = y; near = s.0; from_in = xa; to_in = yb; higher = refl }) in
        reach-from_walk (below_by side) (below_by-order side) passes t a b walk.0 walk.1
        (none_above-higher (below_by side) (below_by-order side) w t (passes_of walk.0) (higher-least side x y t s.1 s.2) walk.2)

    -- a path of points changes its basin only over passes that are not above the path's top
    lows-joined : (t : Rank) {x y : Rank} → Reach (PointStep (Near m) (below_by side) t) x y → (a b : Rank) → In x a → In y b → Reach (PassStep (below_by side) passes t) a b
    lows-joined t (here {a = x}) a b xa xb = subst (λ (z : Rank). Reach (PassStep (below_by side) passes t) a z) (basins.one x a b xa xb) here
    lows-joined t (step {a = x} {b = y} {c = z} s r) a b xa zb =
        let o = basins.some y (Near-to m x y s.0) in
        reach-trans (PassStep (below_by side) passes t) (crossed t x y a o.0 s xa o.1) (lows-joined t r o.0 b o.1 zb)

    -- a pass is a path of points that descends on both sides
    pass_made : (t a b : Rank) → PassStep (below_by side) passes t a b → Reach (PointStep (Near m) (below_by side) t) a b
    pass_made t a b s =
        let meet = meeting_of a b s.0 s.1 in
        let x : Rank = meet.from in
        let y : Rank = meet.to in
        let low : IsNotAbove (below_by side) (higher_by side x y) t = subst (λ (w : Rank). IsNotAbove (below_by side) w t) meet.higher s.2 in
        let bounds = higher-bounds side x y in
        let hx : IsNotAbove (below_by side) x t = not_above-trans (below_by side) (below_by-order side) x (higher_by side x y) t bounds.0 low in
        let hy : IsNotAbove (below_by side) y t = not_above-trans (below_by side) (below_by-order side) y (higher_by side x y) t bounds.1 low in
        reach-trans (PointStep (Near m) (below_by side) t) (reach-sym (PointStep (Near m) (below_by side) t)
        (points-both (Near m) (below_by side) (below_by-order side) (near-sym m) t) (basin-settled t x a hx meet.from_in))
        (step (meet.near, hx, hy) (basin-settled t y b hy meet.to_in))

    passes_made : (t : Rank) {a b : Rank} → Reach (PassStep (below_by side) passes t) a b → Reach (PointStep (Near m) (below_by side) t) a b
    passes_made t here = here
    passes_made t (step s r) = reach-trans (PointStep (Near m) (below_by side) t) (pass_made t _ _ s) (passes_made t r)

    -- a pass is not below the lows that it joins
    pub pass-above : (a b w : Rank) → HasPass passes a b w → IsNotAbove (below_by side) a w
    pass-above a b w h =
        let meet = meeting_of a b w h in
        let x : Rank = meet.from in
        let low : IsNotAbove (below_by side) x w = subst (λ (v : Rank). IsNotAbove (below_by side) x v) (sym meet.higher) (higher-bounds side x meet.to).0 in
        not_above-trans (below_by side) (below_by-order side) a x w (low-not_above x a meet.from_in) low

    module _ (a b : Rank) (own : In a a) (own' : In b b) (apart : a ≢ b) where
      -- a level at which passes join the two is not below the first
      level-above : (t : Rank) → Reach (PassStep (below_by side) passes t) a b → IsNotAbove (below_by side) a t
      level-above t r = first r apart
        where
          first : {c : Rank} → Reach (PassStep (below_by side) passes t) a c → a ≢ c → IsNotAbove (below_by side) a t
          first here ne = absurd (ne refl)
          first (step {b = d} s r) ne = not_above-trans (below_by side) (below_by-order side) a s.0 t (pass-above a d s.0 s.1) s.2

      pub saddle-from_least : (s : Rank) → IsLeastHighest (below_by side) passes a b s → IsSaddle m side a b s
      saddle-from_least s h =
          let joined = reach-from_walk (below_by side) (below_by-order side) passes s a b h.reached.0 h.reached.1 h.reached.2.none_above in
          saddle-from_level m side a b s (low-point a a own) (record {
            from_low = level-above s joined;
            joined = passes_made s joined;
            least = λ t low r. level-from_least (below_by side) (below_by-order side) passes a b s t apart h (lows-joined t r a b own own');
          })

      pub least-from_saddle : (s : Rank) → IsSaddle m side a b s → IsLeastHighest (below_by side) passes a b s
      least-from_saddle s h =
          let l = level-from_saddle m side a b s h in
          least-from_level (below_by side) (below_by-order side) passes a b s apart (lows-joined s l.joined a b own own') (λ t r. l.least t (level-above t r) (passes_made t r))

      -- the least highest pass is the saddle, and there is no walk exactly where there is no path
      pub least-is_saddle : (o : Option Rank) → LeastHighestIs (below_by side) passes a b o ↔ SaddleIs m side a b o
      least-is_saddle (Some s) = (saddle-from_least s, least-from_saddle s)
      least-is_saddle None = (
        λ none xs path.
            let v = top_of (below_by side) (below_by-order side) a xs in
            let w = walk-from_reach (below_by side) (below_by-order side) passes v.0
            (lows-joined v.0 (reach-from_path (Near m) (below_by side) (below_by-order side) v.0 a b xs path.leads v.1.none_above) a b own own') in
            none w.0 w.1,
        λ none ss walk.
            let v = walk_top (below_by side) (below_by-order side) passes a b ss apart walk in
            let joined = reach-from_walk (below_by side) (below_by-order side) passes v.0 a b ss walk v.1.none_above in
            let p = path-from_reach (Near m) (below_by side) (below_by-order side) v.0 (level-above v.0 joined) (passes_made v.0 joined) in
            none p.0 (record { point = low-point a a own; leads = p.1 }),
      )

    -- there are no more lows than a map may have points
    lows-few : IsMap m → (lows : List Low) → AreLowsOf m side In lows → AllPairs (λ x y. x.rank.index ≢ y.rank.index) lows → length lows ≤ most_cells
    lows-few whole lows of different = length-le_from_apart (λ x. x.rank.index) most_cells lows different (λ x at. (point_limits m x.rank whole (low-point x.rank x.rank (of.low x at))).index)

    -- such passes and lows of different indexes are a graph
    pub basins-graph : IsMap m → (lows : List Low) → AreLowsOf m side In lows → AllPairs (λ x y. x.rank.index ≢ y.rank.index) lows → IsGraph (below_by side) lows passes
    basins-graph whole lows of different = record {
      few = omega (arith, lows-few whole lows of different);
      different = different;
      joins = All-weaker (Contains passes) (IsPassOf (below_by side) lows) (λ p at.
          let meet = right.meets p at in
          record {
            first = of.all meet.from p.a meet.from_in;
            second = of.all meet.to p.b meet.to_in;
            different = below-apart (below_by side) (below_by-order side) p.a p.b (right.ends p at);
            above_first = pass-above p.a p.b p.at (inl at);
            above_second = pass-above p.b p.a p.at (inr at);
          }) passes (All-contains_itself passes);
    }

    -- the flood line of such a graph tells the saddles of the map
    module _ (lows : List Low) (of : AreLowsOf m side In lows) (line : List Stop) (flooded : IsFloodLine (below_by side) lows passes line) where
      -- a stop is a low
      low_at : (i : ℕ) (x : Stop) → slice_get line i ≡ Some x → Contains lows (record { rank = x.low; pit = x.pit })
      low_at i x at = (flooded.stops (record { rank = x.low; pit = x.pit })).1 (x, at_place line i x at, refl, refl)

      pits_on : (p : Rank) → IsPitOn line p ↔ IsPit m side p
      pits_on p = (
        λ h.
            let s : Stop = h.0 in
            let at = (flooded.stops (record { rank = s.low; pit = s.pit })).1 (s, h.1, refl, refl) in
            subst (λ q. IsPit m side q) h.2 ((of.pit (record { rank = s.low; pit = s.pit }) at).0 h.3),
        λ pit.
            let l = of.all p p (pit-own p pit) in
            let s = (flooded.stops l.0).0 l.1 in
            (s.0, s.1, s.2 ∙ l.2, s.3 ∙ (of.pit l.0 l.1).1 (subst (λ q. IsPit m side q) (sym l.2) pit)),
      )

      pub line-tells_saddles : TellsSaddles m side line
      line-tells_saddles = record {
        pits = pits_on;
        saddles = λ i j x y less atx aty px py.
            let apart : x.low ≢ y.low = λ e. (let n = one_place (λ (z : Stop). z.low) line flooded.once i j x y atx aty e in omega arith) in
            (least-is_saddle x.low y.low (of.low (record { rank = x.low; pit = x.pit }) (low_at i x atx)) (of.low (record { rank = y.low; pit = y.pit }) (low_at j y aty)) apart
            (rise_between (below_by side) line i j)).0
            (flooded.tells i j x y less atx aty);
      }
