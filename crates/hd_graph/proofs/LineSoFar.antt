-- The line so far, one more stop, and the whole flood line.
use Rattle.std.proofs.Common.{◌≡◌, ◌≢◌, ℕ, ◌+◌, ◌<◌, ◌++◌, ◌∷◌, [], inl, inr, Bool, true, false, List, length, map, Some, None, sym, ◌∙◌, ap, subst, arith, set, slice_get}
use Rattle.std.specs.Prelude.{All, AllPairs, Contains}
use Rattle.std.specs.List.Sorted.{IsSortedBy}
use Rattle.std.proofs.lemmas.Bool.{false_from_ne_true}
use Rattle.std.proofs.lemmas.List.{length-set}
use Rattle.std.proofs.lemmas.List.Elements.{All-contains}
use Rattle.std.proofs.lemmas.Option.{get_or_from_slice_get, none-some, same_Some, slice_get_within}
use Rattle.hd_map.specs.declared.types.Pass.{Pass}
use Rattle.hd_map.specs.declared.types.Rank.{Rank}
use Rattle.hd_map.specs.Order.{IsNotAbove, IsStrictOrder}
use Rattle.hd_map.specs.Walks.{HasPass}
use Rattle.hd_map.proofs.Items.{Contains-map}
use Rattle.hd_map.proofs.Levels.{here, step}
use Rattle.hd_graph.specs.declared.graph.Low.{Low}
use Rattle.hd_graph.specs.declared.line.Stop.{Stop}
use Rattle.hd_map.specs.declared.types.Link.{Link}
use Rattle.hd_graph.specs.Flood.{AreWhole, IsLineSoFar, IsReached, IsStopFor, is_done}
use Rattle.hd_graph.specs.Line.{IsFloodLine, IsPrimOrder}
use Rattle.hd_graph.specs.Links.{HasEnds, IsBetween, pass_of, rank_at}
use Rattle.hd_graph.specs.Onward.{IsOnward}
use Rattle.hd_graph.specs.Order.{is_lower}
use Rattle.hd_graph.proofs.PrimOrder.{prim-tells}
use Rattle.hd_graph.proofs.LinkOrder.{sorted-places}
use Rattle.hd_graph.proofs.Linked.{link-pass, link_of}
use Rattle.hd_graph.proofs.AgreeingMerges.{least-highest_same}
use Rattle.hd_graph.proofs.NumberedLinks.{one_low}
use Rattle.hd_map.proofs.Places.{at_place, get-push_cases, get-push_new, get-push_old, pairs_from_places, place_of}
use Rattle.hd_graph.proofs.Reached.{done-cases, done-kept, done-set, link-out}

-- the stop for a low has its rank
stop-rank : (lows : List Low) (v : ℕ) (s : Stop) → IsStopFor lows v s → rank_at lows v ≡ s.low
stop-rank lows v s h = ap (λ (x : Low). x.rank) (get_or_from_slice_get lows v (record { rank = s.low; pit = s.pit }) _ h)

-- nothing is done yet
pub line-none : (below : Rank → Rank → Bool) (lows : List Low) (passes : List Pass) (done : List Bool) → length done ≡ length lows → ((v : ℕ) → is_done done v ≡ true → ⊥)
    → IsLineSoFar below lows passes done []
line-none below lows passes done long none = record {
  long = long;
  stops = λ v wet. absurd (none v wet);
  lows_done = λ k s at. absurd (cc at);
  once = λ j k x y atx aty e. absurd (cc atx);
  attaches = λ k x r at rise. absurd (cc at);
  lowest = λ k m x y v w less atx aty pass apart. absurd (cc atx);
}

module _ (below : Rank → Rank → Bool) (lows : List Low) (different : AllPairs (λ x y. x.rank.index ≢ y.rank.index) lows) (passes : List Pass) (done : List Bool) (line : List Stop)
    (so : IsLineSoFar below lows passes done line) where
  -- one more stop
  module _ (o : ℕ) (s : Stop) (inside : o < length lows) (not_yet : is_done done o ≡ false) (is : IsStopFor lows o s)
      (attaches : (r : Rank) → s.rise ≡ Some r → (d : ℕ) × (is_done done d ≡ true) × HasPass passes (rank_at lows d) s.low r)
      (lowest : (d : ℕ) (v w : Rank) → is_done done d ≡ true → HasPass passes (rank_at lows d) v w → ((k : ℕ) (z : Stop) → slice_get line k ≡ Some z → z.low ≢ v) → (r : Rank)
      × (s.rise ≡ Some r) × IsNotAbove below r w) where
    within : o < length done
    within = (let long = so.long in omega arith)

    fresh : (k : ℕ) (z : Stop) → slice_get line k ≡ Some z → z.low ≢ s.low
    fresh k z at e =
        let d = so.lows_done k z at in
        let same : d.0 ≡ o = one_low lows different d.0 o (record { rank = z.low; pit = z.pit }) (record { rank = s.low; pit = s.pit }) d.2 is (ap (λ (r : Rank). r.index) e) in
        let wet : is_done done o ≡ true = subst (λ i. is_done done i ≡ true) same d.1 in
        cc

    once_more : (j k : ℕ) (x y : Stop) → slice_get (line ++ s ∷ []) j ≡ Some x → slice_get (line ++ s ∷ []) k ≡ Some y → x.low ≡ y.low → j ≡ k
    once_more j k x y atx aty e = elim (get-push_cases line s x j atx) [
      | inl p ↦ elim (get-push_cases line s y k aty) [
        | inl q ↦ so.once j k x y p q e
        | inr q ↦ absurd (fresh j x p (e ∙ sym (ap (λ (z : Stop). z.low) q.1)))
      ]
      | inr p ↦ elim (get-push_cases line s y k aty) [
        | inl q ↦ absurd (fresh k y q (sym e ∙ sym (ap (λ (z : Stop). z.low) p.1)))
        | inr q ↦ p.0 ∙ sym q.0
      ]
    ]

    line-more : IsLineSoFar below lows passes (set done o true) (line ++ s ∷ [])
    line-more = record {
      long = length-set done o true ∙ so.long;
      stops = λ v wet. elim (done-cases done o within v wet) [
        | inl e ↦ (length line, s, get-push_new line s, subst (λ i. IsStopFor lows i s) (sym e) is)
        | inr was ↦ (let h = so.stops v was in (h.0, h.1, get-push_old line s h.1 h.0 h.2, h.3))
      ];
      lows_done = λ k z at. elim (get-push_cases line s z k at) [
        | inl p ↦ (let h = so.lows_done k z p in (h.0, done-kept done o within h.0 h.1, h.2))
        | inr p ↦ (o, done-set done o within, subst (λ (y : Stop). IsStopFor lows o y) p.1 is)
      ];
      once = once_more;
      attaches = λ k x r at rise. elim (get-push_cases line s x k at) [
        | inl p ↦ (let h = so.attaches k x r p rise in (h.0, h.1, h.2, get-push_old line s h.1 h.0 h.3, h.4))
        | inr p ↦ (
            let h = attaches r (ap (λ (z : Stop). z.rise) p.1 ∙ rise) in
            let y = so.stops h.0 h.1 in
            let before = slice_get_within line y.0 y.1 y.2 in (
              y.0,
              y.1,
              omega (arith, before, p.0),
              get-push_old line s y.1 y.0 y.2,
              subst (λ a. HasPass passes a x.low r) (stop-rank lows h.0 y.1 y.3) (subst (λ (z : Stop). HasPass passes (rank_at lows h.0) z.low r) p.1 h.2),
            ))
      ];
      lowest = λ k m x y v w less atx aty pass apart. elim (get-push_cases line s y m aty) [
        | inr q ↦ absurd (elim (get-push_cases line s x k atx) [
          | inl p ↦ (let before = slice_get_within line k x p in omega (arith, before, q.0, less))
          | inr p ↦ omega (arith, p.0, q.0, less)
        ])
        | inl q ↦ elim (get-push_cases line s x k atx) [
          | inl p ↦ so.lowest k m x y v w less p q pass (λ j z before at. apart j z before (get-push_old line s z j at))
          | inr p ↦ (
              let d = so.lows_done m y q in
              let h = lowest d.0 v w d.1 (subst (λ a. HasPass passes a v w) (sym (stop-rank lows d.0 y d.2)) pass)
              (λ j z at. apart j z (let before = slice_get_within line j z at in omega (arith, before, p.0)) (get-push_old line s z j at)) in
              (h.0, sym (ap (λ (z : Stop). z.rise) p.1) ∙ h.1, h.2))
        ]
      ];
    }

  -- where all lows are done, it is the flood line
  pub line-all : IsStrictOrder below → ((v : ℕ) → v < length lows → is_done done v ≡ true)
      → ((a b w : Rank) → HasPass passes a b w → (v : ℕ) × (v < length lows) × (rank_at lows v ≡ b)) → IsFloodLine below lows passes line
  line-all order all ends = record {
    stops = λ x. (stop_of x, low_of x);
    once = pairs_from_places (λ (z : Stop). z.low) line so.once;
    prim = prim;
    tells = prim-tells below order passes line so.once prim (λ a b w pass. (
        let v = ends a b w pass in
        let h = so.stops v.0 (all v.0 v.1) in
        (h.0, h.1, h.2, sym (stop-rank lows v.0 h.1 h.3) ∙ v.2)));
  }
    where
      prim : IsPrimOrder below passes line
      prim = record {
        attaches = so.attaches;
        lowest = λ k m l x y z w less le atx aty atz pass. so.lowest k m x y z.low w less atx aty pass (λ j u before at same. (let e = so.once j l u z at atz same in omega arith));
      }

      stop_of : (x : Low) → Contains lows x → (s : Stop) × Contains line s × (s.low ≡ x.rank) × (s.pit ≡ x.pit)
      stop_of x at =
          let p = place_of lows x at in
          let h = so.stops p.0 (all p.0 (slice_get_within lows p.0 x p.1)) in
          let is : record { rank = (h.1).low; pit = (h.1).pit } ≡ x = same_Some (record { rank = (h.1).low; pit = (h.1).pit }) x (sym h.3 ∙ p.1) in
          (h.1, at_place line h.0 h.1 h.2, ap (λ (z : Low). z.rank) is, ap (λ (z : Low). z.pit) is)

      low_of : (x : Low) → (s : Stop) × Contains line s × (s.low ≡ x.rank) × (s.pit ≡ x.pit) → Contains lows x
      low_of x h =
          let s : Stop = h.0 in
          let p = place_of line s h.1 in
          let d = so.lows_done p.0 s p.1 in
          subst (λ (z : Low). Contains lows z) (same_low s.low x.rank s.pit x.pit h.2 h.3) (at_place lows d.0 (record { rank = s.low; pit = s.pit }) d.2)
        where
          same_low : (a b : Rank) (c d : Bool) → a ≡ b → c ≡ d → ◌≡◌ {A = Low} (record { rank = a; pit = c }) (record { rank = b; pit = d })
          same_low a b c d e f = cc

-- stops over links
module _ (below : Rank → Rank → Bool) (order : IsStrictOrder below) (lows : List Low) (different : AllPairs (λ x y. x.rank.index ≢ y.rank.index) lows) (links : List Link)
    (sorted : IsSortedBy (is_lower below) links) (within : All (HasEnds (length lows)) links)
    (done : List Bool) (line : List Stop) (so : IsLineSoFar below lows (map (pass_of lows) links) done line) where
  -- a pass from a low that is done to one that is no stop is that of a link to one that is not done
  link_out : (d : ℕ) (v w : Rank) → is_done done d ≡ true → HasPass (map (pass_of lows) links) (rank_at lows d) v w → ((k : ℕ) (z : Stop) → slice_get line k ≡ Some z → z.low ≢ v) →
      (k : ℕ) × (m : Link) × (b : ℕ) × (slice_get links k ≡ Some m) × (m.at ≡ w) × IsBetween m d b × (is_done done b ≡ false)
  link_out d v w wet pass apart =
      let s = so.stops d wet in
      let h = link_of below lows links w different within d v w (slice_get_within lows d _ s.3) pass in
      let p = place_of links h.0 h.1 in (
        p.0,
        h.0,
        h.3,
        p.1,
        h.2,
        h.4,
        false_from_ne_true (is_done done h.3) (λ wet_too.
            let z = so.stops h.3 wet_too in
            apart z.0 z.1 z.2 (sym (stop-rank lows h.3 z.1 z.3) ∙ h.6)),
      )

  module _ (o : ℕ) (s : Stop) (inside : o < length lows) (not_yet : is_done done o ≡ false) (is : IsStopFor lows o s) where
    -- the first stop of a part
    pub line-first : AreWhole links done → s.rise ≡ None → IsLineSoFar below lows (map (pass_of lows) links) (set done o true) (line ++ s ∷ [])
    line-first whole rise = line-more below lows different (map (pass_of lows) links) done line so o s inside not_yet is (λ r some. absurd (none-some r (sym rise ∙ some)))
        (λ d v w wet pass apart. (
        let h = link_out d v w wet pass apart in
        absurd (whole (h.0 + 1) d h.2 wet h.6 (step (h.0, h.1, omega arith, h.3, h.5) here))))

    -- the next one
    pub line-next : (x t p : ℕ) → IsReached links done x t → IsOnward links x t p → (l : Link) → slice_get links p ≡ Some l → (d : ℕ) × (is_done done d ≡ true) × IsBetween l d o → s.rise ≡ Some l.at →
        IsLineSoFar below lows (map (pass_of lows) links) (set done o true) (line ++ s ∷ [])
    line-next x t p reached onward l at from rise = line-more below lows different (map (pass_of lows) links) done line so o s inside not_yet is
        (λ r some. (
          from.0,
          from.1,
          subst (λ w. HasPass (map (pass_of lows) links) (rank_at lows from.0) s.low w) (same_Some l.at r (sym rise ∙ some))
              (subst (λ b. HasPass (map (pass_of lows) links) (rank_at lows from.0) b l.at) (stop-rank lows o s is) (link-pass lows links l from.0 o (at_place links p l at) from.2)),
        ))
        (λ d v w wet pass apart. (
        let h = link_out d v w wet pass apart in
        let le = link-out links done x t p reached onward h.0 h.1 d h.2 h.3 h.5 wet h.6 in
        (l.at, rise, subst (λ i. IsNotAbove below l.at i) h.4 (sorted-places below order links sorted p h.0 l h.1 le at h.3))))

-- the ends of passes of links are lows
pub link-ends : (lows : List Low) (links : List Link) → All (HasEnds (length lows)) links → (a b w : Rank) → HasPass (map (pass_of lows) links) a b w → (v : ℕ) × (v < length lows)
    × (rank_at lows v ≡ b)
link-ends lows links within a b w (inl h) =
    let x = Contains-map (pass_of lows) links _ h in
    ((x.0).b, (All-contains (HasEnds (length lows)) links x.0 within x.1).1, ap (λ (p : Pass). p.b) x.2)
link-ends lows links within a b w (inr h) =
    let x = Contains-map (pass_of lows) links _ h in
    ((x.0).a, (All-contains (HasEnds (length lows)) links x.0 within x.1).0, ap (λ (p : Pass). p.a) x.2)

-- a flood line of the same passes in another order
pub line-same_passes : (below : Rank → Rank → Bool) (lows : List Low) (old new : List Pass) → ((a b w : Rank) → HasPass old a b w → HasPass new a b w)
    → ((a b w : Rank) → HasPass new a b w → HasPass old a b w) →
    (line : List Stop) → IsFloodLine below lows old line → IsFloodLine below lows new line
line-same_passes below lows old new forth back line h = record {
  stops = h.stops;
  once = h.once;
  prim = record {
    attaches = λ k x r at rise. (let a = (h.prim).attaches k x r at rise in (a.0, a.1, a.2, a.3, forth (a.1).low x.low r a.4));
    lowest = λ k m l x y z w less le atx aty atz pass. (h.prim).lowest k m l x y z w less le atx aty atz (back y.low z.low w pass);
  };
  tells = λ i j x y less atx aty. least-highest_same below old new forth back x.low y.low _ (h.tells i j x y less atx aty);
}
