-- A Prim order tells the least highest pass of the walks between two lows: two lows are joined by passes
-- that are not above t exactly where each rise between their places is within t.
use Rattle.std.proofs.Common.{◌≡◌, ◌≢◌, ℕ, zero, suc, ◌<◌, ◌≤◌, ◌+◌, ◌-◌, inl, inr, List, [], ◌∷◌, length, Option, Some, None, Bool, true, false, refl, sym, ◌∙◌, subst, arith, slice_get}
use Rattle.std.specs.Prelude.{nat_lt}
use Rattle.std.proofs.lemmas.Bool.Decides.{nat_tests}
use Rattle.std.proofs.lemmas.List.Elements.{All-nil, All-cons, All-head, All-tail}
use Rattle.std.proofs.lemmas.Option.{slice_get_within, same_Some, none-some}
use Rattle.hd_map.specs.declared.types.Pass.{Pass}
use Rattle.hd_map.specs.declared.types.Rank.{Rank}
use Rattle.hd_map.specs.Order.{IsNotAbove, IsStrictOrder}
use Rattle.hd_map.specs.Path.{IsTop}
use Rattle.hd_map.proofs.Levels.{Reach, here, step, reach-trans, reach-sym, reach-crosses, NoneAbove, top_of, top-not_above}
use Rattle.hd_map.proofs.Order.{not_above-trans}
use Rattle.hd_graph.specs.declared.line.Stop.{Stop}
use Rattle.hd_graph.specs.Line.{IsPrimOrder, TellsPasses, rise_between}
use Rattle.hd_map.specs.Walks.{HasPass, Stride, IsWalk, passes_of}
use Rattle.hd_graph.specs.Walks.{IsLeastHighest, LeastHighestIs}
use Rattle.hd_map.proofs.Places.{item_at}
use Rattle.hd_graph.proofs.Rises.{RiseWithin, between-within, within-between}

-- a pass leads both ways
pub pass-both : (passes : List Pass) (a b w : Rank) → HasPass passes a b w → HasPass passes b a w
pass-both passes a b w (inl h) = inr h
pass-both passes a b w (inr h) = inl h

-- a step over a pass that is not above t
abbrev pub PassStep : (Rank → Rank → Bool) → List Pass → Rank → Rank → Rank → Type 0
PassStep below passes t a b = (w : Rank) × HasPass passes a b w × IsNotAbove below w t

-- places next to each other are joined, so all are
chained : (R : ℕ → ℕ → Type 0) (m d : ℕ) → ((l : ℕ) → m ≤ l → l < m + d → Reach R l (l + 1)) → Reach R m (m + d)
chained R m zero h = subst (λ x. Reach R m x) (omega arith) here
chained R m (suc d) h =
    let first : Reach R m (m + d) = chained R m d (λ l p q. h l p (omega arith)) in
    let last : Reach R (m + d) ((m + d) + 1) = h (m + d) (omega arith) (omega arith) in
    subst (λ x. Reach R m x) (omega arith) (reach-trans R first last)

module _ (below : Rank → Rank → Bool) (order : IsStrictOrder below) (passes : List Pass) where
  -- a walk none of whose passes is above t joins its ends at t
  pub reach-from_walk : (t a b : Rank) (ss : List Stride) → IsWalk passes a ss b → NoneAbove below t (passes_of ss) → Reach (PassStep below passes t) a b
  reach-from_walk t a b [] w none = subst (λ z. Reach (PassStep below passes t) a z) w here
  reach-from_walk t a b (s ∷ ss) w none =
      let P : Rank → Type 0 = λ y. IsNotAbove below y t in
      step (s.at, w.0, All-head P s.at (passes_of ss) none) (reach-from_walk t s.to b ss w.1 (All-tail P s.at (passes_of ss) none))

  -- and the other way round
  pub walk-from_reach : (t : Rank) {a b : Rank} → Reach (PassStep below passes t) a b → (ss : List Stride) × IsWalk passes a ss b × NoneAbove below t (passes_of ss)
  walk-from_reach t here = ([], refl, All-nil (λ y. IsNotAbove below y t))
  walk-from_reach t (step {a} {b} {c} s r) =
      let rest = walk-from_reach t r in
      (record { to = b; at = s.0 } ∷ rest.0, (s.1, rest.1), All-cons (λ y. IsNotAbove below y t) s.0 (passes_of rest.0) s.2 rest.2)

  -- a walk between different lows has a highest pass
  pub walk_top : (a b : Rank) (ss : List Stride) → a ≢ b → IsWalk passes a ss b → (t : Rank) × IsTop below t (passes_of ss)
  walk_top a b [] apart w = absurd (apart w)
  walk_top a b (s ∷ ss) apart w = top_of below order s.at (passes_of ss)

  -- the least level at which different lows are joined is the least highest pass
  pub least-from_level : (a b s : Rank) → a ≢ b → Reach (PassStep below passes s) a b → ((t : Rank) → Reach (PassStep below passes t) a b → IsNotAbove below s t) → IsLeastHighest below passes a b s
  least-from_level a b s apart joined least =
      let w = walk-from_reach s joined in
      let v = walk_top a b w.0 apart w.1 in
      let low : IsNotAbove below v.0 s = top-not_above below order v.0 s (passes_of w.0) v.1 w.2 in
      let high : IsNotAbove below s v.0 = least v.0 (reach-from_walk v.0 a b w.0 w.1 v.1.none_above) in
      let same : v.0 ≡ s = order.total v.0 s high low in
      record {
        reached = (w.0, w.1, subst (λ x. IsTop below x (passes_of w.0)) same v.1);
        least = λ ss t walk top. least t (reach-from_walk t a b ss walk top.none_above);
      }

  -- and the other way round
  pub level-from_least : (a b s t : Rank) → a ≢ b → IsLeastHighest below passes a b s → Reach (PassStep below passes t) a b → IsNotAbove below s t
  level-from_least a b s t apart h r =
      let w = walk-from_reach t r in
      let v = walk_top a b w.0 apart w.1 in
      not_above-trans below order s v.0 t (h.least w.0 v.0 w.1 v.1) (top-not_above below order v.0 t (passes_of w.0) v.1 w.2)

  module _ (line : List Stop) (once : (i j : ℕ) (x y : Stop) → slice_get line i ≡ Some x → slice_get line j ≡ Some y → x.low ≡ y.low → i ≡ j) (prim : IsPrimOrder below passes line)
      (on : (a b w : Rank) → HasPass passes a b w → (k : ℕ) × (x : Stop) × (slice_get line k ≡ Some x) × (x.low ≡ b)) where
    -- a step between places over a pass that is not above t
    record StepAt (t : Rank) (i j : ℕ) : Type 0 where
      x : Stop
      y : Stop
      w : Rank
      at_i : slice_get line i ≡ Some x
      at_j : slice_get line j ≡ Some y
      pass : HasPass passes x.low y.low w
      low : IsNotAbove below w t

    both : (t : Rank) (i j : ℕ) → StepAt t i j → StepAt t j i
    both t i j s = record { x = s.y; y = s.x; w = s.w; at_i = s.at_j; at_j = s.at_i; pass = pass-both passes (s.x).low (s.y).low s.w s.pass; low = s.low }

    abbrev RisesAt : Rank → ℕ → Type 0
    RisesAt t k = (x : Stop) × (slice_get line k ≡ Some x) × RiseWithin below t x.rise

    -- a place whose rise is within t is joined to the one before it
    joined_before : (t : Rank) (bound k : ℕ) → k < bound → RisesAt t (k + 1) → Reach (StepAt t) k (k + 1)
    joined_before t zero k h r = absurd (omega arith)
    joined_before t (suc bound) k h r =
        let x : Stop = r.0 in
        let at : slice_get line (k + 1) ≡ Some x = r.1 in
        let rise : Rank = (r.2).0 in
        let a = prim.attaches (k + 1) x rise at (r.2).1 in
        let m : ℕ = a.0 in
        let y : Stop = a.1 in
        let less : m < k + 1 = a.2 in
        let inside : k + 1 < length line = slice_get_within line (k + 1) x at in
        let R : ℕ → ℕ → Type 0 = StepAt t in
        let up : Reach R m (m + (k - m)) = chained R m (k - m) (λ l p q.
        let z = item_at line (l + 1) (omega arith) in
        let lo = prim.lowest (l + 1) m (k + 1) z.0 y x rise (omega arith) (omega arith) z.1 a.3 at a.4 in
        joined_before t bound l (omega arith) (z.0, z.1, (lo.0, lo.1, not_above-trans below order lo.0 rise t lo.2 (r.2).2))) in
        let up' : Reach R m k = subst (λ v. Reach R m v) (omega arith) up in
        let down : StepAt t m (k + 1) = record { x = y; y = x; w = rise; at_i = a.3; at_j = at; pass = a.4; low = (r.2).2 } in
        reach-trans R (reach-sym R (both t) up') (step down here)

    -- places between which each rise is within t are joined at t
    joined-from_rises : (t : Rank) (i j : ℕ) → i ≤ j → ((k : ℕ) → i < k → k ≤ j → RisesAt t k) → Reach (StepAt t) i j
    joined-from_rises t i j p h =
        let R : ℕ → ℕ → Type 0 = StepAt t in
        subst (λ v. Reach R i v) (omega arith) (chained R i (j - i) (λ l a b. joined_before t (l + 1) l (omega arith) (h (l + 1) (omega arith) (omega arith))))

    -- of places joined at t each rise between is within t
    rises-from_joined : (t : Rank) (i j k : ℕ) (z : Stop) → i < k → k ≤ j → slice_get line k ≡ Some z → Reach (StepAt t) i j → RiseWithin below t z.rise
    rises-from_joined t i j k z p q at r =
        let c = reach-crosses (StepAt t) (λ v. nat_lt v k) r (grind (arith, nat_tests)) (grind (arith, nat_tests)) in
        let a : ℕ = c.0 in
        let b : ℕ = c.1 in
        let is_before : nat_lt a k ≡ true = c.2 in
        let is_after : nat_lt b k ≡ false = c.3 in
        let less : a < k = grind (arith, nat_tests) in
        let more : k ≤ b = grind (arith, nat_tests) in
        let s : StepAt t a b = c.4 in
        let lo = prim.lowest k a b z s.x s.y s.w less more at s.at_i s.at_j s.pass in
        (lo.0, lo.1, not_above-trans below order lo.0 s.w t lo.2 s.low)

    -- from places to lows
    lows_joined : (t : Rank) {i j : ℕ} (x y : Stop) → slice_get line i ≡ Some x → slice_get line j ≡ Some y → Reach (StepAt t) i j → Reach (PassStep below passes t) x.low y.low
    lows_joined t x y hx hy here = (let e : x ≡ y = same_Some x y (sym hx ∙ hy) in subst (λ (z : Stop). Reach (PassStep below passes t) x.low z.low) e here)
    lows_joined t x y hx hy (step s r) =
        let e : s.x ≡ x = same_Some s.x x (sym s.at_i ∙ hx) in
        step (s.w, subst (λ (z : Stop). HasPass passes z.low (s.y).low s.w) e s.pass, s.low) (lows_joined t s.y y s.at_j hy r)

    -- and back
    places_joined : (t : Rank) {a b : Rank} (i : ℕ) (x : Stop) → slice_get line i ≡ Some x → x.low ≡ a → Reach (PassStep below passes t) a b →
        (j : ℕ) × (y : Stop) × (slice_get line j ≡ Some y) × (y.low ≡ b) × Reach (StepAt t) i j
    places_joined t i x hx e here = (i, x, hx, e, here)
    places_joined t i x hx e (step {a} {b} {c} s r) =
        let v = on a b s.0 s.1 in
        let rest = places_joined t v.0 v.1 v.2 v.3 r in
        let pass : HasPass passes x.low (v.1).low s.0 = subst (λ z. HasPass passes z (v.1).low s.0) (sym e) (subst (λ z. HasPass passes a z s.0) (sym v.3) s.1) in
        let first : StepAt t i v.0 = record { x = x; y = v.1; w = s.0; at_i = hx; at_j = v.2; pass = pass; low = s.2 } in
        (rest.0, rest.1, rest.2, rest.3, step first rest.4)

    -- two lows are joined at t exactly where the highest rise between them is within t
    pub joined-within : (t : Rank) (i j : ℕ) (x y : Stop) → i < j → slice_get line i ≡ Some x → slice_get line j ≡ Some y → Reach (PassStep below passes t) x.low y.low
        → RiseWithin below t (rise_between below line i j)
    joined-within t i j x y less hx hy r =
        let p = places_joined t i x hx refl r in
        let same : p.0 ≡ j = once p.0 j p.1 y p.2 hy p.3 in
        let there : Reach (StepAt t) i j = subst (λ v. Reach (StepAt t) i v) same p.4 in
        between-within below order line t i j y less hy (λ k z lo hi at. rises-from_joined t i j k z lo hi at there)

    pub within-joined : (t : Rank) (i j : ℕ) (x y : Stop) → i < j → slice_get line i ≡ Some x → slice_get line j ≡ Some y → RiseWithin below t (rise_between below line i j)
        → Reach (PassStep below passes t) x.low y.low
    within-joined t i j x y less hx hy h =
        let inside : j < length line = slice_get_within line j y hy in
        lows_joined t x y hx hy (joined-from_rises t i j (omega arith) (λ k lo hi. (let z = item_at line k (omega arith) in (z.0, z.1, within-between below order line t i j h k z.0 lo hi z.1))))

    least_is : (i j : ℕ) (x y : Stop) → i < j → slice_get line i ≡ Some x → slice_get line j ≡ Some y → (o : Option Rank) → rise_between below line i j ≡ o → LeastHighestIs below passes x.low y.low o
    least_is i j x y less hx hy None e = λ ss w.
        let apart : x.low ≢ y.low = λ same. (let n = once i j x y hx hy same in omega arith) in
        let v = walk_top x.low y.low ss apart w in
        let r = joined-within v.0 i j x y less hx hy (reach-from_walk v.0 x.low y.low ss w v.1.none_above) in
        none-some r.0 (sym e ∙ r.1)
    least_is i j x y less hx hy (Some s) e =
        let apart : x.low ≢ y.low = λ same. (let n = once i j x y hx hy same in omega arith) in
        least-from_level x.low y.low s apart (within-joined s i j x y less hx hy (s, e, order.irreflexive s)) (λ t r.
        let w = joined-within t i j x y less hx hy r in
        subst (λ v. IsNotAbove below v t) (sym (same_Some s w.0 (sym e ∙ w.1))) w.2)

    -- so the line tells the least highest passes
    pub prim-tells : TellsPasses below passes line
    prim-tells i j x y less hx hy = least_is i j x y less hx hy (rise_between below line i j) refl
