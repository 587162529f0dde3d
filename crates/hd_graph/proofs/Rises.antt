-- The highest rise between two places of a line, by levels.
use Rattle.std.proofs.Common.{◌≡◌, ℕ, zero, suc, ◌+◌, ◌-◌, ◌<◌, ◌≤◌, ◌⊎◌, inl, inr, Bool, true, false, List, [], ◌∷◌, length, take, drop, cond, Option}
use Rattle.std.proofs.Common.{Some, None, refl, sym, ◌∙◌, ap, subst, arith, slice_get}
use Rattle.std.proofs.lemmas.Option.{same_Some, none-some}
use Rattle.hd_map.specs.declared.types.Rank.{Rank}
use Rattle.hd_map.specs.Order.{IsNotAbove, IsStrictOrder}
use Rattle.hd_map.proofs.Order.{below-not_above, not_above-trans}
use Rattle.hd_graph.specs.declared.line.Stop.{Stop}
use Rattle.hd_graph.specs.Line.{higher_rise, highest_rise, rise_between}
use Rattle.hd_map.proofs.Places.{less_same_more, item_at}

module _ {X : Type 0} where
  pub slice_get-drop : (n : ℕ) (xs : List X) (k : ℕ) → slice_get (drop n xs) k ≡ slice_get xs (n + k)
  slice_get-drop zero xs k = (let e : k ≡ 0 + k = omega arith in ap (λ j. slice_get xs j) e)
  slice_get-drop (suc n) [] k = refl
  slice_get-drop (suc n) (x ∷ xs) k = (let e : suc (n + k) ≡ suc n + k = omega arith in slice_get-drop n xs k ∙ ap (λ j. slice_get (x ∷ xs) j) e)

  slice_get-take : (n : ℕ) (xs : List X) (k : ℕ) → k < n → slice_get (take n xs) k ≡ slice_get xs k
  slice_get-take zero xs k h = absurd (omega arith)
  slice_get-take (suc n) [] k h = refl
  slice_get-take (suc n) (x ∷ xs) zero h = refl
  slice_get-take (suc n) (x ∷ xs) (suc k) h = slice_get-take n xs k (omega arith)

  slice_get-take_past : (n : ℕ) (xs : List X) (k : ℕ) → n ≤ k → slice_get (take n xs) k ≡ None
  slice_get-take_past zero xs k h = refl
  slice_get-take_past (suc n) [] k h = refl
  slice_get-take_past (suc n) (x ∷ xs) zero h = absurd (omega arith)
  slice_get-take_past (suc n) (x ∷ xs) (suc k) h = slice_get-take_past n xs k (omega arith)

  -- the items after place i up to place j, by place
  pub between-to : (xs : List X) (i j k : ℕ) (x : X) → i < k → k ≤ j → slice_get xs k ≡ Some x → slice_get (drop (i + 1) (take (j + 1) xs)) (k - (i + 1)) ≡ Some x
  between-to xs i j k x lo hi at =
      let e : (i + 1) + (k - (i + 1)) ≡ k = omega arith in
      slice_get-drop (i + 1) (take (j + 1) xs) (k - (i + 1)) ∙ ap (λ l. slice_get (take (j + 1) xs) l) e ∙ slice_get-take (j + 1) xs k (omega arith) ∙ at

  pub between-from : (xs : List X) (i j l : ℕ) (x : X) → slice_get (drop (i + 1) (take (j + 1) xs)) l ≡ Some x → ((i + 1) + l ≤ j) × (slice_get xs ((i + 1) + l) ≡ Some x)
  between-from xs i j l x at =
      let f : slice_get (take (j + 1) xs) ((i + 1) + l) ≡ Some x = sym (slice_get-drop (i + 1) (take (j + 1) xs) l) ∙ at in
      elim (less_same_more ((i + 1) + l) (j + 1)) [
        | inl inside ↦ (omega arith, sym (slice_get-take (j + 1) xs ((i + 1) + l) inside) ∙ f)
        | inr r ↦ absurd (none-some x (sym (slice_get-take_past (j + 1) xs ((i + 1) + l) (elim r [ inl s ↦ omega arith | inr m ↦ omega arith ])) ∙ f))
      ]

-- the rise is there and not above t
abbrev pub RiseWithin : (Rank → Rank → Bool) → Rank → Option Rank → Type 0
RiseWithin below t rise = (r : Rank) × (rise ≡ Some r) × IsNotAbove below r t

-- s is the highest rise of the places after i up to j
pub record IsHighestBetween (below : Rank → Rank → Bool) (line : List Stop) (i j : ℕ) (s : Rank) : Type 0 where
  pub within : (k : ℕ) (z : Stop) → i < k → k ≤ j → slice_get line k ≡ Some z → RiseWithin below s z.rise
  pub reached : (k : ℕ) × (z : Stop) × (i < k) × (k ≤ j) × (slice_get line k ≡ Some z) × (z.rise ≡ Some s)

module _ (below : Rank → Rank → Bool) (order : IsStrictOrder below) where
  -- the higher rise is within t exactly where both are
  pub higher-within : (t : Rank) (a b : Option Rank) → RiseWithin below t a → RiseWithin below t b → RiseWithin below t (higher_rise below a b)
  higher-within t None b p q = cc (p.1)
  higher-within t (Some x) None p q = cc (q.1)
  higher-within t (Some x) (Some y) p q = elim (below x y) as (λ v. RiseWithin below t (cond v (Some y) (Some x))) [ true ↦ q | false ↦ p ]

  pub within-higher : (t : Rank) (a b : Option Rank) → RiseWithin below t (higher_rise below a b) → RiseWithin below t a × RiseWithin below t b
  within-higher t None b p = cc (p.1)
  within-higher t (Some x) None p = cc (p.1)
  within-higher t (Some x) (Some y) p = elim (below x y) as (λ v. below x y ≡ v → RiseWithin below t (cond v (Some y) (Some x)) → RiseWithin below t (Some x) × RiseWithin below t (Some y)) [
    | true ↦ λ e h. (let z : y ≡ h.0 = cc (h.1) in let low : IsNotAbove below y t = subst (λ w. IsNotAbove below w t) (sym z) h.2 in
        ((x, refl, not_above-trans below order x y t (below-not_above below order x y e) low), (y, refl, low)))
    | false ↦ λ e h. (let z : x ≡ h.0 = cc (h.1) in let low : IsNotAbove below x t = subst (λ w. IsNotAbove below w t) (sym z) h.2 in
        ((x, refl, low), (y, refl, not_above-trans below order y x t e low)))
  ] refl p

  -- the highest rise is within t exactly where each is
  all-within : (t : Rank) (x : Stop) (xs : List Stop) → ((k : ℕ) (z : Stop) → slice_get (x ∷ xs) k ≡ Some z → RiseWithin below t z.rise) → RiseWithin below t (highest_rise below (x ∷ xs))
  all-within t x [] h = h 0 x refl
  all-within t x (y ∷ ys) h = higher-within t x.rise (highest_rise below (y ∷ ys)) (h 0 x refl) (all-within t y ys (λ k z at. h (suc k) z at))

  all-within_some : (t : Rank) (xs : List Stop) (k : ℕ) (z : Stop) → slice_get xs k ≡ Some z → ((l : ℕ) (w : Stop) → slice_get xs l ≡ Some w → RiseWithin below t w.rise)
      → RiseWithin below t (highest_rise below xs)
  all-within_some t [] k z at h = absurd (cc at)
  all-within_some t (x ∷ xs) k z at h = all-within t x xs h

  RiseWithin-all : (t : Rank) (xs : List Stop) → RiseWithin below t (highest_rise below xs) → (k : ℕ) (z : Stop) → slice_get xs k ≡ Some z → RiseWithin below t z.rise
  RiseWithin-all t [] h k z at = absurd (cc at)
  RiseWithin-all t (x ∷ []) h zero z at = subst (λ (w : Stop). RiseWithin below t w.rise) (same_Some x z at) h
  RiseWithin-all t (x ∷ []) h (suc k) z at = absurd (cc at)
  RiseWithin-all t (x ∷ y ∷ ys) h zero z at = subst (λ (w : Stop). RiseWithin below t w.rise) (same_Some x z at) (within-higher t x.rise (highest_rise below (y ∷ ys)) h).0
  RiseWithin-all t (x ∷ y ∷ ys) h (suc k) z at = RiseWithin-all t (y ∷ ys) (within-higher t x.rise (highest_rise below (y ∷ ys)) h).1 k z at

  -- the highest rise is one of them
  higher-one : (a b : Option Rank) (s : Rank) → higher_rise below a b ≡ Some s → (a ≡ Some s) ⊎ (b ≡ Some s)
  higher-one None b s e = cc
  higher-one (Some x) None s e = cc
  higher-one (Some x) (Some y) s e = elim (below x y) as (λ v. cond v (Some y) (Some x) ≡ Some s → (Some x ≡ Some s) ⊎ (Some y ≡ Some s)) [ true ↦ λ h. inr h | false ↦ λ h. inl h ] e

  highest-one : (xs : List Stop) (s : Rank) → highest_rise below xs ≡ Some s → (k : ℕ) × (z : Stop) × (slice_get xs k ≡ Some z) × (z.rise ≡ Some s)
  highest-one [] s e = cc
  highest-one (x ∷ []) s e = (0, x, refl, e)
  highest-one (x ∷ y ∷ ys) s e = elim (higher-one x.rise (highest_rise below (y ∷ ys)) s e) [
    | inl first ↦ (0, x, refl, first)
    | inr later ↦ (let r = highest-one (y ∷ ys) s later in (suc r.0, r.1, r.2, r.3))
  ]

  module _ (line : List Stop) where
    -- the highest rise between two places is within t exactly where each rise between them is
    pub between-within : (t : Rank) (i j : ℕ) (y : Stop) → i < j → slice_get line j ≡ Some y →
        ((k : ℕ) (z : Stop) → i < k → k ≤ j → slice_get line k ≡ Some z → RiseWithin below t z.rise) → RiseWithin below t (rise_between below line i j)
    between-within t i j y less at h =
        all-within_some t (drop (i + 1) (take (j + 1) line)) (j - (i + 1)) y (between-to line i j j y less (omega arith) at)
        (λ l w c. (let f = between-from line i j l w c in let hi = f.0 in h ((i + 1) + l) w (omega arith) hi f.1))

    pub within-between : (t : Rank) (i j : ℕ) → RiseWithin below t (rise_between below line i j) → (k : ℕ) (z : Stop) → i < k → k ≤ j → slice_get line k ≡ Some z → RiseWithin below t z.rise
    within-between t i j h k z lo hi at = RiseWithin-all t (drop (i + 1) (take (j + 1) line)) h (k - (i + 1)) z (between-to line i j k z lo hi at)

    -- a rise between two places is the highest exactly where it is the highest in words
    pub highest-from : (i j : ℕ) (s : Rank) → rise_between below line i j ≡ Some s → IsHighestBetween below line i j s
    highest-from i j s e = record {
      within = within-between s i j (s, e, order.irreflexive s);
      reached =
          let r = highest-one (drop (i + 1) (take (j + 1) line)) s e in
          let f = between-from line i j r.0 r.1 r.2 in
          ((i + 1) + r.0, r.1, omega arith, f.0, f.1, r.3);
    }

    pub highest-to : (i j : ℕ) (s : Rank) → i < j → j < length line → IsHighestBetween below line i j s → rise_between below line i j ≡ Some s
    highest-to i j s less inside h =
        let r = h.reached in
        let y = item_at line j inside in
        let w = between-within s i j y.0 less y.1 h.within in
        let back = within-between w.0 i j (w.0, w.1, order.irreflexive w.0) r.0 r.1 r.2 r.3 r.4 in
        let same : s ≡ back.0 = same_Some s back.0 (sym r.5 ∙ back.1) in
        let up : IsNotAbove below s w.0 = subst (λ v. IsNotAbove below v w.0) (sym same) back.2 in
        w.1 ∙ ap Some (order.total w.0 s up w.2)

    -- where one rise is none, so is the highest
    pub between-none : (i j k : ℕ) (z : Stop) → i < k → k ≤ j → slice_get line k ≡ Some z → z.rise ≡ None → rise_between below line i j ≡ None
    between-none i j k z lo hi at none = elim (rise_between below line i j) as (λ o. rise_between below line i j ≡ o → o ≡ None) [
      | None ↦ λ e. refl
      | Some s ↦ λ e. absurd (let w = within-between s i j (s, e, order.irreflexive s) k z lo hi at in none-some w.0 (sym none ∙ w.1))
    ] refl

    -- s is the highest rise of place j and of the places after i and before k
    pub record IsHighestSoFar (i j k : ℕ) (s : Rank) : Type 0 where
      pub one : (m : ℕ) × (z : Stop) × (i < m) × (m ≤ j) × (slice_get line m ≡ Some z) × (z.rise ≡ Some s)
      pub last : (z : Stop) → slice_get line j ≡ Some z → RiseWithin below s z.rise
      pub rest : (m : ℕ) (z : Stop) → i < m → m < k → slice_get line m ≡ Some z → RiseWithin below s z.rise

    pub highest-first : (i j : ℕ) (y : Stop) (s : Rank) → i < j → slice_get line j ≡ Some y → y.rise ≡ Some s → IsHighestSoFar i j (i + 1) s
    highest-first i j y s less at rise = record {
      one = (j, y, less, omega arith, at, rise);
      last = λ z atz. (s, ap (λ (v : Stop). v.rise) (same_Some z y (sym atz ∙ at)) ∙ rise, order.irreflexive s);
      rest = λ m z lo hi atz. absurd (omega arith);
    }

    pub highest-more : (i j k : ℕ) (x : Stop) (s r : Rank) → i < k → k < j → slice_get line k ≡ Some x → x.rise ≡ Some r → IsHighestSoFar i j k s → IsHighestSoFar i j (k + 1) (cond (below s r) r s)
    highest-more i j k x s r lo hi at rise h = elim (below s r) as (λ v. below s r ≡ v → IsHighestSoFar i j (k + 1) (cond v r s)) [
      | true ↦ λ e. (let up : IsNotAbove below s r = below-not_above below order s r e in record {
        one = (k, x, lo, omega arith, at, rise);
        last = λ z atz. (let w = h.last z atz in (w.0, w.1, not_above-trans below order w.0 s r w.2 up));
        rest = λ m z a b atz. elim (less_same_more m k) [
          | inl less ↦ (let w = h.rest m z a less atz in (w.0, w.1, not_above-trans below order w.0 s r w.2 up))
          | inr o ↦ elim o [ inl same ↦ (r, here m z same atz, order.irreflexive r) | inr more ↦ absurd (omega arith) ]
        ];
      })
      | false ↦ λ e. record {
        one = h.one;
        last = h.last;
        rest = λ m z a b atz. elim (less_same_more m k) [
          | inl less ↦ h.rest m z a less atz
          | inr o ↦ elim o [ inl same ↦ (r, here m z same atz, e) | inr more ↦ absurd (omega arith) ]
        ];
      }
    ] refl
      where
        here : (m : ℕ) (z : Stop) → m ≡ k → slice_get line m ≡ Some z → z.rise ≡ Some r
        here m z same atz = ap (λ (v : Stop). v.rise) (same_Some z x (sym atz ∙ ap (λ n. slice_get line n) same ∙ at)) ∙ rise

    pub highest-all : (i j k : ℕ) (s : Rank) → i < j → j < length line → j ≤ k → IsHighestSoFar i j k s → rise_between below line i j ≡ Some s
    highest-all i j k s less inside end h = highest-to i j s less inside (record {
      within = λ m z lo hi at. elim (less_same_more m j) [
        | inl before ↦ h.rest m z lo (omega arith) at
        | inr o ↦ elim o [
          | inl same ↦ h.last z (ap (λ n. slice_get line n) (sym same) ∙ at)
          | inr more ↦ absurd (omega arith)
        ]
      ];
      reached = h.one;
    })
