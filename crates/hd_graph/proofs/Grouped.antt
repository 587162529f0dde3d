-- The parts, sorted, and those of one saddle put together.
use Rattle.std.proofs.Common.{◌≡◌, ℕ, zero, suc, ◌+◌, ◌<◌, ◌⊎◌, inl, inr, Bool, true, false, List, [], ◌∷◌, ◌++◌, length, get_or, take, Some, cond, slice_get, refl, sym, ◌∙◌, ap, subst, arith}
use Rattle.std.specs.Prelude.{Contains, AllPairs, insert}
use Rattle.std.specs.Cmp.{IsStrictWeakOrder}
use Rattle.std.specs.List.Sorted.{IsSortedBy}
use Rattle.std.proofs.lemmas.Bool.{cases_eq}
use Rattle.std.proofs.lemmas.List.{take_more}
use Rattle.std.proofs.lemmas.List.Elements.{Contains-append_left, Contains-push, Contains-push_cases, Contains-get_or}
use Rattle.std.proofs.lemmas.List.Quantifiers.{all_pairs_push}
use Rattle.std.proofs.lemmas.List.Kept.{AllPairs-cons}
use Rattle.std.proofs.lemmas.Option.{same_Some}
use Rattle.std.proofs.lemmas.List.Sorted.{sorted_far}
use Rattle.hd_map.specs.Order.{IsStrictOrder}
use Rattle.hd_map.proofs.Order.{below-not_above, not_above-trans, compare}
use Rattle.hd_map.specs.declared.types.Rank.{Rank}
use Rattle.hd_map.proofs.Items.{Contains-head, Contains-cases, Contains-none, Contains-tail, AllPairs-first, AllPairs-tail}
use Rattle.hd_graph.specs.declared.parts.Part.{Part}
use Rattle.hd_graph.specs.declared.parts.Rise.{Rise}
use Rattle.hd_graph.proofs.RiseParts.{from-rise_parts}
use Rattle.hd_map.specs.ChangeTree.{Joining}
use Rattle.hd_graph.specs.Parts.{AreGrouped, IsListed, comes_before, join_of, grown, left_of, right_of, rise_parts, with_low, with_part}
use Rattle.hd_graph.proofs.WithPart.{with_part-grows, with_part-adds}

module _ (below : Rank → Rank → Bool) (order : IsStrictOrder below) where
  same_part : (a b : Part) → a.saddle ≡ b.saddle → a.low ≡ b.low → a ≡ b
  same_part a b e f = ap (λ s. record { saddle = s; low = a.low }) e ∙ ap (λ p. record { saddle = b.saddle; low = p }) f

  pub before-weak : IsStrictWeakOrder (comes_before below)
  before-weak = record {
    one_way = λ x y h. below-not_above below order x.saddle y.saddle h;
    chain = λ x y z h k. not_above-trans below order z.saddle y.saddle x.saddle k h;
  }

  -- a low more is among the lows, in order
  module _ (low : Rank) where
    pub with_low-new : (xs : List Rank) → Contains (with_low below low xs) low
    with_low-new [] = Contains-head low []
    with_low-new (x ∷ xs) = elim (below x low) as (λ v. below x low ≡ v → Contains (cond v (x ∷ with_low below low xs) (cond (below low x) (low ∷ x ∷ xs) (x ∷ xs))) low) [
      | true ↦ λ e. Contains-tail x low (with_low below low xs) (with_low-new xs)
      | false ↦ λ e. elim (below low x) as (λ v. below low x ≡ v → Contains (cond v (low ∷ x ∷ xs) (x ∷ xs)) low) [
        | true ↦ λ f. Contains-head low (x ∷ xs)
        | false ↦ λ f. subst (λ y. Contains (x ∷ xs) y) (order.total x low e f) (Contains-head x xs)
      ] refl
    ] refl

    pub with_low-old : (xs : List Rank) (y : Rank) → Contains xs y → Contains (with_low below low xs) y
    with_low-old [] y h = absurd (Contains-none y h)
    with_low-old (x ∷ xs) y h = elim (below x low) as (λ v. Contains (cond v (x ∷ with_low below low xs) (cond (below low x) (low ∷ x ∷ xs) (x ∷ xs))) y) [
      | true ↦ elim (Contains-cases x y xs h) [
        | inl e ↦ subst (λ z. Contains (x ∷ with_low below low xs) z) (sym e) (Contains-head x (with_low below low xs))
        | inr later ↦ Contains-tail x y (with_low below low xs) (with_low-old xs y later)
      ]
      | false ↦ elim (below low x) as (λ v. Contains (cond v (low ∷ x ∷ xs) (x ∷ xs)) y) [ true ↦ Contains-tail low y (x ∷ xs) h | false ↦ h ]
    ]

    pub with_low-cases : (xs : List Rank) (y : Rank) → Contains (with_low below low xs) y → Contains xs y ⊎ (low ≡ y)
    with_low-cases [] y = λ h. elim (Contains-cases low y [] h) [ inl e ↦ inr (sym e) | inr later ↦ inl later ]
    with_low-cases (x ∷ xs) y = elim (below x low) as (λ v. Contains (cond v (x ∷ with_low below low xs) (cond (below low x) (low ∷ x ∷ xs) (x ∷ xs))) y → Contains (x ∷ xs) y ⊎ (low ≡ y)) [
      | true ↦ λ h. elim (Contains-cases x y (with_low below low xs) h) [
        | inl e ↦ inl (subst (λ z. Contains (x ∷ xs) z) (sym e) (Contains-head x xs))
        | inr later ↦ elim (with_low-cases xs y later) [ inl was ↦ inl (Contains-tail x y xs was) | inr new ↦ inr new ]
      ]
      | false ↦ elim (below low x) as (λ v. Contains (cond v (low ∷ x ∷ xs) (x ∷ xs)) y → Contains (x ∷ xs) y ⊎ (low ≡ y)) [
        | true ↦ λ h. elim (Contains-cases low y (x ∷ xs) h) [ inl e ↦ inr (sym e) | inr later ↦ inl later ]
        | false ↦ λ h. inl h
      ]
    ]

    with_low-after : (x : Rank) (xs : List Rank) → AllPairs (λ a b. below a b ≡ true) (x ∷ xs) → below x low ≡ true → (y : Rank) → Contains (with_low below low xs) y → below x y ≡ true
    with_low-after x xs ordered less y h = elim (with_low-cases xs y h) [
      | inl was ↦ AllPairs-first (λ a b. below a b ≡ true) x y xs ordered was
      | inr new ↦ subst (λ z. below x z ≡ true) new less
    ]

    with_low-before : (x : Rank) (xs : List Rank) → AllPairs (λ a b. below a b ≡ true) (x ∷ xs) → below low x ≡ true → (y : Rank) → Contains (x ∷ xs) y → below low y ≡ true
    with_low-before x xs ordered less y h = elim (Contains-cases x y xs h) [
      | inl e ↦ subst (λ z. below low z ≡ true) (sym e) less
      | inr later ↦ order.transitive low x y less (AllPairs-first (λ a b. below a b ≡ true) x y xs ordered later)
    ]

    pub with_low-ordered : (xs : List Rank) → AllPairs (λ a b. below a b ≡ true) xs → AllPairs (λ a b. below a b ≡ true) (with_low below low xs)
    with_low-ordered [] h = λ i j d lt len. absurd (omega arith)
    with_low-ordered (x ∷ xs) h = elim (below x low) as (λ v. below x low ≡ v → AllPairs (λ a b. below a b ≡ true) (cond v (x ∷ with_low below low xs) (cond (below low x) (low ∷ x ∷ xs) (x ∷ xs)))) [
      | true ↦ λ e. AllPairs-cons (λ a b. below a b ≡ true) x (with_low below low xs)
          (λ k d lt. with_low-after x xs h e (get_or (with_low below low xs) k d) (Contains-get_or (with_low below low xs) k d lt))
          (with_low-ordered xs (AllPairs-tail (λ a b. below a b ≡ true) x xs h))
      | false ↦ λ e. elim (below low x) as (λ v. below low x ≡ v → AllPairs (λ a b. below a b ≡ true) (cond v (low ∷ x ∷ xs) (x ∷ xs))) [
        | true ↦ λ f. AllPairs-cons (λ a b. below a b ≡ true) low (x ∷ xs) (λ k d lt. with_low-before x xs h f (get_or (x ∷ xs) k d) (Contains-get_or (x ∷ xs) k d lt)) h
        | false ↦ λ f. h
      ] refl
    ] refl

  pub grouped-none : AreGrouped below [] []
  grouped-none = record {
    listed = λ e. (λ h. absurd (Contains-none e h), λ h. absurd (Contains-none h.0 h.1));
    filled = λ x h. absurd (Contains-none x h);
    in_order = λ i j d lt len. absurd (omega arith);
    parts_in_order = λ x h. absurd (Contains-none x h);
  }

  one_alone : (p : Rank) → AllPairs (λ a b. below a b ≡ true) (p ∷ [])
  one_alone p = λ i j d lt len. absurd (omega arith)

  -- the saddle of a join is not above the next part's, and below it where they differ
  module _ (es : List Part) (e : Part) (joins : List Joining) (so : AreGrouped below es joins) (after : (f : Part) → Contains es f → below e.saddle f.saddle ≡ false) where
    low_or_same : (x : Joining) → Contains joins x → (below x.saddle e.saddle ≡ true) ⊎ (x.saddle ≡ e.saddle)
    low_or_same x at =
        let f = so.filled x at in
        let n : below e.saddle x.saddle ≡ false = after (record { saddle = x.saddle; low = f.0 }) ((so.listed (record { saddle = x.saddle; low = f.0 })).1 (x, at, refl, f.1)) in
        elim (compare below order x.saddle e.saddle) [
          | inl l ↦ inl l
          | inr r ↦ elim r [ inl m ↦ absurd cc | inr s ↦ inr s ]
        ]

    -- a join of its own
    grouped-alone : ((x : Joining) → Contains joins x → below x.saddle e.saddle ≡ true) → AreGrouped below (es ++ e ∷ []) (joins ++ join_of e ∷ [])
    grouped-alone low = record {
      listed = λ f. (
        λ h. elim (Contains-push_cases es e f h) [
          | inl was ↦ (let l = (so.listed f).0 was in (l.0, Contains-append_left joins (join_of e ∷ []) l.0 l.1, l.2, l.3))
          | inr new ↦ subst (λ z. IsListed (joins ++ join_of e ∷ []) z) new (join_of e, Contains-push joins (join_of e), refl, Contains-head e.low [])
        ],
        λ h. elim (Contains-push_cases joins (join_of e) h.0 h.1) [
          | inl was ↦ Contains-append_left es (e ∷ []) f ((so.listed f).1 (h.0, was, h.2, h.3))
          | inr new ↦ (let s : e.saddle ≡ f.saddle = ap (λ (z : Joining). z.saddle) new ∙ h.2 in
              let p : Contains (e.low ∷ []) f.low = subst (λ (z : Joining). Contains z.parts f.low) (sym new) h.3 in
              elim (Contains-cases e.low f.low [] p) [
                | inl q ↦ subst (λ z. Contains (es ++ e ∷ []) z) (same_part e f s (sym q)) (Contains-push es e)
                | inr later ↦ absurd (Contains-none f.low later)
              ])
        ],
      );
      filled = λ x h. elim (Contains-push_cases joins (join_of e) x h) [
        | inl was ↦ so.filled x was
        | inr new ↦ subst (λ (z : Joining). (r : Rank) × Contains z.parts r) new (e.low, Contains-head e.low [])
      ];
      in_order = all_pairs_push (λ (a : Joining) (b : Joining). below a.saddle b.saddle ≡ true) joins (join_of e) so.in_order (λ k d lt. low (get_or joins k d) (Contains-get_or joins k d lt));
      parts_in_order = λ x h. elim (Contains-push_cases joins (join_of e) x h) [
        | inl was ↦ so.parts_in_order x was
        | inr new ↦ subst (λ (z : Joining). AllPairs (λ a b. below a b ≡ true) z.parts) new (one_alone e.low)
      ];
    }

    front-pairs : {X : Type 0} (R : X → X → Type 0) (xs : List X) (y : X) → AllPairs R (xs ++ y ∷ []) → AllPairs R xs
    front-pairs R [] y h = λ i j d lt len. absurd (omega arith)
    front-pairs R (x ∷ xs) y h = AllPairs-cons R x xs (λ k d lt. AllPairs-first R x (get_or xs k d) (xs ++ y ∷ []) h (Contains-append_left xs (y ∷ []) (get_or xs k d) (Contains-get_or xs k d lt)))
        (front-pairs R xs y (AllPairs-tail R x (xs ++ y ∷ []) h))

    last-pairs : {X : Type 0} (R : X → X → Type 0) (xs : List X) (y z : X) → AllPairs R (xs ++ y ∷ []) → Contains xs z → R z y
    last-pairs R [] y z h at = absurd (Contains-none z at)
    last-pairs R (x ∷ xs) y z h at = elim (Contains-cases x z xs at) [
      | inl e ↦ subst (λ w. R w y) (sym e) (AllPairs-first R x y (xs ++ y ∷ []) h (Contains-push xs y))
      | inr later ↦ last-pairs R xs y z (AllPairs-tail R x (xs ++ y ∷ []) h) later
    ]

    module _ (front : List Joining) (x : Joining) (is : joins ≡ front ++ x ∷ []) where
      in_joins : (y : Joining) → Contains (front ++ x ∷ []) y → Contains joins y
      in_joins y h = subst (λ js. Contains js y) (sym is) h

      last_in : Contains joins x
      last_in = in_joins x (Contains-push front x)

      ordered : AllPairs (λ (a : Joining) (b : Joining). below a.saddle b.saddle ≡ true) (front ++ x ∷ [])
      ordered = subst (λ js. AllPairs (λ (a : Joining) (b : Joining). below a.saddle b.saddle ≡ true) js) is so.in_order

      -- with the last join
      grouped-grown : x.saddle ≡ e.saddle → AreGrouped below (es ++ e ∷ []) (front ++ grown below x e ∷ [])
      grouped-grown same = record {
        listed = λ f. (
          λ h. elim (Contains-push_cases es e f h) [
            | inl was ↦ (let l = (so.listed f).0 was in elim (Contains-push_cases front x l.0 (subst (λ js. Contains js l.0) is l.1)) [
              | inl old ↦ (l.0, Contains-append_left front (grown below x e ∷ []) l.0 old, l.2, l.3)
              | inr last ↦ (
                grown below x e,
                Contains-push front (grown below x e),
                ap (λ (z : Joining). z.saddle) last ∙ l.2,
                with_low-old e.low x.parts f.low (subst (λ (z : Joining). Contains z.parts f.low) (sym last) l.3),
              )
            ])
            | inr new ↦ subst (λ z. IsListed (front ++ grown below x e ∷ []) z) new (grown below x e, Contains-push front (grown below x e), same, with_low-new e.low x.parts)
          ],
          λ h. elim (Contains-push_cases front (grown below x e) h.0 h.1) [
            | inl old ↦ Contains-append_left es (e ∷ []) f ((so.listed f).1 (h.0, in_joins h.0 (Contains-append_left front (x ∷ []) h.0 old), h.2, h.3))
            | inr last ↦ (let s : x.saddle ≡ f.saddle = ap (λ (z : Joining). z.saddle) last ∙ h.2 in
                let p : Contains (with_low below e.low x.parts) f.low = subst (λ (z : Joining). Contains z.parts f.low) (sym last) h.3 in
                elim (with_low-cases e.low x.parts f.low p) [
                  | inl was ↦ Contains-append_left es (e ∷ []) f ((so.listed f).1 (x, last_in, s, was))
                  | inr new ↦ subst (λ z. Contains (es ++ e ∷ []) z) (same_part e f (sym same ∙ s) new) (Contains-push es e)
                ])
          ],
        );
        filled = λ y h. elim (Contains-push_cases front (grown below x e) y h) [
          | inl old ↦ so.filled y (in_joins y (Contains-append_left front (x ∷ []) y old))
          | inr last ↦ subst (λ (z : Joining). (r : Rank) × Contains z.parts r) last (e.low, with_low-new e.low x.parts)
        ];
        in_order = all_pairs_push (λ (a : Joining) (b : Joining). below a.saddle b.saddle ≡ true) front (grown below x e)
            (front-pairs (λ (a : Joining) (b : Joining). below a.saddle b.saddle ≡ true) front x ordered)
            (λ k d lt. last-pairs (λ (a : Joining) (b : Joining). below a.saddle b.saddle ≡ true) front x (get_or front k d) ordered (Contains-get_or front k d lt));
        parts_in_order = λ y h. elim (Contains-push_cases front (grown below x e) y h) [
          | inl old ↦ so.parts_in_order y (in_joins y (Contains-append_left front (x ∷ []) y old))
          | inr last ↦ subst (λ (z : Joining). AllPairs (λ a b. below a b ≡ true) z.parts) last
              (with_low-ordered e.low x.parts (so.parts_in_order x last_in))
        ];
      }

      grouped-last : AreGrouped below (es ++ e ∷ []) (with_part below e (front ++ x ∷ []))
      grouped-last = elim (below x.saddle e.saddle) as (λ v. below x.saddle e.saddle ≡ v → AreGrouped below (es ++ e ∷ []) (with_part below e (front ++ x ∷ []))) [
        | true ↦ λ l. subst (λ js. AreGrouped below (es ++ e ∷ []) js) (ap (λ js. js ++ join_of e ∷ []) is ∙ sym (with_part-adds below e front x l))
            (grouped-alone (λ y h. elim (Contains-push_cases front x y (subst (λ js. Contains js y) is h)) [
              | inl old ↦ order.transitive y.saddle x.saddle e.saddle (last-pairs (λ (a : Joining) (b : Joining). below a.saddle b.saddle ≡ true) front x y ordered old) l
              | inr last ↦ subst (λ (z : Joining). below z.saddle e.saddle ≡ true) last l
            ]))
        | false ↦ λ n. elim (low_or_same x last_in) [
          | inl l ↦ absurd cc
          | inr same ↦ subst (λ js. AreGrouped below (es ++ e ∷ []) js) (sym (with_part-grows below e front x n)) (grouped-grown same)
        ]
      ] refl

    last_or_none : {X : Type 0} (xs : List X) → (xs ≡ []) ⊎ ((front : List X) × (x : X) × (xs ≡ front ++ x ∷ []))
    last_or_none [] = inl refl
    last_or_none (x ∷ xs) = elim (last_or_none xs) [
      | inl e ↦ inr ([], x, ap (λ ys. x ∷ ys) e)
      | inr h ↦ inr (x ∷ h.0, h.1, ap (λ ys. x ∷ ys) h.2)
    ]

    pub grouped-with : AreGrouped below (es ++ e ∷ []) (with_part below e joins)
    grouped-with = elim (last_or_none joins) [
      | inl none ↦ subst (λ js. AreGrouped below (es ++ e ∷ []) (with_part below e js)) (sym none)
          (subst (λ js. AreGrouped below (es ++ e ∷ []) (js ++ join_of e ∷ [])) none (grouped-alone (λ y h. absurd (Contains-none y (subst (λ js. Contains js y) none h)))))
      | inr h ↦ subst (λ js. AreGrouped below (es ++ e ∷ []) (with_part below e js)) (sym h.2) (grouped-last h.0 h.1 h.2)
    ]

  from_take : {X : Type 0} (xs : List X) (n : ℕ) (y d : X) → Contains (take n xs) y → (k : ℕ) × (k < n) × (k < length xs) × (get_or xs k d ≡ y)
  from_take xs zero y d h = absurd (Contains-none y h)
  from_take [] (suc n) y d h = absurd (Contains-none y h)
  from_take (x ∷ xs) (suc n) y d h = elim (Contains-cases x y (take n xs) h) [
    | inl e ↦ (0, omega arith, omega arith, sym e)
    | inr later ↦ (let r = from_take xs n y d later in let a = r.1 in let b = r.2 in (suc r.0, omega arith, omega arith, r.3))
  ]

  pub rise_parts-push : (xs : List Rise) (x : Rise) → rise_parts (xs ++ x ∷ []) ≡ (rise_parts xs ++ left_of x ∷ []) ++ right_of x ∷ []
  rise_parts-push [] x = refl
  rise_parts-push (y ∷ ys) x = ap (λ (ps : List Part). left_of y ∷ right_of y ∷ ps) (rise_parts-push ys x)

  -- both parts of the next rise
  pub grouped-more : (rises : List Rise) → IsSortedBy (comes_before below) rises → (n : ℕ) (d : Rise) → n < length rises → (joins : List Joining) → AreGrouped below (rise_parts (take n rises)) joins →
      AreGrouped below (rise_parts (take (n + 1) rises)) (with_part below (right_of (get_or rises n d)) (with_part below (left_of (get_or rises n d)) joins))
  grouped-more rises sorted n d inside joins so =
      subst (λ ps. AreGrouped below ps (with_part below (right_of x) (with_part below (left_of x) joins))) (sym next)
      (grouped-with (before ++ left_of x ∷ []) (right_of x) (with_part below (left_of x) joins) (grouped-with before (left_of x) joins so after)
      (λ f at. elim (Contains-push_cases before (left_of x) f at) [
        | inl was ↦ after f was
        | inr new ↦ subst (λ (g : Part). below x.saddle g.saddle ≡ false) new (order.irreflexive x.saddle)
      ]))
    where
      x : Rise
      x = get_or rises n d

      before : List Part
      before = rise_parts (take n rises)

      next : rise_parts (take (n + 1) rises) ≡ (before ++ left_of x ∷ []) ++ right_of x ∷ []
      next = ap rise_parts (take_more rises n d inside) ∙ rise_parts-push (take n rises) x

      not_above : (y : Rise) → Contains (take n rises) y → below x.saddle y.saddle ≡ false
      not_above y at =
          let r = from_take rises n y d at in
          subst (λ (z : Rise). below x.saddle z.saddle ≡ false) r.3 (sorted_far (comes_before below) before-weak rises sorted r.0 n d (let lt = r.1 in omega arith) inside)

      after : (f : Part) → Contains before f → below x.saddle f.saddle ≡ false
      after f at = (let r = from-rise_parts (take n rises) f at in elim r.2 [
        | inl is ↦ subst (λ (g : Part). below x.saddle g.saddle ≡ false) is (not_above r.0 r.1)
        | inr is ↦ subst (λ (g : Part). below x.saddle g.saddle ≡ false) is (not_above r.0 r.1)
      ])

-- where the low goes among the lows
module _ (below : Rank → Rank → Bool) (low : Rank) where
  -- the lows before the place are below it
  abbrev pub AreBelow : List Rank → ℕ → Type 0
  AreBelow xs n = (k : ℕ) (y : Rank) → k < n → slice_get xs k ≡ Some y → below y low ≡ true

  pub below-more : (xs : List Rank) (n : ℕ) (x : Rank) → slice_get xs n ≡ Some x → below x low ≡ true → AreBelow xs n → AreBelow xs (n + 1)
  below-more xs n x at less so k y lt aty = elim (cases_eq k n) [
    | inl same ↦ subst (λ z. below z low ≡ true) (same_Some x y (sym at ∙ ap (λ i. slice_get xs i) (sym same) ∙ aty)) less
    | inr apart ↦ so k y (omega arith) aty
  ]

  below-tail : (x : Rank) (xs : List Rank) (n : ℕ) → AreBelow (x ∷ xs) (suc n) → AreBelow xs n
  below-tail x xs n so k y lt aty = so (suc k) y (omega arith) aty

  -- at the end
  pub with_low-last : (xs : List Rank) (n : ℕ) → n ≡ length xs → AreBelow xs n → with_low below low xs ≡ insert xs n low
  with_low-last [] n end so = (let e : n ≡ 0 = end in rw e refl)
  with_low-last (x ∷ xs) zero end so = absurd (omega arith)
  with_low-last (x ∷ xs) (suc n) end so =
      let less : below x low ≡ true = so 0 x (omega arith) refl in
      let later = with_low-last xs n (omega arith) (below-tail x xs n so) in
      rw less (ap (λ ys. x ∷ ys) later)

  -- before one that it is below
  pub with_low-inside : (xs : List Rank) (n : ℕ) (x : Rank) → slice_get xs n ≡ Some x → below x low ≡ false → below low x ≡ true → AreBelow xs n → with_low below low xs ≡ insert xs n low
  with_low-inside [] n x at high less so = absurd cc
  with_low-inside (y ∷ ys) zero x at high less so =
      let e : x ≡ y = sym (same_Some y x at) in
      let f : below y low ≡ false = subst (λ z. below z low ≡ false) e high in
      let g : below low y ≡ true = subst (λ z. below low z ≡ true) e less in
      rw (f, g) refl
  with_low-inside (y ∷ ys) (suc n) x at high less so =
      let first : below y low ≡ true = so 0 y (omega arith) refl in
      let later = with_low-inside ys n x at high less (below-tail y ys n so) in
      rw first (ap (λ zs. y ∷ zs) later)

  -- and where it stands already
  pub with_low-there : (xs : List Rank) (n : ℕ) (x : Rank) → slice_get xs n ≡ Some x → below x low ≡ false → below low x ≡ false → AreBelow xs n → with_low below low xs ≡ xs
  with_low-there [] n x at high less so = absurd cc
  with_low-there (y ∷ ys) zero x at high less so =
      let e : x ≡ y = sym (same_Some y x at) in
      let f : below y low ≡ false = subst (λ z. below z low ≡ false) e high in
      let g : below low y ≡ false = subst (λ z. below low z ≡ false) e less in
      rw (f, g) refl
  with_low-there (y ∷ ys) (suc n) x at high less so =
      let first : below y low ≡ true = so 0 y (omega arith) refl in
      let later = with_low-there ys n x at high less (below-tail y ys n so) in
      rw first (ap (λ zs. y ∷ zs) later)
