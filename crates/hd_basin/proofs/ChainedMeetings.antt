-- Meetings that are chained by their lesser node, and what is kept of them.
use Rattle.std.proofs.Common.{◌≡◌, ◌≢◌, ◌<◌, ◌≤◌, ◌+◌, ℕ, ◌⊎◌, inl, inr, true, List, [], ◌∷◌, ◌++◌, length, set, Option, Some, None, slice_get, refl, sym, ◌∙◌, ap, subst, arith}
use Rattle.std.proofs.lemmas.Bool.{cases_eq}
use Rattle.std.specs.Prelude.{replicate}
use Rattle.std.proofs.lemmas.List.{length_push, length-replicate, get_or-replicate}
use Rattle.std.proofs.lemmas.Option.{same_Some, slice_get_within, get_or_from_slice_get}
use Rattle.hd_map.specs.declared.types.Rank.{Rank}
use Rattle.hd_map.specs.declared.types.SideName.{SideName}
use Rattle.hd_map.specs.Order.{IsNotAbove}
use Rattle.hd_map.specs.Rank.{below_by}
use Rattle.hd_map.specs.SideLaws.{below_by-order}
use Rattle.hd_map.proofs.Order.{below-not_above, not_above-refl, not_above-trans}
use Rattle.hd_tiles.proofs.Stamping.{slice_get-set_same, slice_get-set_other}
use Rattle.hd_basin.specs.declared.meetings.Meeting.{Meeting}
use Rattle.hd_basin.specs.Meetings.{IsLast, AreChained, IsUnknown, IsMeetingAt, Notes, AreKept}
use Rattle.hd_basin.proofs.Lists.{get-push_left, get-push_last, get-push_cases}

module _ (list : List Meeting) (x : Meeting) where
  -- the last meeting before a bound stays the last before it
  last-still : (a bound : ℕ) (h : Option ℕ) → bound ≤ length list → IsLast list a bound h → IsLast (list ++ x ∷ []) a bound h
  last-still a bound None few is = λ j y below at. elim (get-push_cases list x y j at) [
    | inl was ↦ is j y below was
    | inr new ↦ absurd (let e = new.0 in omega (arith, e, below, few))
  ]
  last-still a bound (Some h) few is = (
    is.0,
    λ y at. elim (get-push_cases list x y h at) [
      | inl was ↦ is.1 y was
      | inr new ↦ absurd (let e = new.0 in let b = is.0 in omega (arith, e, b, few))
    ],
    λ j y below at same. elim (get-push_cases list x y j at) [
      | inl was ↦ is.2 j y below was same
      | inr new ↦ absurd (let e = new.0 in omega (arith, e, below, few))
    ],
  )

  -- and where the new one is of another node the last of all
  last-other : (a : ℕ) (h : Option ℕ) → (x.a ≡ a → ⊥) → IsLast list a (length list) h → IsLast (list ++ x ∷ []) a (length list + 1) h
  last-other a None other is = λ j y below at same. elim (get-push_cases list x y j at) [
    | inl was ↦ is j y (slice_get_within list j y was) was same
    | inr new ↦ other (ap (λ (z : Meeting). z.a) (sym new.1) ∙ same)
  ]
  last-other a (Some h) other is = (
    (let b = is.0 in omega (arith, b)),
    λ y at. elim (get-push_cases list x y h at) [
      | inl was ↦ is.1 y was
      | inr new ↦ absurd (let e = new.0 in let b = is.0 in omega (arith, e, b))
    ],
    λ j y below at same. elim (get-push_cases list x y j at) [
      | inl was ↦ is.2 j y (slice_get_within list j y was) was same
      | inr new ↦ absurd (other (ap (λ (z : Meeting). z.a) (sym new.1) ∙ same))
    ],
  )

  -- of its own node the new one is the last
  last-own : IsLast (list ++ x ∷ []) x.a (length list + 1) (Some (length list))
  last-own = (
    omega arith,
    λ y at. ap (λ (z : Meeting). z.a) (same_Some y x (sym at ∙ get-push_last list x)),
    λ j y below at same. omega (arith, below),
  )

  pub chained-add : (lasts : List (Option ℕ)) → AreChained lasts list → x.a < length lasts → slice_get lasts x.a ≡ Some x.before → AreChained (set lasts x.a (Some (length list))) (list ++ x ∷ [])
  chained-add lasts are inside read =
      let count : length list + 1 ≡ length (list ++ x ∷ []) = sym (length_push list x) in
      record {
        ends = λ a h at. elim (cases_eq a x.a) [
          | inl same ↦ (
              let e : Some (length list) ≡ h = same_Some (Some (length list)) h (sym (slice_get-set_same lasts x.a (Some (length list)) inside)
              ∙ ap (slice_get (set lasts x.a (Some (length list)))) (sym same) ∙ at) in
              subst (λ (n : ℕ). IsLast (list ++ x ∷ []) a n h) count (subst (λ (b : ℕ). IsLast (list ++ x ∷ []) b (length list + 1) h) (sym same)
              (subst (λ (o : Option ℕ). IsLast (list ++ x ∷ []) x.a (length list + 1) o) e last-own)))
          | inr other ↦ (
              let was : slice_get lasts a ≡ Some h = sym (slice_get-set_other lasts x.a a (Some (length list)) other) ∙ at in
              subst (λ (n : ℕ). IsLast (list ++ x ∷ []) a n h) count (last-other a h (λ e. other (sym e)) (are.ends a h was)))
        ];
        each = λ i y at. elim (get-push_cases list x y i at) [
          | inl was ↦ last-still y.a i y.before (let b = slice_get_within list i y was in omega (arith, b)) (are.each i y was)
          | inr new ↦ subst (λ (z : Meeting). IsLast (list ++ x ∷ []) z.a i z.before) (sym new.1) (subst (λ (n : ℕ). IsLast (list ++ x ∷ []) x.a n x.before) (sym new.0)
              (last-still x.a (length list) x.before (omega arith) (are.ends x.a x.before read)))
        ];
      }

module _ (list : List Meeting) (i : ℕ) (was x : Meeting) (at : slice_get list i ≡ Some was) (lesser : x.a ≡ was.a) (greater : x.b ≡ was.b) where
  abbrev changed : List Meeting
  changed = set list i x

  pub new-at : slice_get changed i ≡ Some x
  new-at = slice_get-set_same list i x (slice_get_within list i was at)

  -- what is there was there with the same nodes
  pub record Stood (j : ℕ) (y : Meeting) : Type 0 where
    pub old : Meeting
    pub old_at : slice_get list j ≡ Some old
    pub same_a : y.a ≡ old.a
    pub same_b : y.b ≡ old.b

  pub Stood-changed : (j : ℕ) (y : Meeting) → slice_get changed j ≡ Some y → Stood j y
  Stood-changed j y read = elim (cases_eq j i) [
    | inl e ↦ (
        let same : x ≡ y = same_Some x y (sym new-at ∙ ap (slice_get changed) (sym e) ∙ read) in
        record { old = was; old_at = ap (slice_get list) e ∙ at; same_a = ap (λ (z : Meeting). z.a) (sym same) ∙ lesser; same_b = ap (λ (z : Meeting). z.b) (sym same) ∙ greater })
    | inr other ↦ record { old = y; old_at = sym (slice_get-set_other list i j x other) ∙ read; same_a = refl; same_b = refl }
  ]

  last-same : (a bound : ℕ) (h : Option ℕ) → IsLast list a bound h → IsLast changed a bound h
  last-same a bound None is = λ j y below read same. (let s = Stood-changed j y read in is j s.old below s.old_at (sym s.same_a ∙ same))
  last-same a bound (Some h) is = (
    is.0,
    λ y read. (let s = Stood-changed h y read in s.same_a ∙ is.1 s.old s.old_at),
    λ j y below read same.
        (let s = Stood-changed j y read in is.2 j s.old below s.old_at (sym s.same_a ∙ same)),
  )

  pub chained-set : (lasts : List (Option ℕ)) → length changed ≡ length list → x.before ≡ was.before → AreChained lasts list → AreChained lasts changed
  chained-set lasts count before are = record {
    ends = λ a h read. subst (λ (n : ℕ). IsLast changed a n h) (sym count) (last-same a (length list) h (are.ends a h read));
    each = λ j y read. elim (cases_eq j i) [
      | inl e ↦ (
          let same : x ≡ y = same_Some x y (sym new-at ∙ ap (slice_get changed) (sym e) ∙ read) in
          subst (λ (z : Meeting). IsLast changed z.a j z.before) same
          (subst (λ (n : ℕ). IsLast changed x.a n x.before) (sym e)
          (subst (λ (o : Option ℕ). IsLast changed x.a i o) (sym before) (subst (λ (b : ℕ). IsLast changed b i was.before) (sym lesser) (last-same was.a i was.before (are.each i was at))))))
      | inr other ↦ last-same y.a j y.before (are.each j y (sym (slice_get-set_other list i j x other) ∙ read))
    ];
  }

-- without meetings no node leads to one
pub chained-none : (lasts : List (Option ℕ)) (n : ℕ) → lasts ≡ replicate n None → AreChained lasts []
chained-none lasts n all = record {
  ends = λ a h at. (
      let read : slice_get (replicate n None) a ≡ Some h = ap (λ (xs : List (Option ℕ)). slice_get xs a) (sym all) ∙ at in
      let inside = slice_get_within (replicate n None) a h read in
      let none : h ≡ None = sym (get_or_from_slice_get (replicate n None) a h None read) ∙ get_or-replicate n a None None (rw (length-replicate {A = Option ℕ} n None) at inside) in
      subst (IsLast [] a 0) (sym none) (λ j x below read. absurd (omega (arith, below))));
  each = λ i x at. absurd cc;
}

-- the meetings of a and b are not after this one
abbrev pub IsAhead : ℕ → ℕ → List Meeting → Option ℕ → Type 0
IsAhead a b list None = IsUnknown a b list
IsAhead a b list (Some h) = (h < length list) × ((x : Meeting) → slice_get list h ≡ Some x → x.a ≡ a) × ((j : ℕ) (x : Meeting) → slice_get list j ≡ Some x → x.a ≡ a → x.b ≡ b → j ≤ h)

-- how many meetings are not after this one
abbrev pub up_to : Option ℕ → ℕ
up_to None = 0
up_to (Some h) = h + 1

pub ahead-start : (a b : ℕ) (list : List Meeting) (h : Option ℕ) → IsLast list a (length list) h → IsAhead a b list h
ahead-start a b list None is = λ j x at lesser greater. is j x (slice_get_within list j x at) at lesser
ahead-start a b list (Some h) is = (is.0, is.1, λ j x at lesser greater. is.2 j x (slice_get_within list j x at) at lesser)

-- it is another one, so the one before it is ahead
ahead-before : (a b : ℕ) (list : List Meeting) (h : ℕ) (x : Meeting) (before : Option ℕ) → IsAhead a b list (Some h) → slice_get list h ≡ Some x → x.b ≢ b → IsLast list a h before
    → IsAhead a b list before × (up_to before < up_to (Some h))
ahead-before a b list h x None ahead at other is = (
  λ j y read lesser greater. elim (cases_eq j h) [
    | inl e ↦ other (ap (λ (z : Meeting). z.b) (same_Some x y (sym at ∙ ap (slice_get list) (sym e) ∙ read)) ∙ greater)
    | inr apart ↦ is j y (let low = ahead.2 j y read lesser greater in omega (arith, low, apart)) read lesser
  ],
  omega arith,
)
ahead-before a b list h x (Some p) ahead at other is = (
  (
    (let low = is.0 in let up = ahead.0 in omega (arith, low, up)),
    is.1,
    λ j y read lesser greater. elim (cases_eq j h) [
      | inl e ↦ absurd (other (ap (λ (z : Meeting). z.b) (same_Some x y (sym at ∙ ap (slice_get list) (sym e) ∙ read)) ∙ greater))
      | inr apart ↦ is.2 j y (let low = ahead.2 j y read lesser greater in omega (arith, low, apart)) read lesser
    ],
  ),
  (let low = is.0 in omega (arith, low)),
)

pub ahead-more : (a b : ℕ) (lasts : List (Option ℕ)) (list : List Meeting) (h : ℕ) (x : Meeting) → AreChained lasts list → IsAhead a b list (Some h) → slice_get list h ≡ Some x → x.b ≢ b
    → IsAhead a b list x.before × (up_to x.before < up_to (Some h))
ahead-more a b lasts list h x are ahead at other = ahead-before a b list h x x.before ahead at other (subst (λ (c : ℕ). IsLast list c h x.before) (ahead.1 x at) (are.each h x at))

-- what is kept, with one more place where two nodes meet
module _ (side : SideName) (Event : ℕ → ℕ → Rank → Type 0) (a b : ℕ) (w : Rank) (old : List Meeting) (kept : AreKept side Event old) where
  abbrev Also : ℕ → ℕ → Rank → Type 0
  Also c d v = Event c d v ⊎ ((c ≡ a) × (d ≡ b) × (v ≡ w))

  kept-new : (x : Meeting) → IsUnknown a b old → IsMeetingAt a b w x → AreKept side Also (old ++ x ∷ [])
  kept-new x unknown is = record {
    each = λ i y at. elim (get-push_cases old x y i at) [
      | inl was ↦ inl (kept.each i y was)
      | inr new ↦ inr (ap (λ (z : Meeting). z.a) new.1 ∙ is.lesser, ap (λ (z : Meeting). z.b) new.1 ∙ is.greater, ap (λ (z : Meeting). z.at) new.1 ∙ is.at)
    ];
    every = λ c d v event. elim event [
      | inl was ↦ (let k = kept.every c d v was in (k.0, k.1, get-push_left old x k.1 k.0 k.2, k.3, k.4, k.5))
      | inr new ↦ (
        length old,
        x,
        get-push_last old x,
        is.lesser ∙ sym new.0,
        is.greater ∙ sym new.1,
        subst (λ (z : Rank). IsNotAbove (below_by side) x.at z) (is.at ∙ sym new.2) (not_above-refl (below_by side) (below_by-order side) x.at),
      )
    ];
    once = λ i j y z at there lesser greater. elim (get-push_cases old x y i at) [
      | inl was ↦ elim (get-push_cases old x z j there) [
        | inl was' ↦ kept.once i j y z was was' lesser greater
        | inr new ↦ absurd (unknown i y was (lesser ∙ ap (λ (u : Meeting). u.a) new.1 ∙ is.lesser) (greater ∙ ap (λ (u : Meeting). u.b) new.1 ∙ is.greater))
      ]
      | inr new ↦ elim (get-push_cases old x z j there) [
        | inl was ↦ absurd (unknown j z was (sym lesser ∙ ap (λ (u : Meeting). u.a) new.1 ∙ is.lesser) (sym greater ∙ ap (λ (u : Meeting). u.b) new.1 ∙ is.greater))
        | inr new' ↦ new.0 ∙ sym new'.0
      ]
    ];
  }

  -- it is known, and was not above
  kept-same : (i : ℕ) (was : Meeting) → slice_get old i ≡ Some was → was.a ≡ a → was.b ≡ b → IsNotAbove (below_by side) was.at w → AreKept side Also old
  kept-same i was at lesser greater low = record {
    each = λ j y read. inl (kept.each j y read);
    every = λ c d v event. elim event [
      | inl before ↦ kept.every c d v before
      | inr new ↦ (i, was, at, lesser ∙ sym new.0, greater ∙ sym new.1, subst (λ (z : Rank). IsNotAbove (below_by side) was.at z) (sym new.2) low)
    ];
    once = kept.once;
  }

  -- it is known, and was above
  kept-lower : (i : ℕ) (was x : Meeting) → slice_get old i ≡ Some was → was.a ≡ a → was.b ≡ b → IsMeetingAt a b w x → below_by side w was.at ≡ true → AreKept side Also (set old i x)
  kept-lower i was x at lesser greater is low =
      let mine : x.a ≡ was.a = is.lesser ∙ sym lesser in
      let other : x.b ≡ was.b = is.greater ∙ sym greater in
      record {
        each = λ j y read. elim (cases_eq j i) [
          | inl e ↦ (
              let same : x ≡ y = same_Some x y (sym (new-at old i was x at mine other) ∙ ap (slice_get (set old i x)) (sym e) ∙ read) in
              inr (ap (λ (z : Meeting). z.a) (sym same) ∙ is.lesser, ap (λ (z : Meeting). z.b) (sym same) ∙ is.greater, ap (λ (z : Meeting). z.at) (sym same) ∙ is.at))
          | inr apart ↦ inl (kept.each j y (sym (slice_get-set_other old i j x apart) ∙ read))
        ];
        every = λ c d v event. elim event [
          | inl before ↦ (
              let k = kept.every c d v before in
              elim (cases_eq k.0 i) [
                | inl e ↦ (
                    let same : k.1 ≡ was = same_Some k.1 was (sym k.2 ∙ ap (slice_get old) e ∙ at) in (
                      i,
                      x,
                      new-at old i was x at mine other,
                      mine ∙ ap (λ (z : Meeting). z.a) (sym same) ∙ k.3,
                      other ∙ ap (λ (z : Meeting). z.b) (sym same) ∙ k.4,
                      subst (λ (z : Rank). IsNotAbove (below_by side) z v) (sym is.at)
                          (not_above-trans (below_by side) (below_by-order side) w was.at v (below-not_above (below_by side) (below_by-order side) w was.at low)
                          (subst (λ (z : Meeting). IsNotAbove (below_by side) z.at v) same k.5)),
                    ))
                | inr apart ↦ (k.0, k.1, slice_get-set_other old i k.0 x apart ∙ k.2, k.3, k.4, k.5)
              ])
          | inr new ↦ (
            i,
            x,
            new-at old i was x at mine other,
            is.lesser ∙ sym new.0,
            is.greater ∙ sym new.1,
            subst (λ (z : Rank). IsNotAbove (below_by side) x.at z) (is.at ∙ sym new.2) (not_above-refl (below_by side) (below_by-order side) x.at),
          )
        ];
        once = λ j k y z read there one two. (
            let s = Stood-changed old i was x at mine other j y read in
            let u = Stood-changed old i was x at mine other k z there in
            kept.once j k s.old u.old s.old_at u.old_at (sym s.same_a ∙ one ∙ u.same_a) (sym s.same_b ∙ two ∙ u.same_b));
      }

  pub kept-notes : (new : List Meeting) → Notes side a b w old new → AreKept side Also new
  kept-notes new notes = elim notes [
    | inl fresh ↦ subst (AreKept side Also) (sym (fresh.1).1) (kept-new (fresh.1).0 fresh.0 (fresh.1).2)
    | inr known ↦ elim known.is [
      | inl stays ↦ subst (AreKept side Also) (sym stays.0) (kept-same known.number known.was known.at known.lesser known.greater stays.1)
      | inr gives ↦ subst (AreKept side Also) (sym gives.1) (kept-lower known.number known.was gives.0 known.at known.lesser known.greater gives.2 gives.3)
    ]
  ]
