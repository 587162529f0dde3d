-- Numbered borders in order: the classes that those below a level make, and which of them join what these leave apart.
use Rattle.std.proofs.Common.{◌≡◌, ◌≢◌, ◌<◌, ◌≤◌, ◌+◌, ◌∙◌, ℕ, Bool, true, false, inl, inr, List, [], ◌∷◌, ◌++◌, length, get_or, set, slice_get, Some, refl, sym, ap, subst, arith}
use Rattle.std.specs.Prelude.{◌↔◌, All, Contains}
use Rattle.std.specs.Cmp.{IsStrictWeakOrder}
use Rattle.std.specs.List.Sorted.{IsPermutation, IsSortedBy}
use Rattle.std.proofs.lemmas.Bool.{cases_eq, cases_lt}
use Rattle.std.proofs.lemmas.List.{length-set}
use Rattle.std.proofs.lemmas.List.Elements.{All-contains, Contains-append_left, Contains-get_or, Contains-push, Contains-push_cases}
use Rattle.std.proofs.lemmas.List.Sorted.{sorted_far, Contains-permutation, IsPermutation-sym}
use Rattle.std.proofs.lemmas.Option.{slice_get-get_or, slice_get_within, get_or_from_slice_get, same_Some}
use Rattle.hd_map.specs.declared.types.Rank.{Rank}
use Rattle.hd_map.specs.Order.{IsNotAbove, IsStrictOrder}
use Rattle.hd_map.proofs.Levels.{Reach, here, step}
use Rattle.hd_map.proofs.Order.{below-along, below-not_above, not_above-trans}
use Rattle.hd_graph.specs.Classes.{AreJoined, AreOneClass, IsLeast, Joins}
use Rattle.hd_map.proofs.Places.{at_place, get-set_other, get-set_same, item_at, place_of}
use Rattle.hd_graph.proofs.Reach.{reach-by}
use Rattle.hd_graph.proofs.AreOneClass.{class-sym, class-trans, least-same}
use Rattle.hd_steep.specs.declared.border.Border.{Border}
use Rattle.hd_lines.specs.declared.saddles.NumberedBorder.{NumberedBorder}
use Rattle.hd_lines.specs.NumberedBorders.{AreNumberedBorders, AreJoinedTo, AreLower, AreMarked, FirstStep, HasEnds, IsFirstOf, LowerNumberedStep, BordersSplitAt, numbered_border, is_lower}
use Rattle.hd_lines.specs.FirstJoins.{AreEnds, AreFirstJoins, LowerStep}

-- one border more
pub AreNumberedBorders-none : (borders : List Border) → AreNumberedBorders borders 0 []
AreNumberedBorders-none borders = record { each = λ x at. absurd (let inside = at.1 in omega arith); all = λ k l less at. absurd (omega arith) }

pub AreNumberedBorders-more : (borders : List Border) (n : ℕ) (d : Border) (numbered : List NumberedBorder) → n < length borders → AreNumberedBorders borders n numbered
    → AreNumberedBorders borders (n + 1) (numbered ++ numbered_border n (get_or borders n d) ∷ [])
AreNumberedBorders-more borders n d numbered inside are =
    let l : Border = get_or borders n d in
    let read : slice_get borders n ≡ Some l = slice_get-get_or borders n d inside in
    record {
      each = λ x at. elim (Contains-push_cases numbered (numbered_border n l) x at) [
        | inl old ↦ are.each x old
        | inr e ↦ (l, subst (λ (y : NumberedBorder). slice_get borders y.number ≡ Some l) e read, subst (λ (y : NumberedBorder). y ≡ numbered_border y.number l) e refl)
      ];
      all = λ k b less at. elim (cases_eq k n) [
        | inl e ↦ (let is : l ≡ b = same_Some l b (sym read ∙ ap (λ j. slice_get borders j) (sym e) ∙ at) in
            subst (λ j. Contains (numbered ++ numbered_border n l ∷ []) (numbered_border j b)) (sym e)
            (subst (λ (c : Border). Contains (numbered ++ numbered_border n l ∷ []) (numbered_border n c)) is (Contains-push numbered (numbered_border n l))))
        | inr ne ↦ Contains-append_left numbered (numbered_border n l ∷ []) (numbered_border k b) (are.all k b (omega arith) at)
      ];
    }

-- the steps of some are steps of more
more-steps : (numbered : List NumberedBorder) (n : ℕ) {x y : ℕ} → Reach (FirstStep numbered n) x y → Reach (FirstStep numbered (n + 1)) x y
more-steps numbered n r = reach-by (FirstStep numbered n) (FirstStep numbered (n + 1)) (λ u v s. step (s.0, s.1, (let less = s.2 in omega arith), s.3, s.4) here) r

pub AreJoinedTo-none : (numbered : List NumberedBorder) (parents : List ℕ) → ((x y : ℕ) → AreOneClass parents x y → x ≡ y) → AreJoinedTo numbered 0 parents
AreJoinedTo-none numbered parents own x y = (λ h. subst (λ z. Reach (FirstStep numbered 0) x z) (own x y h) here, λ r. same r)
  where
    same : {u v : ℕ} → Reach (FirstStep numbered 0) u v → AreOneClass parents u v
    same here = here
    same (step s r) = absurd (let less = s.2 in omega arith)

-- other parents of the same classes
pub AreJoinedTo-same : (numbered : List NumberedBorder) (n : ℕ) (old new : List ℕ) → ((u v : ℕ) → AreOneClass new u v ↔ AreOneClass old u v) → AreJoinedTo numbered n old → AreJoinedTo numbered n new
AreJoinedTo-same numbered n old new same joined x y = (λ h. (joined x y).0 ((same x y).0 h), λ r. (same x y).1 ((joined x y).1 r))

-- one more joins its two places
module _ (numbered : List NumberedBorder) (n : ℕ) (c : NumberedBorder) (at : slice_get numbered n ≡ Some c) (old new : List ℕ) (before : AreJoinedTo numbered n old) where
  new-step : FirstStep numbered (n + 1) c.a c.b
  new-step = (n, c, omega arith, at, inl (refl, refl))

  new-back : FirstStep numbered (n + 1) c.b c.a
  new-back = (n, c, omega arith, at, inr (refl, refl))

  -- the steps of all are within classes, if the new one is, and the old classes are
  within : ((u v : ℕ) → AreOneClass old u v → AreOneClass new u v) → AreOneClass new c.a c.b → (u v : ℕ) → FirstStep numbered (n + 1) u v → AreOneClass new u v
  within keeps one u v s = elim (cases_eq s.0 n) [
    | inl e ↦
        let is : c ≡ s.1 = same_Some c s.1 (sym at ∙ ap (λ k. slice_get numbered k) (sym e) ∙ s.3) in
        elim (subst (λ (x : NumberedBorder). AreEnds x.a x.b u v) (sym is) s.4) [
          | inl f ↦ subst (λ p. AreOneClass new p v) f.0 (subst (λ q. AreOneClass new c.a q) f.1 one)
          | inr f ↦ subst (λ p. AreOneClass new p v) f.1 (subst (λ q. AreOneClass new c.b q) f.0 (class-sym new c.a c.b one))
        ]
    | inr ne ↦ keeps u v ((before u v).1 (step (s.0, s.1, (let less = s.2 in omega arith), s.3, s.4) here))
  ]

  all-within : ((u v : ℕ) → FirstStep numbered (n + 1) u v → AreOneClass new u v) → {u v : ℕ} → Reach (FirstStep numbered (n + 1)) u v → AreOneClass new u v
  all-within f here = here
  all-within f (step {a} {b} {c = d} s r) = class-trans new a b d (f a b s) (all-within f r)

  pub AreJoinedTo-apart : Joins old c.a c.b new → AreJoinedTo numbered (n + 1) new
  AreJoinedTo-apart joins x y = (
    λ h. reach-by (AreJoined old c.a c.b) (FirstStep numbered (n + 1)) (λ u v j. elim j [
      | inl one ↦ more-steps numbered n ((before u v).0 one)
      | inr ends ↦ elim ends [
        | inl e ↦ rw (e.0, e.1) (step new-step here)
        | inr e ↦ rw (e.0, e.1) (step new-back here)
      ]
    ]) ((joins x y).0 h),
    λ r. all-within (within (λ u v one. (joins u v).1 (step (inl one) here)) ((joins c.a c.b).1 (step (inr (inl (refl, refl))) here))) r,
  )

  pub AreJoinedTo-together : AreOneClass old c.a c.b → ((u v : ℕ) → AreOneClass new u v ↔ AreOneClass old u v) → AreJoinedTo numbered (n + 1) new
  AreJoinedTo-together one same x y = (
    λ h. more-steps numbered n ((before x y).0 ((same x y).0 h)),
    λ r. all-within (within (λ u v h. (same u v).1 h) ((same c.a c.b).1 one)) r,
  )

  pub AreJoinedTo-more : (apart : Bool) → (apart ≡ true → Joins old c.a c.b new) → (apart ≡ false → AreOneClass old c.a c.b)
      → (apart ≡ false → (u v : ℕ) → AreOneClass new u v ↔ AreOneClass old u v) → AreJoinedTo numbered (n + 1) new
  AreJoinedTo-more true joins one same = AreJoinedTo-apart (joins refl)
  AreJoinedTo-more false joins one same = AreJoinedTo-together (one refl) (same refl)

module _ (below : Rank → Rank → Bool) (order : IsStrictOrder below) where
  pub is_lower-weak : IsStrictWeakOrder (is_lower below)
  is_lower-weak = record {
    one_way = λ x y h. below-not_above below order x.at y.at h;
    chain = λ x y z h k. not_above-trans below order z.at y.at x.at k h;
  }

  module _ (numbered : List NumberedBorder) (sorted : IsSortedBy (is_lower below) numbered) where
    -- numbered borders in order, by place
    in_places : (i j : ℕ) (x y : NumberedBorder) → i ≤ j → slice_get numbered i ≡ Some x → slice_get numbered j ≡ Some y → IsNotAbove below x.at y.at
    in_places i j x y le atx aty =
        let h = sorted_far (is_lower below) is_lower-weak numbered sorted i j x le (slice_get_within numbered j y aty) in
        subst (λ (v : NumberedBorder). IsNotAbove below v.at y.at) (get_or_from_slice_get numbered i x x atx)
        (subst (λ (v : NumberedBorder). IsNotAbove below (get_or numbered i x).at v.at) (get_or_from_slice_get numbered j y x aty) h)

    pub AreLower-more : (n : ℕ) (c : NumberedBorder) (level : Rank) → slice_get numbered n ≡ Some c → below c.at level ≡ true → AreLower below numbered n level → AreLower below numbered (n + 1) level
    AreLower-more n c level at low before k x less atx = elim (cases_eq k n) [
      | inl e ↦ (let is : c ≡ x = same_Some c x (sym at ∙ ap (λ j. slice_get numbered j) (sym e) ∙ atx) in subst (λ (y : NumberedBorder). below y.at level ≡ true) is low)
      | inr ne ↦ before k x (omega arith) atx
    ]

    -- where the next is not below the level, none after it is
    pub BordersSplitAt-here : (n : ℕ) (c : NumberedBorder) (level : Rank) → slice_get numbered n ≡ Some c → below c.at level ≡ false → AreLower below numbered n level
        → BordersSplitAt below numbered n level
    BordersSplitAt-here n c level at high before = record { lower = before; not_lower = λ k x le atx. not_above-trans below order level c.at x.at high (in_places n k c x le at atx) }

    pub BordersSplitAt-end : (n : ℕ) (level : Rank) → length numbered ≤ n → AreLower below numbered n level → BordersSplitAt below numbered n level
    BordersSplitAt-end n level all before = record { lower = before; not_lower = λ k x le atx. absurd (let inside = slice_get_within numbered k x atx in omega arith) }

    -- those before a split are those below its level
    steps-lower : (n : ℕ) (level : Rank) → BordersSplitAt below numbered n level → {u v : ℕ} → Reach (FirstStep numbered n) u v → Reach (LowerNumberedStep below numbered level) u v
    steps-lower n level split r = reach-by (FirstStep numbered n) (LowerNumberedStep below numbered level) (λ u v s. step (s.1, at_place numbered s.0 s.1 s.3, s.4, split.lower s.0 s.1 s.2 s.3) here) r

    lower-steps : (n : ℕ) (level : Rank) → BordersSplitAt below numbered n level → {u v : ℕ} → Reach (LowerNumberedStep below numbered level) u v → Reach (FirstStep numbered n) u v
    lower-steps n level split r = reach-by (LowerNumberedStep below numbered level) (FirstStep numbered n) (λ u v s.
        let p = place_of numbered s.0 s.1 in
        elim (cases_lt p.0 n) [
          | inl less ↦ step (p.0, s.0, less, p.1, s.2) here
          | inr past ↦ absurd (let high = split.not_lower p.0 s.0 past p.1 in let low = s.3 in cc)
        ]) r

    -- of the classes of those below a border: its places are apart exactly where no lower ones join them
    pub IsFirstOf-split : (n : ℕ) (x : NumberedBorder) (old mid new : List ℕ) (one other : ℕ) (first : Bool) → BordersSplitAt below numbered n x.at → AreJoinedTo numbered n old
        → AreOneClass old x.a one → ((u v : ℕ) → AreOneClass mid u v ↔ AreOneClass old u v) → IsLeast mid one
        → AreOneClass mid x.b other → ((u v : ℕ) → AreOneClass new u v ↔ AreOneClass mid u v) → IsLeast new other → ((u : ℕ) → IsLeast new u ↔ IsLeast mid u)
        → (first ≡ true → one ≢ other) → (one ≢ other → first ≡ true) → IsFirstOf below numbered x first
    IsFirstOf-split n x old mid new one other first split joined a same_mid least_a b same_new least_b leasts is_apart apart_is = (
      λ e r.
          let together : AreOneClass old x.a x.b = (joined x.a x.b).1 (lower-steps n x.at split r) in
          let b_old : AreOneClass old x.b other = (same_mid x.b other).0 b in
          let ends : AreOneClass old one other = class-trans old one x.a other (class-sym old x.a one a) (class-trans old x.a x.b other together b_old) in
          is_apart e (least-same new one other ((leasts one).1 least_a) least_b ((same_new one other).1 ((same_mid one other).1 ends))),
      λ none. apart_is (λ e. none (steps-lower n x.at split ((joined x.a x.b).0 (class-trans old x.a one x.b a
          (class-sym old x.b one (subst (AreOneClass old x.b) (sym e) ((same_mid x.b other).0 b))))))),
    )

    -- what is below a border is below those after it
    pub AreLower-next : (n i : ℕ) (x : NumberedBorder) → slice_get numbered i ≡ Some x → BordersSplitAt below numbered n x.at → (j : ℕ) (y : NumberedBorder) → i + 1 ≤ j
        → slice_get numbered j ≡ Some y → AreLower below numbered n y.at
    AreLower-next n i x at split j y le aty k z less atz = below-along below order z.at x.at y.at (split.lower k z less atz) (in_places i j x y (omega arith) at aty)

    -- one more is marked
    pub AreMarked-more : ((x y : NumberedBorder) → Contains numbered x → Contains numbered y → x.number ≡ y.number → x ≡ y) → (numbers n : ℕ) (x : NumberedBorder)
        → slice_get numbered n ≡ Some x → x.number < numbers
        → (firsts : List Bool) (first : Bool) → AreMarked below numbered numbers n firsts → IsFirstOf below numbered x first → AreMarked below numbered numbers (n + 1) (set firsts x.number first)
    AreMarked-more one numbers n x at inside firsts first before is = record {
      whole = length-set firsts x.number first ∙ before.whole;
      each = λ k y f less aty atf. elim (cases_eq y.number x.number) [
        | inl e ↦
            let same : x ≡ y = one x y (at_place numbered n x at) (at_place numbered k y aty) (sym e) in
            let old = item_at firsts x.number (subst (λ m. x.number < m) (sym before.whole) inside) in
            let now : first ≡ f = same_Some first f (sym (get-set_same firsts x.number first old.0 old.1) ∙ ap (slice_get (set firsts x.number first)) (sym e) ∙ atf) in
            subst (λ (z : NumberedBorder). IsFirstOf below numbered z f) same (subst (IsFirstOf below numbered x) now is)
        | inr ne ↦ before.each k y f (elim (cases_eq k n) [
          | inl e ↦ absurd (ne (ap (λ (z : NumberedBorder). z.number) (same_Some y x (sym aty ∙ ap (slice_get numbered) e ∙ at))))
          | inr other ↦ omega arith
        ]) aty (sym (get-set_other firsts x.number y.number first (λ e. ne (sym e))) ∙ atf)
      ];
    }

  -- all borders with their numbers, in another order
  module _ (borders : List Border) (raw numbered : List NumberedBorder) (are : AreNumberedBorders borders (length borders) raw) (same : IsPermutation raw numbered) where
    numbered-border : (x : NumberedBorder) → Contains numbered x → (l : Border) × (slice_get borders x.number ≡ Some l) × (x ≡ numbered_border x.number l)
    numbered-border x at = are.each x (Contains-permutation numbered raw x (IsPermutation-sym raw numbered same) at)

    border-numbered : (k : ℕ) (l : Border) → slice_get borders k ≡ Some l → Contains numbered (numbered_border k l)
    border-numbered k l at = Contains-permutation raw numbered (numbered_border k l) same (are.all k l (slice_get_within borders k l at) at)

    pub AreNumberedBorders-one_number : (x y : NumberedBorder) → Contains numbered x → Contains numbered y → x.number ≡ y.number → x ≡ y
    AreNumberedBorders-one_number x y atx aty e =
        let a = numbered-border x atx in
        let b = numbered-border y aty in
        let l : a.0 ≡ b.0 = same_Some a.0 b.0 (sym a.1 ∙ ap (slice_get borders) e ∙ b.1) in
        a.2 ∙ ap (λ n. numbered_border n a.0) e ∙ ap (numbered_border y.number) l ∙ sym b.2

    pub AreNumberedBorders-within : All (λ x. x.number < length borders) numbered
    AreNumberedBorders-within k d inside = (let b = numbered-border (get_or numbered k d) (Contains-get_or numbered k d inside) in slice_get_within borders (get_or numbered k d).number b.0 b.1)

    pub HasEnds-within : (count : ℕ) → All (λ l. (l.a < count) × (l.b < count)) borders → All (HasEnds count) numbered
    HasEnds-within count within k d inside =
        let x : NumberedBorder = get_or numbered k d in
        let b = numbered-border x (Contains-get_or numbered k d inside) in
        subst (HasEnds count) (sym b.2) (All-contains (λ (l : Border). (l.a < count) × (l.b < count)) borders b.0 within (at_place borders x.number b.0 b.1))

    -- what lower numbered borders join lower borders do
    numbered-borders : (level : Rank) {u v : ℕ} → Reach (LowerNumberedStep below numbered level) u v → Reach (LowerStep below borders level) u v
    numbered-borders level r = reach-by (LowerNumberedStep below numbered level) (LowerStep below borders level) (λ u v s.
        let b = numbered-border s.0 s.1 in
        step (
          b.0,
          at_place borders (s.0).number b.0 b.1,
          subst (λ (x : NumberedBorder). AreEnds x.a x.b u v) b.2 s.2,
          subst (λ (x : NumberedBorder). below x.at level ≡ true) b.2 s.3,
        ) here) r

    borders-numbered : (level : Rank) {u v : ℕ} → Reach (LowerStep below borders level) u v → Reach (LowerNumberedStep below numbered level) u v
    borders-numbered level r = reach-by (LowerStep below borders level) (LowerNumberedStep below numbered level) (λ u v s.
        let p = place_of borders s.0 s.1 in
        step (numbered_border p.0 s.0, border-numbered p.0 s.0 p.1, s.2, s.3) here) r

    pub AreFirstJoins-from_marked : (firsts : List Bool) → AreMarked below numbered (length borders) (length numbered) firsts → AreFirstJoins below borders firsts
    AreFirstJoins-from_marked firsts marked = record {
      whole = marked.whole;
      each = λ k l first at is.
          let p = place_of numbered (numbered_border k l) (border-numbered k l at) in
          let one = marked.each p.0 (numbered_border k l) first (slice_get_within numbered p.0 (numbered_border k l) p.1) p.1 is in
          (λ e r. one.0 e (borders-numbered l.pass r), λ none. one.1 (λ r. none (numbered-borders l.pass r)));
    }
