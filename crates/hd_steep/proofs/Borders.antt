-- The borders of all places, place by place.
use Rattle.std.proofs.Common.{◌≡◌, ◌≢◌, ◌<◌, ◌≤◌, ◌+◌, ◌⊎◌, ◌∙◌, ℕ, inl, inr, List, [], ◌∷◌, ◌++◌, length, get_or, map, sym, subst, arith}
use Rattle.std.specs.Prelude.{All, AllPairs, Contains, pos}
use Rattle.std.specs.List.Sorted.{IsNonDecreasingBy, IsPermutation}
use Rattle.std.proofs.Math.Dec.{eqb}
use Rattle.std.proofs.lemmas.Bool.{cases_lt}
use Rattle.std.proofs.lemmas.Bool.Decides.{Decides-eqb, eqb_tells}
use Rattle.std.proofs.lemmas.List.{get_or-map, length-map}
use Rattle.std.proofs.lemmas.List.Elements.{All-contains, Contains-append_cases, Contains-append_left, Contains-append_right, Contains-get_or}
use Rattle.std.proofs.lemmas.List.Kept.{AllPairs-cons}
use Rattle.std.proofs.lemmas.List.Sorted.{Contains-permutation, IsPermutation-map, IsPermutation-sym}
use Rattle.std.proofs.lemmas.Map.Keys.{IsDistinct-IsPermutation}
use Rattle.std.proofs.lemmas.Map.Made.{AllPairs-from_IsDistinct, IsDistinct-from_AllPairs}
use Rattle.hd_map.specs.declared.types.SideName.{SideName}
use Rattle.hd_map.specs.Map.{Map}
use Rattle.hd_map.proofs.Items.{AllPairs-first, AllPairs-tail, Contains-head, Contains-tail}
use Rattle.hd_map.proofs.Places.{at_place}
use Rattle.hd_steep.specs.declared.border.Border.{Border}
use Rattle.hd_steep.specs.Borders.{AreBorders}
use Rattle.hd_steep.specs.Found.{AreFoundOf, HasPlace, IsSeen, of_pair}
use Rattle.hd_steep.specs.Pairs.{AreCounted, IsAcross, Pair}
use Rattle.hd_steep.proofs.Counted.{counted-as}

eqb-flips : (a b : ℕ) → eqb a b ≡ eqb b a
eqb-flips a b = elim (eqb_tells a b) [
  | inl same ↦ same.0 ∙ sym (elim (eqb_tells b a) [ inl s ↦ s.0 | inr o ↦ absurd (o.1 (sym same.1)) ])
  | inr other ↦ other.0 ∙ sym (elim (eqb_tells b a) [ inl s ↦ absurd (other.1 (sym s.1)) | inr o ↦ o.0 ])
]

-- what holds of each two of a list, of each two of another, and between them, holds of each two of both
AllPairs-append : {X : Type 0} (R : X → X → Type 0) (xs ys : List X) → AllPairs R xs → AllPairs R ys → ((x y : X) → Contains xs x → Contains ys y → R x y) → AllPairs R (xs ++ ys)
AllPairs-append R [] ys first second between = second
AllPairs-append R (x ∷ xs) ys first second between = AllPairs-cons R x (xs ++ ys)
    (λ k d inside. elim (Contains-append_cases xs ys (get_or (xs ++ ys) k d) (Contains-get_or (xs ++ ys) k d inside)) [
      | inl one ↦ AllPairs-first R x (get_or (xs ++ ys) k d) xs first one
      | inr other ↦ between x (get_or (xs ++ ys) k d) (Contains-head x xs) other
    ])
    (AllPairs-append R xs ys (AllPairs-tail R x xs first) second (λ y z one other. between y z (Contains-tail x y xs one) other))

-- borders of different greater places rise once they are sorted by them
rise : (raw sorted : List Border) → AllPairs (λ x y. x.b ≢ y.b) raw → IsPermutation raw sorted → IsNonDecreasingBy (λ (l : Border). l.b) sorted → AllPairs (λ x y. x.b < y.b) sorted
rise raw sorted apart moved rising =
    let key : Border → ℕ = λ l. l.b in
    let none : Border = of_pair 0 0 (record { height = pos 0; index = 0 }) in
    let keys : AllPairs (λ a b. a ≢ b) (map key raw) = λ i j d less inside same.
    let within : j < length raw = omega (arith, inside, length-map raw key) in
    apart i j none less within (sym (get_or-map key raw i none d (omega (arith, less, within))) ∙ same ∙ get_or-map key raw j none d within) in
    let once = IsDistinct-IsPermutation eqb eqb-flips (map key raw) (map key sorted) (IsPermutation-map key raw sorted moved) (IsDistinct-from_AllPairs Decides-eqb (map key raw) keys) in
    let differ = AllPairs-from_IsDistinct Decides-eqb (map key sorted) once in
    let long : length (map key sorted) ≡ length sorted = length-map sorted key in
    λ i j d less inside.
    let other : (get_or sorted i d).b ≢ (get_or sorted j d).b = λ same. differ i j d.b less (omega (arith, long, inside))
    (get_or-map key sorted i d d.b (omega (arith, less, inside)) ∙ same ∙ sym (get_or-map key sorted j d d.b inside)) in
    let le = rising i j d (omega arith) inside in
    omega (arith, le, other)

module _ (m : Map) (side : SideName) (places : List ℕ) where
  abbrev All_pairs : Pair → Type 0
  All_pairs p = Unit {0}

  -- the borders whose lesser place is less than n
  pub record AreBordersBefore (n : ℕ) (borders : List Border) : Type 0 where
    pub lesser : (l : Border) → Contains borders l → l.a < l.b
    pub before : (l : Border) → Contains borders l → l.a < n
    pub counted : (l : Border) → Contains borders l → AreCounted side (IsAcross m (HasPlace m places) l.a l.b) l.pairs l.pass
    pub all : (i j : ℕ) (p : Pair) → i < n → i < j → IsAcross m (HasPlace m places) i j p → (l : Border) × Contains borders l × (l.a ≡ i) × (l.b ≡ j)
    pub in_order : AllPairs (λ x y. (x.a < y.a) ⊎ ((x.a ≡ y.a) × (x.b < y.b))) borders

  -- with those of one place more
  pub borders-more : (n : ℕ) (old raw sorted : List Border) → AreBordersBefore n old → AreFoundOf m side places All_pairs n raw → AllPairs (λ x y. x.b ≢ y.b) raw → IsPermutation raw sorted
      → IsNonDecreasingBy (λ (l : Border). l.b) sorted → AreBordersBefore (n + 1) (old ++ sorted)
  borders-more n old raw sorted are found apart moved rising = record {
    lesser = λ l h. elim (Contains-append_cases old sorted l h) [ inl o ↦ are.lesser l o | inr new ↦ lesser l (back l new) ];
    before = λ l h. elim (Contains-append_cases old sorted l h) [ inl o ↦ (let less = are.before l o in omega arith) | inr new ↦ (let e = found.own l (back l new) in omega arith) ];
    counted = λ l h. elim (Contains-append_cases old sorted l h) [ inl o ↦ are.counted l o | inr new ↦ counted l (back l new) ];
    all = λ i j p below less across. elim (cases_lt i n) [
      | inl before ↦ (let l = are.all i j p before less across in (l.0, Contains-append_left old sorted l.0 l.1, l.2, l.3))
      | inr past ↦
          let e : i ≡ n = omega arith in
          let l = found.all j p (subst (λ k. IsSeen m places All_pairs k j p) e (record { lesser = less; across = across; seen = tt })) in
          (l.0, Contains-append_right old sorted l.0 (Contains-permutation raw sorted l.0 moved l.1), found.own l.0 l.1 ∙ sym e, l.2)
    ];
    in_order = AllPairs-append (λ (x : Border) (y : Border). (x.a < y.a) ⊎ ((x.a ≡ y.a) × (x.b < y.b))) old sorted are.in_order
        (λ i j d less inside. inr (
          found.own (get_or sorted i d) (back (get_or sorted i d) (Contains-get_or sorted i d (omega arith)))
              ∙ sym (found.own (get_or sorted j d) (back (get_or sorted j d) (Contains-get_or sorted j d inside))),
          rise raw sorted apart moved rising i j d less inside,
        ))
        (λ x y one other. (let less = are.before x one in let e = found.own y (back y other) in inl (omega arith)));
  }
    where
      back : (l : Border) → Contains sorted l → Contains raw l
      back l h = Contains-permutation sorted raw l (IsPermutation-sym raw sorted moved) h

      lesser : (l : Border) → Contains raw l → l.a < l.b
      lesser l h =
          let r = (found.counted l h).reached in
          let e = found.own l h in
          let less : n < l.b = r.1.lesser in
          omega arith

      counted : (l : Border) → Contains raw l → AreCounted side (IsAcross m (HasPlace m places) l.a l.b) l.pairs l.pass
      counted l h = subst (λ k. AreCounted side (IsAcross m (HasPlace m places) k l.b) l.pairs l.pass) (sym (found.own l h))
          (counted-as side (IsSeen m places All_pairs n l.b) (IsAcross m (HasPlace m places) n l.b)
          (λ p. (λ s. s.across, λ across. record { lesser = (let less = lesser l h in let e = found.own l h in omega arith); across = across; seen = tt })) l.pairs l.pass (found.counted l h))

  -- all of them, where each place is less than n
  pub borders-all : (n room : ℕ) (borders : List Border) → All (λ p. p < room) places → room ≤ n → AreBordersBefore n borders → AreBorders m side places borders
  borders-all n room borders within all are = record {
    lesser = are.lesser;
    counted = are.counted;
    all = λ i j p less across. are.all i j p (let inside = All-contains (λ k. k < room) places i within (at_place places p.from.index i across.from_in.place) in omega arith) less across;
    in_order = are.in_order;
  }
