-- How the points stand to the level, as they are seen and as it rises.
use Rattle.std.proofs.Common.{◌≡◌, ◌∙◌, ◌<◌, ◌≤◌, ◌+◌, ℕ, zero, suc, Bool, true, false, List, [], ◌∷◌, length, get_or, replicate, set, Option, Some, None, ◌⊎◌, inl, inr, refl, sym, ap, subst, arith}
use Rattle.std.proofs.Math.ListN.{length-set}
use Rattle.std.proofs.Math.Seq.{map-set_same}
use Rattle.std.proofs.lemmas.Bool.{cases_eq, cases_lt, false_from_ne_true, false≢true}
use Rattle.std.proofs.lemmas.List.{get_or-set_same, get_or-set_other, get_or_default, length-replicate, map-set}
use Rattle.std.proofs.lemmas.List.Elements.{Contains-get_or}
use Rattle.hd_map.specs.declared.types.Pos.{Pos}
use Rattle.hd_map.specs.declared.types.Rank.{Rank}
use Rattle.hd_map.specs.declared.types.SideName.{SideName}
use Rattle.hd_map.specs.Map.{InGrid, Map, Present, cell_count, place_of, position_at}
use Rattle.hd_map.specs.Rank.{IsPoint, below_by, rank}
use Rattle.hd_map.specs.SideLaws.{below_by-order}
use Rattle.hd_map.proofs.Points.{place_inside, position_at-of, same_index}
use Rattle.hd_map.proofs.Order.{below-not_above}
use Rattle.hd_audit.specs.declared.standing.Standing.{Standing}
use Rattle.hd_audit.specs.declared.standing.Standing.TheVariants.{Absent, Over, Under, Seen}
use Rattle.hd_audit.specs.declared.waiting.Waiting.{Waiting}
use Rattle.hd_audit.specs.Flooding.{Adds, OffersIfPresent, seen_at}
use Rattle.hd_audit.specs.Orders.{AreInOrder}
use Rattle.hd_audit.specs.Standings.{AreStanding, AreStandingTo, Stands, is_seen, passed, seen_of, standing_at}

-- what is seen is so by index
pub seen_of-standing : (standings : List Standing) (i : ℕ) → seen_at (seen_of standings) i ≡ is_seen (standing_at standings i)
seen_of-standing [] i = refl
seen_of-standing (s ∷ standings) zero = refl
seen_of-standing (s ∷ standings) (suc i) = seen_of-standing standings i

pub seen_of-none : (n : ℕ) → seen_of (replicate n Absent) ≡ replicate n false
seen_of-none zero = refl
seen_of-none (suc n) = ap (λ (xs : List Bool). false ∷ xs) (seen_of-none n)

-- what is marked as seen stands no more to the level
pub AreStanding-seen : (m : Map) (side : SideName) (level : Option Rank) (standings : List Standing) (i : ℕ) → AreStanding m side level standings → AreStanding m side level (set standings i Seen)
AreStanding-seen m side level standings i are = record {
  whole = length-set standings i Seen ∙ are.whole;
  each = λ q inside. elim (cases_eq (place_of m.size q) i) [
    | inl here ↦
        let cells = place_inside m.size q inside in
        let long = are.whole in
        let is : standing_at (set standings i Seen) (place_of m.size q) ≡ Seen = ap (standing_at (set standings i Seen)) here
        ∙ get_or-set_same standings i Seen Absent (omega (arith, cells, long, here)) in
        subst (Stands m side level q) (sym is) tt
    | inr apart ↦ subst (Stands m side level q) (sym (get_or-set_other standings i (place_of m.size q) Seen Absent apart)) (are.each q inside)
  ];
}

-- an unseen point over the level is noted
pub OffersIfPresent-over : {S : Type 0} (m : Map) (side : SideName) (at : Pos) (from : ℕ) (level : Option Rank) (standings : List Standing) (ahead : List (Option ℕ))
    (low : List (Waiting S)) → InGrid m.size at → AreStanding m side level standings → standing_at standings (place_of m.size at) ≡ Over
    → OffersIfPresent m side at from level (seen_of standings) ahead low (seen_of (set standings (place_of m.size at) Seen)) (set ahead (place_of m.size at) (Some from)) low
OffersIfPresent-over m side at from level standings ahead low inside are is =
    let s : Stands m side level at Over = subst (Stands m side level at) is (are.each at inside) in
    inl (s.0, inr (seen_of-standing standings (place_of m.size at) ∙ ap is_seen is, map-set is_seen standings (place_of m.size at) Seen, inr (s.1, refl, refl)))

-- one below it is put into the heap
pub OffersIfPresent-under : {S : Type 0} (m : Map) (side : SideName) (at : Pos) (from : ℕ) (level : Option Rank) (standings : List Standing) (ahead : List (Option ℕ))
    (low low' : List (Waiting S)) → InGrid m.size at → AreStanding m side level standings → standing_at standings (place_of m.size at) ≡ Under
    → Adds m at from low low' → OffersIfPresent m side at from level (seen_of standings) ahead low (seen_of (set standings (place_of m.size at) Seen)) ahead low'
OffersIfPresent-under m side at from level standings ahead low low' inside are is adds =
    let s : Stands m side level at Under = subst (Stands m side level at) is (are.each at inside) in
    inl (s.0, inr (seen_of-standing standings (place_of m.size at) ∙ ap is_seen is, map-set is_seen standings (place_of m.size at) Seen, inl (s.1, refl, adds)))

-- where a point stands below the level it is present
pub Present-under : (m : Map) (side : SideName) (level : Option Rank) (standings : List Standing) (at : Pos) → InGrid m.size at → AreStanding m side level standings
    → standing_at standings (place_of m.size at) ≡ Under → Present m at
Present-under m side level standings at inside are is = (subst (Stands m side level at) is (are.each at inside)).0

none-stands : (n i : ℕ) → standing_at (replicate n Absent) i ≡ Absent
none-stands zero i = refl
none-stands (suc n) zero = refl
none-stands (suc n) (suc i) = none-stands n i

-- none is asked for yet
pub AreStandingTo-none : (m : Map) (standings : List Standing) → standings ≡ replicate (cell_count m.size) Absent → AreStandingTo m 0 standings
AreStandingTo-none m standings blank = record {
  whole = ap length blank ∙ length-replicate {A = Standing} (cell_count m.size) Absent;
  blank = ap seen_of blank ∙ seen_of-none (cell_count m.size);
  each = λ q inside less. absurd (omega (arith, less));
  rest = λ i from. ap (λ xs. standing_at xs i) blank ∙ none-stands (cell_count m.size) i;
}

module _ (m : Map) (n : ℕ) (standings : List Standing) (inside : n < cell_count m.size) (are : AreStandingTo m n standings) where
  stands-at : (q : Pos) → InGrid m.size q → place_of m.size q ≡ n → q ≡ position_at m.size n
  stands-at q here e = sym (position_at-of m.size q here) ∙ ap (position_at m.size) e

  -- a present point is over the level
  pub AreStandingTo-present : Present m (position_at m.size n) → AreStandingTo m (n + 1) (set standings n Over)
  AreStandingTo-present present = record {
    whole = length-set standings n Over ∙ are.whole;
    blank = map-set_same is_seen standings n Over Absent (sym (ap is_seen (are.rest n (omega arith)))) ∙ are.blank;
    each = λ q here less. elim (cases_eq (place_of m.size q) n) [
      | inl last ↦ inl (
        ap (standing_at (set standings n Over)) last ∙ get_or-set_same standings n Over Absent (let long = are.whole in omega (arith, inside, long)),
        subst
            (Present m) (sym (stands-at q here last)) present,
      )
      | inr apart ↦ subst (λ s. ((s ≡ Over) × Present m q) ⊎ ((s ≡ Absent) × (Present m q → ⊥))) (sym (get_or-set_other standings n (place_of m.size q) Over Absent apart))
          (are.each q here (omega (arith, less, apart)))
    ];
    rest = λ i from. get_or-set_other standings n i Over Absent (λ e. omega (arith, from, e)) ∙ are.rest i (omega (arith, from));
  }

  -- where none is present it stays so
  pub AreStandingTo-absent : (Present m (position_at m.size n) → ⊥) → AreStandingTo m (n + 1) standings
  AreStandingTo-absent absent = record {
    whole = are.whole;
    blank = are.blank;
    each = λ q here less. elim (cases_eq (place_of m.size q) n) [
      | inl last ↦ inr (ap (standing_at standings) last ∙ are.rest n (omega arith), λ present. absent (subst (Present m) (stands-at q here last) present))
      | inr apart ↦ are.each q here (omega (arith, less, apart))
    ];
    rest = λ i from. are.rest i (omega (arith, from));
  }

passed-seen : (s : Standing) → is_seen (passed s) ≡ is_seen s
passed-seen Absent = refl
passed-seen Over = refl
passed-seen Under = refl
passed-seen Seen = refl

-- the level changes nothing of what is seen
pub seen_of-passed : (standings : List Standing) (i : ℕ) → seen_of (set standings i (passed (standing_at standings i))) ≡ seen_of standings
seen_of-passed standings i = map-set_same is_seen standings i (passed (standing_at standings i)) Absent (passed-seen (standing_at standings i))

module _ (m : Map) (side : SideName) (points : List Rank) (order : AreInOrder m side points) where
  point-of : (q : Pos) → Present m q → IsPoint m (rank m q)
  point-of q here = record { at = q; present = here; rank_is = refl }

  -- the points below one are those before it
  below-before : (r : Rank) (k : ℕ) (d : Rank) → IsPoint m r → k < length points → below_by side r (get_or points k d) ≡ true → (j : ℕ) × (j < k) × (get_or points j d ≡ r)
  below-before r k d point inside below =
      let c = order.all r point in
      let at : get_or points c.0 d ≡ r = get_or_default points c.0 d r c.1 ∙ c.2 in (
        c.0,
        elim (cases_lt c.0 k) [
          | inl before ↦ before
          | inr after ↦ absurd (false≢true (sym (elim (cases_eq k c.0) [
            | inl same ↦ subst (λ j. below_by side r (get_or points j d) ≡ false) (sym same) (subst (λ (x : Rank). below_by side r x ≡ false) (sym at) ((below_by-order side).irreflexive r))
            | inr apart ↦ below-not_above (below_by side) (below_by-order side) (get_or points k d) r
                (subst (λ (x : Rank). below_by side (get_or points k d) x ≡ true) at (order.rises k c.0 d (omega (arith, after, apart)) c.1))
          ]) ∙ below))
        ],
        at,
      )

  -- none is below the first
  stands-first : (d : Rank) (q : Pos) (s : Standing) → 0 < length points → Stands m side None q s → Stands m side (Some (get_or points 0 d)) q s
  stands-first d q Absent some stands = stands
  stands-first d q Over some stands = (
    stands.0,
    false_from_ne_true (below_by side (rank m q) (get_or points 0 d)) (λ below. (let j = below-before (rank m q) 0 d (point-of q stands.0) some below in let less = j.1 in omega (arith, less))),
  )
  stands-first d q Under some stands = absurd (false≢true stands.1)
  stands-first d q Seen some stands = tt

  pub AreStanding-first : (standings : List Standing) (d : Rank) → 0 < length points → AreStanding m side None standings → AreStanding m side (Some (get_or points 0 d)) standings
  AreStanding-first standings d some are = record { whole = are.whole; each = λ q inside. stands-first d q (standing_at standings (place_of m.size q)) some (are.each q inside) }

  -- what is below a point is below the next
  under-next : (k : ℕ) (d : Rank) (r : Rank) → k + 1 < length points → below_by side r (get_or points k d) ≡ true → below_by side r (get_or points (k + 1) d) ≡ true
  under-next k d r more below = (below_by-order side).transitive r (get_or points k d) (get_or points (k + 1) d) below (order.rises k (k + 1) d (omega arith) more)

  -- the point itself is below the next
  stands-here : (k : ℕ) (d : Rank) (q : Pos) (s : Standing) → k + 1 < length points → place_of m.size q ≡ (get_or points k d).index → Stands m side (Some (get_or points k d)) q s
      → Stands m side (Some (get_or points (k + 1) d)) q (passed s)
  stands-here k d q Absent more here stands = stands
  stands-here k d q Over more here stands =
      let point = order.each (get_or points k d) (Contains-get_or points k d (omega (arith, more))) in
      let same : rank m q ≡ get_or points k d = same_index m (rank m q) (get_or points k d) (point-of q stands.0) point here in
      (stands.0, subst (λ (r : Rank). below_by side r (get_or points (k + 1) d) ≡ true) (sym same) (order.rises k (k + 1) d (omega arith) more))
  stands-here k d q Under more here stands = (stands.0, under-next k d (rank m q) more stands.1)
  stands-here k d q Seen more here stands = tt

  -- of the others none comes to be below it
  stands-next : (k : ℕ) (d : Rank) (q : Pos) (s : Standing) → k + 1 < length points → (place_of m.size q ≡ (get_or points k d).index → ⊥)
      → Stands m side (Some (get_or points k d)) q s → Stands m side (Some (get_or points (k + 1) d)) q s
  stands-next k d q Absent more apart stands = stands
  stands-next k d q Over more apart stands = (
    stands.0,
    false_from_ne_true (below_by side (rank m q) (get_or points (k + 1) d)) (λ below.
        let j = below-before (rank m q) (k + 1) d (point-of q stands.0) more below in
        elim (cases_eq j.0 k) [
          | inl last ↦ apart (ap (λ (r : Rank). r.index) (sym j.2 ∙ ap (λ i. get_or points i d) last))
          | inr old ↦ (let less = j.1 in
              let up = order.rises j.0 k d (omega (arith, less, old)) (omega (arith, more)) in
              false≢true (sym stands.1 ∙ subst (λ (r : Rank). below_by side r (get_or points k d) ≡ true) j.2 up))
        ]),
  )
  stands-next k d q Under more apart stands = (stands.0, under-next k d (rank m q) more stands.1)
  stands-next k d q Seen more apart stands = tt

  -- the level goes on from a point to the next
  pub AreStanding-next : (standings : List Standing) (k i : ℕ) (d : Rank) → k + 1 < length points → i ≡ (get_or points k d).index → AreStanding m side (Some (get_or points k d)) standings
      → AreStanding m side (Some (get_or points (k + 1) d)) (set standings i (passed (standing_at standings i)))
  AreStanding-next standings k i d more is are =
      let s : Standing = passed (standing_at standings i) in
      record {
        whole = length-set standings i s ∙ are.whole;
        each = λ q inside. elim (cases_eq (place_of m.size q) i) [
          | inl here ↦
              let cells = place_inside m.size q inside in
              let long = are.whole in
              let new : standing_at (set standings i s) (place_of m.size q) ≡ s = ap (standing_at (set standings i s)) here ∙ get_or-set_same standings i s Absent (omega (arith, cells, long, here)) in
              let old : Stands m side (Some (get_or points k d)) q (standing_at standings i) = subst
              (λ j. Stands m side (Some (get_or points k d)) q (standing_at standings j)) here (are.each q inside) in
              subst (Stands m side (Some (get_or points (k + 1) d)) q) (sym new) (stands-here k d q (standing_at standings i) more (here ∙ is) old)
          | inr apart ↦ subst (Stands m side (Some (get_or points (k + 1) d)) q) (sym (get_or-set_other standings i (place_of m.size q) s Absent apart))
              (stands-next k d q (standing_at standings (place_of m.size q)) more (λ e. apart (e ∙ sym is)) (are.each q inside))
        ];
      }
