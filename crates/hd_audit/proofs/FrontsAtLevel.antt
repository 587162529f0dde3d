-- A front as its points are listed: at its beginning, from the heap, and at the level.
use Rattle.std.proofs.Common.{◌≡◌, ◌∙◌, ◌<◌, ◌+◌, ℕ, zero, suc, ℤ, Bool, true, false, List, [], ◌∷◌, ◌++◌, length, get_or, remove, replicate, set}
use Rattle.std.proofs.Common.{Option, Some, None, inl, inr, refl, sym, ap, subst, arith}
use Rattle.std.specs.Prelude.{Contains}
use Rattle.std.specs.BinaryHeap.{IsUpperBound}
use Rattle.std.specs.List.Sorted.{IsPermutation}
use Rattle.std.proofs.Math.ListN.{length-set}
use Rattle.std.proofs.lemmas.Bool.{cases_eq, cases_lt, false≢true}
use Rattle.std.proofs.lemmas.List.{get_or_default, get_or-set_same, get_or-set_other, length-replicate, length_push}
use Rattle.std.proofs.lemmas.List.Elements.{Contains-append_cases, Contains-append_left, Contains-append_right}
use Rattle.std.proofs.lemmas.List.Sorted.{Contains-permutation, IsPermutation-append_left, IsPermutation-remove, IsPermutation-sym, length_permutation}
use Rattle.std.proofs.lemmas.Option.{none-some, same_Some}
use Rattle.hd_map.specs.declared.types.Rank.{Rank}
use Rattle.hd_map.specs.declared.types.SideName.{SideName}
use Rattle.hd_map.specs.Map.{IsMap, Map, cell_count}
use Rattle.hd_map.specs.Order.{IsNotAbove}
use Rattle.hd_map.specs.Rank.{IsPoint, below_by}
use Rattle.hd_map.specs.SideLaws.{below_by-order}
use Rattle.hd_map.proofs.Items.{Contains-cases, Contains-head, Contains-tail}
use Rattle.hd_map.proofs.Points.{same_index, point_inside}
use Rattle.hd_map.proofs.Order.{below-apart, below-not_above, compare, not_above-refl}
use Rattle.hd_prune.specs.declared.step.Kept.{Kept}
use Rattle.hd_audit.specs.declared.types.AuditLine.{AuditLine}
use Rattle.hd_audit.specs.declared.waiting.Waiting.{Waiting}
use Rattle.hd_audit.specs.Flooding.{AreBegun, AreNotBelow, ArePassed, IsFlooding, IsFront, IsFrontAt, IsWaiting, ahead_at, next_line, rank_of_waiting, seen_at}
use Rattle.hd_audit.specs.Lines.{IsPointAt, line_at}
use Rattle.hd_audit.specs.Listing.{AreShownTo}
use Rattle.hd_audit.specs.LowestFirst.{lowest_first}
use Rattle.hd_audit.specs.Orders.{AreInOrder}
use Rattle.hd_audit.specs.Shown.{AreShownLines}
use Rattle.hd_audit.proofs.AreBegun.{AreBegun-flooding}
use Rattle.hd_audit.proofs.AreFirm.{AreFirm}
use Rattle.hd_audit.proofs.Flooding.{IsFlooding-list}
use Rattle.hd_audit.proofs.Lines.{line_at-push_new}
use Rattle.hd_audit.proofs.NextLines.{AreShownLines-all, IsPointAt-cut, AreShownTo-more, lowest_first-top}

none_ahead : (n i p : ℕ) → ahead_at (replicate n None) i ≡ Some p → ⊥
none_ahead zero i p e = cc
none_ahead (suc n) zero p e = cc
none_ahead (suc n) (suc i) p e = none_ahead n i p e

seen_level : (point l : Rank) (seen : List Bool) → ◌≡◌ {A = Option Rank} (Some point) (Some l) → seen_at seen point.index ≡ true → seen_at seen l.index ≡ true
seen_level point l seen e h = subst (λ (r : Rank). seen_at seen r.index ≡ true) (same_Some point l e) h

nothing : {X : Type 0} (xs : List X) (x : X) → length xs ≡ 0 → Contains xs x → ⊥
nothing xs x empty h = let inside : h.0 < length xs = h.1 in omega (arith, inside, empty)

-- the index of a waiting point is that of its rank
waiting-point : {S : Type 0} (m : Map) (lines : List AuditLine) (w : Waiting S) → IsWaiting m lines w → IsPoint m (rank_of_waiting w)
waiting-point m lines w t = record { at = t.point; present = t.neighbour.from; rank_is = t.rank_is }

-- none waits at the beginning
pub IsFront-begin : {S : Type 0} (m : Map) (side : SideName) (kept : List Kept) (n : ℕ) (seen : List Bool) (lines : List AuditLine) (ahead : List (Option ℕ))
    (low : List (Waiting S)) → ahead ≡ replicate (cell_count m.size) None → length low ≡ 0 → AreBegun m kept n seen lines
    → IsFront m side lines None seen ahead low 0
IsFront-begin m side kept n seen lines ahead [] blank empty b = record {
  high = [];
  flooding = AreBegun-flooding m kept n seen lines [] refl b;
  whole = ap length blank ∙ length-replicate {A = Option ℕ} (cell_count m.size) None;
  noted = λ w h. absurd (nothing [] w refl h);
  only = λ k p e. absurd (none_ahead (cell_count m.size) k p (ap (λ (xs : List (Option ℕ)). ahead_at xs k) (sym blank) ∙ e));
  under = λ w h. absurd (nothing [] w refl h);
  over = λ w h. tt;
  level_seen = λ l e. absurd (let f = e in cc);
}
IsFront-begin m side kept n seen lines ahead (w ∷ low) blank empty b = absurd (omega (arith, empty))

no_low : {S : Type 0} (low : List (Waiting S)) → ((w : Waiting S) → Contains low w → false ≡ true) → length low ≡ 0
no_low [] h = refl
no_low (w ∷ low) h = absurd (false≢true (h w (Contains-head w low)))

-- without a level none waits in the heap
pub IsFrontAt-level : {S : Type 0} (m : Map) (side : SideName) (lines : List AuditLine) (seen : List Bool) (ahead : List (Option ℕ)) (low : List (Waiting S))
    → IsFront m side lines None seen ahead low (length lines) → IsFrontAt m side lines seen ahead low
IsFrontAt-level m side lines seen ahead low f = record { level = None; front = f; empty = no_low low f.under }

module _ {S : Type 0} (m : Map) (whole : IsMap m) (side : SideName) (thousandths : ℕ) (sz : ℤ) (kept : List Rank) (firm : AreFirm m side thousandths sz kept)
    (lines : List AuditLine) (seen : List Bool) (ahead : List (Option ℕ)) (so : AreShownTo m side thousandths sz kept lines (length lines)) where
  -- what the lines are with that of a point that waited, and the front before its neighbours are offered
  pub record IsListed (level : Rank) (ahead' : List (Option ℕ)) (rest : List (Waiting S)) (from : ℕ) (point : Rank) : Type 0 where
    pub before : from < length lines
    pub few : length lines < cell_count m.size
    pub is_point : IsPoint m point
    pub cut : (c : ℕ) → (line_at lines from).cut ≡ Some c → IsPointAt m c
    pub shown : AreShownTo m side thousandths sz kept (lines ++ next_line m side thousandths sz (line_at lines from) point ∷ [])
        (length (lines ++ next_line m side thousandths sz (line_at lines from) point ∷ []))
    pub front : IsFront m side (lines ++ next_line m side thousandths sz (line_at lines from) point ∷ []) (Some level) seen ahead' rest (length lines)

  -- one at least waits
  few-listed : (heap : List (Waiting S)) (w : Waiting S) (rest : List (Waiting S)) → IsFlooding m lines seen heap (length lines) → IsPermutation heap (w ∷ rest) → length lines < cell_count m.size
  few-listed heap w rest f popped = let room = f.room in let long = length_permutation heap (w ∷ rest) popped in omega (arith, room, long)

  -- the top of the heap is listed
  pub IsListed-low : (level : Rank) (low rest : List (Waiting S)) (w : Waiting S) → IsFront m side lines (Some level) seen ahead low (length lines) → IsPermutation low (w ∷ rest)
      → IsUpperBound (λ (x : Waiting S) (y : Waiting S). lowest_first (below_by side) (rank_of_waiting x) (rank_of_waiting y)) w low → IsListed level ahead rest w.from (rank_of_waiting w)
  IsListed-low level low rest w f popped upper =
      let heap : List (Waiting S) = low ++ f.high in
      let more : IsPermutation heap (w ∷ (rest ++ f.high)) = IsPermutation-append_left f.high low (w ∷ rest) popped in
      let in_low : Contains low w = Contains-permutation (w ∷ rest) low w (IsPermutation-sym low (w ∷ rest) popped) (Contains-head w rest) in
      let least : (v : Waiting S) → Contains heap v → IsNotAbove (below_by side) (rank_of_waiting w) (rank_of_waiting v) = λ v h. elim (Contains-append_cases low f.high v h) [
        | inl other ↦ lowest_first-top side low w v upper other
        | inr high ↦ below-not_above (below_by side) (below_by-order side) (rank_of_waiting w) (rank_of_waiting v)
            ((below_by-order side).transitive (rank_of_waiting w) level (rank_of_waiting v) (f.under w in_low) (f.over v high))
      ] in
      let t : IsWaiting m lines w = f.flooding.waiting w (Contains-append_left low f.high w in_low) in
      let line : AuditLine = next_line m side thousandths sz (line_at lines w.from) (rank_of_waiting w) in
      record {
        before = t.before;
        few = few-listed heap w (rest ++ f.high) f.flooding more;
        is_point = waiting-point m lines w t;
        cut = λ c e. IsPointAt-cut m whole side thousandths sz kept firm lines seen heap f.flooding so w.from c t.before e;
        shown = AreShownTo-more m whole side thousandths sz kept firm lines seen heap f.flooding so w (rest ++ f.high) more least;
        front = record {
          high = f.high;
          flooding = IsFlooding-list m lines seen heap (rest ++ f.high) w line f.flooding more refl;
          whole = f.whole;
          noted = f.noted;
          only = f.only;
          under = λ v h. f.under v (Contains-permutation (w ∷ rest) low v (IsPermutation-sym low (w ∷ rest) popped) (Contains-tail w v rest h));
          over = f.over;
          level_seen = f.level_seen;
        };
      }

  -- the point at the level is listed, if it waits
  take-high : (level : Option Rank) (point : Rank) (from : ℕ) (w : Waiting S) (high rest : List (Waiting S)) → (f : IsFront m side lines level seen ahead [] (length lines))
      → f.high ≡ high → IsPoint m point → AreNotBelow m side ahead point
      → Contains high w → IsPermutation high (w ∷ rest) → w.index ≡ point.index → w.from ≡ from → IsListed point (set ahead point.index None) [] from point
  take-high level point from w high rest f is_high is_point lowest listed popped index is_from =
      let flooding : IsFlooding m lines seen high (length lines) = subst (λ (hs : List (Waiting S)). IsFlooding m lines seen hs (length lines)) is_high f.flooding in
      let noted : (v : Waiting S) → Contains high v → ahead_at ahead v.index ≡ Some v.from = subst (λ (hs : List (Waiting S)). (v : Waiting S) → Contains hs v
      → ahead_at ahead v.index ≡ Some v.from) is_high f.noted in
      let only : (k p : ℕ) → ahead_at ahead k ≡ Some p → (v : Waiting S) × Contains high v × (v.index ≡ k) × (v.from ≡ p) =
      subst (λ (hs : List (Waiting S)). (k p : ℕ) → ahead_at ahead k ≡ Some p → (v : Waiting S) × Contains hs v × (v.index ≡ k) × (v.from ≡ p)) is_high f.only in
      let t : IsWaiting m lines w = flooding.waiting w listed in
      let ranks : rank_of_waiting w ≡ point = same_index m (rank_of_waiting w) point (waiting-point m lines w t) is_point index in
      let bound : (v : Waiting S) → Contains high v → IsNotAbove (below_by side) point (rank_of_waiting v) = λ v h. lowest (rank_of_waiting v) v.from
      (waiting-point m lines v (flooding.waiting v h)) (noted v h) in
      let least : (v : Waiting S) → Contains high v → IsNotAbove (below_by side) (rank_of_waiting w) (rank_of_waiting v) = λ v h. subst
      (λ (r : Rank). IsNotAbove (below_by side) r (rank_of_waiting v)) (sym ranks) (bound v h) in
      let line : AuditLine = next_line m side thousandths sz (line_at lines w.from) (rank_of_waiting w) in
      let listed-so : IsFlooding m (lines ++ line ∷ []) seen rest (length lines) = IsFlooding-list m lines seen high rest w line flooding popped refl in
      let in_high : (v : Waiting S) → Contains rest v → Contains high v = λ v h. Contains-permutation (w ∷ rest) high v (IsPermutation-sym high (w ∷ rest) popped) (Contains-tail w v rest h) in
      let longer = length_push lines line in
      let other : (v : Waiting S) → Contains rest v → v.index ≡ point.index → ⊥ = λ v h e. (listed-so.waiting v h).unlisted (length lines) (omega (arith, longer))
      (ap (λ (x : AuditLine). x.index) (line_at-push_new lines line (length lines) refl) ∙ index ∙ sym e) in
      let place : point.index < length ahead = (let cells = point_inside m point is_point in let long = f.whole in omega (arith, cells, long)) in
      let front : IsFront m side (lines ++ line ∷ []) (Some point) seen (set ahead point.index None) [] (length lines) = record {
        high = rest;
        flooding = listed-so;
        whole = length-set ahead point.index None ∙ f.whole;
        noted = λ v h. get_or-set_other ahead point.index v.index None None (other v h) ∙ noted v (in_high v h);
        only = λ k p e. elim (cases_eq k point.index) [
          | inl same ↦ absurd (let none = get_or-set_same ahead point.index None None place in let got : ahead_at (set ahead point.index None) point.index
              ≡ Some p = ap (ahead_at (set ahead point.index None)) (sym same) ∙ e in
              none-some p (sym none ∙ got))
          | inr apart ↦
              let v = only k p (sym (get_or-set_other ahead point.index k None None apart) ∙ e) in
              elim (Contains-cases w v.0 rest (Contains-permutation high (w ∷ rest) v.0 popped v.1)) [
                | inl one ↦ absurd (apart (sym v.2 ∙ ap (λ (z : Waiting S). z.index) one ∙ index))
                | inr later ↦ (v.0, later, v.2, v.3)
              ]
        ];
        under = λ v h. absurd (nothing [] v refl h);
        over = λ v h. elim (compare (below_by side) (below_by-order side) point (rank_of_waiting v)) [
          | inl up ↦ up
          | inr either ↦ elim either [
            | inl down ↦ absurd (false≢true (sym (bound v (in_high v h)) ∙ down))
            | inr same ↦ absurd (other v h (ap (λ (r : Rank). r.index) (sym same)))
          ]
        ];
        level_seen = λ l e. seen_level point l seen e (subst (λ i. seen_at seen i ≡ true) index (flooding.waits_seen w listed));
      } in
      subst (λ i. IsListed point (set ahead point.index None) [] i point) is_from (subst (λ (r : Rank). IsListed point (set ahead point.index None) [] w.from r) ranks (record {
        before = t.before;
        few = few-listed high w rest flooding popped;
        is_point = waiting-point m lines w t;
        cut = λ c e. IsPointAt-cut m whole side thousandths sz kept firm lines seen high flooding so w.from c t.before e;
        shown = AreShownTo-more m whole side thousandths sz kept firm lines seen high flooding so w rest popped least;
        front = front;
      }))

  pub IsListed-level : (low : List (Waiting S)) (point : Rank) (from : ℕ) → IsFrontAt m side lines seen ahead low → IsPoint m point → AreNotBelow m side ahead point
      → ahead_at ahead point.index ≡ Some from → IsListed point (set ahead point.index None) low from point
  IsListed-level [] point from at is_point lowest e =
      let f = at.front in
      let v = f.only point.index from e in
      let w : Waiting S = v.0 in
      take-high at.level point from w f.high (remove f.high v.1.0) f refl is_point lowest v.1 (IsPermutation-remove f.high v.1.0 w v.1.1 (sym v.1.2)) v.2 v.3
  IsListed-level (x ∷ low) point from at is_point lowest e = absurd (let empty = at.empty in omega (arith, empty))

  -- where the points up to the last are passed, all are listed
  pub ArePassed-all : (low : List (Waiting S)) (points : List Rank) → IsFrontAt m side lines seen ahead low → AreInOrder m side points
      → ((j : ℕ) (d : Rank) → j < length points → ArePassed m side ahead (get_or points j d)) → AreShownLines m side thousandths sz kept lines
  ArePassed-all low points at order passed = AreShownLines-all m whole side thousandths sz kept firm lines seen (low ++ at.front.high) at.front.flooding so
      (λ w h. elim (Contains-append_cases low at.front.high w h) [
        | inl inside ↦ nothing low w at.empty inside
        | inr high ↦
            let point = waiting-point m lines w (at.front.flooding.waiting w h) in
            let r : Rank = rank_of_waiting w in
            let c = order.all r point in
            let below : below_by side (get_or points c.0 r) r ≡ true = passed c.0 r c.1 r w.from point (at.front.noted w high) in
            below-apart (below_by side) (below_by-order side) (get_or points c.0 r) r below c.2
      ])

-- the next of the points is not above those that are noted
pub ArePassed-next : (m : Map) (side : SideName) (ahead : List (Option ℕ)) (points : List Rank) (i : ℕ) (d : Rank) → AreInOrder m side points → i < length points
    → ((j : ℕ) (d : Rank) → j < i → ArePassed m side ahead (get_or points j d)) → AreNotBelow m side ahead (get_or points i d)
ArePassed-next m side ahead points i d order inside passed x p point e =
    let c = order.all x point in
    elim (cases_lt c.0 i) [
      | inl before ↦ absurd (below-apart (below_by side) (below_by-order side) (get_or points c.0 x) x (passed c.0 x before x p point e) c.2)
      | inr after ↦
          let at : get_or points c.0 d ≡ x = get_or_default points c.0 d x c.1 ∙ c.2 in
          subst (λ (r : Rank). IsNotAbove (below_by side) (get_or points i d) r) at (elim (cases_eq i c.0) [
            | inl same ↦ subst (λ j. IsNotAbove (below_by side) (get_or points i d) (get_or points j d)) same (not_above-refl (below_by side) (below_by-order side) (get_or points i d))
            | inr apart ↦ below-not_above (below_by side) (below_by-order side) (get_or points i d) (get_or points c.0 d) (order.rises i c.0 d (omega arith) c.1)
          ])
    ]

-- what passes a point passes those before it
pub ArePassed-more : (m : Map) (side : SideName) (ahead : List (Option ℕ)) (points : List Rank) (i : ℕ) (e : Rank) → AreInOrder m side points → i < length points
    → ArePassed m side ahead (get_or points i e) → (j : ℕ) (d : Rank) → j < i + 1 → ArePassed m side ahead (get_or points j d)
ArePassed-more m side ahead points i e order inside passed j d less x p point n =
    let at : get_or points i d ≡ get_or points i e = get_or_default points i d e inside in
    let below : below_by side (get_or points i d) x ≡ true = subst (λ (r : Rank). below_by side r x ≡ true) (sym at) (passed x p point n) in
    elim (cases_eq j i) [
      | inl same ↦ subst (λ k. below_by side (get_or points k d) x ≡ true) (sym same) below
      | inr apart ↦ (below_by-order side).transitive (get_or points j d) (get_or points i d) x (order.rises j i d (omega arith) inside) below
    ]

-- at the level all below it are passed
pub ArePassed-level : {S : Type 0} (m : Map) (side : SideName) (lines : List AuditLine) (point : Rank) (seen : List Bool) (ahead : List (Option ℕ)) (low : List (Waiting S)) (n : ℕ)
    → IsFront m side lines (Some point) seen ahead low n → ArePassed m side ahead point
ArePassed-level m side lines point seen ahead low n f x p at e =
    let v = f.only x.index p e in
    let same : rank_of_waiting v.0 ≡ x = same_index m (rank_of_waiting v.0) x (waiting-point m lines v.0 (f.flooding.waiting v.0 (Contains-append_right low f.high v.0 v.1))) at v.2 in
    subst (λ (r : Rank). below_by side point r ≡ true) same (f.over v.0 v.1)
