-- The points that wait, in a heap below the level and noted above it.
use Rattle.std.proofs.Common.{◌≡◌, ◌∙◌, ◌<◌, ◌≤◌, ◌+◌, ◌*◌, ◌/◌, ◌%◌, ℕ, Bool, true, false, List, [], ◌∷◌, ◌++◌, length, set, Option, Some, None, ◌⊎◌, inl, inr, refl, sym, ap, subst, arith}
use Rattle.std.specs.Prelude.{Contains}
use Rattle.std.proofs.Math.ListN.{length-set}
use Rattle.std.proofs.lemmas.Bool.{cases_eq, cases_lt, false≢true}
use Rattle.std.proofs.lemmas.List.{get_or-set_same, get_or-set_other}
use Rattle.std.proofs.lemmas.List.Elements.{Contains-append_right, Contains-push_cases}
use Rattle.std.proofs.lemmas.List.Sorted.{Contains-permutation, IsPermutation-append_left, IsPermutation-middle, IsPermutation-sym}
use Rattle.std.proofs.lemmas.Option.{same_Some}
use Rattle.hd_map.specs.declared.types.Pos.{Pos}
use Rattle.hd_map.specs.declared.types.Rank.{Rank}
use Rattle.hd_map.specs.declared.types.SideName.{SideName}
use Rattle.hd_map.specs.Map.{Map, Present, place_of}
use Rattle.hd_map.specs.Neighbour.{Neighbour}
use Rattle.hd_map.specs.Rank.{rank, below_by}
use Rattle.hd_map.specs.SideLaws.{below_by-order}
use Rattle.hd_map.proofs.Gather.{same_pos, step_neighbour, step_of}
use Rattle.hd_map.proofs.Items.{Contains-cases, Contains-head, Contains-none, Contains-tail}
use Rattle.hd_map.proofs.Points.{place_inside}
use Rattle.hd_map.proofs.Order.{compare}
use Rattle.hd_audit.specs.declared.types.AuditLine.{AuditLine}
use Rattle.hd_audit.specs.declared.waiting.Waiting.{Waiting}
use Rattle.hd_audit.specs.Flooding.{Adds, IsFront, IsOver, IsSpreading, Offers, OffersAt, ahead_at, is_under, rank_of_waiting, seen_at}
use Rattle.hd_audit.specs.Lines.{point_at}
use Rattle.hd_audit.proofs.Flooding.{IsFlooding-add, IsFlooding-on}
use Rattle.hd_audit.proofs.SeenAt.{seen_at-here, seen_at-kept}

-- what is not below the level, and is not its point, is above it
over-unless_under : (side : SideName) (level : Option Rank) (x : Rank) → ((l : Rank) → level ≡ Some l → x ≡ l → ⊥) → is_under (below_by side) level x ≡ false → IsOver (below_by side) level x
over-unless_under side None x apart h = tt
over-unless_under side (Some l) x apart h = elim (compare (below_by side) (below_by-order side) l x) [
  | inl up ↦ up
  | inr rest ↦ elim rest [
    | inl down ↦ absurd (false≢true (sym h ∙ down))
    | inr same ↦ absurd (apart l refl (sym same))
  ]
]

module _ {S : Type 0} (m : Map) (side : SideName) (lines : List AuditLine) (level : Option Rank) where
  module _ (from : ℕ) (inside : from < length lines) (at : Pos) (is_at : point_at m lines from ≡ at) where
    pub IsSpreading-begin : (seen : List Bool) (ahead : List (Option ℕ)) (low : List (Waiting S)) → IsFront m side lines level seen ahead low from
        → IsSpreading m side lines level seen ahead low from []
    IsSpreading-begin seen ahead low f = record { front = f; all_seen = λ q h. absurd (let none : h.0 < 0 = h.1 in omega arith) }

    -- an unseen neighbour below the level is put into the heap
    front-low : (seen : List Bool) (ahead : List (Option ℕ)) (low low' : List (Waiting S)) (q : Pos) → Neighbour m at q → seen_at seen (place_of m.size q) ≡ false
        → is_under (below_by side) level (rank m q) ≡ true → Adds m q from low low'
        → IsFront m side lines level seen ahead low from → IsFront m side lines level (set seen (place_of m.size q) true) ahead low' from
    front-low seen ahead low low' q near free below adds f =
        let w : Waiting S = adds.added in
        let cell : place_of m.size q < length seen = (let cells = place_inside m.size q near.to.in_grid in let whole = f.flooding.whole in omega (arith, cells, whole)) in
        record {
          high = f.high;
          flooding = IsFlooding-add m lines from inside at is_at seen (low ++ f.high) (low' ++ f.high) q near free
              (record { added = w; rank_is = adds.rank_is; from_is = adds.from_is; moved = IsPermutation-append_left f.high (w ∷ low) low' adds.moved }) f.flooding;
          whole = f.whole;
          noted = f.noted;
          only = f.only;
          under = λ v h. elim (Contains-cases w v low (Contains-permutation low' (w ∷ low) v (IsPermutation-sym (w ∷ low) low' adds.moved) h)) [
            | inl same ↦ subst (λ (z : Waiting S). is_under (below_by side) level (rank_of_waiting z) ≡ true) (sym same)
                (subst (λ (r : Rank). is_under (below_by side) level r ≡ true) (sym adds.rank_is) below)
            | inr old ↦ f.under v old
          ];
          over = f.over;
          level_seen = λ l e. seen_at-kept seen (place_of m.size q) cell l.index (f.level_seen l e);
        }

    -- another is noted
    front-high : (seen : List Bool) (ahead : List (Option ℕ)) (low : List (Waiting S)) (q : Pos) → Neighbour m at q → seen_at seen (place_of m.size q) ≡ false
        → is_under (below_by side) level (rank m q) ≡ false
        → IsFront m side lines level seen ahead low from → IsFront m side lines level (set seen (place_of m.size q) true) (set ahead (place_of m.size q) (Some from)) low from
    front-high seen ahead low q near free above f =
        let i : ℕ = place_of m.size q in
        let w : Waiting S = record { height = (rank m q).height; index = i; from = from; side = record {} } in
        let cells = place_inside m.size q near.to.in_grid in
        let cell : i < length seen = (let whole = f.flooding.whole in omega (arith, cells, whole)) in
        let place : i < length ahead = (let whole = f.whole in omega (arith, cells, whole)) in
        let unseen : (v : Waiting S) → Contains f.high v → v.index ≡ i → ⊥ = λ v h e. false≢true
        (sym free ∙ subst (λ j. seen_at seen j ≡ true) e (f.flooding.waits_seen v (Contains-append_right low f.high v h))) in
        record {
          high = w ∷ f.high;
          flooding = IsFlooding-add m lines from inside at is_at seen (low ++ f.high) (low ++ w ∷ f.high) q near free
              (record { added = w; rank_is = refl; from_is = refl; moved = IsPermutation-sym (low ++ w ∷ f.high) (w ∷ (low ++ f.high)) (IsPermutation-middle low w f.high) }) f.flooding;
          whole = length-set ahead i (Some from) ∙ f.whole;
          noted = λ v h. elim (Contains-cases w v f.high h) [
            | inl same ↦ subst (λ (z : Waiting S). ahead_at (set ahead i (Some from)) z.index ≡ Some z.from) (sym same) (get_or-set_same ahead i (Some from) None place)
            | inr old ↦ get_or-set_other ahead i v.index (Some from) None (unseen v old) ∙ f.noted v old
          ];
          only = λ k p e. elim (cases_eq k i) [
            | inl same ↦ (w, Contains-head w f.high, sym same, same_Some from p (sym (get_or-set_same ahead i (Some from) None place) ∙ ap (ahead_at (set ahead i (Some from))) (sym same) ∙ e))
            | inr other ↦ (let v = f.only k p (sym (get_or-set_other ahead i k (Some from) None other) ∙ e) in (v.0, Contains-tail w v.0 f.high v.1, v.2, v.3))
          ];
          under = f.under;
          over = λ v h. elim (Contains-cases w v f.high h) [
            | inl same ↦ subst (λ (z : Waiting S). IsOver (below_by side) level (rank_of_waiting z)) (sym same)
                (over-unless_under side level (rank m q) (λ l e x. false≢true (sym free ∙ subst (λ (r : Rank). seen_at seen r.index ≡ true) (sym x) (f.level_seen l e))) above)
            | inr old ↦ f.over v old
          ];
          level_seen = λ l e. seen_at-kept seen i cell l.index (f.level_seen l e);
        }

    -- one more neighbour is offered
    pub IsSpreading-more : (seen : List Bool) (ahead : List (Option ℕ)) (low : List (Waiting S)) (seen' : List Bool) (ahead' : List (Option ℕ)) (low' : List (Waiting S))
        (done : List Pos) (q : Pos) → Neighbour m at q
        → Offers m side q from level seen ahead low seen' ahead' low' → IsSpreading m side lines level seen ahead low from done → IsSpreading m side lines level seen' ahead' low' from (done ++ q ∷ [])
    IsSpreading-more seen ahead low seen' ahead' low' done q near offers s = elim offers [
      | inl left ↦ rw (left.1, left.2, left.3) (record {
        front = s.front;
        all_seen = λ p h. elim (Contains-push_cases done q p h) [
          | inl old ↦ s.all_seen p old
          | inr same ↦ subst (λ (z : Pos). seen_at seen (place_of m.size z) ≡ true) same left.0
        ];
      })
      | inr new ↦
          let whole = s.front.flooding.whole in
          let cell : place_of m.size q < length seen = (let cells = place_inside m.size q near.to.in_grid in omega (arith, cells, whole)) in
          let all : (p : Pos) → Contains (done ++ q ∷ []) p → seen_at (set seen (place_of m.size q) true) (place_of m.size p) ≡ true = λ p h. elim (Contains-push_cases done q p h) [
            | inl old ↦ seen_at-kept seen (place_of m.size q) cell (place_of m.size p) (s.all_seen p old)
            | inr same ↦ subst (λ (z : Pos). seen_at (set seen (place_of m.size q) true) (place_of m.size z) ≡ true) same (seen_at-here seen (place_of m.size q) cell)
          ] in
          elim new.2 [
            | inl under ↦ rw (new.1, under.1) (record { front = front-low seen ahead low low' q near new.0 under.0 under.2 s.front; all_seen = all })
            | inr over ↦ rw (new.1, over.1, over.2) (record { front = front-high seen ahead low q near new.0 over.0 s.front; all_seen = all })
          ]
    ]

    -- before its neighbours are offered, and when those before a step are seen
    pub record IsRound (step : ℕ) (seen : List Bool) (ahead : List (Option ℕ)) (low : List (Waiting S)) : Type 0 where
      pub front : IsFront m side lines level seen ahead low from
      pub covered : (q : Pos) → Neighbour m at q → 3 * q.y + q.x + 4 < 3 * at.y + at.x + step → seen_at seen (place_of m.size q) ≡ true

    pub IsRound-begin : (seen : List Bool) (ahead : List (Option ℕ)) (low : List (Waiting S)) → IsFront m side lines level seen ahead low from → IsRound 0 seen ahead low
    IsRound-begin seen ahead low f = record { front = f; covered = λ q n before. absurd (omega (arith, n.columns, n.rows, before)) }

    -- one more position is offered
    pub IsRound-more : Present m at → (step : ℕ) (seen : List Bool) (ahead : List (Option ℕ)) (low : List (Waiting S)) (seen' : List Bool) (ahead' : List (Option ℕ))
        (low' : List (Waiting S)) → step < 9 → (step ≡ 4 → ⊥)
        → OffersAt m side at (step % 3) (step / 3) from level seen ahead low seen' ahead' low' → IsRound step seen ahead low → IsRound (step + 1) seen' ahead' low'
    IsRound-more here step seen ahead low seen' ahead' low' below apart offers r = elim offers [
      | inl one ↦
          let q : Pos = one.0 in
          let near : Neighbour m at q = step_neighbour m at q step here one.3 one.4 below apart one.1 one.2 in
          let more : (p : Pos) → seen_at seen (place_of m.size p) ≡ true → IsSpreading m side lines level seen' ahead' low' from (p ∷ q ∷ []) =
          λ p old. IsSpreading-more seen ahead low seen' ahead' low' (p ∷ []) q near one.5 (record {
            front = r.front;
            all_seen = λ z h. elim (Contains-cases p z [] h) [
              | inl same ↦ subst (λ (x : Pos). seen_at seen (place_of m.size x) ≡ true) (sym same) old
              | inr none ↦ absurd (Contains-none z none)
            ];
          }) in
          let last = IsSpreading-more seen ahead low seen' ahead' low' [] q near one.5 (IsSpreading-begin seen ahead low r.front) in
          record {
            front = last.front;
            covered = λ p n before. elim (cases_lt (3 * p.y + p.x + 4) (3 * at.y + at.x + step)) [
              | inl old ↦ (more p (r.covered p n old)).all_seen p (Contains-head p (q ∷ []))
              | inr new ↦ (let is = step_of m at p step n below (omega (arith, before, new)) in
                  subst (λ (x : Pos). seen_at seen' (place_of m.size x) ≡ true) (same_pos q p (let a = one.1 in let b = is.0 in omega (arith, a, b))
                  (let a = one.2 in let b = is.1 in omega (arith, a, b))) (last.all_seen q (Contains-head q [])))
            ];
          }
      | inr none ↦ rw (none.1, none.2, none.3) (record {
        front = r.front;
        covered = λ p n before. elim (cases_lt (3 * p.y + p.x + 4) (3 * at.y + at.x + step)) [
          | inl old ↦ r.covered p n old
          | inr new ↦ absurd (let is = step_of m at p step n below (omega (arith, before, new)) in none.0 p is.0 is.1 n.to n.beside)
        ];
      })
    ]

    -- the point itself is passed over
    pub IsRound-centre : (step : ℕ) (seen : List Bool) (ahead : List (Option ℕ)) (low : List (Waiting S)) → step ≡ 4 → IsRound step seen ahead low → IsRound (step + 1) seen ahead low
    IsRound-centre step seen ahead low centre r = record {
      front = r.front;
      covered = λ p n before. elim (cases_lt (3 * p.y + p.x + 4) (3 * at.y + at.x + step)) [
        | inl old ↦ r.covered p n old
        | inr new ↦ absurd (let is = step_of m at p step n (omega (arith, centre)) (omega (arith, before, new)) in let a = is.0 in let b = is.1 in n.different
            (same_pos at p (omega (arith, a, centre)) (omega (arith, b, centre))))
      ];
    }

    -- where all neighbours are seen the front has gone on
    pub IsRound-end : (seen : List Bool) (ahead : List (Option ℕ)) (low : List (Waiting S)) → ((q : Pos) → Neighbour m at q → seen_at seen (place_of m.size q) ≡ true)
        → IsFront m side lines level seen ahead low from → IsFront m side lines level seen ahead low (from + 1)
    IsRound-end seen ahead low all f = record {
      high = f.high;
      flooding = IsFlooding-on m lines from inside at is_at seen (low ++ f.high) all f.flooding;
      whole = f.whole;
      noted = f.noted;
      only = f.only;
      under = f.under;
      over = f.over;
      level_seen = f.level_seen;
    }

    pub IsRound-all : (step : ℕ) (seen : List Bool) (ahead : List (Option ℕ)) (low : List (Waiting S)) → 9 ≤ step → IsRound step seen ahead low → IsFront m side lines level seen ahead low (from + 1)
    IsRound-all step seen ahead low end r = IsRound-end seen ahead low (λ q n. r.covered q n (omega (arith, n.columns, n.rows, end))) r.front
