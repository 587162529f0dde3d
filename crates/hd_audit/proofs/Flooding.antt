-- A flood from the kept pits, neighbour by neighbour and line by line.
use Rattle.std.proofs.Common.{◌≡◌, ◌∙◌, ◌<◌, ◌+◌, ℕ, Bool, true, false, List, [], ◌∷◌, ◌++◌, length, set, ◌⊎◌, inl, inr, refl, sym, ap, subst, arith}
use Rattle.std.specs.Prelude.{Contains}
use Rattle.std.specs.List.Sorted.{IsPermutation}
use Rattle.std.proofs.Math.ListN.{length-set}
use Rattle.std.proofs.lemmas.Bool.{cases_lt, cases_eq, false≢true}
use Rattle.std.proofs.lemmas.List.{length_push}
use Rattle.std.proofs.lemmas.List.Sorted.{Contains-permutation, IsPermutation-sym, length_permutation, sum_by-IsPermutation}
use Rattle.hd_map.specs.declared.types.Pos.{Pos}
use Rattle.hd_map.specs.declared.types.Rank.{Rank}
use Rattle.hd_map.specs.Map.{Map, place_of, position_at}
use Rattle.hd_map.specs.Neighbour.{Neighbour}
use Rattle.hd_map.specs.Rank.{rank}
use Rattle.hd_map.proofs.Items.{Contains-cases, Contains-head, Contains-tail}
use Rattle.hd_map.proofs.Points.{neighbour-sym, place_inside}
use Rattle.hd_audit.specs.declared.types.AuditLine.{AuditLine}
use Rattle.hd_audit.specs.declared.waiting.Waiting.{Waiting}
use Rattle.hd_audit.specs.Flooding.{Adds, IsFlooding, IsWaiting, rank_of_waiting, seen_at, waits_at}
use Rattle.hd_audit.specs.Lines.{line_at, point_at}
use Rattle.hd_audit.proofs.WaitsAt.{waits_at-one, waits_at-none, waits_at-few, waits_at-cons, waits_at-some, waits_at-nobody}
use Rattle.hd_audit.proofs.Lines.{line_at-push_old, line_at-push_new}
use Rattle.hd_audit.proofs.SeenAt.{seen_at-here, seen_at-kept, seen_at-cases, seen_at-fewer_unseen}

module _ {S : Type 0} (m : Map) where
  -- the index of a waiting point
  waiting-index : (w : Waiting S) (p : Pos) → rank_of_waiting w ≡ rank m p → w.index ≡ place_of m.size p
  waiting-index w p e = ap (λ (r : Rank). r.index) e

  module _ (lines : List AuditLine) (from : ℕ) (inside : from < length lines) (at : Pos) (is_at : point_at m lines from ≡ at) where
    -- an unseen neighbour waits
    pub IsFlooding-add : (seen : List Bool) (heap heap' : List (Waiting S)) (q : Pos) → Neighbour m at q → seen_at seen (place_of m.size q) ≡ false → Adds m q from heap heap'
        → IsFlooding m lines seen heap from
        → IsFlooding m lines (set seen (place_of m.size q) true) heap' from
    IsFlooding-add seen heap heap' q near free adds f =
        let w : Waiting S = adds.added in
        let i : ℕ = place_of m.size q in
        let whole = f.whole in
        let room = f.room in
        let cell : i < length seen = (let cells = place_inside m.size q near.to.in_grid in omega (arith, cells, whole)) in
        let index : w.index ≡ i = waiting-index w q adds.rank_is in
        let old : (v : Waiting S) → Contains heap v → Contains heap' v = λ v h. Contains-permutation (w ∷ heap) heap' v adds.moved (Contains-tail w v heap h) in
        let new : Contains heap' w = Contains-permutation (w ∷ heap) heap' w adds.moved (Contains-head w heap) in
        let cases : (v : Waiting S) → Contains heap' v → (v ≡ w) ⊎ Contains heap v = λ v h. Contains-cases w v heap
        (Contains-permutation heap' (w ∷ heap) v (IsPermutation-sym (w ∷ heap) heap' adds.moved) h) in
        let longer = length_permutation (w ∷ heap) heap' adds.moved in
        let less = seen_at-fewer_unseen seen i cell free in
        record {
          whole = length-set seen i true ∙ whole;
          room = omega (arith, room, longer, less);
          listed = λ k before. seen_at-kept seen i cell (line_at lines k).index (f.listed k before);
          found = λ k h. elim (seen_at-cases seen i cell k h) [
            | inl here ↦ inr (w, new, index ∙ sym here)
            | inr was ↦ elim (f.found k was) [ inl l ↦ inl l | inr v ↦ inr (v.0, old v.0 v.1, v.2) ]
          ];
          waiting = λ v h. elim (cases v h) [
            | inl same ↦ subst (λ (z : Waiting S). IsWaiting m lines z) (sym same) (record {
              point = q;
              rank_is = adds.rank_is;
              unlisted = λ k before e. false≢true (sym free ∙ subst (λ j. seen_at seen j ≡ true) (e ∙ index) (f.listed k before));
              before = subst (λ j. j < length lines) (sym adds.from_is) inside;
              neighbour = subst (λ j. Neighbour m q (point_at m lines j)) (sym adds.from_is) (subst (λ (p : Pos). Neighbour m q p) (sym is_at) (neighbour-sym m at q near));
              first = λ k before n. false≢true (sym free ∙ f.closed k (subst (λ j. k < j) adds.from_is before) q (neighbour-sym m q (point_at m lines k) n));
            })
            | inr was ↦ f.waiting v was
          ];
          once = λ j.
              (let sum = sum_by-IsPermutation (waits_at j) (w ∷ heap) heap' adds.moved in
              elim (cases_eq w.index j) [
                | inl same ↦
                    let none = waits_at-nobody heap j (λ v h e. false≢true (sym free ∙ subst (λ l. seen_at seen l ≡ true) (e ∙ sym same ∙ index) (f.waits_seen v h))) in
                    let few = waits_at-few w j in
                    let cons = waits_at-cons w heap j in
                    omega (arith, sum, none, few, cons)
                | inr other ↦
                    let few = f.once j in
                    let zero = waits_at-none w j other in
                    let cons = waits_at-cons w heap j in
                    omega (arith, sum, few, zero, cons)
              ]);
          waits_seen = λ v h. elim (cases v h) [
            | inl same ↦ subst (λ (z : Waiting S). seen_at (set seen i true) z.index ≡ true) (sym same) (subst (λ j. seen_at (set seen i true) j ≡ true) (sym index) (seen_at-here seen i cell))
            | inr was ↦ seen_at-kept seen i cell v.index (f.waits_seen v was)
          ];
          closed = λ k before p n. seen_at-kept seen i cell (place_of m.size p) (f.closed k before p n);
        }

    -- all neighbours are seen
    pub IsFlooding-on : (seen : List Bool) (heap : List (Waiting S)) → ((q : Pos) → Neighbour m at q → seen_at seen (place_of m.size q) ≡ true) → IsFlooding m lines seen heap from
        → IsFlooding m lines seen heap (from + 1)
    IsFlooding-on seen heap all f =
        record {
          whole = f.whole;
          room = f.room;
          listed = f.listed;
          found = f.found;
          waiting = f.waiting;
          once = f.once;
          waits_seen = f.waits_seen;
          closed = λ k before q n. elim (cases_lt k from) [
            | inl less ↦ f.closed k less q n
            | inr last ↦
                let e : k ≡ from = omega arith in
                all q (subst (λ (p : Pos). Neighbour m p q) (ap (point_at m lines) e ∙ is_at) n)
          ];
        }

  -- the lines with one more, that of a point that waited
  module _ (lines : List AuditLine) (seen : List Bool) (heap rest : List (Waiting S)) (w : Waiting S) (x : AuditLine) (f : IsFlooding m lines seen heap (length lines))
      (popped : IsPermutation heap (w ∷ rest)) (index : x.index ≡ w.index) where
    rest-in : (v : Waiting S) → Contains rest v → Contains heap v
    rest-in v h = Contains-permutation (w ∷ rest) heap v (IsPermutation-sym heap (w ∷ rest) popped) (Contains-tail w v rest h)

    pub Contains-popped : Contains heap w
    Contains-popped = Contains-permutation (w ∷ rest) heap w (IsPermutation-sym heap (w ∷ rest) popped) (Contains-head w rest)

    place-old : (k : ℕ) → k < length lines → point_at m (lines ++ x ∷ []) k ≡ point_at m lines k
    place-old k inside = ap (λ (y : AuditLine). position_at m.size y.index) (line_at-push_old lines x k inside)

    pub IsFlooding-list : IsFlooding m (lines ++ x ∷ []) seen rest (length lines)
    IsFlooding-list =
        let room = f.room in
        let longer = length_push lines x in
        let shorter = length_permutation heap (w ∷ rest) popped in
        record {
          whole = f.whole;
          room = omega (arith, room, longer, shorter);
          listed = λ k before. elim (cases_lt k (length lines)) [
            | inl old ↦ subst (λ (y : AuditLine). seen_at seen y.index ≡ true) (sym (line_at-push_old lines x k old)) (f.listed k old)
            | inr last ↦ subst (λ (y : AuditLine). seen_at seen y.index ≡ true) (sym (line_at-push_new lines x k (omega (arith, before, last, longer))))
                (subst (λ i. seen_at seen i ≡ true) (sym index) (f.waits_seen w Contains-popped))
          ];
          found = λ i h. elim (f.found i h) [
            | inl l ↦ inl (l.0, (let less = l.1 in omega (arith, less, longer)), ap (λ (y : AuditLine). y.index) (line_at-push_old lines x l.0 l.1) ∙ l.2)
            | inr v ↦ elim (Contains-cases w v.0 rest (Contains-permutation heap (w ∷ rest) v.0 popped v.1)) [
              | inl same ↦ inl (
                length lines,
                omega (arith, longer),
                ap (λ (y : AuditLine). y.index) (line_at-push_new lines x (length lines) refl) ∙ index
                    ∙ ap (λ (z : Waiting S). z.index) (sym same) ∙ v.2,
              )
              | inr later ↦ inr (v.0, later, v.2)
            ]
          ];
          waiting = λ v h.
              (let t = f.waiting v (rest-in v h) in
              let before = t.before in
              record {
                point = t.point;
                rank_is = t.rank_is;
                unlisted = λ k less e. elim (cases_lt k (length lines)) [
                  | inl old ↦ t.unlisted k old (ap (λ (y : AuditLine). y.index) (sym (line_at-push_old lines x k old)) ∙ e)
                  | inr last ↦
                      let same : w.index ≡ v.index = sym index ∙ ap (λ (y : AuditLine). y.index) (sym (line_at-push_new lines x k (omega (arith, less, last, longer)))) ∙ e in
                      let sum = sum_by-IsPermutation (waits_at v.index) heap (w ∷ rest) popped in
                      let few = f.once v.index in
                      let one = waits_at-one w v.index same in
                      let other = waits_at-some rest v v.index h refl in
                      let cons = waits_at-cons w rest v.index in
                      omega (arith, sum, few, one, other, cons)
                ];
                before = omega (arith, before, longer);
                neighbour = subst (λ (p : Pos). Neighbour m t.point p) (sym (place-old v.from before)) t.neighbour;
                first = λ k less n. t.first k less (subst (λ (p : Pos). Neighbour m t.point p) (place-old k (omega (arith, less, before))) n);
              });
          once = λ i. (let sum = sum_by-IsPermutation (waits_at i) heap (w ∷ rest) popped in let few = f.once i in let cons = waits_at-cons w rest i in omega (arith, sum, few, cons));
          waits_seen = λ v h. f.waits_seen v (rest-in v h);
          closed = λ k less q n. f.closed k less q (subst (λ (p : Pos). Neighbour m p q) (place-old k less) n);
        }
