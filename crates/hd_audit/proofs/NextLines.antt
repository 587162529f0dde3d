-- The lowest point that waits is the next line of a shown certificate.
use Rattle.std.proofs.Common.{◌≡◌, ◌∙◌, ◌<◌, ℕ, ℤ, Bool, true, false, cond, List, [], ◌∷◌, ◌++◌, length, Option, Some, None, inl, inr, refl, sym, ap, subst, arith}
use Rattle.std.specs.Prelude.{Contains, if◌then◌else◌}
use Rattle.std.specs.BinaryHeap.{IsUpperBound}
use Rattle.std.specs.List.Sorted.{IsPermutation}
use Rattle.std.specs.Ordering.{is_lt}
use Rattle.std.specs.declared.cmp.Ordering.TheVariants.{Less, Equal, Greater}
use Rattle.std.proofs.lemmas.Bool.{cases_lt}
use Rattle.std.proofs.lemmas.List.{length_push}
use Rattle.std.proofs.lemmas.List.Elements.{All-contains, All-from_recursion}
use Rattle.hd_map.specs.declared.types.Pos.{Pos}
use Rattle.hd_map.specs.declared.types.Rank.{Rank}
use Rattle.hd_map.specs.declared.types.SideName.{SideName}
use Rattle.hd_map.specs.Map.{Map, IsMap, place_of, position_at}
use Rattle.hd_map.specs.Neighbour.{Neighbour}
use Rattle.hd_map.specs.Order.{IsNotAbove}
use Rattle.hd_map.specs.Rank.{IsPoint, rank, below_by}
use Rattle.hd_map.proofs.Points.{neighbour-sym, same_place}
use Rattle.hd_num.specs.Percent.{is_percent_less}
use Rattle.hd_audit.specs.declared.types.AuditLine.{AuditLine}
use Rattle.hd_audit.specs.declared.waiting.Waiting.{Waiting}
use Rattle.hd_audit.specs.Flooding.{IsFlooding, IsWaiting, rank_of_waiting, next_cut, next_line}
use Rattle.hd_audit.specs.Lines.{IsPointAt, line_at, point_at, rank_at}
use Rattle.hd_audit.specs.Listing.{AreShownTo}
use Rattle.hd_audit.specs.LowestFirst.{lowest_first}
use Rattle.hd_audit.specs.Rules.{IsWithin, rise_over}
use Rattle.hd_audit.specs.Shown.{AreShownLines, CutIs, IsNextTo, IsReachedLine}
use Rattle.hd_audit.proofs.AreFirm.{AreFirm}
use Rattle.hd_audit.proofs.Flooding.{Contains-popped}
use Rattle.hd_audit.proofs.ShownLines.{IsKeptLine-moved, IsNextTo-moved, rank_at-index, IsReachedLine-moved}
use Rattle.hd_audit.proofs.Lines.{line_at-push_old, line_at-push_new}
use Rattle.hd_audit.proofs.CutIs.{CutIs-same, CutIs-left, CutIs-none}
use Rattle.hd_audit.proofs.IsPointAt.{IsPointAt-point}

not_lower : (a b : Bool) → is_lt (cond a Less (cond b Greater Equal)) ≡ false → a ≡ false
not_lower true b e = cc
not_lower false b e = refl

-- none that waits is below the top of the heap
pub lowest_first-top : {S : Type 0} (side : SideName) (heap : List (Waiting S)) (w v : Waiting S)
    → IsUpperBound (λ (x : Waiting S) (y : Waiting S). lowest_first (below_by side) (rank_of_waiting x) (rank_of_waiting y)) w heap → Contains heap v
    → IsNotAbove (below_by side) (rank_of_waiting w) (rank_of_waiting v)
lowest_first-top {S} side heap w v upper at =
    let a = All-contains (λ (y : Waiting S). is_lt (lowest_first (below_by side) (rank_of_waiting w) (rank_of_waiting y)) ≡ false) heap v (All-from_recursion _ heap upper) at in
    not_lower (below_by side (rank_of_waiting v) (rank_of_waiting w)) (below_by side (rank_of_waiting w) (rank_of_waiting v)) a

-- the cut of a point that is reached, by whether it is within that of the line
next_cut-cases : (m : Map) (side : SideName) (thousandths : ℕ) (sz : ℤ) (kept : List Rank) (x : Rank) (c : ℕ) (b : Bool) → is_percent_less (rise_over side (rank_at m c) x) thousandths sz ≡ b
    → (IsWithin side thousandths sz (rank_at m c) x → CutIs m side thousandths sz kept x (Some c)) → ((IsWithin side thousandths sz (rank_at m c) x → ⊥) → CutIs m side thousandths sz kept x None)
    → CutIs m side thousandths sz kept x (if b then Some c else None)
next_cut-cases m side thousandths sz kept x c true e within outside = within e
next_cut-cases m side thousandths sz kept x c false e within outside = outside (λ h. (let f = e in cc))

module _ {S : Type 0} (m : Map) (whole : IsMap m) (side : SideName) (thousandths : ℕ) (sz : ℤ) (kept : List Rank) (firm : AreFirm m side thousandths sz kept)
    (lines : List AuditLine) (seen : List Bool) (heap : List (Waiting S)) (f : IsFlooding m lines seen heap (length lines)) (so : AreShownTo m side thousandths sz kept lines (length lines)) where
  -- the index of a cut is that of a present point
  pub IsPointAt-cut : (j c : ℕ) → j < length lines → (line_at lines j).cut ≡ Some c → IsPointAt m c
  IsPointAt-cut j c before e =
      let h : CutIs m side thousandths sz kept (rank_at m (line_at lines j).index) (Some c) = subst (λ o. CutIs m side thousandths sz kept (rank_at m (line_at lines j).index) o) e
      (so.cuts j before) in
      subst (IsPointAt m) h.2 (IsPointAt-point m h.0 ((firm h.0).0 h.1).0.point)

  -- where none waits all is listed
  pub AreShownLines-all : ((w : Waiting S) → Contains heap w → ⊥) → AreShownLines m side thousandths sz kept lines
  AreShownLines-all none = record {
    enough = so.enough;
    pits = so.pits;
    others = so.others;
    all = λ q next. elim (f.found (place_of m.size q) (f.closed next.listed next.before q (neighbour-sym m q (point_at m lines next.listed) next.neighbour))) [
      | inl l ↦ next.unlisted l.0 l.1 l.2
      | inr v ↦ none v.0 v.1
    ];
    cuts = so.cuts;
  }

  module _ (w : Waiting S) (rest : List (Waiting S)) (popped : IsPermutation heap (w ∷ rest))
      (least : (v : Waiting S) → Contains heap v → IsNotAbove (below_by side) (rank_of_waiting w) (rank_of_waiting v)) where
    abbrev line : AuditLine
    line = next_line m side thousandths sz (line_at lines w.from) (rank_of_waiting w)

    pub IsWaiting-top : IsWaiting m lines w
    IsWaiting-top = f.waiting w (Contains-popped m lines seen heap rest w line f popped refl)

    pub IsWaiting-point : IsPoint m (rank_of_waiting w)
    IsWaiting-point = let t = IsWaiting-top in record { at = t.point; present = t.neighbour.from; rank_is = t.rank_is }

    same : (i : ℕ) → i < length lines → line_at (lines ++ line ∷ []) i ≡ line_at lines i
    same i less = line_at-push_old lines line i less

    back : (i : ℕ) → i < length lines → line_at lines i ≡ line_at (lines ++ line ∷ []) i
    back i less = sym (same i less)

    here : line_at (lines ++ line ∷ []) (length lines) ≡ line
    here = line_at-push_new lines line (length lines) refl

    -- the top of the heap is the lowest unlisted point with a listed neighbour
    lowest : (t : IsWaiting m lines w) → (q : Pos) → IsNextTo m side thousandths sz kept lines (length lines) q → IsNotAbove (below_by side) (rank m t.point) (rank m q)
    lowest t q next = elim (f.found (place_of m.size q) (f.closed next.listed next.before q (neighbour-sym m q (point_at m lines next.listed) next.neighbour))) [
      | inl l ↦ absurd (next.unlisted l.0 l.1 l.2)
      | inr v ↦
          let u = f.waiting v.0 v.1 in
          let places : place_of m.size u.point ≡ place_of m.size q = ap (λ (r : Rank). r.index) (sym u.rank_is) ∙ v.2 in
          let points : u.point ≡ q = same_place m.size u.point q u.neighbour.from.in_grid next.neighbour.from.in_grid places in
          let low = least v.0 v.1 in
          subst (λ (r : Rank). IsNotAbove (below_by side) r (rank m q)) t.rank_is (subst (λ (r : Rank). IsNotAbove (below_by side) (rank_of_waiting w) r) (u.rank_is ∙ ap (rank m) points) low)
    ]

    reached : IsReachedLine m side thousandths sz kept (lines ++ line ∷ []) (length lines)
    reached =
        let t = IsWaiting-top in
        let parent : point_at m (lines ++ line ∷ []) w.from ≡ point_at m lines w.from = ap (λ (x : AuditLine). position_at m.size x.index) (same w.from t.before) in
        record {
          point = t.point;
          index = ap (λ (x : AuditLine). x.index) here ∙ ap (λ (r : Rank). r.index) t.rank_is;
          next_to = record {
            unlisted = λ i less e. t.unlisted i less (ap (λ (x : AuditLine). x.index) (sym (same i less)) ∙ e ∙ ap (λ (r : Rank). r.index) (sym t.rank_is));
            listed = w.from;
            before = t.before;
            neighbour = subst (λ (p : Pos). Neighbour m t.point p) (sym parent) t.neighbour;
          };
          lowest = λ q next. lowest t q (IsNextTo-moved m side thousandths sz kept (lines ++ line ∷ []) lines (length lines) back (length lines) q (omega arith) next);
          parent = ap (λ (x : AuditLine). x.parent) here ∙ ap (λ (x : AuditLine). Some x.index) (sym (same w.from t.before));
          first = λ i less near. t.first i less (subst (λ (p : Pos). Neighbour m t.point p) (ap (λ (x : AuditLine). position_at m.size x.index) (same i (let before = t.before in omega arith))) near);
        }

    -- its cut is right
    cut-right : (t : IsWaiting m lines w) (o : Option ℕ) → CutIs m side thousandths sz kept (rank_at m (line_at lines w.from).index) o
        → CutIs m side thousandths sz kept (rank m t.point) (next_cut m side thousandths sz o (rank m t.point))
    cut-right t None h = CutIs-none m whole side thousandths sz kept firm lines (length lines) so t.point w.from t.before t.neighbour
        (λ i less e. t.unlisted i less (e ∙ ap (λ (r : Rank). r.index) (sym t.rank_is))) h
    cut-right t (Some c) h =
        let unlisted : (i : ℕ) → i < length lines → (line_at lines i).index ≡ place_of m.size t.point → ⊥ = λ i less e. t.unlisted i less (e ∙ ap (λ (r : Rank). r.index) (sym t.rank_is)) in
        next_cut-cases m side thousandths sz kept (rank m t.point) c (is_percent_less (rise_over side (rank_at m c) (rank m t.point)) thousandths sz) refl
        (CutIs-same m whole side thousandths sz kept firm lines (length lines) so t.point w.from t.before t.neighbour unlisted c h)
        (CutIs-left m whole side thousandths sz kept firm lines (length lines) so t.point w.from t.before t.neighbour unlisted c h)

    -- with its line the lines are as they are shown
    pub AreShownTo-more : AreShownTo m side thousandths sz kept (lines ++ line ∷ []) (length (lines ++ line ∷ []))
    AreShownTo-more =
        let longer = length_push lines line in
        let enough = so.enough in
        let t = IsWaiting-top in
        record {
          enough = omega (arith, longer, enough);
          pits = λ k less. IsKeptLine-moved m side thousandths sz kept lines (lines ++ line ∷ []) (length lines) same k (omega (arith, less, enough)) (so.pits k less);
          others = λ k above less. elim (cases_lt k (length lines)) [
            | inl old ↦ IsReachedLine-moved m side thousandths sz kept lines (lines ++ line ∷ []) (length lines) same k old
                (λ q next. IsNextTo-moved m side thousandths sz kept (lines ++ line ∷ []) lines (length lines) back k q (omega (arith, old)) next) (so.others k above old)
            | inr last ↦ subst (λ i. IsReachedLine m side thousandths sz kept (lines ++ line ∷ []) i) (let e : length lines ≡ k = omega (arith, less, last, longer) in e) reached
          ];
          cuts = λ k less. elim (cases_lt k (length lines)) [
            | inl old ↦ subst (λ (x : AuditLine). CutIs m side thousandths sz kept (rank_at m x.index) x.cut) (sym (same k old)) (so.cuts k old)
            | inr last ↦
                let e : length lines ≡ k = omega (arith, less, last, longer) in
                let cut = cut-right t (line_at lines w.from).cut (so.cuts w.from t.before) in
                let own : CutIs m side thousandths sz kept (rank_of_waiting w) line.cut = subst
                (λ (r : Rank). CutIs m side thousandths sz kept r (next_cut m side thousandths sz (line_at lines w.from).cut r)) (sym t.rank_is) cut in
                let there : CutIs m side thousandths sz kept (rank_at m line.index) line.cut = subst (λ (r : Rank). CutIs m side thousandths sz kept r line.cut)
                (sym (rank_at-index m (rank_of_waiting w) IsWaiting-point)) own in
                subst (λ (x : AuditLine). CutIs m side thousandths sz kept (rank_at m x.index) x.cut) (sym (ap (line_at (lines ++ line ∷ [])) (sym e) ∙ here)) there
          ];
        }
