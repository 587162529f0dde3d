-- The points of the lines of a shown certificate, and which points are among them.
use Rattle.std.proofs.Common.{◌≡◌, ◌∙◌, ◌<◌, ◌≤◌, ℕ, zero, suc, ℤ, List, length, get_or, Some, ◌⊎◌, inl, inr, sym, ap, subst, arith}
use Rattle.std.specs.Prelude.{Contains}
use Rattle.std.proofs.lemmas.Bool.{cases_eq}
use Rattle.hd_map.specs.declared.types.Pos.{Pos}
use Rattle.hd_map.specs.declared.types.Rank.{Rank}
use Rattle.hd_map.specs.declared.types.SideName.{SideName}
use Rattle.hd_map.specs.Map.{Map, Present, place_of, position_at}
use Rattle.hd_map.specs.Neighbour.{Neighbour}
use Rattle.hd_map.specs.Rank.{IsPoint, Near, rank}
use Rattle.hd_map.proofs.Points.{neighbour-sym, position_at-of, rank_position}
use Rattle.hd_audit.specs.declared.types.AuditLine.{AuditLine}
use Rattle.hd_audit.specs.Lines.{line_at, point_at, rank_at}
use Rattle.hd_audit.specs.Rules.{IsWithin}
use Rattle.hd_audit.specs.Shown.{IsKeptLine, IsNextTo, IsReachedLine}
use Rattle.hd_audit.proofs.Within.{IsWithin-lower, Reach-crosses, ReachesWithin}

module _ (lines : List AuditLine) where
  -- one of the first n lines has the index i
  abbrev pub IsAmong : ℕ → ℕ → Type 0
  IsAmong n i = (k : ℕ) × (k < n) × ((line_at lines k).index ≡ i)

  pub IsAmong-or_not : (n i : ℕ) → IsAmong n i ⊎ (IsAmong n i → ⊥)
  IsAmong-or_not zero i = inr (λ h. (let less = h.1 in omega arith))
  IsAmong-or_not (suc n) i = elim (IsAmong-or_not n i) [
    | inl h ↦ inl (h.0, (let less = h.1 in omega arith), h.2)
    | inr none ↦ elim (cases_eq (line_at lines n).index i) [
      | inl e ↦ inl (n, omega arith, e)
      | inr ne ↦ inr (λ h. elim (cases_eq h.0 n) [
        | inl e ↦ ne (ap (λ k. (line_at lines k).index) (sym e) ∙ h.2)
        | inr other ↦ none (h.0, (let less = h.1 in omega arith), h.2)
      ])
    ]
  ]

-- the rank of the index of a point is that point's
pub rank_at-index : (m : Map) (r : Rank) → IsPoint m r → rank_at m r.index ≡ r
rank_at-index m r point = ap (rank m) (rank_position m r point.at point.present point.rank_is) ∙ sym point.rank_is

-- the line at place k is that of the present point at p
pub record IsLineAt (m : Map) (lines : List AuditLine) (k : ℕ) (p : Pos) : Type 0 where
  pub present : Present m p
  pub index : (line_at lines k).index ≡ place_of m.size p

module _ (m : Map) (lines : List AuditLine) (k : ℕ) (p : Pos) (line : IsLineAt m lines k p) where
  pub IsLineAt-position : point_at m lines k ≡ p
  IsLineAt-position = ap (position_at m.size) line.index ∙ position_at-of m.size p line.present.in_grid

  pub IsLineAt-rank : rank_at m (line_at lines k).index ≡ rank m p
  IsLineAt-rank = ap (rank m) IsLineAt-position

module _ (m : Map) (side : SideName) (thousandths : ℕ) (sz : ℤ) (kept : List Rank) where
  module _ (lines : List AuditLine) where
    pub IsReachedLine-at : (k : ℕ) (line : IsReachedLine m side thousandths sz kept lines k) → IsLineAt m lines k line.point
    IsReachedLine-at k line = record { present = line.next_to.neighbour.from; index = line.index }

    pub IsKeptLine-at : (k : ℕ) (d : Rank) → IsKeptLine m side thousandths sz kept lines k → (point : IsPoint m (get_or kept k d)) → IsLineAt m lines k point.at
    IsKeptLine-at k d line point = record { present = point.present; index = line.index d ∙ ap (λ (r : Rank). r.index) point.rank_is }

    -- a kept pit is the point of its line
    pub IsKeptLine-rank : (k : ℕ) (d : Rank) → IsKeptLine m side thousandths sz kept lines k → IsPoint m (get_or kept k d) → rank_at m (line_at lines k).index ≡ get_or kept k d
    IsKeptLine-rank k d line point = ap (rank_at m) (line.index d) ∙ rank_at-index m (get_or kept k d) point

    -- a kept pit is among the first lines
    pub IsAmong-kept : (n : ℕ) → length kept ≤ n → ((k : ℕ) → k < length kept → IsKeptLine m side thousandths sz kept lines k) → (c : Rank) → Contains kept c → IsAmong lines n c.index
    IsAmong-kept n enough pits c at = (at.0, (let inside = at.1 in omega arith), (pits at.0 at.1).index c ∙ ap (λ (r : Rank). r.index) at.2)

    -- where a way within c leads from a point that is listed before place j to one that is not, the point that is listed there is within c
    pub IsReachedLine-within : (c a b : Rank) (j : ℕ) → IsReachedLine m side thousandths sz kept lines j → ReachesWithin m side thousandths sz c a b → IsAmong lines j a.index
        → (IsAmong lines j b.index → ⊥)
        → IsWithin side thousandths sz c (rank_at m (line_at lines j).index)
    IsReachedLine-within c a b j line reach has not =
        let s = Reach-crosses (λ (r : Rank). IsAmong lines j r.index) (λ r. IsAmong-or_not lines j r.index) reach has not in
        let u : Rank = s.0 in
        let k : ℕ = s.2.0 in
        let n : Near m u s.1 = s.4.0 in
        let place : point_at m lines k ≡ n.from = ap (position_at m.size) s.2.2 ∙ rank_position m u n.from n.neighbour.from n.from_rank in
        let next : IsNextTo m side thousandths sz kept lines j n.to = record {
          unlisted = λ i less e. s.3 (i, less, e ∙ ap (λ (r : Rank). r.index) (sym n.to_rank));
          listed = k;
          before = s.2.1;
          neighbour = subst (λ (p : Pos). Neighbour m n.to p) (sym place) (neighbour-sym m n.from n.to n.neighbour);
        } in
        let w = IsWithin-lower side thousandths sz c (rank m n.to) (rank m line.point) (line.lowest n.to next) (subst (IsWithin side thousandths sz c) n.to_rank s.4.1) in
        subst (IsWithin side thousandths sz c) (sym (IsLineAt-rank m lines j line.point (IsReachedLine-at j line))) w

  module _ (lines more : List AuditLine) (n : ℕ) (same : (i : ℕ) → i < n → line_at more i ≡ line_at lines i) where
    index-same : (i : ℕ) → i < n → (line_at more i).index ≡ (line_at lines i).index
    index-same i less = ap (λ (x : AuditLine). x.index) (same i less)

    -- what is said of the first lines alone is said of more lines that begin with them
    pub IsNextTo-moved : (k : ℕ) (q : Pos) → k ≤ n → IsNextTo m side thousandths sz kept lines k q → IsNextTo m side thousandths sz kept more k q
    IsNextTo-moved k q le h = record {
      unlisted = λ i less e. h.unlisted i less (sym (index-same i (omega arith)) ∙ e);
      listed = h.listed;
      before = h.before;
      neighbour = subst (λ (p : Pos). Neighbour m q p) (ap (position_at m.size) (sym (index-same h.listed (let less = h.before in omega arith)))) h.neighbour;
    }

    pub IsKeptLine-moved : (k : ℕ) → k < n → IsKeptLine m side thousandths sz kept lines k → IsKeptLine m side thousandths sz kept more k
    IsKeptLine-moved k less h = record { index = λ d. index-same k less ∙ h.index d; parent = ap (λ (x : AuditLine). x.parent) (same k less) ∙ h.parent }

    pub IsReachedLine-moved : (k : ℕ) → k < n → ((q : Pos) → IsNextTo m side thousandths sz kept more k q → IsNextTo m side thousandths sz kept lines k q)
        → IsReachedLine m side thousandths sz kept lines k → IsReachedLine m side thousandths sz kept more k
    unfolding IsNextTo-moved
    IsReachedLine-moved k less back h = record {
      point = h.point;
      index = index-same k less ∙ h.index;
      next_to = IsNextTo-moved k h.point (omega arith) h.next_to;
      lowest = λ q next. h.lowest q (back q next);
      parent = ap (λ (x : AuditLine). x.parent) (same k less) ∙ h.parent ∙ ap Some (sym (index-same h.next_to.listed (let before = h.next_to.before in omega arith)));
      first = λ i before near. h.first i before (subst (λ (p : Pos). Neighbour m h.point p) (ap (position_at m.size) (index-same i (let first = h.next_to.before in omega arith))) near);
    }
