-- The cut of a point follows from that of the point by which it is reached.
use Rattle.std.proofs.Common.{◌≡◌, ◌∙◌, ◌<◌, ℕ, ℤ, List, length, get_or, Option, Some, None, inl, inr, refl, sym, ap, subst, arith}
use Rattle.std.specs.Prelude.{Contains, pos}
use Rattle.std.proofs.lemmas.Bool.{cases_lt}
use Rattle.std.proofs.lemmas.List.Elements.{Contains-get_or}
use Rattle.hd_map.specs.declared.types.Pos.{Pos}
use Rattle.hd_map.specs.declared.types.Rank.{Rank}
use Rattle.hd_map.specs.declared.types.SideName.{SideName}
use Rattle.hd_map.specs.Map.{Map, IsMap}
use Rattle.hd_map.specs.Neighbour.{Neighbour}
use Rattle.hd_map.specs.Rank.{Near, rank, below_by}
use Rattle.hd_map.specs.Region.{IsPit}
use Rattle.hd_map.specs.SideLaws.{below_by-order}
use Rattle.hd_map.proofs.Points.{Near-at}
use Rattle.hd_map.proofs.Saddles.{near-sym}
use Rattle.hd_map.proofs.Order.{below-not_above}
use Rattle.hd_audit.specs.declared.types.AuditLine.{AuditLine}
use Rattle.hd_audit.specs.Lines.{line_at, point_at, rank_at}
use Rattle.hd_audit.specs.Listing.{AreShownTo}
use Rattle.hd_audit.specs.Rules.{IsWithin}
use Rattle.hd_audit.specs.Shown.{CutIs, IsUnlisted}
use Rattle.hd_audit.proofs.Within.{IsWithin-lower, ReachesWithin, ReachesWithin-from_reached, IsReachedWithin-from_reach, ReachesWithin-more, ReachesWithin-last}
use Rattle.hd_audit.proofs.AreFirm.{AreFirm, below_by-pit, ReachesWithin-apart}
use Rattle.hd_audit.proofs.ShownLines.{IsAmong, IsLineAt, rank_at-index, IsReachedLine-at, IsKeptLine-at, IsKeptLine-rank, IsAmong-kept, IsReachedLine-within}

-- a rank for places past the end
abbrev pub rank-none : Rank
rank-none = record { height = pos 0; index = 0 }

same_number : (a b : ℕ) → a ≡ b → ◌≡◌ {A = Option ℕ} (Some a) (Some b)
same_number a b e = ap Some e

module _ (m : Map) (whole : IsMap m) (side : SideName) (thousandths : ℕ) (sz : ℤ) (kept : List Rank) (firm : AreFirm m side thousandths sz kept) where
  pub IsPit-kept : (k : ℕ) → k < length kept → IsPit m side (get_or kept k rank-none)
  IsPit-kept k less = ((firm (get_or kept k rank-none)).0 (Contains-get_or kept k rank-none less)).0

  -- a kept pit is the point of its index
  pub rank_at-kept : (c : ℕ) (r : Rank) → Contains kept r → r.index ≡ c → rank_at m c ≡ r
  rank_at-kept c r at e = ap (rank_at m) (sym e) ∙ rank_at-index m r ((firm r).0 at).0.point

  -- a point has one cut
  pub CutIs-unique : (x : Rank) (a b : Option ℕ) → CutIs m side thousandths sz kept x a → CutIs m side thousandths sz kept x b → a ≡ b
  CutIs-unique x None None h k = refl
  CutIs-unique x None (Some d) h k = absurd (h k.0 k.1 k.3)
  CutIs-unique x (Some c) None h k = absurd (k h.0 h.1 h.3)
  CutIs-unique x (Some c) (Some d) h k =
      let same : h.0 ≡ k.0 = ReachesWithin-apart m side thousandths sz whole kept firm h.0 k.0 x h.1 k.1 (ReachesWithin-from_reached m side thousandths sz h.0 x h.3)
      (ReachesWithin-from_reached m side thousandths sz k.0 x k.3) in
      same_number c d (sym h.2 ∙ ap (λ (r : Rank). r.index) same ∙ k.2)

  module _ (lines : List AuditLine) (n : ℕ) (so : AreShownTo m side thousandths sz kept lines n) where
    -- each of the lines is that of a present point
    pub IsLineAt-listed : (k : ℕ) → k < n → (p : Pos) × IsLineAt m lines k p
    IsLineAt-listed k inside = elim (cases_lt k (length kept)) [
      | inl less ↦ (let point = (IsPit-kept k less).point in (point.at, IsKeptLine-at m side thousandths sz kept lines k rank-none (so.pits k less) point))
      | inr more ↦ (let line = so.others k more inside in (line.point, IsReachedLine-at m side thousandths sz kept lines k line))
    ]

    module _ (x : Pos) (j : ℕ) (before : j < n) (near : Neighbour m x (point_at m lines j)) (unlisted : IsUnlisted m side thousandths sz kept lines n x) where
      near-parent : Near m (rank m x) (rank_at m (line_at lines j).index)
      near-parent = Near-at m x (point_at m lines j) near

      -- a kept pit that reaches an unlisted point reaches the point of a line that is near it
      cut-back : (c : Rank) → Contains kept c → ReachesWithin m side thousandths sz c c (rank m x) → IsWithin side thousandths sz c (rank m x)
          × ReachesWithin m side thousandths sz c c (rank_at m (line_at lines j).index)
      cut-back c at reach =
          let among : IsAmong lines n c.index = IsAmong-kept m side thousandths sz kept lines n so.enough so.pits c at in
          let within : IsWithin side thousandths sz c (rank m x) = elim (ReachesWithin-last m side thousandths sz c reach) [
            | inl e ↦ absurd (unlisted among.0 among.1 (among.2 ∙ ap (λ (r : Rank). r.index) e))
            | inr w ↦ w
          ] in
          let y : Rank = rank_at m (line_at lines j).index in
          let w : IsWithin side thousandths sz c y = elim (cases_lt j (length kept)) [
            | inl less ↦
                let pit = IsPit-kept j less in
                let is : y ≡ get_or kept j rank-none = IsKeptLine-rank m side thousandths sz kept lines j rank-none (so.pits j less) pit.point in
                let up = below_by-pit m side y (rank m x) (subst (IsPit m side) (sym is) pit) (near-sym m (rank m x) y near-parent) in
                IsWithin-lower side thousandths sz c (rank m x) y (below-not_above (below_by side) (below_by-order side) y (rank m x) up) within
            | inr more ↦ IsReachedLine-within m side thousandths sz kept lines c c (rank m x) j (so.others j more before) reach (IsAmong-kept m side thousandths sz kept lines j more so.pits c at)
                (λ h. unlisted h.0 (let less = h.1 in omega arith) h.2)
          ] in
          (within, ReachesWithin-more m side thousandths sz c c (rank m x) y reach near-parent w)

      -- within the cut of the line it is in that cut
      pub CutIs-same : (c : ℕ) → CutIs m side thousandths sz kept (rank_at m (line_at lines j).index) (Some c) → IsWithin side thousandths sz (rank_at m c) (rank m x)
          → CutIs m side thousandths sz kept (rank m x) (Some c)
      CutIs-same c h within =
          let y : Rank = rank_at m (line_at lines j).index in
          let w = subst (λ (r : Rank). IsWithin side thousandths sz r (rank m x)) (rank_at-kept c h.0 h.1 h.2) within in (
            h.0,
            h.1,
            h.2,
            IsReachedWithin-from_reach m side thousandths sz h.0 (rank m x)
                (ReachesWithin-more m side thousandths sz h.0 h.0 y (rank m x) (ReachesWithin-from_reached m side thousandths sz h.0 y h.3) (near-sym m (rank m x) y near-parent) w),
          )

      -- else it is in none
      pub CutIs-left : (c : ℕ) → CutIs m side thousandths sz kept (rank_at m (line_at lines j).index) (Some c) → (IsWithin side thousandths sz (rank_at m c) (rank m x) → ⊥)
          → CutIs m side thousandths sz kept (rank m x) None
      CutIs-left c h outside = λ r at reached.
          let y : Rank = rank_at m (line_at lines j).index in
          let back = cut-back r at (ReachesWithin-from_reached m side thousandths sz r (rank m x) reached) in
          let same : h.0 ≡ r = ReachesWithin-apart m side thousandths sz whole kept firm h.0 r y h.1 at (ReachesWithin-from_reached m side thousandths sz h.0 y h.3) back.1 in
          outside (subst (λ (r : Rank). IsWithin side thousandths sz r (rank m x)) (sym (rank_at-kept c h.0 h.1 h.2 ∙ same)) back.0)

      pub CutIs-none : CutIs m side thousandths sz kept (rank_at m (line_at lines j).index) None → CutIs m side thousandths sz kept (rank m x) None
      CutIs-none h = λ r at reached.
          let y : Rank = rank_at m (line_at lines j).index in
          let back = cut-back r at (ReachesWithin-from_reached m side thousandths sz r (rank m x) reached) in
          h r at (IsReachedWithin-from_reach m side thousandths sz r y back.1)
