-- A shown certificate keeps rule 18: the chain of parents of a pit stays within the pit.
use Rattle.std.proofs.Common.{◌≡◌, ◌∙◌, ◌<◌, ◌≤◌, ℕ, zero, suc, ℤ, List, [], ◌∷◌, length, get_or, map, None, inl, inr, refl, sym, ap, subst, arith}
use Rattle.std.specs.Prelude.{All, AllPairs, Contains}
use Rattle.std.proofs.lemmas.Bool.{cases_lt}
use Rattle.std.proofs.lemmas.List.Elements.{All-nil, All-cons, All-head, All-tail, All-weaker, All-contains}
use Rattle.hd_map.specs.declared.types.Rank.{Rank}
use Rattle.hd_map.specs.declared.types.SideName.{SideName}
use Rattle.hd_map.specs.Map.{Map, IsMap}
use Rattle.hd_map.specs.Order.{IsNotAbove}
use Rattle.hd_map.specs.Rank.{Near, rank, below_by}
use Rattle.hd_map.specs.Region.{IsPit}
use Rattle.hd_map.specs.SideLaws.{below_by-order}
use Rattle.hd_map.specs.Undercut.{Undercuts}
use Rattle.hd_map.proofs.Levels.{here, reach-trans, top_of}
use Rattle.hd_map.proofs.Points.{Near-at}
use Rattle.hd_map.proofs.Order.{below-not_above, not_above-refl, not_above-trans}
use Rattle.hd_map.proofs.Saddles.{near-sym}
use Rattle.hd_audit.specs.declared.types.AuditLine.{AuditLine}
use Rattle.hd_audit.specs.Lines.{line_at, point_at, rank_at, AreParents}
use Rattle.hd_audit.specs.Rules.{IsWithin, IsChainWithin}
use Rattle.hd_audit.specs.Shown.{AreShownLines}
use Rattle.hd_audit.proofs.Within.{IsWithin-lower, IsWithin-higher, IsWithin-goes, IsWithin-not_above, IsWithin-or_not, StepsWithin, ReachesWithin, ReachesWithin-from_points, ReachesWithin-back}
use Rattle.hd_audit.proofs.AreFirm.{AreFirm, below_by-pit, Undercuts-none}
use Rattle.hd_audit.proofs.ShownLines.{IsAmong, IsLineAt-rank, IsKeptLine-rank, IsAmong-kept, IsReachedLine-at, IsReachedLine-within}
use Rattle.hd_audit.proofs.CutIs.{rank-none, IsPit-kept}
use Rattle.hd_audit.proofs.ShownRules.{IsLineOf-line, IsLineAt-shown, IsNewPoint-shown}

module _ (m : Map) (whole : IsMap m) (side : SideName) (thousandths : ℕ) (sz : ℤ) (kept : List Rank) (firm : AreFirm m side thousandths sz kept) where
  -- the path from a pit to one that undercuts it is within each pit that is not below it
  pub Undercuts-within : (p q u : Rank) → IsNotAbove (below_by side) q p → Undercuts m side thousandths sz u q → ReachesWithin m side thousandths sz p q u
  Undercuts-within p q u low under =
      let xs = under.is_saddle.reached.0 in
      let s = under.saddle in
      let none = under.is_saddle.reached.2.none_above in
      let start : IsNotAbove (below_by side) q s = All-head (λ x. IsNotAbove (below_by side) x s) q xs none in
      let w = IsWithin-higher side thousandths sz q p s low (IsWithin-goes side thousandths sz q s start under.goes_away) in
      ReachesWithin-from_points m side thousandths sz p q u xs under.is_saddle.reached.1.leads
      (All-weaker (λ x. IsNotAbove (below_by side) x s) (IsWithin side thousandths sz p) (λ x below. IsWithin-lower side thousandths sz p s x below w) xs
      (All-tail (λ x. IsNotAbove (below_by side) x s) q xs none))

  -- a pit that is not kept reaches a kept one within itself, and is within itself
  reaches_kept : (p : Rank) → IsPit m side p → (Contains kept p → ⊥) → ((r : Rank) → Contains kept r → ReachesWithin m side thousandths sz p p r → IsWithin side thousandths sz p p → ⊥) → ⊥
  reaches_kept p pit not stop = not ((firm p).1 (
    pit,
    λ q under.
        let itself = IsWithin-not_above side thousandths sz _ p p under.goes_away (not_above-refl (below_by side) (below_by-order side) p) in
        Undercuts-none m side thousandths sz whole kept firm (λ q. IsNotAbove (below_by side) q p × ReachesWithin m side thousandths sz p p q)
        (λ q u pit' h under'. (
          not_above-trans (below_by side) (below_by-order side) u q p (below-not_above (below_by side) (below_by-order side) u q under'.lower) h.0,
          reach-trans (StepsWithin m side thousandths sz p) h.1 (Undercuts-within p q u h.0 under'),
        ))
        (λ r at h. stop r at h.1 itself)
        p pit (not_above-refl (below_by side) (below_by-order side) p, here),
  ))

  module _ (in_order : AllPairs (λ (a : Rank) (b : Rank). a.index < b.index) kept) (lines : List AuditLine) (shown : AreShownLines m side thousandths sz kept lines) where
    module _ (k : ℕ) (inside : k < length lines) (later : length kept ≤ k) (pit : IsPit m side (rank_at m (line_at lines k).index)) where
      abbrev start : Rank
      start = rank_at m (line_at lines k).index

      start-index : (rank_at m (line_at lines k).index).index ≡ (line_at lines k).index
      start-index =
          let at = IsLineAt-shown m whole side thousandths sz kept firm in_order lines shown k inside in
          ap (λ (r : Rank). r.index) (IsLineAt-rank m lines k at.0 at.1) ∙ sym at.1.index

      -- none of the lines before is that of the pit
      not_before : (j : ℕ) → j ≤ k → IsAmong lines j start.index → ⊥
      not_before j le h = (IsNewPoint-shown m whole side thousandths sz kept firm in_order lines shown k inside).new h.0 (let less = h.1 in omega arith) (h.2 ∙ start-index)

      not_kept : Contains kept start → ⊥
      not_kept at = not_before k (omega arith) (IsAmong-kept m side thousandths sz kept lines k later shown.pits start at)

      itself : IsWithin side thousandths sz start start
      itself = elim (IsWithin-or_not side thousandths sz start start) [
        | inl w ↦ w
        | inr not ↦ absurd (reaches_kept start pit not_kept (λ r at reach w. not w))
      ]

      -- a point that is listed before the pit, after the kept pits, is within the pit
      reached-within : (j : ℕ) → length kept ≤ j → j < k → IsWithin side thousandths sz start (rank_at m (line_at lines j).index)
      reached-within j more before = elim (IsWithin-or_not side thousandths sz start (rank_at m (line_at lines j).index)) [
        | inl w ↦ w
        | inr not ↦ absurd (reaches_kept start pit not_kept (λ r at reach w. not (IsReachedLine-within m side thousandths sz kept lines start r start j (shown.others j more (omega arith))
            (ReachesWithin-back m side thousandths sz start w reach) (IsAmong-kept m side thousandths sz kept lines j more shown.pits r at) (not_before j (omega arith)))))
      ]

      -- a chain of parents within the pit
      record ChainFrom (j : ℕ) : Type 0 where
        pub chain : List ℕ
        pub parents : AreParents lines (line_at lines j).index chain
        pub within : All (IsWithin side thousandths sz (rank_at m (line_at lines k).index)) (map (rank_at m) chain)

      chain_from : (f j : ℕ) → j < f → j ≤ k → IsWithin side thousandths sz start (rank_at m (line_at lines j).index) → ChainFrom j
      chain_from zero j less le w = absurd (omega arith)
      chain_from (suc f) j less le w = elim (cases_lt j (length kept)) [
        | inl first ↦ record {
          chain = [];
          parents = (line_at lines j, IsLineOf-line lines j (line_at lines j).index (omega arith) refl, (shown.pits j first).parent);
          within = All-nil (IsWithin side thousandths sz start);
        }
        | inr more ↦
            let line = shown.others j more (omega arith) in
            let l : ℕ = line.next_to.listed in
            let before : l < j = line.next_to.before in
            let y : Rank = rank_at m (line_at lines l).index in
            let is : rank_at m (line_at lines j).index ≡ rank m line.point = IsLineAt-rank m lines j line.point (IsReachedLine-at m side thousandths sz kept lines j line) in
            let within : IsWithin side thousandths sz start y = elim (cases_lt l (length kept)) [
              | inl first ↦
                  let bottom = IsPit-kept m whole side thousandths sz kept firm l first in
                  let at : y ≡ get_or kept l rank-none = IsKeptLine-rank m side thousandths sz kept lines l rank-none (shown.pits l first) bottom.point in
                  let near : Near m y (rank m line.point) = near-sym m (rank m line.point) y (Near-at m line.point (point_at m lines l) line.next_to.neighbour) in
                  let up = below_by-pit m side y (rank m line.point) (subst (IsPit m side) (sym at) bottom) near in
                  IsWithin-lower side thousandths sz start (rank m line.point) y (below-not_above (below_by side) (below_by-order side) y (rank m line.point) up)
                  (subst (IsWithin side thousandths sz start) is w)
              | inr further ↦ reached-within l further (omega arith)
            ] in
            let rest = chain_from f l (omega arith) (omega arith) within in
            record {
              chain = (line_at lines l).index ∷ rest.chain;
              parents = (line_at lines j, IsLineOf-line lines j (line_at lines j).index (omega arith) refl, line.parent, rest.parents);
              within = All-cons (IsWithin side thousandths sz start) y (map (rank_at m) rest.chain) within rest.within;
            }
      ]

      pub IsChainWithin-line : IsChainWithin m side thousandths sz lines (line_at lines k).index
      IsChainWithin-line =
          let c = chain_from (suc k) k (omega arith) (omega arith) itself in
          let ranks : List Rank = map (rank_at m) c.chain in
          let t = top_of (below_by side) (below_by-order side) start ranks in
          record {
            chain = c.chain;
            are_parents = c.parents;
            top = t.0;
            is_top = t.1;
            within = All-contains (IsWithin side thousandths sz start) (start ∷ ranks) t.0 (All-cons (IsWithin side thousandths sz start) start ranks itself c.within) t.1.one_of;
          }

    -- 18
    pub IsChainWithin-shown : (k : ℕ) → k < length lines → ((line_at lines k).parent ≡ None → ⊥) → IsPit m side (rank_at m (line_at lines k).index)
        → IsChainWithin m side thousandths sz lines (line_at lines k).index
    IsChainWithin-shown k inside has pit = elim (cases_lt k (length kept)) [
      | inl less ↦ absurd (has (shown.pits k less).parent)
      | inr more ↦ IsChainWithin-line k inside more pit
    ]
