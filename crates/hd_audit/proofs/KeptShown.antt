-- In a right certificate the lines without a parent are those of the kept pits.
use Rattle.std.proofs.Common.{◌≡◌, ◌∙◌, ◌<◌, ℕ, ℤ, true, false, List, [], ◌∷◌, length, map, Some, None, inl, inr, refl, sym, ap, subst, arith}
use Rattle.std.specs.Prelude.{◌↔◌, All, Contains, MatchOption}
use Rattle.std.proofs.lemmas.Bool.{cases_lt, false≢true}
use Rattle.std.proofs.lemmas.Option.{none-some}
use Rattle.std.proofs.lemmas.List.{get_or_default}
use Rattle.std.proofs.lemmas.List.Elements.{All-head, All-tail, All-weaker}
use Rattle.hd_map.specs.declared.types.Pos.{Pos}
use Rattle.hd_map.specs.declared.types.Rank.{Rank}
use Rattle.hd_map.specs.declared.types.SideName.{SideName}
use Rattle.hd_map.specs.Map.{Map, IsMap, position_at}
use Rattle.hd_map.specs.Neighbour.{Neighbour}
use Rattle.hd_map.specs.Order.{IsNotAbove}
use Rattle.hd_map.specs.Rank.{Near, below_by}
use Rattle.hd_map.specs.Region.{IsPit}
use Rattle.hd_map.specs.SideLaws.{below_by-order}
use Rattle.hd_map.proofs.Levels.{here, step}
use Rattle.hd_map.proofs.Points.{Near-at, position_at-place, rank_position}
use Rattle.hd_map.proofs.Order.{compare, below-not_above, not_above-refl}
use Rattle.hd_check.specs.declared.types.Verdict.TheVariants.{Yes}
use Rattle.hd_check.specs.Judged.{TriedFrom}
use Rattle.hd_audit.specs.declared.types.AuditLine.{AuditLine}
use Rattle.hd_audit.specs.Lines.{line_at, point_at, rank_at, IsLineOf, IsListed, HasCut, AreParents}
use Rattle.hd_audit.specs.Rules.{rules_of, IsWithin, IsEarlierNeighbour, IsKeptPit, IsCutOf, IsChainWithin}
use Rattle.hd_audit.proofs.Within.{IsWithin-lower, ReachesWithin, ReachesWithin-back, ReachesWithin-higher, ReachesWithin-point}
use Rattle.hd_audit.proofs.AreFirm.{AreFirm, Undercuts-from_reach}
use Rattle.hd_audit.proofs.ShownLines.{rank_at-index}
use Rattle.hd_audit.proofs.IsPointAt.{IsPointAt-point}
use Rattle.hd_audit.proofs.ShownChains.{Undercuts-within}

-- the place of a line in the list
line-place : (lines : List AuditLine) (x : AuditLine) → Contains lines x → (k : ℕ) × (k < length lines) × (line_at lines k ≡ x)
line-place lines x at = (at.0, at.1, get_or_default lines at.0 (record { index = 0; parent = None; cut = None }) x at.1 ∙ at.2)

module _ (m : Map) (whole : IsMap m) (side : SideName) (thousandths : ℕ) (sz : ℤ) (lines : List AuditLine) (rules : TriedFrom 12 (rules_of m side thousandths sz lines) Yes) where
  -- the rank of an index has that index
  index-back : (i : ℕ) → (rank_at m i).index ≡ i
  index-back i = position_at-place m.size i whole.size.some_points

  -- lines of one index are one
  line-once : (i : ℕ) (x y : AuditLine) → IsLineOf lines i x → IsLineOf lines i y → x ≡ y
  line-once i x y one other =
      let k = line-place lines x one.listed in
      let l = line-place lines y other.listed in
      let same : (line_at lines k.0).index ≡ (line_at lines l.0).index = ap (λ (z : AuditLine). z.index) k.2 ∙ one.index ∙ sym other.index ∙ sym (ap (λ (z : AuditLine). z.index) l.2) in
      let places : k.0 ≡ l.0 = elim (cases_lt k.0 l.0) [
        | inl less ↦ absurd ((rules.0 l.0 l.1).new k.0 less same)
        | inr le ↦ elim (cases_lt l.0 k.0) [ inl less ↦ absurd ((rules.0 k.0 k.1).new l.0 less (sym same)) | inr ge ↦ omega arith ]
      ] in
      sym k.2 ∙ ap (line_at lines) places ∙ l.2

  -- a line without a parent is that of a pit, in its own cut
  root-pit : (x : AuditLine) → Contains lines x → x.parent ≡ None → IsKeptPit m side x
  root-pit x at none =
      let k = line-place lines x at in
      subst (IsKeptPit m side) k.2 (rules.1.1.1.0 k.0 k.1 (ap (λ (z : AuditLine). z.parent) k.2 ∙ none))

  -- a parent is near
  parent-near : (i q : ℕ) (x : AuditLine) → IsLineOf lines i x → x.parent ≡ Some q → Near m (rank_at m i) (rank_at m q)
  parent-near i q x line has =
      let k = line-place lines x line.listed in
      let h : IsEarlierNeighbour m lines k.0 q = subst (λ o. MatchOption o (Unit {0}) (IsEarlierNeighbour m lines k.0)) (ap (λ (z : AuditLine). z.parent) k.2 ∙ has) (rules.1.1.0 k.0 k.1) in
      Near-at m (position_at m.size i) (position_at m.size q)
      (subst (λ j. Neighbour m (position_at m.size j) (position_at m.size q)) (ap (λ (z : AuditLine). z.index) k.2 ∙ line.index) h.near)

  -- what is near a point in a cut, and within the cut, is in it
  cut-closed : (c : ℕ) (a b : Rank) → Near m a b → IsWithin side thousandths sz (rank_at m c) b → HasCut lines a.index c → (HasCut lines b.index c → ⊥) → ⊥
  cut-closed c a b near within has not =
      let k = line-place lines has.0 has.1.listed in
      let place : point_at m lines k.0 ≡ near.from =
      ap (λ (z : AuditLine). position_at m.size z.index) k.2 ∙ ap (position_at m.size) has.1.index ∙ rank_position m a near.from near.neighbour.from near.from_rank in
      rules.1.1.1.1.1.0 k.0 k.1 near.to (record {
        cut = c;
        cut_is = ap (λ (z : AuditLine). z.cut) k.2 ∙ has.2;
        neighbour = subst (λ (p : Pos). Neighbour m p near.to) (sym place) near.neighbour;
        within = subst (IsWithin side thousandths sz (rank_at m c)) near.to_rank within;
        outside = λ h. not (subst (λ i. HasCut lines i c) (ap (λ (r : Rank). r.index) (sym near.to_rank)) h);
      })

  -- a way within a cut stays in it
  cut-along : (c : ℕ) {a b : Rank} → ReachesWithin m side thousandths sz (rank_at m c) a b → HasCut lines a.index c → (HasCut lines b.index c → ⊥) → ⊥
  cut-along c here has not = not has
  cut-along c (step {a} {b} s r) has not = cut-closed c a b s.0 s.1 has (λ h. cut-along c r h not)

  -- a point in a cut is not below it
  cut-not_below : (i c : ℕ) → HasCut lines i c → IsNotAbove (below_by side) (rank_at m c) (rank_at m i)
  cut-not_below i c has =
      let k = line-place lines has.0 has.1.listed in
      let h : IsCutOf m side lines (line_at lines k.0) c = subst (λ o. MatchOption o (Unit {0}) (IsCutOf m side lines (line_at lines k.0)))
      (ap (λ (z : AuditLine). z.cut) k.2 ∙ has.2) (rules.1.1.1.1.0 k.0 k.1) in
      subst (λ j. IsNotAbove (below_by side) (rank_at m c) (rank_at m j)) (ap (λ (z : AuditLine). z.index) k.2 ∙ has.1.index) h.not_below

  -- nothing that the point of a line without a parent reaches within itself is below it
  root-lowest : (x : AuditLine) → Contains lines x → x.parent ≡ None → (q : Rank) → ReachesWithin m side thousandths sz (rank_at m x.index) (rank_at m x.index) q
      → IsNotAbove (below_by side) (rank_at m x.index) q
  root-lowest x at none q reach =
      let root : Rank = rank_at m x.index in
      let own = root-pit x at none in
      let has : HasCut lines (rank_at m x.index).index x.index = (x, record { listed = at; index = sym (index-back x.index) }, own.own) in
      let point = ReachesWithin-point m side thousandths sz root own.pit.point reach in
      elim (below_by side q root) as (λ v. below_by side q root ≡ v → v ≡ false) [
        | true ↦ λ e. absurd (cut-along x.index reach has (λ h.
            let low : below_by side q root ≡ false = subst (λ (z : Rank). IsNotAbove (below_by side) root z) (rank_at-index m q point) (cut-not_below q.index x.index h) in
            false≢true (sym low ∙ e)))
        | false ↦ λ e. refl
      ] refl

  -- the end of a chain of parents, reached within c
  record ChainEnd (c : Rank) (i : ℕ) : Type 0 where
    pub root : AuditLine
    pub listed : Contains lines root
    pub none : root.parent ≡ None
    pub reached : ReachesWithin m side thousandths sz c (rank_at m i) (rank_at m root.index)

  chain_end : (c : Rank) (i : ℕ) (chain : List ℕ) → AreParents lines i chain → All (IsWithin side thousandths sz c) (map (rank_at m) chain) → ChainEnd c i
  chain_end c i [] are all = record {
    root = are.0;
    listed = are.1.listed;
    none = are.2;
    reached = subst (λ j. ReachesWithin m side thousandths sz c (rank_at m i) (rank_at m j)) (sym are.1.index) here;
  }
  chain_end c i (q ∷ qs) are all =
      let rest = chain_end c q qs are.3 (All-tail (IsWithin side thousandths sz c) (rank_at m q) (map (rank_at m) qs) all) in
      record {
        root = rest.root;
        listed = rest.listed;
        none = rest.none;
        reached = step (parent-near i q are.0 are.1 are.2, All-head (IsWithin side thousandths sz c) (rank_at m q) (map (rank_at m) qs) all) rest.reached;
      }

  module _ (kept : List Rank) (firm : AreFirm m side thousandths sz kept) where
    -- the point of a line without a parent is kept
    root-kept : (x : AuditLine) → Contains lines x → x.parent ≡ None → Contains kept (rank_at m x.index)
    root-kept x at none =
        let root : Rank = rank_at m x.index in
        (firm root).1 (
          (root-pit x at none).pit,
          λ q under.
              let low = root-lowest x at none q (Undercuts-within m whole side thousandths sz kept firm root root q (not_above-refl (below_by side) (below_by-order side) root) under) in
              false≢true (sym low ∙ under.lower),
        )

    module _ (i : ℕ) (x : AuditLine) (line : IsLineOf lines i x) (at : Contains kept (rank_at m i)) where
      -- where a kept pit has a parent, its chain of parents is not within it
      no_chain : IsChainWithin m side thousandths sz lines i → (x.parent ≡ None → ⊥) → ⊥
      no_chain h has =
          let p : Rank = rank_at m i in
          let pit = ((firm p).0 at).0 in
          let W : Rank → Type 0 = IsWithin side thousandths sz p in
          let all : All W (map (rank_at m) (i ∷ h.chain)) =
          All-weaker (λ z. IsNotAbove (below_by side) z h.top) W (λ z low. IsWithin-lower side thousandths sz p h.top z low h.within) (map (rank_at m) (i ∷ h.chain)) h.is_top.none_above in
          let end = chain_end p i h.chain h.are_parents (All-tail W p (map (rank_at m) h.chain) all) in
          let root : Rank = rank_at m end.root.index in
          elim (compare (below_by side) (below_by-order side) root p) [
            | inl lower ↦ ((firm p).0 at).1 root (Undercuts-from_reach m side thousandths sz p root pit (root-pit end.root end.listed end.none).pit lower end.reached)
            | inr rest ↦ elim rest [
              | inl lower ↦
                  let back = ReachesWithin-back m side thousandths sz p (All-head W p (map (rank_at m) h.chain) all) end.reached in
                  let low = root-lowest end.root end.listed end.none p (ReachesWithin-higher m side thousandths sz p root (below-not_above (below_by side) (below_by-order side) p root lower) back) in
                  false≢true (sym low ∙ lower)
              | inr same ↦
                  let index : end.root.index ≡ i = sym (index-back end.root.index) ∙ ap (λ (r : Rank). r.index) same ∙ index-back i in
                  has (ap (λ (z : AuditLine). z.parent) (line-once i x end.root line (record { listed = end.listed; index = index })) ∙ end.none)
            ]
          ]

      -- a kept pit has no parent
      kept-root : x.parent ≡ None
      kept-root = elim x.parent as (λ o. x.parent ≡ o → x.parent ≡ None) [
        | None ↦ λ e. e
        | Some q ↦ λ e. (let has : x.parent ≡ None → ⊥ = λ none. none-some q (sym none ∙ e) in
            let k = line-place lines x line.listed in
            let index : (line_at lines k.0).index ≡ i = ap (λ (z : AuditLine). z.index) k.2 ∙ line.index in
            let pit = subst (λ j. IsPit m side (rank_at m j)) (sym index) ((firm (rank_at m i)).0 at).0 in
            let within = rules.1.1.1.1.1.1.0 k.0 k.1 (λ none. has (sym (ap (λ (z : AuditLine). z.parent) k.2) ∙ none)) pit in
            absurd (no_chain (subst (IsChainWithin m side thousandths sz lines) index within) has))
      ] refl

    -- a kept pit is the point of a line without a parent
    kept-shown : (p : Rank) → Contains kept p → (x : AuditLine) × Contains lines x × (x.parent ≡ None) × (p ≡ rank_at m x.index)
    kept-shown p at =
        let point = ((firm p).0 at).0.point in
        let back : rank_at m p.index ≡ p = rank_at-index m p point in
        let here = IsPointAt-point m p point in
        let h : IsListed lines p.index = rules.1.0 p.index here.inside here.present in
        (h.0, h.1.listed, kept-root p.index h.0 h.1 (subst (Contains kept) (sym back) at), sym back ∙ ap (rank_at m) (sym h.1.index))

    -- the kept pits are the points of the lines without a parent
    pub kept-are_shown : (p : Rank) → Contains kept p ↔ ((x : AuditLine) × Contains lines x × (x.parent ≡ None) × (p ≡ rank_at m x.index))
    kept-are_shown p = (kept-shown p, λ h. subst (Contains kept) (sym h.3) (root-kept h.0 h.1 h.2))
