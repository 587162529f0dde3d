-- The highest points of the chains of parents of the first lines.
use Rattle.std.proofs.Common.{◌≡◌, ◌<◌, ◌+◌, ℕ, ℤ, Bool, true, false, List, [], ◌∷◌, length, map, Some, None, inl, inr, refl, sym, ap, ap₂, ◌∙◌, subst, arith, get_or, set, if◌then◌else◌}
use Rattle.std.specs.List.{Contains}
use Rattle.std.proofs.lemmas.List.Elements.{All-nil, All-cons}
use Rattle.std.proofs.lemmas.Bool.{cases_lt, false≢true}
use Rattle.std.specs.Prelude.{pos}
use Rattle.std.proofs.Math.ListN.{length-set}
use Rattle.std.proofs.lemmas.Bool.Decides.{nat_tests}
use Rattle.std.proofs.lemmas.Int.{ints}
use Rattle.std.proofs.lemmas.List.{get_or-set_other, get_or-set_same}
use Rattle.std.proofs.lemmas.Option.{none-some, same_Some}
use Rattle.hd_map.specs.declared.types.Rank.{Rank}
use Rattle.hd_map.specs.declared.types.SideName.{SideName}
use Rattle.hd_map.specs.declared.types.SideName.TheVariants.{Dales, Hills}
use Rattle.hd_map.specs.Map.{IsMap, Map, cell_count, position_at}
use Rattle.hd_map.specs.Order.{IsNotAbove}
use Rattle.hd_map.specs.Passes.{higher_by}
use Rattle.hd_map.specs.Path.{IsTop}
use Rattle.hd_map.specs.Rank.{IsPoint, below_by}
use Rattle.hd_map.specs.Region.{IsPit}
use Rattle.hd_map.specs.SideLaws.{below_by-order}
use Rattle.hd_map.proofs.Levels.{Contains-cases, Contains-head, Contains-none, Contains-tail, none_above-higher, top-not_above}
use Rattle.hd_map.proofs.Points.{point_at}
use Rattle.hd_map.proofs.Order.{below-not_above, not_above-refl}
use Rattle.hd_num.specs.Percent.{is_percent_less}
use Rattle.hd_prune.specs.Span.{IsHeight}
use Rattle.hd_prune.proofs.Spans.{point_height}
use Rattle.hd_audit.specs.declared.types.AuditLine.{AuditLine}
use Rattle.hd_audit.specs.Chains.{AreTopHeights, IsChainTop, IsTopHeight, higher_height}
use Rattle.hd_audit.specs.Lines.{line_at, rank_at, AreParents, IsLineOf, SaysKept}
use Rattle.hd_audit.specs.Rules.{IsChainWithin, IsNewPoint, IsWithin, rise_over}
use Rattle.hd_audit.proofs.Lines.{Present-line, IsLineOf-unique}

-- the height of the higher of two points is that of their heights
top_height-higher : (side : SideName) (a b : Rank) → (higher_by side a b).height ≡ higher_height side a.height b.height
top_height-higher Dales a b = grind (arith, ints, nat_tests)
top_height-higher Hills a b = grind (arith, ints, nat_tests)

module _ (m : Map) (side : SideName) (thousandths : ℕ) (sz : ℤ) (lines : List AuditLine) where
  -- the chain of the line is within its point, where this is a pit with a parent
  abbrev pub IsRightAt : ℕ → Type 0
  IsRightAt k = ((line_at lines k).parent ≡ None → ⊥) → IsPit m side (rank_at m (line_at lines k).index) → IsChainWithin m side thousandths sz lines (line_at lines k).index

  -- these are the heights of the tops of the first n lines, by index, and the chains of these lines are right
  pub record AreChainsTo (heights : List ℤ) (n : ℕ) : Type 0 where
    pub whole : length heights ≡ cell_count m.size
    pub are_tops : AreTopHeights m side lines heights n
    pub right : (k : ℕ) → k < n → IsRightAt k

  -- none at first
  pub AreChainsTo-none : (heights : List ℤ) → length heights ≡ cell_count m.size → AreChainsTo heights 0
  AreChainsTo-none heights whole = record { whole = whole; are_tops = λ k below. absurd (omega arith); right = λ k below. absurd (omega arith) }

  -- one more
  pub AreChainsTo-more : (heights : List ℤ) (n : ℕ) (height : ℤ) → ((k : ℕ) → k < n → (line_at lines k).index ≡ (line_at lines n).index → ⊥) → (line_at lines n).index < cell_count m.size
      → AreChainsTo heights n → IsTopHeight m side lines (line_at lines n).index height → IsRightAt n → AreChainsTo (set heights (line_at lines n).index height) (n + 1)
  AreChainsTo-more heights n height apart inside before is right =
      let i : ℕ = (line_at lines n).index in
      let whole = before.whole in
      record {
        whole = length-set heights i height ∙ whole;
        are_tops = λ k below. elim (cases_lt k n) [
          | inl old ↦ subst (IsTopHeight m side lines (line_at lines k).index) (sym (get_or-set_other heights i (line_at lines k).index height (pos 0) (apart k old))) (before.are_tops k old)
          | inr last ↦
              let same : n ≡ k = omega (arith, below, last) in
              subst (λ (j : ℕ). IsTopHeight m side lines (line_at lines j).index (get_or (set heights i height) (line_at lines j).index (pos 0))) same
              (subst (IsTopHeight m side lines i) (sym (get_or-set_same heights i height (pos 0) (omega (arith, inside, whole)))) is)
        ];
        right = λ k below. elim (cases_lt k n) [
          | inl old ↦ before.right k old
          | inr last ↦ (let same : n ≡ k = omega (arith, below, last) in subst IsRightAt same right)
        ];
      }

  -- a chain with its highest point
  pub IsChainWithin-top : (i : ℕ) (top : Rank) → IsChainTop m side lines i top → IsWithin side thousandths sz (rank_at m i) top → IsChainWithin m side thousandths sz lines i
  IsChainWithin-top i top is within = record { chain = is.chain; are_parents = is.are_parents; top = top; is_top = is.is_top; within = within }

  -- the chain of a line that is not far is right
  pub IsRightAt-where : (n : ℕ) (top : Rank) → IsChainTop m side lines (line_at lines n).index top
      → (((line_at lines n).parent ≡ None → ⊥) × IsPit m side (rank_at m (line_at lines n).index) × (IsWithin side thousandths sz (rank_at m (line_at lines n).index) top → ⊥) → ⊥) → IsRightAt n
  IsRightAt-where n top is near = λ parent pit.
      (let own : Rank = rank_at m (line_at lines n).index in
      elim (is_percent_less (rise_over side own top) thousandths sz) as (λ (b : Bool). is_percent_less (rise_over side own top) thousandths sz ≡ b
      → IsChainWithin m side thousandths sz lines (line_at lines n).index) [
        | true ↦ λ e. IsChainWithin-top (line_at lines n).index top is e
        | false ↦ λ e. absurd (near (parent, pit, λ w. false≢true (sym e ∙ w)))
      ] refl)

module _ (m : Map) (side : SideName) (lines : List AuditLine) where
  -- a line without a parent is a chain of its own
  pub IsChainTop-alone : (i : ℕ) → SaysKept lines i → IsChainTop m side lines i (rank_at m i)
  IsChainTop-alone i kept = record {
    chain = [];
    are_parents = kept;
    is_top = record {
      one_of = Contains-head (rank_at m i) [];
      none_above = All-cons (λ x. IsNotAbove (below_by side) x (rank_at m i)) (rank_at m i) [] (not_above-refl
          (below_by side) (below_by-order side) (rank_at m i)) (All-nil (λ x. IsNotAbove (below_by side) x (rank_at m i)));
    };
  }

  -- a point before a chain
  pub IsChainTop-higher : (i p : ℕ) (x : AuditLine) (top : Rank) → IsLineOf lines i x → x.parent ≡ Some p → IsChainTop m side lines p top → IsChainTop m side lines i (higher_by side (rank_at m i) top)
  IsChainTop-higher i p x top is parent up =
      let own : Rank = rank_at m i in
      let ranks : List Rank = map (rank_at m) (p ∷ up.chain) in
      record {
        chain = p ∷ up.chain;
        are_parents = (x, is, parent, up.are_parents);
        is_top = elim (below_by side own top) as (λ (b : Bool). below_by side own top ≡ b → IsTop (below_by side) (if b then top else own) (own ∷ ranks)) [
          | true ↦ λ e. record {
            one_of = Contains-tail own top ranks up.is_top.one_of;
            none_above = All-cons (λ y. IsNotAbove (below_by side) y top) own ranks (below-not_above (below_by side) (below_by-order side) own top e) up.is_top.none_above;
          }
          | false ↦ λ e. record {
            one_of = Contains-head own ranks;
            none_above = All-cons (λ y. IsNotAbove (below_by side) y own) own ranks (not_above-refl (below_by side) (below_by-order side) own)
                (none_above-higher (below_by side) (below_by-order side) top own ranks e up.is_top.none_above);
          }
        ] refl;
      }

  -- their heights alone
  pub IsTopHeight-alone : (i : ℕ) → SaysKept lines i → IsTopHeight m side lines i (rank_at m i).height
  IsTopHeight-alone i kept = record { top = rank_at m i; is_top = IsChainTop-alone i kept; height_is = refl }

  pub IsTopHeight-higher : (i p : ℕ) (x : AuditLine) (height : ℤ) → IsLineOf lines i x → x.parent ≡ Some p → IsTopHeight m side lines p height
      → IsTopHeight m side lines i (higher_height side (rank_at m i).height height)
  IsTopHeight-higher i p x height is parent up = record {
    top = higher_by side (rank_at m i) up.top;
    is_top = IsChainTop-higher i p x up.top is parent up.is_top;
    height_is = top_height-higher side (rank_at m i) up.top ∙ ap (higher_height side (rank_at m i).height) up.height_is;
  }

  module _ (new : (k : ℕ) → k < length lines → IsNewPoint m lines k) where
    -- each point of a chain is present
    pub IsChainTop-points : (i : ℕ) (chain : List ℕ) → AreParents lines i chain → (r : Rank) → Contains (map (rank_at m) (i ∷ chain)) r → IsPoint m r
    IsChainTop-points i [] kept r at = elim (Contains-cases (rank_at m i) r [] at) [
      | inl same ↦ subst (IsPoint m) (sym same) (point_at m (position_at m.size i) (Present-line m lines new i kept.0 kept.1))
      | inr later ↦ absurd (Contains-none r later)
    ]
    IsChainTop-points i (p ∷ ps) up r at = elim (Contains-cases (rank_at m i) r (map (rank_at m) (p ∷ ps)) at) [
      | inl same ↦ subst (IsPoint m) (sym same) (point_at m (position_at m.size i) (Present-line m lines new i up.0 up.1))
      | inr later ↦ IsChainTop-points p ps up.3 r later
    ]

    pub IsChainTop-point : (i : ℕ) (top : Rank) → IsChainTop m side lines i top → IsPoint m top
    IsChainTop-point i top is = IsChainTop-points i is.chain is.are_parents top is.is_top.one_of

    -- the highest point of a chain has a height of the map
    pub IsTopHeight-fits : IsMap m → (i : ℕ) (height : ℤ) → IsTopHeight m side lines i height → IsHeight height
    IsTopHeight-fits whole i height up = subst IsHeight up.height_is (point_height m up.top whole (IsChainTop-point i up.top up.is_top))

    -- a point has one chain
    one_chain : (i : ℕ) (ps qs : List ℕ) → AreParents lines i ps → AreParents lines i qs → ps ≡ qs
    one_chain i [] [] a b = refl
    one_chain i [] (q ∷ qs) a b = absurd (none-some q (sym a.2 ∙ ap (λ (z : AuditLine). z.parent) (IsLineOf-unique m lines new i a.0 b.0 a.1 b.1) ∙ b.2))
    one_chain i (p ∷ ps) [] a b = absurd (none-some p (sym b.2 ∙ ap (λ (z : AuditLine). z.parent) (IsLineOf-unique m lines new i b.0 a.0 b.1 a.1) ∙ a.2))
    one_chain i (p ∷ ps) (q ∷ qs) a b =
        let same : p ≡ q = same_Some p q (sym a.2 ∙ ap (λ (z : AuditLine). z.parent) (IsLineOf-unique m lines new i a.0 b.0 a.1 b.1) ∙ b.2) in
        ap₂ (λ (x : ℕ) (xs : List ℕ). x ∷ xs) same (one_chain q ps qs (subst (λ (j : ℕ). AreParents lines j ps) same a.3) b.3)

    one_top : (t u : Rank) (xs : List Rank) → IsTop (below_by side) t xs → IsTop (below_by side) u xs → t ≡ u
    one_top t u xs a b = (below_by-order side).total t u (top-not_above (below_by side) (below_by-order side) u t xs b a.none_above)
        (top-not_above (below_by side) (below_by-order side) t u xs a b.none_above)

    -- and one highest point on it
    pub IsChainTop-unique : (i : ℕ) (t u : Rank) → IsChainTop m side lines i t → IsChainTop m side lines i u → t ≡ u
    IsChainTop-unique i t u a b =
        let same = one_chain i a.chain b.chain a.are_parents b.are_parents in
        one_top t u (map (rank_at m) (i ∷ b.chain)) (subst (λ (ps : List ℕ). IsTop (below_by side) t (map (rank_at m) (i ∷ ps))) same a.is_top) b.is_top

    -- the chain is not within its point where the highest point is not
    pub IsChainWithin-not : (thousandths : ℕ) (sz : ℤ) (i : ℕ) (top : Rank) → IsChainTop m side lines i top → (IsWithin side thousandths sz (rank_at m i) top → ⊥)
        → IsChainWithin m side thousandths sz lines i → ⊥
    IsChainWithin-not thousandths sz i top is far chain =
        far (subst (IsWithin side thousandths sz (rank_at m i)) (IsChainTop-unique i chain.top top
        (record { chain = chain.chain; are_parents = chain.are_parents; is_top = chain.is_top }) is) chain.within)
