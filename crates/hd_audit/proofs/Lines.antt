-- The lines of a pruning certificate: each point has one, which stands after that of its parent.
use Rattle.std.proofs.Common.{◌≡◌, ◌<◌, ℕ, List, length, Option, Some, None, inl, inr, sym, ap, ◌∙◌, subst, arith, ◌+◌, [], ◌∷◌, ◌++◌}
use Rattle.std.specs.Prelude.{MatchOption}
use Rattle.std.proofs.lemmas.Bool.{cases_lt}
use Rattle.std.proofs.lemmas.List.{get_or_default, get_or_append_left, get_or_push}
use Rattle.hd_map.specs.Map.{IsMap, Map, Present, position_at}
use Rattle.hd_map.proofs.Points.{point_at}
use Rattle.hd_prune.specs.Span.{IsHeight}
use Rattle.hd_prune.proofs.Spans.{point_height}
use Rattle.hd_audit.specs.declared.types.AuditLine.{AuditLine}
use Rattle.hd_audit.specs.Lines.{line_at, rank_at, IsLineOf}
use Rattle.hd_audit.specs.Rules.{IsEarlierNeighbour, IsNewPoint, ParentsEarlier}

module _ (m : Map) (lines : List AuditLine) where
  -- a parent stands on an earlier line
  pub IsEarlierNeighbour-parent : (k p : ℕ) → k < length lines → (line_at lines k).parent ≡ Some p → ParentsEarlier m lines None → IsEarlierNeighbour m lines k p
  IsEarlierNeighbour-parent k p inside is parents = subst (λ (o : Option ℕ). MatchOption o (Unit {0}) (IsEarlierNeighbour m lines k)) is (parents k inside)

  module _ (new : (k : ℕ) → k < length lines → IsNewPoint m lines k) where
    -- the point of a line is present
    pub Present-line : (i : ℕ) (x : AuditLine) → IsLineOf lines i x → Present m (position_at m.size i)
    Present-line i x is =
        let at = is.listed in
        let same : line_at lines at.0 ≡ x = get_or_default lines at.0 (record { index = 0; parent = None; cut = None }) x at.1 ∙ at.2 in
        subst (λ (j : ℕ). Present m (position_at m.size j)) (ap (λ (y : AuditLine). y.index) same ∙ is.index) (new at.0 at.1).present

    -- a point has one line
    pub IsLineOf-unique : (i : ℕ) (x y : AuditLine) → IsLineOf lines i x → IsLineOf lines i y → x ≡ y
    IsLineOf-unique i x y is is' =
        let at = is.listed in
        let at' = is'.listed in
        let d : AuditLine = record { index = 0; parent = None; cut = None } in
        let same : line_at lines at.0 ≡ x = get_or_default lines at.0 d x at.1 ∙ at.2 in
        let same' : line_at lines at'.0 ≡ y = get_or_default lines at'.0 d y at'.1 ∙ at'.2 in
        let index : (line_at lines at.0).index ≡ (line_at lines at'.0).index = ap (λ (z : AuditLine). z.index) same ∙ is.index ∙ sym is'.index ∙ sym (ap (λ (z : AuditLine). z.index) same') in
        elim (cases_lt at.0 at'.0) [
          | inl less ↦ absurd ((new at'.0 at'.1).new at.0 less index)
          | inr le ↦ elim (cases_lt at'.0 at.0) [
            | inl less ↦ absurd ((new at.0 at.1).new at'.0 less (sym index))
            | inr ge ↦ (let e : at.0 ≡ at'.0 = omega (arith, le, ge) in sym same ∙ ap (line_at lines) e ∙ same')
          ]
        ]

    -- the point of a line has a height of the map
    pub line_at-fits : IsMap m → (k : ℕ) → k < length lines → IsHeight (rank_at m (line_at lines k).index).height
    line_at-fits whole k inside = point_height m (rank_at m (line_at lines k).index) whole (point_at m (position_at m.size (line_at lines k).index) (new k inside).present)

module _ (lines : List AuditLine) (x : AuditLine) where
  pub line_at-push_old : (k : ℕ) → k < length lines → line_at (lines ++ x ∷ []) k ≡ line_at lines k
  line_at-push_old k inside = get_or_append_left lines (x ∷ []) (record { index = 0; parent = None; cut = None }) k inside

  pub line_at-push_new : (k : ℕ) → length lines ≡ k → line_at (lines ++ x ∷ []) k ≡ x
  line_at-push_new k last = get_or_push lines x (record { index = 0; parent = None; cut = None }) k last
