-- What is noted of the lines of present points.
use Rattle.std.proofs.Common.{◌≡◌, ◌<◌, ℕ, List, length, Option, Some, None, sym, subst, ap, ◌∙◌}
use Rattle.std.proofs.lemmas.Option.{none-some, same_Some}
use Rattle.hd_map.specs.Map.{Map, Present, position_at}
use Rattle.hd_audit.specs.declared.types.AuditLine.{AuditLine}
use Rattle.hd_audit.specs.Lines.{line_at, IsLineOf, HasCut, SaysKept}
use Rattle.hd_audit.specs.Places.{AreAllPlaces, place_at}
use Rattle.hd_audit.specs.Rules.{IsNewPoint}
use Rattle.hd_audit.proofs.PlaceAt.{IsLineOf-place, place_at-line}

module _ (m : Map) (lines : List AuditLine) (places : List (Option ℕ)) (are : AreAllPlaces m lines places) where
  -- the noted line is the only one of its point
  pub IsLineOf-only : (i k : ℕ) (x : AuditLine) → place_at places i ≡ Some k → IsLineOf lines i x → line_at lines k ≡ x
  IsLineOf-only i k x at is =
      let found = place_at-line m lines places are i x is in
      let same : found.0 ≡ k = same_Some found.0 k (sym found.3 ∙ at) in
      ap (line_at lines) (sym same) ∙ found.2

  -- the noted line says that its point is kept where any does
  pub place_at-kept : (i k : ℕ) → place_at places i ≡ Some k → SaysKept lines i → (line_at lines k).parent ≡ None
  place_at-kept i k at kept = ap (λ (y : AuditLine). y.parent) (IsLineOf-only i k kept.0 at kept.1) ∙ kept.2

  -- the noted line has a cut where any line of its point has it
  pub place_at-cut : (i k c : ℕ) → place_at places i ≡ Some k → HasCut lines i c → (line_at lines k).cut ≡ Some c
  place_at-cut i k c at has = ap (λ (y : AuditLine). y.cut) (IsLineOf-only i k has.0 at has.1) ∙ has.2

  pub HasCut-at : (i k c : ℕ) → place_at places i ≡ Some k → (line_at lines k).cut ≡ Some c → HasCut lines i c
  HasCut-at i k c at cut = (line_at lines k, IsLineOf-place m lines places are i k at, cut)

  pub HasCut-none : (i c : ℕ) → place_at places i ≡ None → HasCut lines i c → ⊥
  HasCut-none i c none has = let found = place_at-line m lines places are i has.0 has.1 in none-some found.0 (sym none ∙ found.3)

  module _ (new : (k : ℕ) → k < length lines → IsNewPoint m lines k) where
    -- the point of a noted line is present
    pub Present-at : (i k : ℕ) → place_at places i ≡ Some k → Present m (position_at m.size i)
    Present-at i k at = let found = are.noted.only i k at in subst (λ (j : ℕ). Present m (position_at m.size j)) found.1 (new k found.0).present
