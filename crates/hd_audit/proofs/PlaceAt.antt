-- Noting the numbers of lines at the indexes of their points.
use Rattle.std.proofs.Common.{◌≡◌, ◌≢◌, ◌<◌, ◌≤◌, ◌+◌, ◌*◌, ℕ, zero, suc, List, length, replicate, set, Option, Some, None, inl, inr, refl, sym, ap, ◌∙◌}
use Rattle.std.proofs.Common.{subst, arith, get_or, get_or-set_other, get_or-set_same, cond}
use Rattle.std.specs.Prelude.{count_by, is_some}
use Rattle.std.proofs.lemmas.Bool.{cases_eq, cases_lt}
use Rattle.std.proofs.lemmas.List.Elements.{Contains-get_or}
use Rattle.std.proofs.lemmas.List.{get_or_default, length-set}
use Rattle.std.proofs.lemmas.List.Sums.{sum_by-set}
use Rattle.std.proofs.lemmas.Option.{none-some, same_Some}
use Rattle.hd_map.specs.Map.{Map, Present, cell_count}
use Rattle.hd_audit.specs.declared.types.AuditLine.{AuditLine}
use Rattle.hd_audit.specs.Lines.{line_at, point_at, IsLineOf, IsListed}
use Rattle.hd_audit.specs.Places.{AreAllPlaces, ArePlaces, place_at}
use Rattle.hd_audit.specs.Rules.{IsNewPoint}

-- the first n lines are noted, and each is of a present point that no earlier line has
pub record ArePlacedBefore (m : Map) (lines : List AuditLine) (places : List (Option ℕ)) (n : ℕ) : Type 0 where
  pub whole : length places ≡ cell_count m.size
  pub noted : ArePlaces lines n places
  pub new : (k : ℕ) → k < n → IsNewPoint m lines k
  pub count : count_by is_some places ≡ n

-- the index of a line at which none is noted is that of no earlier line
module _ (m : Map) (lines : List AuditLine) (places : List (Option ℕ)) (n : ℕ) (before : ArePlacedBefore m lines places n) where
  abbrev index_of : ℕ → ℕ
  index_of k = (line_at lines k).index

  fresh : place_at places (index_of n) ≡ None → (i : ℕ) → i < n → index_of i ≡ index_of n → ⊥
  fresh none i below same = none-some i (sym (ap (place_at places) same ∙ none) ∙ before.noted.each i below)

  -- one more is noted
  pub ArePlacedBefore-more : index_of n < cell_count m.size → Present m (point_at m lines n) → place_at places (index_of n) ≡ None → ArePlacedBefore m lines (set places (index_of n) (Some n)) (n + 1)
  ArePlacedBefore-more inside present none =
      let within : index_of n < length places = omega (arith, inside, before.whole) in
      record {
        whole = length-set places (index_of n) (Some n) ∙ before.whole;
        noted = record {
          each = λ k below. elim (cases_lt k n) [
            | inl old ↦ (let other : index_of k ≢ index_of n = λ e. fresh none k old e in get_or-set_other places (index_of n) (index_of k) (Some n) None other ∙ before.noted.each k old)
            | inr last ↦ (let same : n ≡ k = omega (arith, below, last) in
                subst (λ (j : ℕ). place_at (set places (index_of n) (Some n)) (index_of j) ≡ Some j) same (get_or-set_same places (index_of n) (Some n) None within))
          ];
          only = λ i k at. elim (cases_eq i (index_of n)) [
            | inl here ↦ (let e : n ≡ k = same_Some n k (sym (get_or-set_same places (index_of n) (Some n) None within) ∙ ap (place_at (set places (index_of n) (Some n))) (sym here) ∙ at) in
                (omega (arith, e), ap index_of (sym e) ∙ sym here))
            | inr other ↦ (let old = before.noted.only i k (sym (get_or-set_other places (index_of n) i (Some n) None other) ∙ at) in (let low = old.0 in omega (arith, low), old.1))
          ];
        };
        new = λ k below. elim (cases_lt k n) [
          | inl old ↦ before.new k old
          | inr last ↦ (let same : n ≡ k = omega (arith, below, last) in subst (IsNewPoint m lines) same (record { inside = inside; present = present; new = fresh none }))
        ];
        count = (let e = sum_by-set (λ (o : Option ℕ). cond (is_some o) 1 0) places (index_of n) (Some n) None within in
            let f : ◌≡◌ {A = ℕ} (cond (is_some (get_or places (index_of n) None)) 1 0) 0 = ap (λ (o : Option ℕ). cond {A = ℕ} (is_some o) 1 0) none in
            let g = before.count in
            omega (arith, e, f, g));
      }

  -- a new point is one at which no line is noted
  pub place_at-new : IsNewPoint m lines n → place_at places (index_of n) ≡ None
  place_at-new new = elim (place_at places (index_of n)) as (λ (o : Option ℕ). place_at places (index_of n) ≡ o → o ≡ None) [
    | None ↦ λ e. refl
    | Some k ↦ λ e. absurd (let at = before.noted.only (index_of n) k e in new.new k at.0 at.1)
  ] refl

-- all lines are noted at the end
pub AreAllPlaces-all : (m : Map) (lines : List AuditLine) (places : List (Option ℕ)) (n : ℕ) → length lines ≤ n → n ≤ length lines → ArePlacedBefore m lines places n → AreAllPlaces m lines places
AreAllPlaces-all m lines places n done inside before =
    let same : n ≡ length lines = omega (arith, done, inside) in
    record { whole = before.whole; noted = subst (λ (k : ℕ). ArePlaces lines k places) same before.noted }

module _ (m : Map) (lines : List AuditLine) (places : List (Option ℕ)) (are : AreAllPlaces m lines places) where
  -- a noted line is one of the point of its index
  pub IsLineOf-place : (i k : ℕ) → place_at places i ≡ Some k → IsLineOf lines i (line_at lines k)
  IsLineOf-place i k at = let found = are.noted.only i k at in record { listed = Contains-get_or lines k (record { index = 0; parent = None; cut = None }) found.0; index = found.1 }

  -- each line is noted
  pub place_at-line : (i : ℕ) (x : AuditLine) → IsLineOf lines i x → (k : ℕ) × (k < length lines) × (line_at lines k ≡ x) × (place_at places i ≡ Some k)
  place_at-line i x is =
      let at = is.listed in
      let same : line_at lines at.0 ≡ x = get_or_default lines at.0 (record { index = 0; parent = None; cut = None }) x at.1 ∙ at.2 in
      (at.0, at.1, same, subst (λ (j : ℕ). place_at places j ≡ Some at.0) (ap (λ (y : AuditLine). y.index) same ∙ is.index) (are.noted.each at.0 at.1))

  -- the point of an index is on a line where one is noted
  pub place_at-listed : (i k : ℕ) → place_at places i ≡ Some k → IsListed lines i
  place_at-listed i k at = (line_at lines k, IsLineOf-place i k at)

  pub place_at-unlisted : (i : ℕ) → place_at places i ≡ None → IsListed lines i → ⊥
  place_at-unlisted i none listed = let found = place_at-line i listed.0 listed.1 in none-some found.0 (sym none ∙ found.3)
