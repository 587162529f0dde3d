-- Chains of indexes, and what is found along the chain of a place.
use Rattle.std.proofs.Common.{◌≡◌, ◌<◌, ◌≤◌, ◌+◌, ◌∙◌, ℕ, inl, inr, List, [], length, set, slice_get, Some, sym, ap, arith}
use Rattle.std.proofs.lemmas.Bool.{cases_eq, cases_lt}
use Rattle.std.proofs.lemmas.List.{length-set}
use Rattle.std.proofs.lemmas.Option.{same_Some, slice_get_within}
use Rattle.hd_map.specs.declared.types.SideName.{SideName}
use Rattle.hd_map.specs.Map.{Map}
use Rattle.hd_map.proofs.Items.{Contains-none}
use Rattle.hd_map.proofs.Places.{get-set_other, get-set_same, item_at}
use Rattle.hd_steep.specs.declared.border.Border.{Border}
use Rattle.hd_steep.specs.Chains.{AreFirstsFrom, AreNextsFrom, IsFirstFrom}
use Rattle.hd_steep.specs.Found.{AreFoundOf}
use Rattle.hd_steep.proofs.AreFoundOf.{found-as}

module _ (places : List ℕ) where
  -- one index more, before the others
  module _ (n own : ℕ) (at : slice_get places n ≡ Some own) where
    first-here : IsFirstFrom places own n n
    first-here = record { from = omega arith; most = (let inside = slice_get_within places n own at in omega arith); there = λ less. at; none = λ j from less at_j. absurd (omega arith) }

    first-other : (place k : ℕ) → (place ≡ own → ⊥) → IsFirstFrom places place (n + 1) k → IsFirstFrom places place n k
    first-other place k other first = record {
      from = (let from = first.from in omega arith);
      most = first.most;
      there = first.there;
      none = λ j from less at_j. elim (cases_eq j n) [
        | inl e ↦ other (same_Some place own (sym at_j ∙ ap (slice_get places) e ∙ at))
        | inr ne ↦ first.none j (omega arith) less at_j
      ];
    }

    pub firsts-more : (room : ℕ) (firsts : List ℕ) → own < room → AreFirstsFrom places room (n + 1) firsts → AreFirstsFrom places room n (set firsts own n)
    firsts-more room firsts inside are = record {
      long = length-set firsts own n ∙ are.long;
      each = λ place k at_k. elim (cases_eq place own) [
        | inl e ↦
            let old = item_at firsts own (let long = are.long in omega arith) in
            let is : n ≡ k = same_Some n k (sym (get-set_same firsts own n old.0 old.1) ∙ ap (slice_get (set firsts own n)) (sym e) ∙ at_k) in
            rw (e, ← is) first-here
        | inr ne ↦ first-other place k ne (are.each place k (sym (get-set_other firsts own place n (λ e. ne (sym e))) ∙ at_k))
      ];
    }

    pub nexts-more : (room : ℕ) (firsts nexts : List ℕ) (k : ℕ) → slice_get firsts own ≡ Some k → AreFirstsFrom places room (n + 1) firsts → AreNextsFrom places (n + 1) nexts
        → AreNextsFrom places n (set nexts n k)
    nexts-more room firsts nexts k at_k firsts_are are = record {
      long = length-set nexts n k ∙ are.long;
      each = λ i place q from at_i at_q. elim (cases_eq i n) [
        | inl e ↦
            let old = item_at nexts n (let long = are.long in let inside = slice_get_within places n own at in omega arith) in
            let is : k ≡ q = same_Some k q (sym (get-set_same nexts n k old.0 old.1) ∙ ap (slice_get (set nexts n k)) (sym e) ∙ at_q) in
            let of : own ≡ place = same_Some own place (sym at ∙ ap (slice_get places) (sym e) ∙ at_i) in
            rw (e, ← of, ← is) (firsts_are.each own k at_k)
        | inr ne ↦ are.each i place q (omega arith) at_i (sym (get-set_other nexts n i k (λ e. ne (sym e))) ∙ at_q)
      ];
    }

module _ (m : Map) (side : SideName) (places : List ℕ) (a : ℕ) where
  -- before the first index of a place there is no pair
  pub found-start : (k : ℕ) → IsFirstFrom places a 0 k → AreFoundOf m side places (λ p. p.from.index < k) a []
  found-start k first = record {
    own = λ l at. absurd (Contains-none l at);
    counted = λ l at. absurd (Contains-none l at);
    all = λ j p s. absurd (first.none p.from.index (omega arith) s.seen s.across.from_in.place);
  }

  -- between an index and the next one neither
  pub found-next : (n k : ℕ) → IsFirstFrom places a n k → (borders : List Border) → AreFoundOf m side places (λ p. p.from.index < n) a borders
      → AreFoundOf m side places (λ p. p.from.index < k) a borders
  found-next n k first borders = found-as m side places (λ p. p.from.index < n) (λ p. p.from.index < k) a (λ j p less across. (
    λ before. (let from = first.from in omega arith),
    λ before. elim (cases_lt p.from.index n) [ inl earlier ↦ earlier | inr past ↦ absurd (first.none p.from.index past before across.from_in.place) ],
  )) borders

  -- and after the last one
  pub found-end : (n : ℕ) → length places ≤ n → (borders : List Border) → AreFoundOf m side places (λ p. p.from.index < n) a borders → AreFoundOf m side places (λ p. Unit {0}) a borders
  found-end n all borders = found-as m side places (λ p. p.from.index < n) (λ p. Unit {0}) a (λ j p less across. (
    λ _. tt,
    λ _. (let inside = slice_get_within places p.from.index a across.from_in.place in omega arith),
  )) borders
