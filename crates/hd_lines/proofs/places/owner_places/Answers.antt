use Rattle.std.proofs.Common.{◌<◌, ◌∙◌, ℕ, List, length, get_or, inl, inr, sym, subst, arith}
use Rattle.std.specs.Prelude.{All}
use Rattle.std.proofs.lemmas.Bool.{cases_lt}
use Rattle.std.proofs.lemmas.List.{get_or_past}
use Rattle.std.proofs.lemmas.List.Elements.{All-map}
use Rattle.std.proofs.lemmas.Result.{IfOk-weaker}
use Rattle.hd_lines.specs.Places.{place_of_owner}
use Rattle.hd_lines.proofs.places.owner_places.Goals as goal

-- what is read of places within a room, or 0, is within it
read-within : (room : ℕ) → 0 < room → (places : List ℕ) → All (λ p. p < room) places → (n : ℕ) → get_or places n 0 < room
read-within room some places within n = elim (cases_lt n (length places)) [
  | inl below ↦ within n 0 below
  | inr not ↦ subst (λ k. k < room) (sym (get_or_past places n 0 (omega (arith, not)))) some
]

pub returns-clause-within : goal.returns-clause-within
returns-clause-within c =
    let numbers : List ℕ = c.args.regions.now.numbers in
    IfOk-weaker c.point_places.result _ _
    (λ places are room some long.
    let kept : All (λ p. p < room) c.deref.result.now = subst (λ (ps : List ℕ). All (λ p. p < room) ps) (sym c.deref.ensures.value) (c.in_ok-places.ensures.within room some long) in
    let pits : All (λ p. p < room) c.deref-2.result.now = subst (λ (ps : List ℕ). All (λ p. p < room) ps) (sym (c.deref-2.ensures.value ∙ c.in_ok-places-2.ensures))
    (All-map (λ p. p < room) (place_of_owner numbers c.deref.result.now) c.args.owners.now (λ k d below. read-within room some c.deref.result.now kept _)) in
    subst (λ (ps : List ℕ). All (λ p. p < room) ps) (sym are)
    (All-map (λ p. p < room) (λ n. get_or c.deref-2.result.now n 0) numbers (λ k d below. read-within room some c.deref-2.result.now pits _)))
    c.point_places.ensures
