-- The pairs of a point that are seen up to a step of nine round it.
use Rattle.std.proofs.Common.{◌≡◌, ◌<◌, ◌≤◌, ◌+◌, ◌*◌, ◌/◌, ◌%◌, ◌⊎◌, ◌∙◌, ℕ, inl, inr, refl, sym, ap, subst, arith}
use Rattle.std.specs.Prelude.{◌↔◌}
use Rattle.std.proofs.lemmas.Bool.{cases_lt}
use Rattle.hd_map.specs.declared.types.Pos.{Pos}
use Rattle.hd_map.specs.Map.{InGrid, Map, place_of}
use Rattle.hd_map.specs.Neighbour.{Neighbour}
use Rattle.hd_map.specs.Rank.{Near}
use Rattle.hd_map.proofs.Gather.{same_pos}
use Rattle.hd_map.proofs.Points.{position_at-of}
use Rattle.hd_steep.specs.Found.{IsSeenTo}
use Rattle.hd_steep.specs.Pairs.{Pair}
use Rattle.hd_steep.proofs.Seen.{IsPairFrom, pair-from, pair_of}

module _ (m : Map) (at : Pos) (inside : InGrid m.size at) where
  -- what a pair from here leads to, by its number among the nine
  abbrev IsBelow : ℕ → Pos → Type 0
  IsBelow step q = 3 * q.y + q.x + 4 < 3 * at.y + at.x + step

  -- of such a pair the number of its step tells whether it is seen
  seen-step : (step : ℕ) (p : Pair) (of : IsPairFrom m at p) → p.from.index ≡ place_of m.size at → IsSeenTo m at step p ↔ IsBelow step of.to
  seen-step step p of e = (
    λ s. elim s [ inl less ↦ absurd (omega arith) | inr below ↦ subst (IsBelow step) of.position below.1 ],
    λ below. inr (e, subst (IsBelow step) (sym of.position) below),
  )

  -- before the first step
  pub round-start : (p : Pair) → Near m p.from p.to → (p.from.index < place_of m.size at) ↔ IsSeenTo m at 0 p
  round-start p near = (
    λ less. inl less,
    λ s. elim s [
      | inl less ↦ less
      | inr below ↦ (let of = pair-from m at inside p near below.0 in
          let past : IsBelow 0 of.to = subst (IsBelow 0) of.position below.1 in
          let columns = of.near.columns in
          let rows = of.near.rows in
          absurd (omega arith))
    ],
  )

  -- after the last one
  pub round-all : (step : ℕ) → 9 ≤ step → (p : Pair) → Near m p.from p.to → IsSeenTo m at step p ↔ (p.from.index < place_of m.size at + 1)
  round-all step all p near = (
    λ s. elim s [ inl less ↦ omega arith | inr below ↦ (let e = below.0 in omega arith) ],
    λ less. elim (cases_lt p.from.index (place_of m.size at)) [
      | inl before ↦ inl before
      | inr past ↦
          let e : p.from.index ≡ place_of m.size at = omega arith in
          let of = pair-from m at inside p near e in
          let columns = of.near.columns in
          let rows = of.near.rows in
          let below : IsBelow step of.to = omega arith in
          (seen-step step p of e).1 below
    ],
  )

  module _ (step : ℕ) (few : step < 9) where
    -- the neighbour at this step
    step-position : (q : Pos) → Neighbour m at q → 3 * q.y + q.x + 4 ≡ 3 * at.y + at.x + step → (q.x + 1 ≡ at.x + step % 3) × (q.y + 1 ≡ at.y + step / 3)
    step-position q n e =
        let columns = n.columns in
        let rows = n.rows in
        (omega arith, omega arith)

    step-cases : (q : Pos) → IsBelow (step + 1) q → IsBelow step q ⊎ (3 * q.y + q.x + 4 ≡ 3 * at.y + at.x + step)
    step-cases q below = elim (cases_lt (3 * q.y + q.x + 4) (3 * at.y + at.x + step)) [ inl old ↦ inl old | inr new ↦ inr (omega arith) ]

    -- where the grid has no position there, nothing more is seen
    pub step-none : ((q : Pos) → InGrid m.size q → q.x + 1 ≡ at.x + step % 3 → q.y + 1 ≡ at.y + step / 3 → ⊥) → (p : Pair) → Near m p.from p.to → IsSeenTo m at step p ↔ IsSeenTo m at (step + 1) p
    step-none none p near = (
      λ s. elim s [ inl less ↦ inl less | inr below ↦ (let less = below.1 in inr (below.0, omega arith)) ],
      λ s. elim s [
        | inl less ↦ inl less
        | inr below ↦ (let of = pair-from m at inside p near below.0 in
            elim (step-cases of.to (subst (IsBelow (step + 1)) of.position below.1)) [
              | inl old ↦ (seen-step step p of below.0).1 old
              | inr new ↦ (let there = step-position of.to of.near new in absurd (none of.to of.near.to.in_grid there.0 there.1))
            ])
      ],
    )

    module _ (to : Pos) (there : InGrid m.size to) (column : to.x + 1 ≡ at.x + step % 3) (row : to.y + 1 ≡ at.y + step / 3) where
      number : 3 * to.y + to.x + 4 ≡ 3 * at.y + at.x + step
      number = omega arith

      -- else the pair with what is there
      pub step-fresh : IsSeenTo m at step (pair_of m at to) → ⊥
      step-fresh (inl less) = omega arith
      step-fresh (inr below) = (let less : IsBelow step to = subst (IsBelow step) (position_at-of m.size to there) below.1 in let e = number in omega arith)

      pub step-more : (p : Pair) → Near m p.from p.to → IsSeenTo m at (step + 1) p ↔ (IsSeenTo m at step p ⊎ (p ≡ pair_of m at to))
      step-more p near = (
        λ s. elim s [
          | inl less ↦ inl (inl less)
          | inr below ↦ (let of = pair-from m at inside p near below.0 in
              elim (step-cases of.to (subst (IsBelow (step + 1)) of.position below.1)) [
                | inl old ↦ inl ((seen-step step p of below.0).1 old)
                | inr new ↦
                    let at_step = step-position of.to of.near new in
                    let same : of.to ≡ to = same_pos of.to to (omega (arith, at_step, column)) (omega (arith, at_step, row)) in
                    inr (of.is ∙ ap (pair_of m at) same)
              ])
        ],
        λ h. elim h [
          | inl s ↦ elim s [ inl less ↦ inl less | inr below ↦ (let less = below.1 in inr (below.0, omega arith)) ]
          | inr e ↦ subst (IsSeenTo m at (step + 1)) (sym e)
              (inr (refl, subst (IsBelow (step + 1)) (sym (position_at-of m.size to there)) (let e = number in omega arith)))
        ],
      )
