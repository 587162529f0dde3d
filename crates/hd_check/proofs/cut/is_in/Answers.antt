use Rattle.std.proofs.Common.{◌<◌, ◌-◌, ◌+◌, ◌/◌, ◌∙◌, sym, subst, refl, arith}
use Rattle.std.proofs.lemmas.Bool.{false≢true}
use Rattle.hd_check.proofs.Searching.{IsBetween, IsBetween-left, IsBetween-right, Contains-found, IsBetween-absent}
use Rattle.hd_check.proofs.cut.is_in.Goals as goal

pub returns-then-here-place : goal.returns-then-here-place
returns-then-here-place c =
    let middle = c.halves.low + (c.halves.high - c.halves.low) / 2 in
    let inside : middle < c.halves.high = omega (arith, c.halves-test.true) in
    let within = c.halves.invariant.inside in
    let found = Contains-found c.args.size c.args.cut.now c.args.at middle (omega arith) (c.requires.inside middle (omega arith)) c.requires.at
    (sym c.index_of-here.ensures.value ∙ c.if-here-place.true ∙ c.index_of-place.ensures.value) in
    (λ _. found, λ _. refl)

pub halves-preserved-then-here-place-2 : goal.halves-preserved-then-here-place-2
halves-preserved-then-here-place-2 c =
    let middle = c.halves.low + (c.halves.high - c.halves.low) / 2 in
    IsBetween-right c.args.size c.args.cut.now c.index_of-place.result c.halves.low c.halves.high middle c.requires.rises (omega (arith, c.halves-test.true))
    (rw (← c.index_of-here.ensures.value) c.if-here-place-2.true) c.halves.invariant

pub halves-preserved : goal.halves-preserved
halves-preserved c =
    let middle = c.halves.low + (c.halves.high - c.halves.low) / 2 in
    IsBetween-left c.args.size c.args.cut.now c.index_of-place.result c.halves.low c.halves.high middle c.requires.rises (omega arith) (omega (arith, c.halves-test.true))
    (rw (← c.index_of-here.ensures.value) (omega (arith, c.if-here-place.false, c.if-here-place-2.false))) c.halves.invariant

pub returns : goal.returns
returns c = (
  λ h. absurd (false≢true h),
  λ h. absurd (IsBetween-absent c.args.size c.args.cut.now c.args.at c.halves.low c.halves.high c.halves-test.false
      (subst (λ p. IsBetween c.args.size c.args.cut.now p c.halves.low c.halves.high) c.index_of-place.ensures.value c.halves.invariant) h),
)
