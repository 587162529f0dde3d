use Rattle.std.proofs.Common.{refl, ap, arith, below_more, length}
use Rattle.std.proofs.lemmas.Bool.{false≢true}
use Rattle.hd_morph.proofs.PlainNumbers.{HasNumbersWithin-before}
use Rattle.hd_morph.proofs.heights.has_narrow_numbers.Goals as goal

pub returns-then-not-is_between-clause-narrow : goal.returns-then-not-is_between-clause-narrow
returns-then-not-is_between-clause-narrow c =
    let tested = rw c.table-table.ensures.table at c.if-not-is_between.ensures in
    (λ never. absurd (false≢true never), λ within. tested.1 (λ z is. ((within.each c.loop-index.index).least z is, (within.each c.loop-index.index).greatest z is)))

pub loop-index-preserved : goal.loop-index-preserved
loop-index-preserved c =
    let within = (rw c.table-table.ensures.table at c.if-not-is_between.ensures).0 refl in
    below_more _ _ c.loop-index.invariant (record { least = λ z is. (within z is).0; greatest = λ z is. (within z is).1 })

pub returns-clause-narrow : goal.returns-clause-narrow
returns-clause-narrow c =
    let same = ap length c.table-table.ensures.table in
    (λ _. HasNumbersWithin-before _ c.args.element.now c.loop-index.index (omega (arith, same)) c.loop-index.invariant, λ _. refl)
