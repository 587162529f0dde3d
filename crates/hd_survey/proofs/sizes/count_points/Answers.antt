use Rattle.std.proofs.Common.{◌≡◌, ◌<◌, ◌+◌, ℕ, get_or, set, length, ap, sym, ◌∙◌, arith}
use Rattle.std.proofs.Math.ListN.{length-set}
use Rattle.std.proofs.lemmas.List.{get_or_default, take_all}
use Rattle.hd_survey.specs.Regions.{points_numbered}
use Rattle.hd_survey.proofs.Counts.{counted-some, counted-none, points_numbered-le}
use Rattle.hd_survey.proofs.Numbers.{number-none, number-some}
use Rattle.hd_survey.proofs.sizes.count_points.Goals as goal
use Rattle.hd_survey.proofs.sizes.count_points.Goals.{in-Some, in_default}

pub overflow_add-index_mut : goal.overflow_add-index_mut
overflow_add-index_mut c =
    let points = c.indexes.points.items in
    let numbers = c.args.regions.now.numbers in
    let number = c.in-Some.number in
    let read = number-some c.args.regions.now.pits (get_or numbers c.indexes.index 0) number (sym c.number.ensures ∙ c.in-Some.is) in
    let old : c.index_mut.result.now ≡ get_or points number 0 = c.index_mut.ensures.value ∙ get_or_default points number _ 0 (omega (arith, read.1, c.indexes.invariant.whole)) in
    let counted = c.indexes.invariant.counted number read.1 in
    omega (arith, old, counted, points_numbered-le numbers c.indexes.index number (omega arith), c.requires)

pub indexes-preserved : goal.indexes-preserved
indexes-preserved c =
    let points = c.indexes.points.items in
    let numbers = c.args.regions.now.numbers in
    let count = length c.args.regions.now.pits in
    let n : ℕ = get_or numbers c.indexes.index 0 in
    let inside : c.indexes.index < length numbers = omega arith in
    elim c.match-number.branch [
      | in-Some w ↦
          let read = number-some c.args.regions.now.pits n w.in-Some.number (sym c.number.ensures ∙ w.in-Some.is) in
          let fits : n < length points = omega (arith, read.0, read.1, c.indexes.invariant.whole) in
          let old : w.index_mut.result.now ≡ get_or points n 0 = w.index_mut.ensures.value ∙ get_or_default points w.in-Some.number _ 0 (omega (arith, read.0, fits))
          ∙ ap (λ k. get_or points k 0) (sym read.0) in
          let items : c.match-number.points.items ≡ set points n (get_or points n 0 + 1) =
          ap (λ v. v.items) w.points-is ∙ ap (λ k. set points w.in-Some.number (k + 1)) old ∙ ap (λ k. set points k (get_or points n 0 + 1)) (sym read.0) in
          record {
            whole = ap length items ∙ length-set points n _ ∙ c.indexes.invariant.whole;
            counted = λ k below. ap (λ xs. get_or xs k 0) items ∙ counted-some numbers points count c.indexes.index inside fits c.indexes.invariant.counted k below;
          }
      | in_default w ↦ record {
        whole = ap (λ v. length v.items) w.points-is ∙ c.indexes.invariant.whole;
        counted = λ k below. ap (λ v. get_or v.items k 0) w.points-is
            ∙ counted-none numbers points count c.indexes.index inside (number-none c.args.regions.now.pits n (sym c.number.ensures ∙ w.in_default.is)) c.indexes.invariant.counted k below;
      }
    ]

pub returns : goal.returns
returns c =
    let numbers = c.args.regions.now.numbers in
    record {
      whole = c.indexes.invariant.whole;
      counted = λ k below. c.indexes.invariant.counted k below ∙ ap (λ xs. points_numbered xs k) (take_all c.indexes.index numbers (omega arith));
    }
