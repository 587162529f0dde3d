use Rattle.std.proofs.Common.{◌≡◌, Some, refl, sym, ◌∙◌, arith, rules, SFits, w64}
use Rattle.std.specs.Prelude.{◌-ℤ◌}
use Rattle.std.proofs.lemmas.Int.{ints, to_z-of_z}
use Rattle.hd_map.specs.Presence.{present_heights}
use Rattle.hd_map.specs.HeightRange.{range_of}
use Rattle.hd_prune.proofs.Spans.{span_fits, span_none, span_some, span_within}
use Rattle.hd_prune.proofs.span.height_span.Goals as goal

pub overflow_sub-result : goal.overflow_sub-result
overflow_sub-result c =
    let m = c.requires.0 in
    let is : range_of (present_heights m) ≡ Some c.in-Some.range = sym c.requires.2 ∙ c.in-Some.is in
    let bounds = span_within m c.in-Some.range c.requires.1 is in
    let low = bounds.0 in
    let high = bounds.1 in
    omega (arith, ints)

pub returns-in-Some : goal.returns-in-Some
returns-in-Some c = λ m whole ranged.
    let is : range_of (present_heights m) ≡ Some c.in-Some.range = sym ranged ∙ c.in-Some.is in
    let sz = c.in-Some.range.greatest -ℤ c.in-Some.range.least in
    let high : SFits w64 c.in-Some.range.greatest = search rules in
    let low : SFits w64 c.in-Some.range.least = search rules in
    let fits : SFits w64 sz = span_fits m c.in-Some.range whole is in
    rw (to_z-of_z w64 c.in-Some.range.greatest high, to_z-of_z w64 c.in-Some.range.least low, to_z-of_z w64 sz fits) (span_some m c.in-Some.range sz whole is refl)

pub returns-in-None : goal.returns-in-None
returns-in-None c = λ m whole ranged. span_none m (sym ranged ∙ c.in-None.is)
