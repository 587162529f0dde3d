use Rattle.std.proofs.Common.{ap, ◌∙◌, inl, inr, length-set, get_or-set_other, get_or-set_same, below_more, arith}
use Rattle.std.proofs.lemmas.Bool.{cases_lt}
use Rattle.std.proofs.lemmas.List.{get_or_past}
use Rattle.hd_morph.proofs.Encodings.{value_at-number_in}
use Rattle.hd_morph.proofs.offsets.leave_out.Goals as goal

pub loop-place-preserved : goal.loop-place-preserved
loop-place-preserved g c =
    let code = g.L.Lane.code in
    let place = c.loop-place.place in
    let tops = c.loop-place.tops in
    record {
      whole = length-set tops place c.missing.result ∙ c.loop-place.invariant.whole;
      blank = below_more _ _
          (λ k below. get_or-set_other tops place k c.missing.result code.missing (omega arith) ∙ c.loop-place.invariant.blank k below)
          (get_or-set_same tops place c.missing.result code.missing (omega arith) ∙ c.missing.ensures);
    }

pub returns-clause-blank : goal.returns-clause-blank
returns-clause-blank g c = λ k.
    let code = g.L.Lane.code in
    value_at-number_in code c.loop-place.tops k ∙ elim (cases_lt k c.loop-place.place) [
      | inl below ↦ ap code.shown (c.loop-place.invariant.blank k below) ∙ code.missing_none
      | inr past ↦ ap code.shown (get_or_past c.loop-place.tops k code.missing (omega arith)) ∙ code.missing_none
    ]
