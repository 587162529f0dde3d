use Rattle.std.proofs.Common.{◌≡◌, ◌∙◌, ◌<◌, length, sym, subst, inl, rules, arith}
use Rattle.std.proofs.lemmas.List.{nil_from_length}
use Rattle.hd_num.specs.Frac.{IsFraction}
use Rattle.hd_feature.specs.Value.{attributes, over, under}
use Rattle.hd_feature.proofs.value.evaluate.Goals as goal

pub returns-then-is_empty : goal.returns-then-is_empty
returns-then-is_empty c =
    let are : c.in_ok-values.values.items ≡ attributes c.args.notation.now c.args.regions.now = search rules in
    let none : length c.in_ok-values.values.items ≡ 0 = search (rules, arith) in
    inl (sym are ∙ nil_from_length c.in_ok-values.values.items none)

pub returns : goal.returns
returns c =
    let are : c.in_ok-values.values.items ≡ attributes c.args.notation.now c.args.regions.now = search rules in
    let slice : c.as_slice-2.result.now ≡ c.in_ok-values.values.items = search rules in
    let some : 0 < length c.in_ok-values.values.items = search (rules, arith) in
    record {
      values_some = subst (λ vs. 0 < length vs) are some;
      area_some = omega arith;
      fraction = subst (λ vs. IsFraction (over c.args.notation.now.statistic vs) (under c.args.notation.now.statistic vs c.args.area) c.statistic_of.result.num
          c.statistic_of.result.den) (slice ∙ are) c.statistic_of.ensures;
    }
