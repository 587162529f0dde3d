use Rattle.std.proofs.Common.{◌≡◌, ◌∙◌, ℕ, List, Result, Err, ap, sym, refl, rules}
use Rattle.hd_num.specs.declared.percent.Percent.{Percent}
use Rattle.hd_feature.specs.declared.notation.Attribute.{Attribute}
use Rattle.hd_feature.specs.declared.notation.Kind.{Kind}
use Rattle.hd_feature.specs.declared.notation.Notation.{Notation}
use Rattle.hd_feature.specs.declared.notation.NotationError.{NotationError}
use Rattle.hd_feature.specs.declared.notation.Significance.{Significance}
use Rattle.hd_feature.specs.declared.notation.Statistic.{Statistic}
use Rattle.hd_feature.specs.Notation.{attribute_of, kind_of, paired, pruning_of, scope_of, significance_of, statistic_of}
use Rattle.hd_feature.specs.declared.notation.NotationError.TheVariants.{BadPart}
use Rattle.hd_feature.specs.Parts.{and_then, parts_left, no_part, part, parts_of}
use Rattle.hd_feature.proofs.PartsWithSum.{followed, notation_of-followed, part-read_followed, statistic-sum_alone, statistic-sum_seventh}
use Rattle.hd_feature.proofs.reading.read_without_statistic.Goals as goal

abbrev made : Kind → Percent → Significance → Attribute → Statistic → Result Notation NotationError
made kind percent significance attribute statistic = paired (record { kind = kind; percent = percent; significance = significance; attribute = attribute; statistic = statistic })

-- what the parts give after the first six, five, four, three, two and one
abbrev after_six : Kind → Percent → Significance → Attribute → Statistic → List (List ℕ) → Result Notation NotationError
after_six kind percent significance attribute statistic parts = no_part 7 parts (paired
    (record { kind = kind; percent = percent; significance = significance; attribute = attribute; statistic = statistic }))

abbrev after_five : Kind → Percent → Significance → Attribute → List (List ℕ) → Result Notation NotationError
after_five kind percent significance attribute parts = part 6 statistic_of parts (after_six kind percent significance attribute)

abbrev after_four : Kind → Percent → Significance → List (List ℕ) → Result Notation NotationError
after_four kind percent significance parts = part 5 attribute_of parts (after_five kind percent significance)

abbrev after_three : Kind → Percent → List (List ℕ) → Result Notation NotationError
after_three kind percent parts = part 4 significance_of parts (after_four kind percent)

abbrev after_two : Kind → List (List ℕ) → Result Notation NotationError
after_two kind parts = part 3 pruning_of parts (after_three kind)

abbrev after_one : List (List ℕ) → Result Notation NotationError
after_one parts = part 2 kind_of parts after_two

pub returns-in_err-_scope : goal.returns-in_err-_scope
returns-in_err-_scope c =
    let e : c.from_residual.result ≡ Err c.in_err-_scope.field-0.0 = search rules in
    e ∙ sym (notation_of-followed c.args.word.now
    ∙ part-read_followed 1 scope_of (parts_of c.args.word.now) c.read_part.result refl c.read_part.ensures (λ _. after_one)
    ∙ ap (λ r. and_then r (λ q. after_one (followed (parts_left q.1)))) c.in_err-_scope.was)

pub returns-in_err-kind : goal.returns-in_err-kind
returns-in_err-kind c =
    let e : c.from_residual-in_err-kind.result ≡ Err c.in_err-kind.field-0.0 = search rules in
    e ∙ sym (notation_of-followed c.args.word.now
    ∙ part-read_followed 1 scope_of (parts_of c.args.word.now) c.read_part.result refl c.read_part.ensures (λ _. after_one)
    ∙ ap (λ r. and_then r (λ q. after_one (followed (parts_left q.1)))) c.in_ok-_scope.was
    ∙ part-read_followed 2 kind_of (parts_left c.in_ok-_scope.rest) c.read_part-2.result refl c.read_part-2.ensures after_two
    ∙ ap (λ r. and_then r (λ q. after_two q.0 (followed (parts_left q.1)))) c.in_err-kind.was)

pub returns-in_err-percent : goal.returns-in_err-percent
returns-in_err-percent c =
    let e : c.from_residual-in_err-percent.result ≡ Err c.in_err-percent.field-0.0 = search rules in
    e ∙ sym (notation_of-followed c.args.word.now
    ∙ part-read_followed 1 scope_of (parts_of c.args.word.now) c.read_part.result refl c.read_part.ensures (λ _. after_one)
    ∙ ap (λ r. and_then r (λ q. after_one (followed (parts_left q.1)))) c.in_ok-_scope.was
    ∙ part-read_followed 2 kind_of (parts_left c.in_ok-_scope.rest) c.read_part-2.result refl c.read_part-2.ensures after_two
    ∙ ap (λ r. and_then r (λ q. after_two q.0 (followed (parts_left q.1)))) c.in_ok-kind.was
    ∙ part-read_followed 3 pruning_of (parts_left c.in_ok-kind.rest) c.read_part-3.result refl c.read_part-3.ensures (after_three c.in_ok-kind.kind)
    ∙ ap (λ r. and_then r (λ q. after_three c.in_ok-kind.kind q.0 (followed (parts_left q.1)))) c.in_err-percent.was)

pub returns-in_err-significance : goal.returns-in_err-significance
returns-in_err-significance c =
    let e : c.from_residual-in_err-significance.result ≡ Err c.in_err-significance.field-0.0 = search rules in
    e ∙ sym (notation_of-followed c.args.word.now
    ∙ part-read_followed 1 scope_of (parts_of c.args.word.now) c.read_part.result refl c.read_part.ensures (λ _. after_one)
    ∙ ap (λ r. and_then r (λ q. after_one (followed (parts_left q.1)))) c.in_ok-_scope.was
    ∙ part-read_followed 2 kind_of (parts_left c.in_ok-_scope.rest) c.read_part-2.result refl c.read_part-2.ensures after_two
    ∙ ap (λ r. and_then r (λ q. after_two q.0 (followed (parts_left q.1)))) c.in_ok-kind.was
    ∙ part-read_followed 3 pruning_of (parts_left c.in_ok-kind.rest) c.read_part-3.result refl c.read_part-3.ensures (after_three c.in_ok-kind.kind)
    ∙ ap (λ r. and_then r (λ q. after_three c.in_ok-kind.kind q.0 (followed (parts_left q.1)))) c.in_ok-percent.was
    ∙ part-read_followed 4 significance_of (parts_left c.in_ok-percent.rest) c.read_part-4.result refl c.read_part-4.ensures (after_four c.in_ok-kind.kind c.in_ok-percent.percent)
    ∙ ap (λ r. and_then r (λ q. after_four c.in_ok-kind.kind c.in_ok-percent.percent q.0 (followed (parts_left q.1)))) c.in_err-significance.was)

pub returns-in_err-attribute : goal.returns-in_err-attribute
returns-in_err-attribute c =
    let e : c.from_residual-in_err-attribute.result ≡ Err c.in_err-attribute.field-0.0 = search rules in
    e ∙ sym (notation_of-followed c.args.word.now
    ∙ part-read_followed 1 scope_of (parts_of c.args.word.now) c.read_part.result refl c.read_part.ensures (λ _. after_one)
    ∙ ap (λ r. and_then r (λ q. after_one (followed (parts_left q.1)))) c.in_ok-_scope.was
    ∙ part-read_followed 2 kind_of (parts_left c.in_ok-_scope.rest) c.read_part-2.result refl c.read_part-2.ensures after_two
    ∙ ap (λ r. and_then r (λ q. after_two q.0 (followed (parts_left q.1)))) c.in_ok-kind.was
    ∙ part-read_followed 3 pruning_of (parts_left c.in_ok-kind.rest) c.read_part-3.result refl c.read_part-3.ensures (after_three c.in_ok-kind.kind)
    ∙ ap (λ r. and_then r (λ q. after_three c.in_ok-kind.kind q.0 (followed (parts_left q.1)))) c.in_ok-percent.was
    ∙ part-read_followed 4 significance_of (parts_left c.in_ok-percent.rest) c.read_part-4.result refl c.read_part-4.ensures (after_four c.in_ok-kind.kind c.in_ok-percent.percent)
    ∙ ap (λ r. and_then r (λ q. after_four c.in_ok-kind.kind c.in_ok-percent.percent q.0 (followed (parts_left q.1)))) c.in_ok-significance.was
    ∙ part-read_followed 5 attribute_of (parts_left c.in_ok-significance.rest) c.read_part-5.result refl c.read_part-5.ensures
    (after_five c.in_ok-kind.kind c.in_ok-percent.percent c.in_ok-significance.significance)
    ∙ ap (λ r. and_then r (λ q. after_five c.in_ok-kind.kind c.in_ok-percent.percent c.in_ok-significance.significance q.0 (followed (parts_left q.1)))) c.in_err-attribute.was)

pub returns-in_err-_statistic : goal.returns-in_err-_statistic
returns-in_err-_statistic c =
    let e : c.from_residual-in_err-_statistic.result ≡ Err c.in_err-_statistic.field-0.0 = search rules in
    e ∙ sym (notation_of-followed c.args.word.now
    ∙ part-read_followed 1 scope_of (parts_of c.args.word.now) c.read_part.result refl c.read_part.ensures (λ _. after_one)
    ∙ ap (λ r. and_then r (λ q. after_one (followed (parts_left q.1)))) c.in_ok-_scope.was
    ∙ part-read_followed 2 kind_of (parts_left c.in_ok-_scope.rest) c.read_part-2.result refl c.read_part-2.ensures after_two
    ∙ ap (λ r. and_then r (λ q. after_two q.0 (followed (parts_left q.1)))) c.in_ok-kind.was
    ∙ part-read_followed 3 pruning_of (parts_left c.in_ok-kind.rest) c.read_part-3.result refl c.read_part-3.ensures (after_three c.in_ok-kind.kind)
    ∙ ap (λ r. and_then r (λ q. after_three c.in_ok-kind.kind q.0 (followed (parts_left q.1)))) c.in_ok-percent.was
    ∙ part-read_followed 4 significance_of (parts_left c.in_ok-percent.rest) c.read_part-4.result refl c.read_part-4.ensures (after_four c.in_ok-kind.kind c.in_ok-percent.percent)
    ∙ ap (λ r. and_then r (λ q. after_four c.in_ok-kind.kind c.in_ok-percent.percent q.0 (followed (parts_left q.1)))) c.in_ok-significance.was
    ∙ part-read_followed 5 attribute_of (parts_left c.in_ok-significance.rest) c.read_part-5.result refl c.read_part-5.ensures
    (after_five c.in_ok-kind.kind c.in_ok-percent.percent c.in_ok-significance.significance)
    ∙ ap (λ r. and_then r (λ q. after_five c.in_ok-kind.kind c.in_ok-percent.percent c.in_ok-significance.significance q.0 (followed (parts_left q.1)))) c.in_ok-attribute.was
    ∙ statistic-sum_seventh c.in_ok-attribute.rest c.read_part-6.result (made c.in_ok-kind.kind c.in_ok-percent.percent c.in_ok-significance.significance
    c.in_ok-attribute.attribute) c.if-is_none.ensures c.read_part-6.ensures
    ∙ ap (λ r. and_then r (λ p. Err (BadPart 7))) c.in_err-_statistic.was)

pub returns : goal.returns
returns c = sym (notation_of-followed c.args.word.now
    ∙ part-read_followed 1 scope_of (parts_of c.args.word.now) c.read_part.result refl c.read_part.ensures (λ _. after_one)
    ∙ ap (λ r. and_then r (λ q. after_one (followed (parts_left q.1)))) c.in_ok-_scope.was
    ∙ part-read_followed 2 kind_of (parts_left c.in_ok-_scope.rest) c.read_part-2.result refl c.read_part-2.ensures after_two
    ∙ ap (λ r. and_then r (λ q. after_two q.0 (followed (parts_left q.1)))) c.in_ok-kind.was
    ∙ part-read_followed 3 pruning_of (parts_left c.in_ok-kind.rest) c.read_part-3.result refl c.read_part-3.ensures (after_three c.in_ok-kind.kind)
    ∙ ap (λ r. and_then r (λ q. after_three c.in_ok-kind.kind q.0 (followed (parts_left q.1)))) c.in_ok-percent.was
    ∙ part-read_followed 4 significance_of (parts_left c.in_ok-percent.rest) c.read_part-4.result refl c.read_part-4.ensures (after_four c.in_ok-kind.kind c.in_ok-percent.percent)
    ∙ ap (λ r. and_then r (λ q. after_four c.in_ok-kind.kind c.in_ok-percent.percent q.0 (followed (parts_left q.1)))) c.in_ok-significance.was
    ∙ part-read_followed 5 attribute_of (parts_left c.in_ok-significance.rest) c.read_part-5.result refl c.read_part-5.ensures
    (after_five c.in_ok-kind.kind c.in_ok-percent.percent c.in_ok-significance.significance)
    ∙ ap (λ r. and_then r (λ q. after_five c.in_ok-kind.kind c.in_ok-percent.percent c.in_ok-significance.significance q.0 (followed (parts_left q.1)))) c.in_ok-attribute.was
    ∙ statistic-sum_seventh c.in_ok-attribute.rest c.read_part-6.result (made c.in_ok-kind.kind c.in_ok-percent.percent c.in_ok-significance.significance
    c.in_ok-attribute.attribute) c.if-is_none.ensures c.read_part-6.ensures
    ∙ ap (λ r. and_then r (λ p. Err (BadPart 7))) c.in_ok-_statistic.was)

pub returns-then-is_none : goal.returns-then-is_none
returns-then-is_none c = sym (notation_of-followed c.args.word.now
    ∙ part-read_followed 1 scope_of (parts_of c.args.word.now) c.read_part.result refl c.read_part.ensures (λ _. after_one)
    ∙ ap (λ r. and_then r (λ q. after_one (followed (parts_left q.1)))) c.in_ok-_scope.was
    ∙ part-read_followed 2 kind_of (parts_left c.in_ok-_scope.rest) c.read_part-2.result refl c.read_part-2.ensures after_two
    ∙ ap (λ r. and_then r (λ q. after_two q.0 (followed (parts_left q.1)))) c.in_ok-kind.was
    ∙ part-read_followed 3 pruning_of (parts_left c.in_ok-kind.rest) c.read_part-3.result refl c.read_part-3.ensures (after_three c.in_ok-kind.kind)
    ∙ ap (λ r. and_then r (λ q. after_three c.in_ok-kind.kind q.0 (followed (parts_left q.1)))) c.in_ok-percent.was
    ∙ part-read_followed 4 significance_of (parts_left c.in_ok-percent.rest) c.read_part-4.result refl c.read_part-4.ensures (after_four c.in_ok-kind.kind c.in_ok-percent.percent)
    ∙ ap (λ r. and_then r (λ q. after_four c.in_ok-kind.kind c.in_ok-percent.percent q.0 (followed (parts_left q.1)))) c.in_ok-significance.was
    ∙ part-read_followed 5 attribute_of (parts_left c.in_ok-significance.rest) c.read_part-5.result refl c.read_part-5.ensures
    (after_five c.in_ok-kind.kind c.in_ok-percent.percent c.in_ok-significance.significance)
    ∙ ap (λ r. and_then r (λ q. after_five c.in_ok-kind.kind c.in_ok-percent.percent c.in_ok-significance.significance q.0 (followed (parts_left q.1)))) c.in_ok-attribute.was
    ∙ statistic-sum_alone c.in_ok-attribute.rest (after_six c.in_ok-kind.kind c.in_ok-percent.percent c.in_ok-significance.significance c.in_ok-attribute.attribute)
    c.if-is_none.ensures ∙ sym c.paired.ensures)
