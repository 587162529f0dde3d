use Rattle.std.proofs.Common.{◌∙◌, ℕ, List, Result, ap, sym}
use Rattle.hd_num.specs.declared.percent.Percent.{Percent}
use Rattle.hd_feature.specs.declared.notation.Attribute.{Attribute}
use Rattle.hd_feature.specs.declared.notation.Kind.{Kind}
use Rattle.hd_feature.specs.declared.notation.Notation.{Notation}
use Rattle.hd_feature.specs.declared.notation.NotationError.{NotationError}
use Rattle.hd_feature.specs.declared.notation.Significance.{Significance}
use Rattle.hd_feature.specs.declared.notation.Statistic.{Statistic}
use Rattle.hd_feature.specs.Notation.{attribute_of, kind_of, paired, pruning_of, significance_of, statistic_of}
use Rattle.hd_feature.specs.Parts.{and_then, parts_left, no_part, part}
use Rattle.hd_feature.proofs.WordParts.{no_part-left}
use Rattle.hd_feature.proofs.reading.read_notation.Goals as goal

-- what the parts give after the first six, five, four, three, two and one
abbrev after_six : Kind → Percent → Significance → Attribute → Statistic → List (List ℕ) → Result Notation NotationError
after_six kind percent significance attribute statistic parts = no_part 7 parts (paired
    (record { kind = kind; percent = percent; significance = significance; attribute = attribute; statistic = statistic }))

abbrev after_five : Kind → Percent → Significance → Attribute → List (List ℕ) → Result Notation NotationError
after_five kind percent significance attribute parts = part 6 statistic_of parts (after_six kind percent significance attribute)

abbrev after_four : Kind → Percent → Significance → List (List ℕ) → Result Notation NotationError
after_four kind percent significance parts = part 5 attribute_of parts (after_five kind percent significance)

abbrev after_three : Kind → Percent → List (List ℕ) → Result Notation NotationError
after_three kind percent parts = part 4 significance_of parts (after_four kind percent)

abbrev after_two : Kind → List (List ℕ) → Result Notation NotationError
after_two kind parts = part 3 pruning_of parts (after_three kind)

abbrev after_one : List (List ℕ) → Result Notation NotationError
after_one parts = part 2 kind_of parts after_two

pub returns-then-is_some : goal.returns-then-is_some
returns-then-is_some c = sym (c.read_part.ensures (λ _. after_one) ∙ ap (λ r. and_then r (λ q. after_one (parts_left q.1))) c.in_ok-_scope.was
    ∙ c.read_part-2.ensures after_two ∙ ap (λ r. and_then r (λ q. after_two q.0 (parts_left q.1))) c.in_ok-kind.was
    ∙ c.read_part-3.ensures (after_three c.in_ok-kind.kind) ∙ ap (λ r. and_then r (λ q. after_three c.in_ok-kind.kind q.0 (parts_left q.1))) c.in_ok-percent.was
    ∙ c.read_part-4.ensures (after_four c.in_ok-kind.kind c.in_ok-percent.percent)
    ∙ ap (λ r. and_then r (λ q. after_four c.in_ok-kind.kind c.in_ok-percent.percent q.0 (parts_left q.1))) c.in_ok-significance.was
    ∙ c.read_part-5.ensures (after_five c.in_ok-kind.kind c.in_ok-percent.percent c.in_ok-significance.significance)
    ∙ ap (λ r. and_then r (λ q. after_five c.in_ok-kind.kind c.in_ok-percent.percent c.in_ok-significance.significance q.0 (parts_left q.1))) c.in_ok-attribute.was
    ∙ c.read_part-6.ensures (after_six c.in_ok-kind.kind c.in_ok-percent.percent c.in_ok-significance.significance c.in_ok-attribute.attribute)
    ∙ ap (λ r. and_then r (λ q. after_six c.in_ok-kind.kind c.in_ok-percent.percent c.in_ok-significance.significance c.in_ok-attribute.attribute q.0 (parts_left q.1))) c.in_ok-statistic.was
    ∙ no_part-left 7 c.in_ok-statistic.rest _ c.if-is_some.ensures)
