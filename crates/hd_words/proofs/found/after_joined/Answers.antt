use Rattle.std.proofs.Common.{◌≡◌, ◌∙◌, ap, false, true, None, codes, drop, nat_eq, sym}
use Rattle.std.specs.List.{starts_with}
use Rattle.hd_words.specs.GivenWords.{given_of, begins_with_dash}
use Rattle.hd_words.specs.WordSteps.{found_so_far, followed_by}
use Rattle.hd_words.specs.declared.found.Stage.TheVariants.{Options}
use Rattle.hd_words.proofs.StartsWith.{option_copied-absent}
use Rattle.hd_words.proofs.WordSteps.{with_name-full, with_name-one, given_of-plain_word, HasNoForm-refused}
use Rattle.hd_words.proofs.found.after_joined.Goals as goal

pub returns-then-is_option-clause-none : goal.returns-then-is_option-clause-none
returns-then-is_option-clause-none c =
    let word = c.args.word.now in
    let first : c.joined_value.result ≡ None = cc in
    let second : c.joined_value-in_default.result ≡ None = cc in
    let tile = option_copied-absent (starts_with nat_eq word (codes "--tile=")) (drop 7 word) c.joined_value.result c.joined_value.ensures first in
    let save = option_copied-absent (starts_with nat_eq word (codes "--save=")) (drop 7 word) c.joined_value-in_default.result c.joined_value-in_default.ensures second in
    let dash : begins_with_dash word ≡ true = cc in
    λ words. HasNoForm-refused (found_so_far c.args.found) word words c.requires tile save dash

pub returns-in_err-with_name-clause-none : goal.returns-in_err-with_name-clause-none
returns-in_err-with_name-clause-none c =
    let word = c.args.word.now in
    let first : c.joined_value.result ≡ None = cc in
    let second : c.joined_value-in_default.result ≡ None = cc in
    let tile = option_copied-absent (starts_with nat_eq word (codes "--tile=")) (drop 7 word) c.joined_value.result c.joined_value.ensures first in
    let save = option_copied-absent (starts_with nat_eq word (codes "--save=")) (drop 7 word) c.joined_value-in_default.result c.joined_value-in_default.ensures second in
    let plain : begins_with_dash word ≡ false = cc in
    rw c.from_residual.ensures (λ words. rw (given_of-plain_word word words c.requires tile save plain)
    (with_name-full (found_so_far c.args.found) word (given_of Options words) c.in_err-with_name.ensures.none))

pub returns-in_ok-with_name-clause-some : goal.returns-in_ok-with_name-clause-some
returns-in_ok-with_name-clause-some c =
    let word = c.args.word.now in
    let first : c.joined_value.result ≡ None = cc in
    let second : c.joined_value-in_default.result ≡ None = cc in
    let tile = option_copied-absent (starts_with nat_eq word (codes "--tile=")) (drop 7 word) c.joined_value.result c.joined_value.ensures first in
    let save = option_copied-absent (starts_with nat_eq word (codes "--save=")) (drop 7 word) c.joined_value-in_default.result c.joined_value-in_default.ensures second in
    let plain : begins_with_dash word ≡ false = cc in
    λ words. ap (followed_by (found_so_far c.args.found)) (given_of-plain_word word words c.requires tile save plain) ∙ with_name-one (found_so_far c.args.found) word (given_of Options words)
    ∙ ap (λ before. followed_by before (given_of Options words)) (sym c.in_ok-with_name.ensures.some)
