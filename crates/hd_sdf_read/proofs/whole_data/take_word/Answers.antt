use Rattle.std.proofs.Common.{◌+◌, Err, sym, ap, ◌∙◌}
use Rattle.std.specs.Prelude.{bytes_eq}
use mir.Syntax.{w64}
use mir.Val.{of_z, to_z}
use Rattle.std.proofs.lemmas.Int.{to_z-of_z}
use Rattle.hd_map.specs.Map.{greatest_height, least_height}
use Rattle.hd_sdf_read.specs.declared.error.SdfError.TheVariants.{TooFewData}
use Rattle.hd_sdf_read.specs.Grammar.{cell_of}
use Rattle.hd_sdf_read.proofs.WholeCuts.{cell_of-fits, whole_in-refused, whole_in-star, TakesWord-taken}
use Rattle.hd_sdf_read.proofs.whole_data.take_word.Goals as goal

pub returns-then-eq : goal.returns-then-eq
returns-then-eq c = λ _ rest ends.
    whole_in-star c.args.size c.args.cells c.args.word.now c.requires.some c.requires.gapless c.requires.missing
    (sym (c.eq.ensures ∙ ap (bytes_eq c.args.word.now) c.as_slice.ensures) ∙ c.if-eq.true) rest ends
    ∙ ap (λ n. Err (TooFewData n)) (sym c.len-read.ensures)

pub push-requires : goal.push-requires
push-requires c =
    let low = to_z-of_z w64 c.least_of.result (record { sfits = c.least_of.type_inv }) ∙ c.least_of.ensures ∙ ap least_height c.data_type-data_type.ensures in
    let high = to_z-of_z w64 c.greatest_of.result (record { sfits = c.greatest_of.type_inv }) ∙ c.greatest_of.ensures ∙ ap greatest_height c.data_type-data_type.ensures in
    let found = sym c.in-Ok.is ∙ c.cell_of.ensures ∙ ap (λ n. cell_of (to_z w64 (of_z w64 c.least_of.result)) (to_z w64 (of_z w64 c.greatest_of.result)) (n + 1) c.args.word.now) c.len-read.ensures in
    cell_of-fits c.args.size c.args.cells c.args.word.now c.requires.some c.requires.gapless c.requires.missing (to_z w64 (of_z w64 c.least_of.result))
    (to_z w64 (of_z w64 c.greatest_of.result)) low high
    (sym (c.eq.ensures ∙ ap (bytes_eq c.args.word.now) c.as_slice.ensures) ∙ c.if-eq.false) c.in-Ok.cell found

pub returns-in_ok-push-in-Ok : goal.returns-in_ok-push-in-Ok
returns-in_ok-push-in-Ok c =
    let low = to_z-of_z w64 c.least_of.result (record { sfits = c.least_of.type_inv }) ∙ c.least_of.ensures ∙ ap least_height c.data_type-data_type.ensures in
    let high = to_z-of_z w64 c.greatest_of.result (record { sfits = c.greatest_of.type_inv }) ∙ c.greatest_of.ensures ∙ ap greatest_height c.data_type-data_type.ensures in
    let found = sym c.in-Ok.is ∙ c.cell_of.ensures ∙ ap (λ n. cell_of (to_z w64 (of_z w64 c.least_of.result)) (to_z w64 (of_z w64 c.greatest_of.result)) (n + 1) c.args.word.now) c.len-read.ensures in
    TakesWord-taken c.args.size c.args.cells c.args.word.now c.requires.some c.requires.gapless c.requires.missing (to_z w64 (of_z w64 c.least_of.result))
    (to_z w64 (of_z w64 c.greatest_of.result)) low high
    (sym (c.eq.ensures ∙ ap (bytes_eq c.args.word.now) c.as_slice.ensures) ∙ c.if-eq.false) c.push.new.self c.in-Ok.cell found c.in_ok-push-in-Ok.ensures.ok c.push.ensures.data_type

pub returns-in-Err : goal.returns-in-Err
returns-in-Err c = λ _ rest ends.
    let low = to_z-of_z w64 c.least_of.result (record { sfits = c.least_of.type_inv }) ∙ c.least_of.ensures ∙ ap least_height c.data_type-data_type.ensures in
    let high = to_z-of_z w64 c.greatest_of.result (record { sfits = c.greatest_of.type_inv }) ∙ c.greatest_of.ensures ∙ ap greatest_height c.data_type-data_type.ensures in
    let found = sym c.in-Err.is ∙ c.cell_of.ensures ∙ ap (λ n. cell_of (to_z w64 (of_z w64 c.least_of.result)) (to_z w64 (of_z w64 c.greatest_of.result)) (n + 1) c.args.word.now) c.len-read.ensures in
    whole_in-refused c.args.size c.args.cells c.args.word.now c.requires.some c.requires.gapless c.requires.missing (to_z w64 (of_z w64 c.least_of.result))
    (to_z w64 (of_z w64 c.greatest_of.result)) low high
    (sym (c.eq.ensures ∙ ap (bytes_eq c.args.word.now) c.as_slice.ensures) ∙ c.if-eq.false) c.in-Err.refusal found rest ends
