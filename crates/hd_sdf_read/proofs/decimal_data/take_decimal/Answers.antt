use Rattle.std.proofs.Common.{◌≡◌, ◌+◌, length, Err, sym, ap, ◌∙◌}
use Rattle.std.specs.Prelude.{bytes_eq}
use Rattle.hd_map.specs.Cells.{wide_cells_in}
use Rattle.hd_sdf_read.specs.declared.error.SdfError.TheVariants.{TooFewData}
use Rattle.hd_sdf_read.specs.Decimals.{datum_of}
use Rattle.hd_sdf_read.proofs.DecimalCuts.{decimal_in-star, decimal_in-stop_datum, TakesDatum-pushed, decimal_in-wrong_datum}
use Rattle.hd_sdf_read.proofs.decimal_data.take_decimal.Goals as goal

pub returns-then-eq : goal.returns-then-eq
returns-then-eq c = λ _ rest ends.
    decimal_in-star c.args.size c.args.data_type c.args.scaled c.args.word.now c.requires.kept c.requires.some c.requires.gapless c.requires.missing
    (sym (c.eq.ensures ∙ ap (bytes_eq c.args.word.now) c.as_slice.ensures) ∙ c.if-eq.true) rest ends
    ∙ ap (λ n. Err (TooFewData n)) (sym c.len-read.ensures)

pub returns-in-Ok-push : goal.returns-in-Ok-push
returns-in-Ok-push c =
    let number : c.len-read.result + 1 ≡ length (wide_cells_in c.args.scaled.cells) + 1 = ap (λ n. n + 1) c.len-read.ensures in
    TakesDatum-pushed c.args.size c.args.data_type c.args.scaled c.args.word.now c.requires.kept c.requires.some c.requires.gapless c.requires.missing
    (sym (c.eq.ensures ∙ ap (bytes_eq c.args.word.now) c.as_slice.ensures) ∙ c.if-eq.false) c.push.new.self (c.len-read.result + 1) c.in-Ok.datum
    (ap (λ n. datum_of n c.args.word.now) (sym number) ∙ c.in-Ok.ensures.0) c.in-Ok.ensures.1 c.in-Ok-push.ensures

pub returns-in-Err-push : goal.returns-in-Err-push
returns-in-Err-push c = λ refused rest ends.
    let number : c.len-read.result + 1 ≡ length (wide_cells_in c.args.scaled.cells) + 1 = ap (λ n. n + 1) c.len-read.ensures in
    decimal_in-wrong_datum c.args.size c.args.data_type c.args.scaled c.args.word.now c.requires.kept c.requires.some c.requires.gapless c.requires.missing
    (sym (c.eq.ensures ∙ ap (bytes_eq c.args.word.now) c.as_slice.ensures) ∙ c.if-eq.false) c.push.new.self (c.len-read.result + 1) c.in-Ok.datum c.in-Err-push.refusal number
    (ap (λ n. datum_of n c.args.word.now) (sym number) ∙ c.in-Ok.ensures.0) c.in-Ok.ensures.1 c.in-Err-push.ensures refused rest ends

pub returns-in-Err : goal.returns-in-Err
returns-in-Err c = λ refused rest ends.
    let number : c.len-read.result + 1 ≡ length (wide_cells_in c.args.scaled.cells) + 1 = ap (λ n. n + 1) c.len-read.ensures in
    decimal_in-stop_datum c.args.size c.args.data_type c.args.scaled c.args.word.now c.requires.kept c.requires.some c.requires.gapless c.requires.missing
    (sym (c.eq.ensures ∙ ap (bytes_eq c.args.word.now) c.as_slice.ensures) ∙ c.if-eq.false) (c.len-read.result + 1) c.in-Err.refusal number (c.in-Err.ensures refused) rest ends
