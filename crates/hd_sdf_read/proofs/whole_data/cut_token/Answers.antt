use Rattle.std.proofs.Common.{◌≡◌, ◌+◌, Ok, Err, sym, ap, ◌∙◌}
use Rattle.std.specs.Prelude.{bytes_eq}
use mir.Syntax.{w64}
use Rattle.std.proofs.lemmas.Int.{to_z-of_z}
use Rattle.hd_sdf_read.specs.Grammar.{cell_of}
use Rattle.hd_sdf_read.proofs.WholeCuts.{after_token-more, datum_at-cut_cell, datum_at-cut_star, length-filled}
use Rattle.hd_sdf_read.proofs.whole_data.cut_token.Goals as goal

pub returns-then-eq : goal.returns-then-eq
returns-then-eq c =
    datum_at-cut_star c.args.least c.args.greatest c.args.read c.args.text.now c.next_token.result.1.now c.next_token.ensures.rest
    (length-filled c.next_token.result.1.now (sym c.is_empty.ensures ∙ c.if-is_empty.false))
    c.next_token.result.0.now c.next_token.ensures.token (sym (c.eq.ensures ∙ ap (bytes_eq c.next_token.result.0.now) c.as_slice.ensures) ∙ c.if-eq.true)

pub returns-in-Ok : goal.returns-in-Ok
returns-in-Ok c =
    let found : Ok c.in-Ok.cell ≡ cell_of c.args.least c.args.greatest (c.args.read + 1) c.next_token.result.0.now =
    rw (to_z-of_z w64 c.args.least c.ranges.least, to_z-of_z w64 c.args.greatest c.ranges.greatest) at c.in-Ok.ensures in
    let some = length-filled c.next_token.result.1.now (sym c.is_empty.ensures ∙ c.if-is_empty.false) in
    λ more. (
      datum_at-cut_cell c.args.least c.args.greatest c.args.read c.args.text.now c.next_token.result.1.now c.next_token.ensures.rest some
          c.next_token.result.0.now c.next_token.ensures.token (sym (c.eq.ensures ∙ ap (bytes_eq c.next_token.result.0.now) c.as_slice.ensures) ∙ c.if-eq.false) more ∙ sym found,
      after_token-more c.args.least c.args.greatest c.args.read c.args.text.now c.next_token.result.1.now c.next_token.ensures.rest some more,
    )

pub returns-in-Err : goal.returns-in-Err
returns-in-Err c =
    let found : Err c.in-Err.refusal ≡ cell_of c.args.least c.args.greatest (c.args.read + 1) c.next_token.result.0.now =
    rw (to_z-of_z w64 c.args.least c.ranges.least, to_z-of_z w64 c.args.greatest c.ranges.greatest) at c.in-Err.ensures in
    let some = length-filled c.next_token.result.1.now (sym c.is_empty.ensures ∙ c.if-is_empty.false) in
    λ more.
    datum_at-cut_cell c.args.least c.args.greatest c.args.read c.args.text.now c.next_token.result.1.now c.next_token.ensures.rest some
    c.next_token.result.0.now c.next_token.ensures.token (sym (c.eq.ensures ∙ ap (bytes_eq c.next_token.result.0.now) c.as_slice.ensures) ∙ c.if-eq.false) more ∙ sym found
