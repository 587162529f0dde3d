use Rattle.std.proofs.Common.{◌≡◌, ◌≤◌, ◌++◌, List, ℕ, length, true, sym, ap, ap₂, arith, ◌∙◌, length-append}
use Rattle.std.specs.List.{list_all}
use borrow.Author.Tests.{eqb-true}
use Rattle.std.proofs.lemmas.List.{take-append-drop}
use Rattle.hd_sdf_read.specs.Tokens.{is_gap}
use Rattle.hd_sdf_read.proofs.States.{length-some}
use Rattle.hd_sdf_read.proofs.PartTrailers.{FeedsTrailer-extended, is_gap-all, is_gap-some, trailer_in-over_gaps, trailer_in-over_long}
use Rattle.hd_sdf_read.proofs.part_trailer.PartTrailer.fed.Goals as goal

pub returns-then-not-is_empty : goal.returns-then-not-is_empty
returns-then-not-is_empty c = λ refused more.
    let text = c.args.self.text in
    let first = c.first_of-more.result.now in
    let kept = c.split_at.result.0.now in
    let over = c.split_at.result.1.now in
    let parts : first ≡ kept ++ over = sym (take-append-drop _ first) ∙ ap₂ (λ (a b : List ℕ). a ++ b) (sym c.split_at.ensures.front) (sym c.split_at.ensures.back) in
    let size = length-append text kept in
    let slice = ap length c.as_slice.ensures in
    let full : 65536 ≤ length (text ++ kept) = omega (arith, size, slice, c.split_at.ensures.front_len) in
    let some = length-some c.skip_gaps.result.now (sym c.is_empty.ensures ∙ c.if-not-is_empty.true) in
    c.first_of-more.ensures.same more ∙ trailer_in-over_long text first kept over parts c.first_of-more.ensures.begins full more (is_gap-some over (rw c.skip_gaps.ensures at some))

pub returns : goal.returns
returns c =
    let text = c.args.self.text in
    let first = c.first_of-more.result.now in
    let kept = c.split_at.result.0.now in
    let over = c.split_at.result.1.now in
    let parts : first ≡ kept ++ over = sym (take-append-drop _ first) ∙ ap₂ (λ (a b : List ℕ). a ++ b) (sym c.split_at.ensures.front) (sym c.split_at.ensures.back) in
    let size = length-append text kept in
    let slice = ap length c.as_slice.ensures in
    let full : 65536 ≤ length (text ++ kept) = omega (arith, size, slice, c.split_at.ensures.front_len) in
    let none : list_all is_gap over ≡ true = is_gap-all over (ap length (sym c.skip_gaps.ensures) ∙ eqb-true (length c.skip_gaps.result.now) 0 (sym c.is_empty.ensures ∙ c.if-not-is_empty.false)) in
    FeedsTrailer-extended c.args.self c.args.piece.now kept c.extended-2.result c.extended-2.ensures
    (λ more. c.first_of-more.ensures.same more ∙ trailer_in-over_gaps text first kept over parts c.first_of-more.ensures.begins full more none)
