use Rattle.std.proofs.Common.{◌++◌, List, ℕ, sym, ap, ◌∙◌, append_assoc}
use Rattle.hd_sdf_read.specs.declared.state.State.TheVariants.{Header}
use Rattle.hd_sdf_read.specs.HeaderPieces.{header_on}
use Rattle.hd_sdf_read.proofs.States.{Feeds-behind, IsFirstLine-piece}
use Rattle.hd_sdf_read.proofs.HeaderPieces.{header_in-long_line, is_line_feed-none_joined}
use Rattle.hd_sdf_read.proofs.state.feed_header.Goals as goal

pub returns-in-Err-clause-text : goal.returns-in-Err-clause-text
returns-in-Err-clause-text c = λ refused more.
    sym (c.lines.invariant.same more)
    ∙ ap (λ (t : List ℕ). header_on c.lines.header t) (IsFirstLine-piece c.lines.line.text c.lines.rest.now c.in-Some.end.now c.in-Some.after.now more c.in-Some.ensures)
    ∙ c.in-Err.ensures.line refused (c.in-Some.after.now ++ more)

pub returns-in-None-clause-text : goal.returns-in-None-clause-text
returns-in-None-clause-text c = λ refused more.
    let h = c.lines.header in
    let line = c.lines.line in
    let rest = c.lines.rest.now in
    sym (c.lines.invariant.same more) ∙ ap (λ (t : List ℕ). header_on h t) (sym (append_assoc line.text rest more))
    ∙ header_in-long_line h.version h.number h.entries (line.text ++ rest) more (is_line_feed-none_joined line.text rest line.open c.in_default.ensures) (rw c.in-None.is at c.in_ok-line.ensures)

pub returns-in-Ok-true-clause-text : goal.returns-in-Ok-true-clause-text
returns-in-Ok-true-clause-text c =
    Feeds-behind (Header c.args.header c.args.line) c.take_joined.new.self c.args.text.now c.in-Some.after.now c.feed_behind.result
    (λ more.
    sym (c.lines.invariant.same more)
    ∙ ap (λ (t : List ℕ). header_on c.lines.header t) (IsFirstLine-piece c.lines.line.text c.lines.rest.now c.in-Some.end.now c.in-Some.after.now more c.in-Some.ensures)
    ∙ (rw c.in-Ok-true.field-0-test at c.in-Ok-true.ensures.line) (c.in-Some.after.now ++ more))
    c.feed_behind.ensures.text
