use Rattle.std.proofs.Common.{◌+◌, ◌∙◌, ◌++◌, ℕ, List, length, drop, ap, sym, arith, length-drop}
use Rattle.std.proofs.lemmas.List.{take_rest}
use Rattle.hd_num.specs.Span.{text_at}
use Rattle.hd_audit.specs.Stages.{go_on, numbered, words_in}
use Rattle.hd_audit.proofs.Stages.{go_on-line}
use Rattle.hd_audit.proofs.stage.take_lines.Goals as goal

pub lines-smaller : goal.lines-smaller
lines-smaller c =
    let rest = c.lines.rest.now in
    let next = c.in-Some.next in
    let at = c.in-Some.ensures.line in
    let onward = at.onward in
    let within = at.within in
    let fewer = c.in-Ok.ensures.fewer in
    omega (arith, onward, within, fewer, ap length (take_rest rest next), length-drop next rest)

pub lines-preserved : goal.lines-preserved
lines-preserved c =
    let rest = c.lines.rest.now in
    let next = c.in-Some.next in
    let at = c.in-Some.ensures.line in
    let onward = at.onward in
    let within = at.within in
    let counted = c.lines.invariant.counted in
    let after = c.in-Ok.ensures.counted in
    let behind = take_rest rest next in
    record {
      same = λ more.
          c.lines.invariant.same more
          ∙ go_on-line c.lines.stage c.lines.number rest (text_at rest c.in-Some.span) (drop next rest) at.lines more c.in_ok-taken.taken (rw (sym c.part.ensures) c.in_ok-taken.ensures)
          ∙ ap (λ (xs : List ℕ). go_on c.in_ok-taken.taken (numbered (c.lines.number + 1) (words_in xs ++ more))) (sym behind) ∙ c.in-Ok.ensures.same more;
      counted = omega (arith, onward, within, counted, after, ap length behind, length-drop next rest);
    }
