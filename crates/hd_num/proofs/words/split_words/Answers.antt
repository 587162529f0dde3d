use Rattle.std.proofs.Common.{◌+◌, List, subst, sym, ◌∙◌}
use Rattle.hd_num.specs.declared.span.Span.{Span}
use Rattle.hd_num.proofs.LinePieces.{AreWordsBefore, AreWordsBefore-more, AreWordsBefore-same}
use Rattle.hd_num.proofs.words.split_words.Goals as goal
use Rattle.hd_num.proofs.words.split_words.Goals.{then-start-end+in_ok-push, else-start-end}

pub pieces-preserved : goal.pieces-preserved
pieces-preserved c =
    let line = c.args.line.now in
    let start = c.pieces.start in
    let end = c.word_end-end.result in
    let piece = c.word_end-end.ensures in
    let P = λ (words : List Span). AreWordsBefore line words (end + 1) in
    elim c.if-start-end.branch [
      | then-start-end+in_ok-push w ↦
          subst P (sym (w.words-is ∙ w.in_ok-push.ensures.ok)) (AreWordsBefore-more line c.pieces.words start end w.if-start-end.true piece c.pieces.invariant)
      | else-start-end w ↦ subst P (sym w.words-is) (AreWordsBefore-same line c.pieces.words start end w.if-start-end.false c.pieces-test.true piece c.pieces.invariant)
    ]
