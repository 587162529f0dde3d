use Rattle.std.proofs.Common.{◌++◌, ◌∷◌, [], List, ℕ, refl, sym, ◌∙◌, ap, subst}
use Rattle.std.specs.Prelude.{decimal, length, codes}
use Rattle.std.specs.List.{flat_map}
use Rattle.std.proofs.lemmas.Result.{err_from_is_err_and}
use Rattle.hd_num.specs.Text.{AppendsPrefix}
use Rattle.hd_num.proofs.AppendsPrefix.{prefix_first, prefix_then}
use Rattle.hd_check.specs.Text.{adjacency_word, line_text, point_line, point_words, saddle_lines, side_word}
use Rattle.hd_check.proofs.AppendedTexts.{append-last}
use Rattle.hd_check.proofs.TextParts.{certificate_text-parts_at}
use Rattle.hd_check.proofs.writing.write_certificate.Goals as goal

pub returns-in_err-push_head : goal.returns-in_err-push_head
returns-in_err-push_head c = let p = err_from_is_err_and c.from_residual.result c.from_residual.ensures.1 in rw p.1
    (subst (λ (t : List ℕ). AppendsPrefix c.args.out.now c.push_head.new.out t) (sym
    (certificate_text-parts_at c.args.certificate.now c.args.certificate.now.path c.args.certificate.now.cut refl refl))
    (prefix_first c.args.out.now c.push_head.new.out (line_text (codes "certificate" ∷ side_word c.args.certificate.now.side ∷ adjacency_word c.args.certificate.now.adjacency
    ∷ [])) ((line_text (codes "from" ∷ point_words c.args.certificate.now.from)) ++ ((line_text (codes "to" ∷ point_words c.args.certificate.now.to))
    ++ ((flat_map line_text (saddle_lines c.args.certificate.now.saddle c.args.certificate.now.path))
    ++ ((codes "cut " ++ (decimal (length c.args.certificate.now.cut) ++ 10 ∷ flat_map point_line c.args.certificate.now.cut)) ++ ((codes "end" ++ 10 ∷ []))))))
    (c.in_err-push_head.ensures)))

pub returns-in_err-push_end_point : goal.returns-in_err-push_end_point
returns-in_err-push_end_point c = let p = err_from_is_err_and c.from_residual-in_err-push_end_point.result c.from_residual-in_err-push_end_point.ensures.1 in rw p.1
    (subst (λ (t : List ℕ). AppendsPrefix c.args.out.now c.push_end_point.new.out t)
    (sym (certificate_text-parts_at c.args.certificate.now c.args.certificate.now.path c.args.certificate.now.cut refl refl))
    (prefix_then c.args.out.now c.push_head.new.out c.push_end_point.new.out (line_text
    (codes "certificate" ∷ side_word c.args.certificate.now.side ∷ adjacency_word c.args.certificate.now.adjacency ∷ []))
    ((line_text (codes "from" ∷ point_words c.args.certificate.now.from)) ++ ((line_text (codes "to" ∷ point_words c.args.certificate.now.to))
    ++ ((flat_map line_text (saddle_lines c.args.certificate.now.saddle c.args.certificate.now.path))
    ++ ((codes "cut " ++ (decimal (length c.args.certificate.now.cut) ++ 10 ∷ flat_map point_line c.args.certificate.now.cut)) ++ ((codes "end" ++ 10 ∷ []))))))
    (c.in_ok-push_head.ensures) (prefix_first c.push_head.new.out c.push_end_point.new.out (line_text (codes "from" ∷ point_words c.args.certificate.now.from))
    ((line_text (codes "to" ∷ point_words c.args.certificate.now.to)) ++ ((flat_map line_text (saddle_lines c.args.certificate.now.saddle c.args.certificate.now.path))
    ++ ((codes "cut " ++ (decimal (length c.args.certificate.now.cut) ++ 10 ∷ flat_map point_line c.args.certificate.now.cut)) ++ ((codes "end" ++ 10 ∷ [])))))
    (c.in_err-push_end_point.ensures))))

pub returns-in_err-push_end_point-2 : goal.returns-in_err-push_end_point-2
returns-in_err-push_end_point-2 c = let p = err_from_is_err_and c.from_residual-in_err-push_end_point-2.result c.from_residual-in_err-push_end_point-2.ensures.1 in rw p.1
    (subst (λ (t : List ℕ). AppendsPrefix c.args.out.now c.push_end_point-2.new.out t)
    (sym (certificate_text-parts_at c.args.certificate.now c.args.certificate.now.path c.args.certificate.now.cut refl refl))
    (prefix_then c.args.out.now c.push_head.new.out c.push_end_point-2.new.out (line_text
    (codes "certificate" ∷ side_word c.args.certificate.now.side ∷ adjacency_word c.args.certificate.now.adjacency ∷ []))
    ((line_text (codes "from" ∷ point_words c.args.certificate.now.from)) ++ ((line_text (codes "to" ∷ point_words c.args.certificate.now.to))
    ++ ((flat_map line_text (saddle_lines c.args.certificate.now.saddle c.args.certificate.now.path))
    ++ ((codes "cut " ++ (decimal (length c.args.certificate.now.cut) ++ 10 ∷ flat_map point_line c.args.certificate.now.cut)) ++ ((codes "end" ++ 10 ∷ []))))))
    (c.in_ok-push_head.ensures) (prefix_then c.push_head.new.out c.push_end_point.new.out c.push_end_point-2.new.out
    (line_text (codes "from" ∷ point_words c.args.certificate.now.from)) ((line_text (codes "to" ∷ point_words c.args.certificate.now.to))
    ++ ((flat_map line_text (saddle_lines c.args.certificate.now.saddle c.args.certificate.now.path))
    ++ ((codes "cut " ++ (decimal (length c.args.certificate.now.cut) ++ 10 ∷ flat_map point_line c.args.certificate.now.cut)) ++ ((codes "end" ++ 10 ∷ [])))))
    (c.in_ok-push_end_point.ensures) (prefix_first c.push_end_point.new.out c.push_end_point-2.new.out (line_text (codes "to" ∷ point_words c.args.certificate.now.to))
    ((flat_map line_text (saddle_lines c.args.certificate.now.saddle c.args.certificate.now.path))
    ++ ((codes "cut " ++ (decimal (length c.args.certificate.now.cut) ++ 10 ∷ flat_map point_line c.args.certificate.now.cut)) ++ ((codes "end" ++ 10 ∷ []))))
    (c.in_err-push_end_point-2.ensures)))))

pub returns-in_err-push_saddle : goal.returns-in_err-push_saddle
returns-in_err-push_saddle c = let p = err_from_is_err_and c.from_residual-in_err-push_saddle.result c.from_residual-in_err-push_saddle.ensures.1 in rw p.1
    (subst (λ (t : List ℕ). AppendsPrefix c.args.out.now c.push_saddle.new.out t)
    (sym (certificate_text-parts_at c.args.certificate.now c.as_slice.result.now c.args.certificate.now.cut c.as_slice.ensures refl))
    (prefix_then c.args.out.now c.push_head.new.out c.push_saddle.new.out (line_text
    (codes "certificate" ∷ side_word c.args.certificate.now.side ∷ adjacency_word c.args.certificate.now.adjacency ∷ []))
    ((line_text (codes "from" ∷ point_words c.args.certificate.now.from)) ++ ((line_text (codes "to" ∷ point_words c.args.certificate.now.to))
    ++ ((flat_map line_text (saddle_lines c.args.certificate.now.saddle c.as_slice.result.now))
    ++ ((codes "cut " ++ (decimal (length c.args.certificate.now.cut) ++ 10 ∷ flat_map point_line c.args.certificate.now.cut)) ++ ((codes "end" ++ 10 ∷ []))))))
    (c.in_ok-push_head.ensures) (prefix_then c.push_head.new.out c.push_end_point.new.out c.push_saddle.new.out (line_text (codes "from" ∷ point_words c.args.certificate.now.from))
    ((line_text (codes "to" ∷ point_words c.args.certificate.now.to)) ++ ((flat_map line_text (saddle_lines c.args.certificate.now.saddle c.as_slice.result.now))
    ++ ((codes "cut " ++ (decimal (length c.args.certificate.now.cut) ++ 10 ∷ flat_map point_line c.args.certificate.now.cut)) ++ ((codes "end" ++ 10 ∷ [])))))
    (c.in_ok-push_end_point.ensures) (prefix_then c.push_end_point.new.out c.push_end_point-2.new.out c.push_saddle.new.out
    (line_text (codes "to" ∷ point_words c.args.certificate.now.to)) ((flat_map line_text (saddle_lines c.args.certificate.now.saddle c.as_slice.result.now))
    ++ ((codes "cut " ++ (decimal (length c.args.certificate.now.cut) ++ 10 ∷ flat_map point_line c.args.certificate.now.cut)) ++ ((codes "end" ++ 10 ∷ []))))
    (c.in_ok-push_end_point-2.ensures) (prefix_first c.push_end_point-2.new.out c.push_saddle.new.out
    (flat_map line_text (saddle_lines c.args.certificate.now.saddle c.as_slice.result.now))
    ((codes "cut " ++ (decimal (length c.args.certificate.now.cut) ++ 10 ∷ flat_map point_line c.args.certificate.now.cut)) ++ ((codes "end" ++ 10 ∷ [])))
    (c.in_err-push_saddle.ensures))))))

pub returns-in_err-push_counted : goal.returns-in_err-push_counted
returns-in_err-push_counted c = let p = err_from_is_err_and c.from_residual-in_err-push_counted.result c.from_residual-in_err-push_counted.ensures.1 in rw p.1
    (subst (λ (t : List ℕ). AppendsPrefix c.args.out.now c.push_counted.new.out t)
    (sym (certificate_text-parts_at c.args.certificate.now c.as_slice.result.now c.as_slice-2.result.now c.as_slice.ensures c.as_slice-2.ensures))
    (prefix_then c.args.out.now c.push_head.new.out c.push_counted.new.out (line_text
    (codes "certificate" ∷ side_word c.args.certificate.now.side ∷ adjacency_word c.args.certificate.now.adjacency ∷ []))
    ((line_text (codes "from" ∷ point_words c.args.certificate.now.from)) ++ ((line_text (codes "to" ∷ point_words c.args.certificate.now.to))
    ++ ((flat_map line_text (saddle_lines c.args.certificate.now.saddle c.as_slice.result.now))
    ++ ((codes "cut " ++ (decimal (length c.as_slice-2.result.now) ++ 10 ∷ flat_map point_line c.as_slice-2.result.now)) ++ ((codes "end" ++ 10 ∷ []))))))
    (c.in_ok-push_head.ensures) (prefix_then c.push_head.new.out c.push_end_point.new.out c.push_counted.new.out
    (line_text (codes "from" ∷ point_words c.args.certificate.now.from)) ((line_text (codes "to" ∷ point_words c.args.certificate.now.to))
    ++ ((flat_map line_text (saddle_lines c.args.certificate.now.saddle c.as_slice.result.now))
    ++ ((codes "cut " ++ (decimal (length c.as_slice-2.result.now) ++ 10 ∷ flat_map point_line c.as_slice-2.result.now)) ++ ((codes "end" ++ 10 ∷ [])))))
    (c.in_ok-push_end_point.ensures) (prefix_then c.push_end_point.new.out c.push_end_point-2.new.out c.push_counted.new.out
    (line_text (codes "to" ∷ point_words c.args.certificate.now.to)) ((flat_map line_text (saddle_lines c.args.certificate.now.saddle c.as_slice.result.now))
    ++ ((codes "cut " ++ (decimal (length c.as_slice-2.result.now) ++ 10 ∷ flat_map point_line c.as_slice-2.result.now)) ++ ((codes "end" ++ 10 ∷ []))))
    (c.in_ok-push_end_point-2.ensures) (prefix_then c.push_end_point-2.new.out c.push_saddle.new.out c.push_counted.new.out
    (flat_map line_text (saddle_lines c.args.certificate.now.saddle c.as_slice.result.now))
    ((codes "cut " ++ (decimal (length c.as_slice-2.result.now) ++ 10 ∷ flat_map point_line c.as_slice-2.result.now)) ++ ((codes "end" ++ 10 ∷ []))) (c.in_ok-push_saddle.ensures)
    (prefix_first c.push_saddle.new.out c.push_counted.new.out (codes "cut " ++ (decimal (length c.as_slice-2.result.now) ++ 10 ∷ flat_map point_line c.as_slice-2.result.now))
    ((codes "end" ++ 10 ∷ [])) (c.in_err-push_counted.ensures)))))))

pub returns-in_err-push_text : goal.returns-in_err-push_text
returns-in_err-push_text c = let p = err_from_is_err_and c.from_residual-in_err-push_text.result c.from_residual-in_err-push_text.ensures.1 in rw p.1
    (subst (λ (t : List ℕ). AppendsPrefix c.args.out.now c.push_text.new.out t) (sym
    (certificate_text-parts_at c.args.certificate.now c.as_slice.result.now c.as_slice-2.result.now c.as_slice.ensures c.as_slice-2.ensures))
    (prefix_then c.args.out.now c.push_head.new.out c.push_text.new.out (line_text
    (codes "certificate" ∷ side_word c.args.certificate.now.side ∷ adjacency_word c.args.certificate.now.adjacency ∷ []))
    ((line_text (codes "from" ∷ point_words c.args.certificate.now.from)) ++ ((line_text (codes "to" ∷ point_words c.args.certificate.now.to))
    ++ ((flat_map line_text (saddle_lines c.args.certificate.now.saddle c.as_slice.result.now))
    ++ ((codes "cut " ++ (decimal (length c.as_slice-2.result.now) ++ 10 ∷ flat_map point_line c.as_slice-2.result.now)) ++ ((codes "end" ++ 10 ∷ []))))))
    (c.in_ok-push_head.ensures) (prefix_then c.push_head.new.out c.push_end_point.new.out c.push_text.new.out (line_text (codes "from" ∷ point_words c.args.certificate.now.from))
    ((line_text (codes "to" ∷ point_words c.args.certificate.now.to)) ++ ((flat_map line_text (saddle_lines c.args.certificate.now.saddle c.as_slice.result.now))
    ++ ((codes "cut " ++ (decimal (length c.as_slice-2.result.now) ++ 10 ∷ flat_map point_line c.as_slice-2.result.now)) ++ ((codes "end" ++ 10 ∷ [])))))
    (c.in_ok-push_end_point.ensures) (prefix_then c.push_end_point.new.out c.push_end_point-2.new.out c.push_text.new.out
    (line_text (codes "to" ∷ point_words c.args.certificate.now.to)) ((flat_map line_text (saddle_lines c.args.certificate.now.saddle c.as_slice.result.now))
    ++ ((codes "cut " ++ (decimal (length c.as_slice-2.result.now) ++ 10 ∷ flat_map point_line c.as_slice-2.result.now)) ++ ((codes "end" ++ 10 ∷ []))))
    (c.in_ok-push_end_point-2.ensures) (prefix_then c.push_end_point-2.new.out c.push_saddle.new.out c.push_text.new.out
    (flat_map line_text (saddle_lines c.args.certificate.now.saddle c.as_slice.result.now))
    ((codes "cut " ++ (decimal (length c.as_slice-2.result.now) ++ 10 ∷ flat_map point_line c.as_slice-2.result.now)) ++ ((codes "end" ++ 10 ∷ []))) (c.in_ok-push_saddle.ensures)
    (prefix_then c.push_saddle.new.out c.push_counted.new.out c.push_text.new.out
    (codes "cut " ++ (decimal (length c.as_slice-2.result.now) ++ 10 ∷ flat_map point_line c.as_slice-2.result.now)) ((codes "end" ++ 10 ∷ [])) (c.in_ok-push_counted.ensures)
    (c.in_err-push_text.ensures.err)))))))

pub returns : goal.returns
returns c = (append-last c.args.out.now c.push_head.new.out c.push_text.new.out (line_text
    (codes "certificate" ∷ side_word c.args.certificate.now.side ∷ adjacency_word c.args.certificate.now.adjacency ∷ []))
    ((line_text (codes "from" ∷ point_words c.args.certificate.now.from)) ++ ((line_text (codes "to" ∷ point_words c.args.certificate.now.to))
    ++ ((flat_map line_text (saddle_lines c.args.certificate.now.saddle c.as_slice.result.now))
    ++ ((codes "cut " ++ (decimal (length c.as_slice-2.result.now) ++ 10 ∷ flat_map point_line c.as_slice-2.result.now)) ++ ((codes "end" ++ 10 ∷ []))))))
    (c.in_ok-push_head.ensures) (append-last c.push_head.new.out c.push_end_point.new.out c.push_text.new.out (line_text (codes "from" ∷ point_words c.args.certificate.now.from))
    ((line_text (codes "to" ∷ point_words c.args.certificate.now.to)) ++ ((flat_map line_text (saddle_lines c.args.certificate.now.saddle c.as_slice.result.now))
    ++ ((codes "cut " ++ (decimal (length c.as_slice-2.result.now) ++ 10 ∷ flat_map point_line c.as_slice-2.result.now)) ++ ((codes "end" ++ 10 ∷ [])))))
    (c.in_ok-push_end_point.ensures) (append-last c.push_end_point.new.out c.push_end_point-2.new.out c.push_text.new.out
    (line_text (codes "to" ∷ point_words c.args.certificate.now.to)) ((flat_map line_text (saddle_lines c.args.certificate.now.saddle c.as_slice.result.now))
    ++ ((codes "cut " ++ (decimal (length c.as_slice-2.result.now) ++ 10 ∷ flat_map point_line c.as_slice-2.result.now)) ++ ((codes "end" ++ 10 ∷ []))))
    (c.in_ok-push_end_point-2.ensures) (append-last c.push_end_point-2.new.out c.push_saddle.new.out c.push_text.new.out
    (flat_map line_text (saddle_lines c.args.certificate.now.saddle c.as_slice.result.now))
    ((codes "cut " ++ (decimal (length c.as_slice-2.result.now) ++ 10 ∷ flat_map point_line c.as_slice-2.result.now)) ++ ((codes "end" ++ 10 ∷ []))) (c.in_ok-push_saddle.ensures)
    (append-last c.push_saddle.new.out c.push_counted.new.out c.push_text.new.out
    (codes "cut " ++ (decimal (length c.as_slice-2.result.now) ++ 10 ∷ flat_map point_line c.as_slice-2.result.now)) ((codes "end" ++ 10 ∷ [])) (c.in_ok-push_counted.ensures)
    (c.in_ok-push_text.ensures.ok)))))) ∙ ap (λ (t : List ℕ). c.args.out.now ++ t)
    (sym (certificate_text-parts_at c.args.certificate.now c.as_slice.result.now c.as_slice-2.result.now c.as_slice.ensures c.as_slice-2.ensures))
