use Rattle.std.proofs.Common.{◌≡◌, true, false, ◌∷◌, ◌++◌, ◌+◌, [], List, map, take, subst, sym, ◌∙◌, arith}
use Rattle.hd_morph.specs.Element.{ElementTable}
use Rattle.hd_edit.specs.Elements.{line_of}
use Rattle.hd_edit.proofs.NamedElements.{line_of-more}
use Rattle.hd_edit.proofs.elements.Elements.lines.Goals as goal
use Rattle.hd_edit.proofs.elements.Elements.lines.Goals.{in-Some+in_ok-line+in_ok-push, in_default}

pub loop-index-preserved : goal.loop-index-preserved
loop-index-preserved c =
    let i = c.loop-index.index in
    elim c.match-get_index.branch [
      | in-Some+in_ok-line+in_ok-push w ↦
          w.lines-is ∙ w.in_ok-push.ensures.ok ∙ rw w.in_ok-line.ensures
          (subst (λ (es : List ElementTable). c.loop-index.lines ++ line_of w.in-Some.element.now ∷ [] ≡ map line_of (take (i + 1) es)) c.self.view_is
          (line_of-more (λ k. k.items) c.self.inside.by_name.entries i _ c.loop-index.lines (sym w.in-Some.ensures.entry) (rw c.self.view_is c.loop-index.invariant)))
      | in_default w ↦ absurd (let never : false ≡ true = w.in_default.ensures.found.1 (omega (arith, c.loop-index-test.true, c.len-index-end.ensures.len)) in cc)
    ]
