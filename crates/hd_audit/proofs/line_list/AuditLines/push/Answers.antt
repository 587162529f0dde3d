use Rattle.std.proofs.Common.{◌≡◌, ◌∷◌, ◌++◌, [], ap₂, ◌∙◌, rules}
use Rattle.hd_audit.proofs.LineList.{lines_kept-push}
use Rattle.hd_audit.proofs.line_list.AuditLines.push.Goals as goal

pub returns-clause-ok : goal.returns-clause-ok
returns-clause-ok c =
    let s = c.self.inside in
    let numbers : c.push_reserved.new.self.items ≡ s.numbers.items ++ c.kept_line-named.result.0 ∷ [] = search rules in
    let named : c.push_reserved-2.new.self.items ≡ s.named.items ++ c.kept_line-named.result.1 ∷ [] = search rules in
    rw (numbers, named)
    (lines_kept-push s.numbers.items s.named.items c.self.invariant c.kept_line-named.result.0 c.kept_line-named.result.1
    ∙ ap₂ (λ lines line. lines ++ line ∷ []) c.self.view_is c.kept_line-named.ensures)
