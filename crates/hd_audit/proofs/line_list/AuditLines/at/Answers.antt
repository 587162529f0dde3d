use Rattle.std.proofs.Common.{◌∙◌, ap, sym, arith}
use Rattle.hd_audit.specs.Lines.{line_at}
use Rattle.hd_audit.proofs.LineList.{lines_kept-length, lines_kept-line_at}
use Rattle.hd_audit.proofs.line_list.AuditLines.at.Goals as goal

pub index-requires : goal.index-requires
index-requires c =
    let s = c.self.inside in
    let long = s.numbers.ok.0 ∙ lines_kept-length s.numbers.items s.named.items c.self.invariant c.args.self.now c.self.view_is in
    let inside = c.requires in
    omega (arith, long, inside)

pub index-requires-2 : goal.index-requires-2
index-requires-2 c =
    let s = c.self.inside in
    let long = s.named.ok.0 ∙ sym c.self.invariant ∙ lines_kept-length s.numbers.items s.named.items c.self.invariant c.args.self.now c.self.view_is in
    let inside = c.requires in
    omega (arith, long, inside)

pub returns : goal.returns
returns c =
    let s = c.self.inside in
    let long = lines_kept-length s.numbers.items s.named.items c.self.invariant c.args.self.now c.self.view_is in
    let inside = c.requires in
    c.line_kept.ensures
    ∙ sym (lines_kept-line_at s.numbers.items s.named.items c.self.invariant c.args.place c.index.result.now c.index-2.result.now (omega (arith, long, inside)) c.index.ensures c.index-2.ensures)
    ∙ ap (λ lines. line_at lines c.args.place) c.self.view_is
