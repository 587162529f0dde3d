use Rattle.std.proofs.Common.{sym, subst, ap, ◌∙◌}
use Rattle.std.specs.Prelude.{◌-ℤ◌}
use Rattle.hd_map.specs.declared.types.SideName.{SideName}
use Rattle.hd_prune.specs.Span.{IsHeight}
use Rattle.hd_prune.proofs.Spans.{point_height}
use Rattle.hd_audit.specs.Rules.{rise_over}
use Rattle.hd_audit.proofs.HeightDifferences.{IsHeight-difference, IsHeight-difference_kept, IsHeight-kept}
use Rattle.hd_audit.proofs.limit.rise_over.Goals as goal

pub overflow_sub-result : goal.overflow_sub-result
overflow_sub-result c =
    let low = point_height c.requires.0 c.args.c c.requires.1 c.requires.2 in
    let high = subst IsHeight c.requires.5 (point_height c.requires.0 c.requires.3 c.requires.1 c.requires.4) in
    rw (IsHeight-kept c.args.height high, IsHeight-kept c.args.c.height low) (IsHeight-difference c.args.height c.args.c.height high low)

pub overflow_sub-result-in-Hills : goal.overflow_sub-result-in-Hills
overflow_sub-result-in-Hills c =
    let low = point_height c.requires.0 c.args.c c.requires.1 c.requires.2 in
    let high = subst IsHeight c.requires.5 (point_height c.requires.0 c.requires.3 c.requires.1 c.requires.4) in
    rw (IsHeight-kept c.args.height high, IsHeight-kept c.args.c.height low) (IsHeight-difference c.args.c.height c.args.height low high)

pub returns-in-Dales : goal.returns-in-Dales
returns-in-Dales c = λ x e.
    let low = point_height c.requires.0 c.args.c c.requires.1 c.requires.2 in
    let high = subst IsHeight c.requires.5 (point_height c.requires.0 c.requires.3 c.requires.1 c.requires.4) in
    IsHeight-difference_kept c.args.height c.args.c.height high low ∙ ap (λ h. h -ℤ c.args.c.height) (sym e) ∙ sym (ap (λ (side : SideName). rise_over side c.args.c x) c.in-Dales.is)

pub returns-in-Hills : goal.returns-in-Hills
returns-in-Hills c = λ x e.
    let low = point_height c.requires.0 c.args.c c.requires.1 c.requires.2 in
    let high = subst IsHeight c.requires.5 (point_height c.requires.0 c.requires.3 c.requires.1 c.requires.4) in
    IsHeight-difference_kept c.args.c.height c.args.height low high ∙ ap (λ h. c.args.c.height -ℤ h) (sym e) ∙ sym (ap (λ (side : SideName). rise_over side c.args.c x) c.in-Hills.is)
