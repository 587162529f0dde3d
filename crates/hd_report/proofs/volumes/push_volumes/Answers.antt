use Rattle.std.proofs.Common.{◌≡◌, ◌+◌, ◌++◌, ◌∙◌, drop, append-nil, append_assoc, ap, sym, arith}
use Rattle.std.specs.List.{zip}
use Rattle.hd_report.specs.Volumes.{volume_lines}
use Rattle.hd_report.proofs.VolumeRuns.{volume_lines-next, volume_lines-end}
use Rattle.hd_report.proofs.volumes.push_volumes.Goals as goal

pub lines-preserved : goal.lines-preserved
lines-preserved c =
    let rest = volume_lines c.args.size (zip (drop (c.lines.number + 1) c.args.kept.now) (drop (c.lines.number + 1) c.args.volumes.now)) in
    ap (λ xs. xs ++ rest) c.in_ok-push_volume.ensures ∙ append_assoc c.lines.text _ rest
    ∙ ap (λ xs. c.lines.text ++ xs) (sym (volume_lines-next c.args.size c.args.kept.now c.args.volumes.now c.lines.number _ c.index-volumes-number.result c.lines-test.true
    (omega (arith, c.requires.each, c.lines-test.true)) c.index-volumes-number.is)) ∙ c.lines.invariant

pub returns : goal.returns
returns c =
    sym (append-nil c.lines.text) ∙ ap (λ xs. c.lines.text ++ xs) (sym (volume_lines-end c.args.size c.args.kept.now c.args.volumes.now c.lines.number c.lines-test.false)) ∙ c.lines.invariant
