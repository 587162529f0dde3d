use Rattle.std.proofs.Common.{codes}
use Rattle.std.proofs.lemmas.Result.{on_ok_weaker}
use Rattle.hd_sdf_write.specs.Canonical.{encoding_lines, extra_lines, line, name_lines, scale_lines, version_text}
use Rattle.hd_sdf_write.specs.Texts.{file_with}
use Rattle.hd_sdf_write.proofs.JoinedTexts.{six_texts}
use Rattle.hd_sdf_write.proofs.header.push_header.Goals as goal

pub returns : goal.returns
returns g c =
    let file = file_with c.args.texts.now (g.G.Heights.map c.args.grid.now) in
    on_ok_weaker c.push_line.result (λ last.
    six_texts c.args.out.now c.push_version.new.out c.push_names.new.out c.push_scales.new.out
    (line (version_text file.version)) (name_lines file) (scale_lines file) c.in_ok-push_version.ensures c.in_ok-push_names.ensures c.in_ok-push_scales.ensures
    c.push_encoding.new.out c.push_extra.new.out c.push_line.new.out (encoding_lines file) (extra_lines file.extra) (line (codes "*")) c.in_ok-push_encoding.ensures
    c.in_ok-push_extra.ensures last) c.push_line.ensures
