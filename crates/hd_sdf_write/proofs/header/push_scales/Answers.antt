use Rattle.std.proofs.Common.{◌++◌, ap, codes, ◌∙◌}
use Rattle.std.proofs.lemmas.Result.{on_ok_weaker}
use Rattle.hd_sdf_write.specs.Canonical.{entry_line, scale_lines}
use Rattle.hd_sdf_write.proofs.JoinedTexts.{four_texts}
use Rattle.hd_sdf_write.proofs.header.push_scales.Goals as goal

pub returns : goal.returns
unfolding scale_lines
returns g c =
    let texts = c.args.texts.now in
    on_ok_weaker c.push_entry-4.result (λ last.
    four_texts c.args.out.now c.push_entry.new.out c.push_entry-2.new.out c.push_entry-3.new.out
    (entry_line (codes "Xscale") texts.x_scale.now.literal) (entry_line (codes "Yscale") texts.y_scale.now.literal) (entry_line (codes "Zscale") texts.z_scale.now.literal)
    (c.in_ok-push_entry.ensures ∙ ap (λ v. c.args.out.now ++ entry_line (codes "Xscale") v) c.as_slice.ensures)
    (c.in_ok-push_entry-2.ensures ∙ ap (λ v. c.push_entry.new.out ++ entry_line (codes "Yscale") v) c.as_slice-2.ensures)
    (c.in_ok-push_entry-3.ensures ∙ ap (λ v. c.push_entry-2.new.out ++ entry_line (codes "Zscale") v) c.as_slice-3.ensures)
    c.push_entry-4.new.out (entry_line (codes "Zresolution") texts.z_resolution.now.literal)
    (last ∙ ap (λ v. c.push_entry-3.new.out ++ entry_line (codes "Zresolution") v) c.as_slice-4.ensures)) c.push_entry-4.ensures
