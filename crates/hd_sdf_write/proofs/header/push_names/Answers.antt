use Rattle.std.proofs.Common.{◌++◌, ap, codes, ◌∙◌}
use Rattle.std.specs.Fmt.{decimal}
use Rattle.std.proofs.lemmas.Result.{on_ok_weaker}
use Rattle.hd_map.specs.declared.types.Size.{Size}
use Rattle.hd_sdf_write.specs.Canonical.{entry_line, name_lines}
use Rattle.hd_sdf_write.proofs.JoinedTexts.{five_texts}
use Rattle.hd_sdf_write.proofs.header.push_names.Goals as goal

pub returns : goal.returns
unfolding name_lines
returns g c =
    let texts = c.args.texts.now in
    let size = (g.G.Heights.map c.args.grid.now).size in
    on_ok_weaker c.push_number-2.result (λ last.
    five_texts c.args.out.now c.push_entry.new.out c.push_entry-2.new.out c.push_entry-3.new.out
    (entry_line (codes "ManufacID") texts.manufac_id.now) (entry_line (codes "CreateDate") texts.create_date.now) (entry_line (codes "ModDate") texts.mod_date.now)
    c.in_ok-push_entry.ensures c.in_ok-push_entry-2.ensures c.in_ok-push_entry-3.ensures
    c.push_number.new.out c.push_number-2.new.out (entry_line (codes "NumPoints") (decimal size.points)) (entry_line (codes "NumProfiles") (decimal size.profiles))
    (c.in_ok-push_number.ensures ∙ ap (λ (s : Size). c.push_entry-3.new.out ++ entry_line (codes "NumPoints") (decimal s.points)) c.size-size.ensures)
    (last ∙ ap (λ (s : Size). c.push_number.new.out ++ entry_line (codes "NumProfiles") (decimal s.profiles)) c.size-size.ensures)) c.push_number-2.ensures
