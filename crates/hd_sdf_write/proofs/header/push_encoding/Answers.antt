use Rattle.std.proofs.Common.{◌++◌, ap, codes, ◌∙◌}
use Rattle.std.specs.Fmt.{decimal}
use Rattle.std.proofs.lemmas.Result.{on_ok_weaker}
use Rattle.hd_map.specs.Map.{code_of}
use Rattle.hd_sdf_write.specs.Canonical.{encoding_lines, entry_line}
use Rattle.hd_sdf_write.proofs.JoinedTexts.{three_texts}
use Rattle.hd_sdf_write.proofs.header.push_encoding.Goals as goal

pub returns : goal.returns
unfolding encoding_lines
returns g c =
    on_ok_weaker c.push_entry-2.result (λ last.
    three_texts c.args.out.now c.push_entry.new.out c.push_number.new.out c.push_entry-2.new.out
    (entry_line (codes "Compression") (codes "0")) (entry_line (codes "DataType") (decimal (code_of (g.G.Heights.map c.args.grid.now).data_type))) (entry_line (codes "CheckType") (codes "0"))
    c.in_ok-push_entry.ensures
    (c.in_ok-push_number.ensures ∙ ap (λ n. c.push_entry.new.out ++ entry_line (codes "DataType") (decimal n)) (c.code.ensures ∙ ap code_of c.data_type.ensures))
    last) c.push_entry-2.ensures
