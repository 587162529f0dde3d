use Rattle.std.proofs.Common.{◌++◌, List, ℕ, ap, ap₂, ◌∙◌}
use Rattle.hd_sdf_write.specs.Canonical.{canonical, end_lines, header_lines}
use Rattle.hd_sdf_write.specs.Data.{data_from}
use Rattle.hd_sdf_write.specs.Texts.{file_with}
use Rattle.hd_sdf_write.proofs.Data.{data_from-profile_lines}
use Rattle.hd_sdf_write.proofs.unwritten.Unwritten.new.Goals as goal

pub returns : goal.returns
unfolding canonical
returns g c =
    let m = g.G.Heights.map c.args.grid.now in
    let file = file_with c.args.texts.now m in
    let header = c.new.ensures ∙ c.in_ok-push_header.ensures ∙ ap (λ (t : List ℕ). t ++ header_lines file) c.new-header.ensures in
    let end = c.new-2.ensures ∙ c.in_ok-push_end.ensures ∙ ap (λ (t : List ℕ). t ++ end_lines file.trailer) c.new-end.ensures in
    ap₂ (λ (a b : List ℕ). a ++ data_from m 0 ++ b) header end
    ∙ ap (λ (t : List ℕ). header_lines file ++ t ++ end_lines file.trailer) (data_from-profile_lines m (g.met.G.Heights.whole c.args.grid.now))
