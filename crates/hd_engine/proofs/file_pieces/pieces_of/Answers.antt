use Rattle.std.proofs.Common.{◌≡◌, ℕ, List, [], IfOk, subst, sym, ap, ◌∙◌}
use Rattle.hd_map.specs.Map.{Map}
use Rattle.hd_session.specs.State.{FileTexts, file_with}
use Rattle.hd_sdf_read.specs.File.{File}
use Rattle.hd_sdf_write.specs.Canonical.{canonical}
use Rattle.hd_sdf_write.specs.Pieces.{PiecesState}
use Rattle.hd_engine.proofs.file_pieces.pieces_of.Goals as goal

pub returns : goal.returns
returns g c =
    let state = c.args.surveyed.now.state in
    let m = g.G.Heights.map c.grid.result.now in
    let file = c.borrowed-texts.ensures m ∙ ap (λ (t : FileTexts). file_with t m) c.texts.ensures ∙ ap (λ (n : Map). file_with state.read n) c.grid.ensures in
    let text = ap (λ (f : File). canonical f) file ∙ sym (c.masks_are_not_written.ensures (file_with state.read state.map)) in
    let pieces : List ℕ → PiecesState = λ left. record { piece = []; left = left } in
    subst (λ (left : List ℕ). IfOk c.new.result (λ p. p ≡ pieces left)) text c.new.ensures
