use Rattle.hd_edit.proofs.Outcomes.{IsEdited-map}
use Rattle.hd_edit.proofs.laws.edits_keep_maps.Goals as goal

pub returns : goal.returns
returns c = λ elements m new e whole is.
    IsEdited-map m whole (λ filter element cells are. c.accepted_cells_make_a_map.ensures filter m element cells whole are) elements e new is
