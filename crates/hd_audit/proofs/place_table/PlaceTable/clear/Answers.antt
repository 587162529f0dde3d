use Rattle.std.proofs.Common.{◌∙◌, ap, None, set}
use Rattle.std.proofs.lemmas.List.{map-set}
use Rattle.hd_audit.specs.Places.{place_of_number}
use Rattle.hd_audit.proofs.place_table.PlaceTable.clear.Goals as goal

pub returns : goal.returns
returns c = map-set place_of_number c.self.inside.numbers.items c.args.index 0 ∙ ap (λ xs. set xs c.args.index None) c.self.view_is
