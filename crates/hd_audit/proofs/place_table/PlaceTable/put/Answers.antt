use Rattle.std.proofs.Common.{◌≡◌, ◌∙◌, ◌+◌, suc, ap, arith, map, Some, set, sym}
use Rattle.std.proofs.lemmas.List.{map-set}
use Rattle.hd_audit.specs.Places.{place_of_number}
use Rattle.hd_audit.proofs.place_table.PlaceTable.put.Goals as goal

pub returns : goal.returns
returns c =
    let next : suc c.args.place ≡ c.args.place + 1 = omega arith in
    ap (λ n. map place_of_number (set c.self.inside.numbers.items c.args.index n)) (sym next) ∙ map-set place_of_number c.self.inside.numbers.items c.args.index (suc c.args.place)
    ∙ ap (λ xs. set xs c.args.index (Some c.args.place)) c.self.view_is
