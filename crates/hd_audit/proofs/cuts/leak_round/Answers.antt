use Rattle.std.proofs.Common.{◌<◌, subst}
use Rattle.std.specs.Prelude.{◌↔◌}
use Rattle.std.specs.List.{AllPairs, Contains}
use Rattle.hd_map.specs.declared.types.Pos.{Pos}
use Rattle.hd_map.specs.Map.{place_of}
use Rattle.hd_map.specs.Neighbour.{Neighbour}
use Rattle.hd_check.proofs.Pits.{Neighbour-listed}
use Rattle.hd_audit.specs.Leaks.{FirstLeakRound}
use Rattle.hd_audit.proofs.Leaking.{FirstLeakRound-leak}
use Rattle.hd_audit.proofs.cuts.leak_round.Goals as goal

pub first_leaking-requires-clause-present : goal.first_leaking-requires-clause-present
first_leaking-requires-clause-present g c =
    let m = g.G.Heights.map c.args.surface.now in
    let all : (q : Pos) → Contains c.as_slice.result.now q ↔ Neighbour m c.position_in-at.result q = rw c.as_slice.ensures c.neighbours-near.ensures.all in
    λ j inside. (Neighbour-listed m c.position_in-at.result c.as_slice.result.now all j inside).to

pub returns : goal.returns
returns g c =
    let m = g.G.Heights.map c.args.surface.now in
    let all : (q : Pos) → Contains c.as_slice.result.now q ↔ Neighbour m c.position_in-at.result q = rw c.as_slice.ensures c.neighbours-near.ensures.all in
    let ordered : AllPairs (λ a b. place_of m.size a < place_of m.size b) c.as_slice.result.now = rw c.as_slice.ensures c.neighbours-near.ensures.ordered in
    subst (λ (p : Pos). FirstLeakRound m c.args.limit.now.side c.args.limit.now.percent.thousandths c.args.limit.now.sz c.args.lines.now c.args.cut p c.first_leaking.result) c.position_in-at.ensures
    (FirstLeakRound-leak m c.args.limit.now.side c.args.limit.now.percent.thousandths c.args.limit.now.sz c.args.lines.now c.args.cut c.position_in-at.result c.as_slice.result.now
    all ordered c.first_leaking.result c.first_leaking.ensures)
