use Rattle.std.proofs.Common.{ℕ, List, length, map, refl, sym, subst, arith}
use Rattle.hd_map.specs.declared.types.Size.{Size}
use Rattle.hd_map.specs.Map.{Map}
use Rattle.hd_basin.specs.declared.frame.Frame.{Frame}
use Rattle.hd_basin.specs.declared.node.Node.{Node}
use Rattle.hd_basin.specs.Built.{HasPasses}
use Rattle.hd_basin.specs.Parts.{JoinBelow, pass_named}
use Rattle.hd_basin.specs.Inside.{AreNamed}
use Rattle.hd_basin.specs.Sinks.{IsArea}
use Rattle.hd_basin.proofs.Areas.{area-small}
use Rattle.hd_basin.proofs.IsNoded.{noded-named, gathered-noded}
use Rattle.hd_basin.proofs.noded.noded.Goals as goal

pub passes_inside-requires-clause-area : goal.passes_inside-requires-clause-area
passes_inside-requires-clause-area g c = subst (λ (s : Size). IsArea s c.args.tiling.side c.args.tile c.area_of-area.result) c.requires.size c.area_of-area.ensures

pub passes_inside-requires-clause-named : goal.passes_inside-requires-clause-named
passes_inside-requires-clause-named g c =
    let m : Map = g.G.Heights.map c.args.grid.now in
    let t : ℕ = c.args.tiling.side in
    let least = c.args.tiling.tile_side.least in
    let f : Frame = c.area_of-area.result in
    let area : IsArea m.size t c.args.tile f = subst (λ (s : Size). IsArea s t c.args.tile f) c.requires.size c.area_of-area.ensures in
    let of = c.in_ok-nodes.field-0 in
    let named = noded-named m g.S.Side.NAME t c.args.tile f (omega (arith, least)) area
    (area-small m.size t c.args.tile f c.args.tiling.tile_side.greatest area) of.nodes.items of.numbers.items of.labels.items c.in_ok-nodes.ensures in
    subst (λ (xs : List Node). AreNamed m g.S.Side.NAME t f xs c.as_slice-5.result.now) (sym c.as_slice-6.ensures.value)
    (subst (λ (xs : List ℕ). AreNamed m g.S.Side.NAME t f of.nodes.items xs) (sym c.as_slice-5.ensures.value) named)

pub returns-clause-noded : goal.returns-clause-noded
returns-clause-noded g c =
    let m : Map = g.G.Heights.map c.args.grid.now in
    let t : ℕ = c.args.tiling.side in
    let least = c.args.tiling.tile_side.least in
    let f : Frame = c.area_of-area.result in
    let area : IsArea m.size t c.args.tile f = subst (λ (s : Size). IsArea s t c.args.tile f) c.requires.size c.area_of-area.ensures in
    let of = c.in_ok-nodes.field-0 in
    gathered-noded m g.S.Side.NAME t c.args.tile f (omega (arith, least)) area (area-small m.size t c.args.tile f c.args.tiling.tile_side.greatest area)
    of.nodes.items of.numbers.items of.labels.items c.in_ok-nodes.ensures _ c.from_vec.ensures refl
    (subst (λ (xs : List Node). HasPasses m g.S.Side.NAME t c.args.tile (map (pass_named xs) c.in_ok-joins.joins)) c.as_slice-6.ensures.value c.in_ok-joins.ensures.passes)
    (subst (λ (xs : List Node). JoinBelow (length xs) c.in_ok-joins.joins) c.as_slice-6.ensures.value c.in_ok-joins.ensures.named)
