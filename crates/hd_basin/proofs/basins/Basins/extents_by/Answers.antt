use Rattle.std.proofs.Common.{◌≡◌, ◌≢◌, ◌∙◌, List, Option, None, ap, arith, length, replicate, rules, subst, sym, take}
use Rattle.std.specs.Prelude.{All}
use Rattle.std.proofs.lemmas.List.{take_all}
use Rattle.std.proofs.lemmas.Result.{IfOk-weaker}
use Rattle.hd_basin.specs.declared.extent.Extent.{Extent}
use Rattle.hd_basin.specs.declared.node.Node.{Node}
use Rattle.hd_basin.specs.declared.part.Part.{Part}
use Rattle.hd_basin.specs.Extents.{AreGathered}
use Rattle.hd_basin.specs.Parts.{Pool}
use Rattle.hd_basin.specs.Roots.{all_nodes}
use Rattle.hd_basin.proofs.GatheredExtents.{all-known, extents-right, gathered-none}
use Rattle.hd_basin.proofs.basins.Basins.extents_by.Goals as goal

pub tiles-init : goal.tiles-init
tiles-init g c = λ m whole of. (
    let n = length c.pits.result.now in
    let all : c.in_ok-extents.extents.items ≡ replicate n None = c.in_ok-extents.ensures.items_if_clones_equal (λ y e. search rules) in
    subst (AreGathered m g.S.Side.NAME c.args.self.now.side c.args.roots.now.pits (take 0 (all_nodes c.args.self.now.parts))) (sym all)
    (gathered-none m g.S.Side.NAME c.args.self.now.side c.args.roots.now.pits n (ap length c.pits.ensures)))

pub listed-requires : goal.listed-requires
listed-requires g c =
    let pool = c.args.self.now in
    let has = c.requires.map in
    let count : c.count-tiles.result ≡ length pool.parts = c.count-tiles.ensures ∙ ap (λ (p : Pool). length p.parts) c.self.view_is in
    let past = c.tiles-test.false in
    let all : take (length (all_nodes (take c.tiles.tile pool.parts))) (all_nodes pool.parts) ≡ all_nodes pool.parts =
    ap (λ (ps : List Part). take (length (all_nodes ps)) (all_nodes pool.parts)) (take_all c.tiles.tile pool.parts (omega (arith, count, past))) ∙ take_all (length (all_nodes pool.parts))
    (all_nodes pool.parts) (omega arith) in
    let gathered = subst (λ (ns : List Node). AreGathered has.map g.S.Side.NAME pool.side c.args.roots.now.pits ns c.tiles.extents.items) all (c.tiles.invariant has.map has.whole has.pool_of) in
    subst (All (λ (e : Option Extent). e ≢ None)) (sym c.deref.ensures.value)
    (all-known g.S.Side.NAME pool c.args.roots.now c.requires.roots has.map has.whole has.pool_of c.tiles.extents.items gathered)

pub returns : goal.returns
returns g c =
    let pool = c.args.self.now in
    let count : c.count-tiles.result ≡ length pool.parts = c.count-tiles.ensures ∙ ap (λ (p : Pool). length p.parts) c.self.view_is in
    let past = c.tiles-test.false in
    let all : take (length (all_nodes (take c.tiles.tile pool.parts))) (all_nodes pool.parts) ≡ all_nodes pool.parts =
    ap (λ (ps : List Part). take (length (all_nodes ps)) (all_nodes pool.parts)) (take_all c.tiles.tile pool.parts (omega (arith, count, past))) ∙ take_all (length (all_nodes pool.parts))
    (all_nodes pool.parts) (omega arith) in
    IfOk-weaker c.listed.result _ _
    (λ list listed m whole of. extents-right g.S.Side.NAME pool c.args.roots.now c.requires.roots m whole of c.tiles.extents.items
    (subst (λ (ns : List Node). AreGathered m g.S.Side.NAME pool.side c.args.roots.now.pits ns c.tiles.extents.items) all (c.tiles.invariant m whole of))
    list (listed ∙ c.deref.ensures.value))
    c.listed.ensures
