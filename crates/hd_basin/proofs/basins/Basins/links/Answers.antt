use Rattle.std.proofs.Common.{◌≡◌, ◌<◌, ◌+◌, ◌++◌, ◌∷◌, [], ◌∙◌, ℕ, List, Some, ap, arith, get_or, length, map, refl, slice_get, subst, sym, take}
use Rattle.std.specs.List.{flat_map}
use Rattle.std.proofs.lemmas.List.{take_all}
use Rattle.std.proofs.lemmas.List.Elements.{All-nil}
use Rattle.std.proofs.lemmas.Option.{get_or_from_slice_get, slice_get-get_or}
use Rattle.hd_map.specs.declared.types.Pass.{Pass}
use Rattle.hd_graph.specs.Graph.{Net}
use Rattle.hd_steep.specs.Crossings.{HasPits, passes_of}
use Rattle.hd_basin.specs.declared.part.Part.{Part}
use Rattle.hd_basin.specs.Basin.{IsSinkOf}
use Rattle.hd_basin.specs.Between.{AddsLinks, AreBetweenRoots}
use Rattle.hd_basin.specs.Graph.{in_order, lows_in, pass_of, passes_in}
use Rattle.hd_basin.specs.Parts.{IsSound, Pool, inner_passes}
use Rattle.hd_basin.proofs.BetweenRoots.{adds-more, between-none}
use Rattle.hd_basin.proofs.FlatLists.{flat-more}
use Rattle.hd_basin.proofs.PoolGraph.{graph-crossings, pool-graph}
use Rattle.hd_basin.proofs.Rooted.{between-crossings}
use Rattle.hd_basin.proofs.SinkLaws.{sink-root}
use Rattle.hd_basin.proofs.basins.Basins.links.Goals as goal

-- the part at a place
item : (parts : List Part) (k : ℕ) → k < length parts → (part : Part) × (slice_get parts k ≡ Some part)
item [] k below = absurd (omega arith)
item (p ∷ parts) k below = (get_or (p ∷ parts) k p, slice_get-get_or (p ∷ parts) k p below)

pub tiles-preserved : goal.tiles-preserved
tiles-preserved g c =
    let side = g.S.Side.NAME in
    let pool = c.args.self.now in
    let pits = c.args.roots.now.pits in
    let k = c.tiles.tile in
    let count : c.count-tiles.result ≡ length pool.parts = c.count-tiles.ensures ∙ ap (λ (p : Pool). length p.parts) c.self.view_is in
    let less = c.tiles-test.true in
    let below : k < length pool.parts = omega (arith, count, less) in
    let here = item pool.parts k below in
    let part : Part = here.0 in
    let inside : List Pass = map (in_order side) (inner_passes part) in
    let across : List Pass = flat_map (pass_of side pool.parts) part.seams in
    let before : List Pass = flat_map (passes_in side pool.parts) (take k pool.parts) in
    let more : before ++ passes_in side pool.parts part ≡ flat_map (passes_in side pool.parts) (take (k + 1) pool.parts) =
    flat-more (passes_in side pool.parts) [] before (before ++ passes_in side pool.parts part) pool.parts k part (passes_in side pool.parts part) below
    (ap (passes_in side pool.parts) (sym (get_or_from_slice_get pool.parts k part part here.1))) refl refl in
    subst (λ (ps : List Pass). AddsLinks side pool pits ps [] c.link_across.new.links.items) more
    (adds-more side pool pits before (passes_in side pool.parts part) [] c.tiles.links.items c.link_across.new.links.items c.tiles.invariant
    (adds-more side pool pits inside across c.tiles.links.items c.link_inside.new.links.items c.link_across.new.links.items (c.in_ok-link_inside.ensures part here.1)
    (c.in_ok-link_across.ensures part here.1)))

pub returns-clause-ends : goal.returns-clause-ends
returns-clause-ends g c = c.tiles.invariant.ends (All-nil (HasPits c.args.roots.now.pits))

pub returns-clause-crossings : goal.returns-clause-crossings
returns-clause-crossings g c = λ m whole of labels regions. (
    let side = g.S.Side.NAME in
    let pool = c.args.self.now in
    let t = pool.side in
    let pits = c.args.roots.now.pits in
    let count : c.count-tiles.result ≡ length pool.parts = c.count-tiles.ensures ∙ ap (λ (p : Pool). length p.parts) c.self.view_is in
    let past = c.tiles-test.false in
    let sound = subst IsSound c.self.view_is c.self.invariant in
    let net : Net = record { lows = flat_map lows_in pool.parts; passes = flat_map (passes_in side pool.parts) pool.parts } in
    let is = pool-graph m side pool of sound in
    let all : take c.tiles.tile pool.parts ≡ pool.parts = take_all c.tiles.tile pool.parts (omega (arith, count, past)) in
    let between : AreBetweenRoots m side net.passes (passes_of side pits c.tiles.links.items) =
    subst (λ (ps : List Part). AreBetweenRoots m side (flat_map (passes_in side pool.parts) ps) (passes_of side pits c.tiles.links.items)) all
    (c.tiles.invariant.between m whole of [] (between-none m side)) in
    between-crossings m side (IsSinkOf m side t) is.basins (λ x a r own root. (sink-root m side t x a r own).1 root) (λ x a r own root. (sink-root m side t x a r own).0 root)
    labels regions net.passes (passes_of side pits c.tiles.links.items) (graph-crossings m side t net is) between)
