use Rattle.std.proofs.Common.{◌≡◌, ◌<◌, ◌+◌, ◌++◌, ◌∷◌, [], ◌∙◌, ℕ, List, Some, ap, arith, get_or, length, map, refl, slice_get, subst, sym, take}
use Rattle.std.specs.Prelude.{Contains, pos}
use Rattle.std.proofs.lemmas.List.{take_all}
use Rattle.std.proofs.lemmas.List.Elements.{Contains-get_or}
use Rattle.std.proofs.lemmas.Option.{same_Some}
use Rattle.hd_map.specs.declared.types.Pass.{Pass}
use Rattle.hd_basin.specs.declared.part.Join.{Join}
use Rattle.hd_basin.specs.declared.part.Part.{Part}
use Rattle.hd_basin.specs.Between.{AddsLinks, LiesIn}
use Rattle.hd_basin.specs.Graph.{in_order}
use Rattle.hd_basin.specs.Parts.{IsSound, Pool, pass_named}
use Rattle.hd_basin.specs.Roots.{Rooted}
use Rattle.hd_basin.proofs.AreKnown.{lies-in, read-inside}
use Rattle.hd_basin.proofs.BetweenRoots.{adds-more, adds-none, adds-one}
use Rattle.hd_basin.proofs.FlatLists.{map-more, map-twice}
use Rattle.hd_basin.proofs.basins.Basins.link_inside.Goals as goal

-- a pass within a tile names two of its nodes
join-below : (pool : Pool) (tile : ℕ) (part : Part) (j : Join) → IsSound pool → slice_get pool.parts tile ≡ Some part → Contains part.joins j → (j.a < length part.nodes) × (j.b < length part.nodes)
join-below pool tile part j sound at has = (sound.names tile part at).passes j has

pub joins-init : goal.joins-init
joins-init g c = λ part at. adds-none g.S.Side.NAME c.args.self.now c.args.roots.now.pits c.args.links.now.items

pub overflow_add-first : goal.overflow_add-first
overflow_add-first g c =
    let pool = c.args.self.now in
    let part = c.part-part.result in
    let none : Join = record { a = 0; b = 0; at = record { height = pos 0; index = 0 } } in
    let at : slice_get pool.parts c.args.tile ≡ Some part = ap (λ (p : Pool). slice_get p.parts c.args.tile) (sym c.self.view_is) ∙ c.part-part.ensures in
    let j : Join = get_or c.joins-joins.result.now c.joins.join-index none in
    let below = join-below pool c.args.tile part j (subst IsSound c.self.view_is c.self.invariant) at
    (subst (λ (js : List Join). Contains js j) c.joins-joins.ensures (Contains-get_or c.joins-joins.result.now c.joins.join-index none c.joins-test.true)) in
    let inside = read-inside pool.parts c.args.roots.now c.requires.roots.firsts c.requires.roots.whole c.roots.inside.firsts.items c.roots.inside.numbers.items
    (ap (λ (r : Rooted). r.firsts) c.roots.view_is) (ap (λ (r : Rooted). r.numbers) c.roots.view_is) c.args.tile j.a part at below.0 c.index-first.result.now c.index-first.ensures in
    let small = c.roots.inside.numbers.small in
    let whole = c.roots.inside.numbers.ok in
    omega (arith, inside, small, whole)

pub index-a-requires : goal.index-a-requires
index-a-requires g c =
    let pool = c.args.self.now in
    let part = c.part-part.result in
    let none : Join = record { a = 0; b = 0; at = record { height = pos 0; index = 0 } } in
    let at : slice_get pool.parts c.args.tile ≡ Some part = ap (λ (p : Pool). slice_get p.parts c.args.tile) (sym c.self.view_is) ∙ c.part-part.ensures in
    let j : Join = get_or c.joins-joins.result.now c.joins.join-index none in
    let below = join-below pool c.args.tile part j (subst IsSound c.self.view_is c.self.invariant) at
    (subst (λ (js : List Join). Contains js j) c.joins-joins.ensures (Contains-get_or c.joins-joins.result.now c.joins.join-index none c.joins-test.true)) in
    let inside = read-inside pool.parts c.args.roots.now c.requires.roots.firsts c.requires.roots.whole c.roots.inside.firsts.items c.roots.inside.numbers.items
    (ap (λ (r : Rooted). r.firsts) c.roots.view_is) (ap (λ (r : Rooted). r.numbers) c.roots.view_is) c.args.tile j.a part at below.0 c.index-first.result.now c.index-first.ensures in
    let small = c.roots.inside.numbers.small in
    let whole = c.roots.inside.numbers.ok in
    omega (arith, inside, small, whole)

pub overflow_add-first-in-joins : goal.overflow_add-first-in-joins
overflow_add-first-in-joins g c =
    let pool = c.args.self.now in
    let part = c.part-part.result in
    let none : Join = record { a = 0; b = 0; at = record { height = pos 0; index = 0 } } in
    let at : slice_get pool.parts c.args.tile ≡ Some part = ap (λ (p : Pool). slice_get p.parts c.args.tile) (sym c.self.view_is) ∙ c.part-part.ensures in
    let j : Join = get_or c.joins-joins.result.now c.joins.join-index none in
    let below = join-below pool c.args.tile part j (subst IsSound c.self.view_is c.self.invariant) at
    (subst (λ (js : List Join). Contains js j) c.joins-joins.ensures (Contains-get_or c.joins-joins.result.now c.joins.join-index none c.joins-test.true)) in
    let inside = read-inside pool.parts c.args.roots.now c.requires.roots.firsts c.requires.roots.whole c.roots.inside.firsts.items c.roots.inside.numbers.items
    (ap (λ (r : Rooted). r.firsts) c.roots.view_is) (ap (λ (r : Rooted). r.numbers) c.roots.view_is) c.args.tile j.b part at below.1 c.index-first.result.now c.index-first.ensures in
    let small = c.roots.inside.numbers.small in
    let whole = c.roots.inside.numbers.ok in
    omega (arith, inside, small, whole)

pub index-b-requires : goal.index-b-requires
index-b-requires g c =
    let pool = c.args.self.now in
    let part = c.part-part.result in
    let none : Join = record { a = 0; b = 0; at = record { height = pos 0; index = 0 } } in
    let at : slice_get pool.parts c.args.tile ≡ Some part = ap (λ (p : Pool). slice_get p.parts c.args.tile) (sym c.self.view_is) ∙ c.part-part.ensures in
    let j : Join = get_or c.joins-joins.result.now c.joins.join-index none in
    let below = join-below pool c.args.tile part j (subst IsSound c.self.view_is c.self.invariant) at
    (subst (λ (js : List Join). Contains js j) c.joins-joins.ensures (Contains-get_or c.joins-joins.result.now c.joins.join-index none c.joins-test.true)) in
    let inside = read-inside pool.parts c.args.roots.now c.requires.roots.firsts c.requires.roots.whole c.roots.inside.firsts.items c.roots.inside.numbers.items
    (ap (λ (r : Rooted). r.firsts) c.roots.view_is) (ap (λ (r : Rooted). r.numbers) c.roots.view_is) c.args.tile j.b part at below.1 c.index-first.result.now c.index-first.ensures in
    let small = c.roots.inside.numbers.small in
    let whole = c.roots.inside.numbers.ok in
    omega (arith, inside, small, whole)

pub joins-preserved : goal.joins-preserved
joins-preserved g c = λ named is. (
    let side = g.S.Side.NAME in
    let pits = c.args.roots.now.pits in
    let has = c.requires.map in
    let pool = c.args.self.now in
    let part = c.part-part.result in
    let none : Join = record { a = 0; b = 0; at = record { height = pos 0; index = 0 } } in
    let at : slice_get pool.parts c.args.tile ≡ Some part = ap (λ (p : Pool). slice_get p.parts c.args.tile) (sym c.self.view_is) ∙ c.part-part.ensures in
    let j : Join = get_or c.joins-joins.result.now c.joins.join-index none in
    let below = join-below pool c.args.tile part j (subst IsSound c.self.view_is c.self.invariant) at
    (subst (λ (js : List Join). Contains js j) c.joins-joins.ensures (Contains-get_or c.joins-joins.result.now c.joins.join-index none c.joins-test.true)) in
    let p : Pass = pass_named part.nodes j in
    let a : LiesIn side pool pits p.a c.index-a.result.now = lies-in side pool c.args.roots.now c.requires.roots c.roots.inside.firsts.items c.roots.inside.numbers.items
    (ap (λ (r : Rooted). r.firsts) c.roots.view_is) (ap (λ (r : Rooted). r.numbers) c.roots.view_is) c.args.tile j.a part at below.0 c.index-first.result.now c.index-a.result.now
    c.index-first.ensures c.index-a.ensures in
    let b : LiesIn side pool pits p.b c.index-b.result.now = lies-in side pool c.args.roots.now c.requires.roots c.roots.inside.firsts.items c.roots.inside.numbers.items
    (ap (λ (r : Rooted). r.firsts) c.roots.view_is) (ap (λ (r : Rooted). r.numbers) c.roots.view_is) c.args.tile j.b part at below.1 c.index-first.result.now c.index-b.result.now
    c.index-first.ensures c.index-b.ensures in
    let one : AddsLinks side pool pits (in_order side p ∷ []) c.joins.links.items c.push_link.new.links.items =
    subst (AddsLinks side pool pits (in_order side p ∷ []) c.joins.links.items) (sym c.in_ok-push_link.ensures)
    (adds-one side pool pits (c.requires.roots.pits has.map has.whole has.pool_of).in_order has p c.index-a.result.now c.index-b.result.now c.joins.links.items a b) in
    let f : Join → Pass = λ x. in_order side (pass_named part.nodes x) in
    let before : List Pass = map f (take c.joins.join-index c.joins-joins.result.now) in
    let more : before ++ in_order side p ∷ [] ≡ map f (take (c.joins.join-index + 1) c.joins-joins.result.now) =
    map-more f [] before (before ++ in_order side p ∷ []) c.joins-joins.result.now c.joins.join-index none (in_order side p) c.joins-test.true refl refl refl in
    subst (λ (q : Part). AddsLinks side pool pits (map (λ x. in_order side (pass_named q.nodes x))
    (take (c.joins.join-index + 1) c.joins-joins.result.now)) c.args.links.now.items c.push_link.new.links.items)
    (same_Some part named (sym at ∙ is))
    (subst (λ (ps : List Pass). AddsLinks side pool pits ps c.args.links.now.items c.push_link.new.links.items) more
    (adds-more side pool pits before (in_order side p ∷ []) c.args.links.now.items c.joins.links.items c.push_link.new.links.items (c.joins.invariant part at) one)))

pub returns : goal.returns
returns g c = λ part at. (
    let side = g.S.Side.NAME in
    let pool = c.args.self.now in
    let here : slice_get pool.parts c.args.tile ≡ Some c.part-part.result = ap (λ (p : Pool). slice_get p.parts c.args.tile) (sym c.self.view_is) ∙ c.part-part.ensures in
    let all : take c.joins.join-index c.joins-joins.result.now ≡ part.joins = take_all c.joins.join-index c.joins-joins.result.now c.joins-test.false ∙ c.joins-joins.ensures
    ∙ ap (λ (p : Part). p.joins) (same_Some c.part-part.result part (sym here ∙ at)) in
    subst (λ (ps : List Pass). AddsLinks side pool c.args.roots.now.pits ps c.args.links.now.items c.joins.links.items)
    (ap (map (λ x. in_order side (pass_named part.nodes x))) all ∙ map-twice (in_order side) (pass_named part.nodes) part.joins) (c.joins.invariant part at))
