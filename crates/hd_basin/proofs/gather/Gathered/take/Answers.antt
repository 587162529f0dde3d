use Rattle.std.proofs.Common.{◌≡◌, ◌<◌, ◌≤◌, ◌*◌, ◌+◌, ◌++◌, ◌∷◌, [], ℕ, List, inl, inr, sym, ◌∙◌, ap, subst, arith}
use Rattle.hd_map.specs.declared.types.Pos.{Pos}
use Rattle.hd_map.specs.declared.types.Size.{Size}
use Rattle.hd_map.specs.Map.{Map, Present}
use Rattle.hd_basin.specs.declared.frame.Frame.{Frame}
use Rattle.hd_basin.specs.Gathering.{Counts, IsGathered}
use Rattle.hd_basin.specs.Inside.{place_of_frame}
use Rattle.hd_basin.specs.Parts.{place_in_tile}
use Rattle.hd_basin.specs.Sinks.{at_place, no_node}
use Rattle.hd_basin.proofs.Areas.{area-small}
use Rattle.hd_basin.proofs.Frames.{frame_step}
use Rattle.hd_basin.proofs.Gathers.{gathered-absent, gathered-starts, gathered-adds, numbers-known}
use Rattle.hd_basin.proofs.IsSunk.{sink-home, sunk-absent, sunk-here}
use Rattle.hd_basin.proofs.gather.Gathered.take.Goals as goal

-- the point is present
pub count-requires-clause-at : goal.count-requires-clause-at
count-requires-clause-at g c =
    let m : Map = g.G.Heights.map c.args.grid.now in
    let t : ℕ = c.args.plot.tiling.side in
    let f : Frame = c.args.plot.area in
    let some : 1 ≤ t = (let least = c.args.plot.tiling.tile_side.least in omega (arith, least)) in
    let step = frame_step f c.args.at c.requires.at in
    subst (Present m) step.1 (sunk-here m g.S.Side.NAME t c.args.plot.tile f some c.requires.area (place_of_frame f c.args.at) step.0 c.args.sink c.requires.sunk c.if-sink-eq-NO_LINK.false)

pub count-requires-clause-sink : goal.count-requires-clause-sink
count-requires-clause-sink g c =
    let m : Map = g.G.Heights.map c.args.grid.now in
    let t : ℕ = c.args.plot.tiling.side in
    let f : Frame = c.args.plot.area in
    let some : 1 ≤ t = (let least = c.args.plot.tiling.tile_side.least in omega (arith, least)) in
    c.requires.sunk.present (sunk-here m g.S.Side.NAME t c.args.plot.tile f some c.requires.area (place_of_frame f c.args.at)
    (frame_step f c.args.at c.requires.at).0 c.args.sink c.requires.sunk c.if-sink-eq-NO_LINK.false)

pub count-requires-clause-sink_in : goal.count-requires-clause-sink_in
count-requires-clause-sink_in g c =
    let m : Map = g.G.Heights.map c.args.grid.now in
    let t : ℕ = c.args.plot.tiling.side in
    let f : Frame = c.args.plot.area in
    let some : 1 ≤ t = (let least = c.args.plot.tiling.tile_side.least in omega (arith, least)) in
    c.requires.sunk.inside (sunk-here m g.S.Side.NAME t c.args.plot.tile f some c.requires.area (place_of_frame f c.args.at)
    (frame_step f c.args.at c.requires.at).0 c.args.sink c.requires.sunk c.if-sink-eq-NO_LINK.false)

pub count-requires-clause-home : goal.count-requires-clause-home
count-requires-clause-home g c =
    let m : Map = g.G.Heights.map c.args.grid.now in
    let t : ℕ = c.args.plot.tiling.side in
    let f : Frame = c.args.plot.area in
    let some : 1 ≤ t = (let least = c.args.plot.tiling.tile_side.least in omega (arith, least)) in
    let here = sunk-here m g.S.Side.NAME t c.args.plot.tile f some c.requires.area (place_of_frame f c.args.at)
    (frame_step f c.args.at c.requires.at).0 c.args.sink c.requires.sunk c.if-sink-eq-NO_LINK.false in
    sym (ap (λ (s : Size). place_in_tile s t (at_place f c.args.sink)) c.requires.size ∙ sink-home m t c.args.plot.tile f some c.requires.area c.args.sink (c.requires.sunk.inside here))

pub count-requires-clause-inside : goal.count-requires-clause-inside
count-requires-clause-inside g c =
    let m : Map = g.G.Heights.map c.args.grid.now in
    let t : ℕ = c.args.plot.tiling.side in
    let f : Frame = c.args.plot.area in
    let some : 1 ≤ t = (let least = c.args.plot.tiling.tile_side.least in omega (arith, least)) in
    let here = sunk-here m g.S.Side.NAME t c.args.plot.tile f some c.requires.area (place_of_frame f c.args.at)
    (frame_step f c.args.at c.requires.at).0 c.args.sink c.requires.sunk c.if-sink-eq-NO_LINK.false in
    let within = c.requires.sunk.inside here in
    let count = c.requires.before.numbers_count in
    omega (arith, within, count)

pub count-requires-clause-few : goal.count-requires-clause-few
count-requires-clause-few g c =
    let m : Map = g.G.Heights.map c.args.grid.now in
    let small = area-small m.size c.args.plot.tiling.side c.args.plot.tile c.args.plot.area c.args.plot.tiling.tile_side.greatest c.requires.area in
    let few = c.requires.before.few in
    let place = (frame_step c.args.plot.area c.args.at c.requires.at).0 in
    omega (arith, few, place, small)

pub count-requires-clause-known : goal.count-requires-clause-known
count-requires-clause-known g c =
    let m : Map = g.G.Heights.map c.args.grid.now in
    let t : ℕ = c.args.plot.tiling.side in
    let f : Frame = c.args.plot.area in
    let side = c.args.plot.tiling.tile_side in
    let small = area-small m.size t c.args.plot.tile f side.greatest c.requires.area in
    let some : 1 ≤ t = (let least = side.least in omega (arith, least)) in
    let k : ℕ = place_of_frame f c.args.at in
    let below : k < f.columns * f.rows = (frame_step f c.args.at c.requires.at).0 in
    let here = sunk-here m g.S.Side.NAME t c.args.plot.tile f some c.requires.area k below c.args.sink c.requires.sunk c.if-sink-eq-NO_LINK.false in
    numbers-known m g.S.Side.NAME t c.args.plot.tile f k some c.requires.area below
    (omega (arith, small)) c.args.self.now.nodes.items c.args.self.now.numbers.items c.args.self.now.labels.items c.requires.before (at_place f c.args.sink)
    here (c.requires.sunk.present here) (c.requires.sunk.sink here)

pub count-requires-clause-small : goal.count-requires-clause-small
count-requires-clause-small g c = λ i n at. (
    let m : Map = g.G.Heights.map c.args.grid.now in
    let small = area-small m.size c.args.plot.tiling.side c.args.plot.tile c.args.plot.area c.args.plot.tiling.tile_side.greatest c.requires.area in
    let few = (c.requires.before.nodes i n at).few in
    let place = (frame_step c.args.plot.area c.args.at c.requires.at).0 in
    omega (arith, few, place, small))

pub returns-then-sink-eq-NO_LINK : goal.returns-then-sink-eq-NO_LINK
returns-then-sink-eq-NO_LINK g c =
    let m : Map = g.G.Heights.map c.args.grid.now in
    let side = c.args.plot.tiling.tile_side in
    let t : ℕ = c.args.plot.tiling.side in
    let f : Frame = c.args.plot.area in
    let k : ℕ = place_of_frame f c.args.at in
    let below : k < f.columns * f.rows = (frame_step f c.args.at c.requires.at).0 in
    let small = area-small m.size t c.args.plot.tile f side.greatest c.requires.area in
    let absent : Present m (at_place f k) → ⊥ = sunk-absent m g.S.Side.NAME t f (omega (arith, small)) k c.args.sink c.requires.sunk c.if-sink-eq-NO_LINK.true in
    let pushed : c.push.new.self.items ≡ c.args.self.now.labels.items ++ no_node ∷ [] = c.in_ok-push.ensures.items in
    subst (λ (ls : List ℕ). IsGathered m g.S.Side.NAME t c.args.plot.tile f (k + 1) c.args.self.now.nodes.items c.args.self.now.numbers.items ls) (sym pushed)
    (gathered-absent m g.S.Side.NAME t c.args.plot.tile f k (let least = side.least in omega (arith, least)) c.requires.area below
    (omega (arith, small)) c.args.self.now.nodes.items c.args.self.now.numbers.items c.args.self.now.labels.items c.requires.before absent)

pub returns : goal.returns
returns g c =
    let m : Map = g.G.Heights.map c.args.grid.now in
    let side = c.args.plot.tiling.tile_side in
    let t : ℕ = c.args.plot.tiling.side in
    let f : Frame = c.args.plot.area in
    let k : ℕ = place_of_frame f c.args.at in
    let step = frame_step f c.args.at c.requires.at in
    let below : k < f.columns * f.rows = step.0 in
    let old = c.args.self.now in
    let new = c.count.new.self in
    let small = area-small m.size t c.args.plot.tile f side.greatest c.requires.area in
    let bound : f.columns * f.rows ≤ no_node = omega (arith, small) in
    let some : 1 ≤ t = (let least = side.least in omega (arith, least)) in
    let here = sunk-here m g.S.Side.NAME t c.args.plot.tile f some c.requires.area k below c.args.sink c.requires.sunk c.if-sink-eq-NO_LINK.false in
    let there = c.requires.sunk.present here in
    let of = c.requires.sunk.sink here in
    let q : Pos = at_place f c.args.sink in
    let counts : Counts m g.S.Side.NAME t c.args.plot.tile (at_place f k) q old.nodes.items new.nodes.items old.numbers.items new.numbers.items c.in_ok-label.label =
    subst (λ (p : Pos). Counts m g.S.Side.NAME t c.args.plot.tile p q old.nodes.items new.nodes.items old.numbers.items new.numbers.items c.in_ok-label.label)
    (sym step.1) c.in_ok-label.ensures.counts in
    let pushed : c.push-2.new.self.items ≡ new.labels.items ++ c.in_ok-label.label ∷ [] = c.in_ok-push-2.ensures.items in
    let labels : c.push-2.new.self.items ≡ old.labels.items ++ c.in_ok-label.label ∷ [] = pushed ∙ ap (λ (ls : List ℕ). ls ++ c.in_ok-label.label ∷ []) c.count.ensures.labels in
    subst (λ (ls : List ℕ). IsGathered m g.S.Side.NAME t c.args.plot.tile f (k + 1) new.nodes.items new.numbers.items ls) (sym labels) (elim counts [
      | inl starts ↦ gathered-starts m g.S.Side.NAME t c.args.plot.tile f k some c.requires.area below bound old.nodes.items old.numbers.items old.labels.items c.requires.before q
          here there of new.nodes.items new.numbers.items c.in_ok-label.label starts
      | inr adds ↦ gathered-adds m g.S.Side.NAME t c.args.plot.tile f k some c.requires.area below bound old.nodes.items old.numbers.items old.labels.items c.requires.before q here
          there of new.nodes.items new.numbers.items c.in_ok-label.label adds
    ])
