use Rattle.std.proofs.Common.{◌<◌, ℕ, refl, sym, ◌∙◌, subst, arith}
use Rattle.std.proofs.lemmas.Bool.{false≢true}
use Rattle.hd_map.specs.Map.{Map, Present, cell_count}
use Rattle.hd_steep.specs.Links.{no_link}
use Rattle.hd_basin.specs.declared.frame.Frame.{Frame}
use Rattle.hd_basin.specs.Frames.{InFrame}
use Rattle.hd_basin.proofs.Areas.{area-small, place-at}
use Rattle.hd_basin.proofs.PartLinks.{number-inside, part-absent, part-has, part-here, part-inside, part-outside, link-below}
use Rattle.hd_basin.proofs.links.link_at.Goals as goal

pub returns-then-link : goal.returns-then-link
returns-then-link g c =
    let m : Map = g.G.Heights.map c.args._grid.now in
    let n : Map = g.P.Heights.map c.args._part.now in
    let p = c.args.plot in
    let t : ℕ = p.tiling.side in
    let w : Frame = c.args.frame in
    let least = p.tiling.tile_side.least in
    let few : cell_count n.size < no_link = (let cells = (g.met.P.Heights.whole c.args._part.now).size.cells in omega (arith, cells)) in
    let absent = part-absent m n g.S.Side.NAME t p.tile p.area w (omega (arith, least)) c.requires.area c.requires.part c.requires.holds few c.args.firsts.now c.requires.firsts
    c.args.row c.args.column c.requires.row c.requires.column c.if-link.true in
    record { point = λ here. absurd (absent (subst (Present m) (place-at p.area c.args.row c.args.column c.requires.column) here)); none = λ none. refl }

pub overflow_sub-above : goal.overflow_sub-above
overflow_sub-above g c =
    let m : Map = g.G.Heights.map c.args._grid.now in
    let n : Map = g.P.Heights.map c.args._part.now in
    let p = c.args.plot in
    let t : ℕ = p.tiling.side in
    let w : Frame = c.args.frame in
    let least = p.tiling.tile_side.least in
    let few : cell_count n.size < no_link = (let cells = (g.met.P.Heights.whole c.args._part.now).size.cells in omega (arith, cells)) in
    let has = part-has m n g.S.Side.NAME t p.tile p.area w (omega (arith, least)) c.requires.area c.requires.part c.requires.holds few c.args.firsts.now c.requires.firsts
    c.args.row c.args.column c.requires.row c.requires.column in
    has.top

pub overflow_sub-before : goal.overflow_sub-before
overflow_sub-before g c =
    let m : Map = g.G.Heights.map c.args._grid.now in
    let n : Map = g.P.Heights.map c.args._part.now in
    let p = c.args.plot in
    let t : ℕ = p.tiling.side in
    let w : Frame = c.args.frame in
    let least = p.tiling.tile_side.least in
    let few : cell_count n.size < no_link = (let cells = (g.met.P.Heights.whole c.args._part.now).size.cells in omega (arith, cells)) in
    let has = part-has m n g.S.Side.NAME t p.tile p.area w (omega (arith, least)) c.requires.area c.requires.part c.requires.holds few c.args.firsts.now c.requires.firsts
    c.args.row c.args.column c.requires.row c.requires.column in
    has.left

pub bounds-firsts-above : goal.bounds-firsts-above
bounds-firsts-above g c =
    let m : Map = g.G.Heights.map c.args._grid.now in
    let n : Map = g.P.Heights.map c.args._part.now in
    let p = c.args.plot in
    let t : ℕ = p.tiling.side in
    let w : Frame = c.args.frame in
    let least = p.tiling.tile_side.least in
    let few : cell_count n.size < no_link = (let cells = (g.met.P.Heights.whole c.args._part.now).size.cells in omega (arith, cells)) in
    number-inside m n g.S.Side.NAME t p.tile p.area w (omega (arith, least)) c.requires.area c.requires.part c.requires.holds few c.args.firsts.now c.requires.firsts c.args.row
    c.args.column c.requires.row c.requires.column

pub position_in-at-requires-clause-place : goal.position_in-at-requires-clause-place
position_in-at-requires-clause-place g c =
    let m : Map = g.G.Heights.map c.args._grid.now in
    let n : Map = g.P.Heights.map c.args._part.now in
    let p = c.args.plot in
    let t : ℕ = p.tiling.side in
    let w : Frame = c.args.frame in
    let least = p.tiling.tile_side.least in
    let few : cell_count n.size < no_link = (let cells = (g.met.P.Heights.whole c.args._part.now).size.cells in omega (arith, cells)) in
    link-below m n g.S.Side.NAME t p.tile p.area w (omega (arith, least)) c.requires.area c.requires.part c.requires.holds few c.args.firsts.now c.requires.firsts c.args.row
    c.args.column c.requires.row c.requires.column c.if-link.false

pub place_in-requires-clause-few : goal.place_in-requires-clause-few
place_in-requires-clause-few g c = area-small (g.G.Heights.map c.args._grid.now).size c.args.plot.tiling.side c.args.plot.tile c.args.plot.area c.args.plot.tiling.tile_side.greatest c.requires.area

pub returns-then-is_in_frame : goal.returns-then-is_in_frame
returns-then-is_in_frame g c =
    let m : Map = g.G.Heights.map c.args._grid.now in
    let n : Map = g.P.Heights.map c.args._part.now in
    let p = c.args.plot in
    let t : ℕ = p.tiling.side in
    let w : Frame = c.args.frame in
    let least = p.tiling.tile_side.least in
    let few : cell_count n.size < no_link = (let cells = (g.met.P.Heights.whole c.args._part.now).size.cells in omega (arith, cells)) in
    let here = part-here m n g.S.Side.NAME t p.tile p.area w (omega (arith, least)) c.requires.area c.requires.part c.requires.holds few c.args.firsts.now c.requires.firsts
    c.args.row c.args.column c.requires.row c.requires.column c.if-link.false in
    record {
      point = λ present. part-inside m n g.S.Side.NAME t p.tile p.area w (omega (arith, least)) c.requires.area c.requires.part c.requires.holds few c.args.firsts.now
          c.requires.firsts c.args.row c.args.column c.requires.row c.requires.column c.if-link.false c.place_in.result c.place_in.ensures.place
          (c.place_in.ensures.at ∙ c.position_in-at.ensures.value);
      none = λ none. absurd (none (subst (Present m) (sym (place-at p.area c.args.row c.args.column c.requires.column)) here));
    }

pub returns-else-is_in_frame : goal.returns-else-is_in_frame
returns-else-is_in_frame g c =
    let m : Map = g.G.Heights.map c.args._grid.now in
    let n : Map = g.P.Heights.map c.args._part.now in
    let p = c.args.plot in
    let t : ℕ = p.tiling.side in
    let w : Frame = c.args.frame in
    let least = p.tiling.tile_side.least in
    let few : cell_count n.size < no_link = (let cells = (g.met.P.Heights.whole c.args._part.now).size.cells in omega (arith, cells)) in
    let here = part-here m n g.S.Side.NAME t p.tile p.area w (omega (arith, least)) c.requires.area c.requires.part c.requires.holds few c.args.firsts.now c.requires.firsts
    c.args.row c.args.column c.requires.row c.requires.column c.if-link.false in
    record {
      point = λ present. part-outside m n g.S.Side.NAME t p.tile p.area w (omega (arith, least)) c.requires.area c.requires.part c.requires.holds few c.args.firsts.now
          c.requires.firsts c.args.row c.args.column c.requires.row c.requires.column c.if-link.false
          (λ inside. false≢true (c.if-is_in_frame.ensures.1 (subst (InFrame p.area) (sym c.position_in-at.ensures.value) inside)));
      none = λ none. absurd (none (subst (Present m) (sym (place-at p.area c.args.row c.args.column c.requires.column)) here));
    }
