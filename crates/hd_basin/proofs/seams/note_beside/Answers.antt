use Rattle.std.proofs.Common.{◌≡◌, ◌+◌, ◌*◌, ℕ, List, refl, sym, ◌∙◌, subst, arith}
use Rattle.hd_map.specs.declared.types.Pos.{Pos}
use Rattle.hd_map.specs.Map.{Map, Present}
use Rattle.hd_map.specs.Rank.{rank}
use Rattle.hd_tiles.specs.Tile.{IsRound}
use Rattle.hd_basin.specs.declared.frame.Frame.{Frame}
use Rattle.hd_basin.specs.Built.{IsAskedNext, IsKnown}
use Rattle.hd_basin.specs.Inside.{place_of_frame}
use Rattle.hd_basin.specs.Seams.{AreCandidates}
use Rattle.hd_basin.specs.Sinks.{at_place}
use Rattle.hd_basin.specs.Views.{ShowSame}
use Rattle.hd_basin.proofs.Areas.{area-in}
use Rattle.hd_basin.proofs.Candidates.{pairs-begin, pairs-end, pairs-more, pairs-skip}
use Rattle.hd_basin.proofs.Frames.{frame_step}
use Rattle.hd_basin.proofs.Views.{present_kept, rank_kept}
use Rattle.hd_basin.proofs.seams.note_beside.Goals as goal

pub returns-in_default : goal.returns-in_default
returns-in_default g c =
    let v = c.args.sight.now in
    let m : Map = g.T.Looked.map v.tiles.now in
    let t : ℕ = v.tiling.side in
    let stamps : List ℕ = g.T.Looked.stamps v.tiles.now in
    let k : ℕ = c.args._place in
    let f : Frame = v.frame in
    pairs-skip m g.S.Side.NAME t v.tile stamps v.parts.now f k (k + 1) c.args.all.now.items (omega arith)
    (λ j low high known here. (
    let same : j ≡ k = omega (arith, low, high) in
    let at : at_place f j ≡ c.args.near = subst (λ (n : ℕ). at_place f n ≡ c.args.near) (sym same) (sym c.requires.place) in
    c.in_default.ensures (subst (IsKnown m.size t stamps v.parts.now) at known) (subst (Present m) at here)))
    c.requires.before

-- a position of the frame is shown
seen : (m n : Map) (t tile : ℕ) (q : Pos) → ShowSame m n t tile → IsRound m.size t tile q → Present m q → Present n q × (rank m q ≡ rank n q)
seen m n t tile q shows round here = (present_kept m n t tile shows q round here, rank_kept m n t tile shows q here round)

pub rank_of-requires : goal.rank_of-requires
rank_of-requires g c =
    let v = c.args.sight.now in
    let m : Map = g.T.Looked.map v.tiles.now in
    let n : Map = g.G.Heights.map v.window.now in
    let e = c.in-Some.ensures in
    (seen m n v.tiling.side v.tile c.args.near c.requires.sees.shows (c.requires.sees.only c.args.near c.requires.near) e.present).0

pub places-init : goal.places-init
places-init g c =
    let v = c.args.sight.now in
    pairs-begin (g.T.Looked.map v.tiles.now) g.S.Side.NAME v.tiling.side v.tile (g.T.Looked.stamps v.tiles.now) v.parts.now v.frame c.args._place c.beside_in-beside.result
    c.args.all.now.items c.requires.before

pub note_pair-requires-clause-here : goal.note_pair-requires-clause-here
note_pair-requires-clause-here g c = ((c.beside_in-beside.ensures.each c.position_in-here.result).0 c.position_in-here.ensures.in_frame).0

pub note_pair-requires-clause-columns : goal.note_pair-requires-clause-columns
note_pair-requires-clause-columns g c = ((c.beside_in-beside.ensures.each c.position_in-here.result).0 c.position_in-here.ensures.in_frame).1

pub note_pair-requires-clause-rows : goal.note_pair-requires-clause-rows
note_pair-requires-clause-rows g c = ((c.beside_in-beside.ensures.each c.position_in-here.result).0 c.position_in-here.ensures.in_frame).2

pub note_pair-requires-clause-rank : goal.note_pair-requires-clause-rank
note_pair-requires-clause-rank g c =
    let v = c.args.sight.now in
    let m : Map = g.T.Looked.map v.tiles.now in
    let n : Map = g.G.Heights.map v.window.now in
    let e = c.in-Some.ensures in
    c.rank_of.ensures ∙ sym (seen m n v.tiling.side v.tile c.args.near c.requires.sees.shows (c.requires.sees.only c.args.near c.requires.near) e.present).1

pub places-preserved : goal.places-preserved
places-preserved g c =
    let v = c.args.sight.now in
    pairs-more (g.T.Looked.map v.tiles.now) g.S.Side.NAME v.tiling.side v.tile (g.T.Looked.stamps v.tiles.now) v.parts.now v.frame c.args._place c.beside_in-beside.result
    c.places.place c.position_in-here.result c.args.near
    c.places.all.items c.note_pair.new.all.items c.position_in-here.ensures.value c.requires.place c.in_ok-note_pair.ensures c.places.invariant

pub returns : goal.returns
returns g c =
    let v = c.args.sight.now in
    let m : Map = g.T.Looked.map v.tiles.now in
    let t : ℕ = v.tiling.side in
    let stamps : List ℕ = g.T.Looked.stamps v.tiles.now in
    let f : Frame = v.frame in
    let b : Frame = c.beside_in-beside.result in
    let n : ℕ = b.columns * b.rows in
    let least = v.tiling.tile_side.least in
    let done : c.places.place ≡ n = omega arith in
    pairs-end m g.S.Side.NAME t v.tile stamps v.parts.now f c.args._place b n c.places.all.items
    (λ p at near. (
    let inside = area-in m.size t v.tile v.area (omega (arith, least)) c.requires.sees.area_is p near.from.in_grid at in
    let here : at_place f c.args._place ≡ c.args.near = sym c.requires.place in
    let x : (at_place f c.args._place).x ≡ c.args.near.x = subst (λ (q : Pos). (at_place f c.args._place).x ≡ q.x) here refl in
    let y : (at_place f c.args._place).y ≡ c.args.near.y = subst (λ (q : Pos). (at_place f c.args._place).y ≡ q.y) here refl in
    let columns = near.columns in
    let rows = near.rows in
    let within = (c.beside_in-beside.ensures.each p).1 (inside, (omega (arith, columns, x), omega (arith, columns, x)), (omega (arith, rows, y), omega (arith, rows, y))) in
    let step = frame_step b p within in
    (place_of_frame b p, step.0, sym step.1)))
    (subst (λ (i : ℕ). AreCandidates m g.S.Side.NAME t v.tile stamps (IsAskedNext m t v.tile stamps v.parts.now f c.args._place b i) c.places.all.items) done c.places.invariant)
