use Rattle.std.proofs.Common.{◌≡◌, ◌<◌, ◌≤◌, ◌+◌, ◌-◌, ◌*◌, ℕ, List, sym, ◌∙◌, ap, subst, arith}
use Rattle.hd_map.specs.declared.types.Pos.{Pos}
use Rattle.hd_map.specs.declared.types.Size.{Size}
use Rattle.hd_map.specs.Map.{Map}
use Rattle.hd_tiles.specs.Tile.{tile_of}
use Rattle.hd_basin.specs.declared.frame.Frame.{Frame}
use Rattle.hd_basin.specs.Built.{IsAsked}
use Rattle.hd_basin.specs.Parts.{IsFresh}
use Rattle.hd_basin.specs.Frames.{HoldsRound, InFrame}
use Rattle.hd_basin.specs.Seams.{AreCandidates}
use Rattle.hd_basin.specs.Sinks.{IsArea, at_place}
use Rattle.hd_basin.proofs.Areas.{area-grid, area-tile, place-at}
use Rattle.hd_basin.proofs.Candidates.{pairs-skip}
use Rattle.hd_basin.proofs.Views.{round_self}
use Rattle.hd_basin.proofs.seams.note_row.Goals as goal

-- the columns of the tile are among those of the frame
record Spans (area frame : Frame) : Type 0 where
  left : frame.left ≤ area.left
  right : area.left + area.columns ≤ frame.left + frame.columns
  wide : 1 ≤ area.columns

spans : (s : Size) (t tile : ℕ) (area frame : Frame) (y : ℕ) → 1 ≤ t → IsArea s t tile area → HoldsRound s t tile frame → area.top ≤ y → y < area.top + area.rows → Spans area frame
spans s t tile area frame y some is holds low high =
    let wide : 1 ≤ area.columns = (let a = is.columns in let b = is.some_columns in omega (arith, a, b, some)) in
    let held = λ (p : Pos) (w : InFrame area p). holds p (area-grid s t tile area some is p w) (round_self s t tile p (area-grid s t tile area some is p w) (area-tile s t tile area some is p w)) in
    let one = held (record { x = area.left; y = y }) (record { left = omega arith; right = omega (arith, wide); top = low; bottom = high }) in
    let other = held (record { x = area.left + area.columns - 1; y = y }) (record { left = omega (arith, wide); right = omega (arith, wide); top = low; bottom = high }) in
    let a = one.left in
    let b = other.right in
    record { left = a; right = omega (arith, b, wide); wide = wide }

-- and the places at them are in the tile
in-tile : (s : Size) (t tile : ℕ) (area frame : Frame) (i : ℕ) → 1 ≤ t → IsArea s t tile area → Spans area frame → area.top ≤ frame.top + i → frame.top + i < area.top + area.rows
    → (j : ℕ) → i * frame.columns + (area.left - frame.left) ≤ j → j < i * frame.columns + (area.left - frame.left + area.columns) → tile_of s t (at_place frame j) ≡ tile
in-tile s t tile area frame i some is span low high j from to =
    let left = span.left in
    let right = span.right in
    let x : ℕ = j - i * frame.columns in
    let sum : i * frame.columns + x ≡ j = omega (arith, from) in
    let at : at_place frame j ≡ record { x = frame.left + x; y = frame.top + i } = ap (at_place frame) (sym sum) ∙ place-at frame i x (omega (arith, to, left, right, sum)) in
    ap (tile_of s t) at ∙ area-tile s t tile area some is (record { x = frame.left + x; y = frame.top + i })
    (record { left = omega (arith, from, left, sum); right = omega (arith, to, left, sum); top = low; bottom = high })

pub note_stretch-requires-clause-before : goal.note_stretch-requires-clause-before
note_stretch-requires-clause-before g c =
    let v = c.args.sight.now in
    let m : Map = g.T.Looked.map v.tiles.now in
    let stamps : List ℕ = g.T.Looked.stamps v.tiles.now in
    let begins : c.args.row * v.frame.columns ≡ c.args.row * v.frame.columns + 0 = omega arith in
    subst (λ (k : ℕ). AreCandidates m g.S.Side.NAME v.tiling.side v.tile stamps (IsAsked m v.tiling.side v.tile stamps v.parts.now v.frame k) c.args.all.now.items) begins c.requires.before

pub overflow_sub-first : goal.overflow_sub-first
overflow_sub-first g c =
    let v = c.args.sight.now in
    let m : Map = g.T.Looked.map v.tiles.now in
    let least = v.tiling.tile_side.least in
    (spans m.size v.tiling.side v.tile v.area v.frame (v.frame.top + c.args.row) (omega (arith, least)) c.requires.sees.area_is c.requires.sees.holds (omega arith) (omega arith)).left

pub note_stretch-requires-2-clause-to : goal.note_stretch-requires-2-clause-to
note_stretch-requires-2-clause-to g c =
    let v = c.args.sight.now in
    let m : Map = g.T.Looked.map v.tiles.now in
    let least = v.tiling.tile_side.least in
    let s = spans m.size v.tiling.side v.tile v.area v.frame (v.frame.top + c.args.row) (omega (arith, least)) c.requires.sees.area_is c.requires.sees.holds (omega arith) (omega arith) in
    let left = s.left in
    let right = s.right in
    omega (arith, left, right)

pub note_stretch-requires-2-clause-before : goal.note_stretch-requires-2-clause-before
note_stretch-requires-2-clause-before g c =
    let v = c.args.sight.now in
    let m : Map = g.T.Looked.map v.tiles.now in
    let stamps : List ℕ = g.T.Looked.stamps v.tiles.now in
    let begins : c.args.row * v.frame.columns ≡ c.args.row * v.frame.columns + 0 = omega arith in
    subst (λ (k : ℕ). AreCandidates m g.S.Side.NAME v.tiling.side v.tile stamps (IsAsked m v.tiling.side v.tile stamps v.parts.now v.frame k) c.args.all.now.items) begins c.requires.before

pub note_stretch-requires-3-clause-from : goal.note_stretch-requires-3-clause-from
note_stretch-requires-3-clause-from g c =
    let v = c.args.sight.now in
    let m : Map = g.T.Looked.map v.tiles.now in
    let least = v.tiling.tile_side.least in
    let s = spans m.size v.tiling.side v.tile v.area v.frame (v.frame.top + c.args.row) (omega (arith, least)) c.requires.sees.area_is c.requires.sees.holds (omega arith) (omega arith) in
    let left = s.left in
    let right = s.right in
    omega (arith, left, right)

pub note_stretch-requires-3-clause-before : goal.note_stretch-requires-3-clause-before
note_stretch-requires-3-clause-before g c =
    let v = c.args.sight.now in
    let m : Map = g.T.Looked.map v.tiles.now in
    let t : ℕ = v.tiling.side in
    let stamps : List ℕ = g.T.Looked.stamps v.tiles.now in
    let least = v.tiling.tile_side.least in
    let some : 1 ≤ t = omega (arith, least) in
    let low : v.area.top ≤ v.frame.top + c.args.row = omega arith in
    let high : v.frame.top + c.args.row < v.area.top + v.area.rows = omega arith in
    let s = spans m.size t v.tile v.area v.frame (v.frame.top + c.args.row) some c.requires.sees.area_is c.requires.sees.holds low high in
    let inside = in-tile m.size t v.tile v.area v.frame c.args.row some c.requires.sees.area_is s low high in
    pairs-skip m g.S.Side.NAME t v.tile stamps v.parts.now v.frame (c.args.row * v.frame.columns + (v.area.left - v.frame.left))
    (c.args.row * v.frame.columns + (v.area.left - v.frame.left + v.area.columns)) c.note_stretch-2.new.all.items (omega arith)
    (λ j from to known here. c.requires.sees.stale (subst (λ (n : ℕ). IsFresh stamps v.parts.now n) (inside j from to) known)) c.in_ok-note_stretch-2.ensures

pub returns : goal.returns
returns g c =
    let v = c.args.sight.now in
    let m : Map = g.T.Looked.map v.tiles.now in
    let stamps : List ℕ = g.T.Looked.stamps v.tiles.now in
    let ends : c.args.row * v.frame.columns + v.frame.columns ≡ (c.args.row + 1) * v.frame.columns = omega arith in
    subst (λ (k : ℕ). AreCandidates m g.S.Side.NAME v.tiling.side v.tile stamps (IsAsked m v.tiling.side v.tile stamps v.parts.now v.frame k) c.note_stretch-3.new.all.items) ends
    c.in_ok-note_stretch-3.ensures
