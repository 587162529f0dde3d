use Rattle.std.proofs.Common.{◌≡◌, ◌≤◌, ◌++◌, ◌∷◌, [], ℕ, List, Option, Some, None, slice_get, inl, inr, refl, sym, ◌∙◌, ap, subst, arith}
use Rattle.std.proofs.lemmas.Bool.{false≢true}
use Rattle.hd_map.specs.declared.types.Adjacency.{Adjacency}
use Rattle.hd_map.specs.declared.types.Pos.{Pos}
use Rattle.hd_map.specs.declared.types.Rank.{Rank}
use Rattle.hd_map.specs.declared.types.SideName.{SideName}
use Rattle.hd_map.specs.Map.{Map, Present}
use Rattle.hd_map.specs.Neighbour.{AreBesideUnder, Neighbour}
use Rattle.hd_map.specs.Passes.{higher_by}
use Rattle.hd_map.specs.Rank.{rank}
use Rattle.hd_tiles.specs.Tile.{tile_of}
use Rattle.hd_basin.specs.declared.frame.Frame.{Frame}
use Rattle.hd_basin.specs.declared.node.Node.{Node}
use Rattle.hd_basin.specs.declared.part.Part.{Part}
use Rattle.hd_basin.specs.declared.part.Seam.{Seam}
use Rattle.hd_basin.specs.Basin.{IsLabel}
use Rattle.hd_basin.specs.Built.{IsNoded}
use Rattle.hd_basin.specs.Frames.{InFrame}
use Rattle.hd_basin.specs.Parts.{IsFresh, low_of, node_at}
use Rattle.hd_basin.specs.Seams.{pass_between}
use Rattle.hd_basin.specs.Sinks.{IsArea, at_place}
use Rattle.hd_basin.specs.Views.{ShowSame}
use Rattle.hd_basin.proofs.Areas.{area-grid, area-place, area-small, area-tile, place-of-at}
use Rattle.hd_basin.proofs.SinkLaws.{sink-unique}
use Rattle.hd_basin.proofs.Views.{present_kept, rank_kept, round_self}
use Rattle.hd_basin.proofs.seams.note_pair.Goals as goal

pub place_in-requires-clause-few : goal.place_in-requires-clause-few
place_in-requires-clause-few g c =
    let v = c.args.sight.now in
    let m : Map = g.T.Looked.map v.tiles.now in
    area-small m.size v.tiling.side v.tile v.area v.tiling.tile_side.greatest c.requires.sees.area_is

-- the label of a point of the tile
label : (m : Map) (side : SideName) (t tile : ℕ) (part : Part) (f : Frame) (p : Pos) (place : ℕ) (o : Option Node) → 1 ≤ t → IsArea m.size t tile f → IsNoded m side t tile part
    → InFrame f p → at_place f place ≡ p → o ≡ node_at (Some part) place → IsLabel m side t p (low_of o)
label m side t tile part f p place o some area noded within at node =
    let is = place-of-at f place p at ∙ sym (area-place m.size t tile f some area p within) in
    subst (λ (x : Option Node). IsLabel m side t p (low_of x)) (sym (node ∙ ap (node_at (Some part)) is))
    (noded.labels p (area-grid m.size t tile f some area p within) (area-tile m.size t tile f some area p within))

pub returns-in_default : goal.returns-in_default
returns-in_default g c =
    let v = c.args.sight.now in
    let m : Map = g.T.Looked.map v.tiles.now in
    let least = v.tiling.tile_side.least in
    let absent = label m g.S.Side.NAME v.tiling.side v.tile v.part.now v.area c.args.here c.place_in.result None
    (omega (arith, least)) c.requires.sees.area_is c.requires.sees.sight.noded c.requires.here c.place_in.ensures.at (sym c.in_default.is ∙ c.node_at.ensures) in
    inl (refl, λ a b near from to apart known. absent near.from)

pub returns-then-not-are_beside : goal.returns-then-not-are_beside
returns-then-not-are_beside g c =
    inl (
      refl,
      λ a b near from to apart known. false≢true (c.if-not-are_beside.ensures.1
          (subst (λ (s : Adjacency). AreBesideUnder s c.args.here c.args.near.0) (c.requires.sees.shows.adjacency ∙ sym c.adjacency.ensures) near.beside)),
    )

-- the point of the tile is shown
seen : (m n : Map) (t tile : ℕ) (p : Pos) → ShowSame m n t tile → tile_of m.size t p ≡ tile → Present m p → Present n p × (rank m p ≡ rank n p)
seen m n t tile p shows at here = (present_kept m n t tile shows p (round_self m.size t tile p here.in_grid at) here, rank_kept m n t tile shows p here (round_self m.size t tile p here.in_grid at))

pub rank_of-requires : goal.rank_of-requires
rank_of-requires g c =
    let v = c.args.sight.now in
    let m : Map = g.T.Looked.map v.tiles.now in
    let n : Map = g.G.Heights.map v.window.now in
    let least = v.tiling.tile_side.least in
    let own = label m g.S.Side.NAME v.tiling.side v.tile v.part.now v.area c.args.here c.place_in.result (Some c.in-Some.own)
    (omega (arith, least)) c.requires.sees.area_is c.requires.sees.sight.noded c.requires.here c.place_in.ensures.at (sym c.in-Some.is ∙ c.node_at.ensures) in
    (seen m n v.tiling.side v.tile c.args.here c.requires.sees.shows (area-tile m.size v.tiling.side v.tile v.area (omega (arith, least)) c.requires.sees.area_is c.args.here c.requires.here) own.0).0

pub returns-in_default-seam_between : goal.returns-in_default-seam_between
returns-in_default-seam_between g c =
    let v = c.args.sight.now in
    let m : Map = g.T.Looked.map v.tiles.now in
    let t : ℕ = v.tiling.side in
    let e = c.requires.end in
    let least = v.tiling.tile_side.least in
    let own = label m g.S.Side.NAME t v.tile v.part.now v.area c.args.here c.place_in.result (Some c.in-Some.own)
    (omega (arith, least)) c.requires.sees.area_is c.requires.sees.sight.noded c.requires.here c.place_in.ensures.at (sym c.in-Some.is ∙ c.node_at.ensures) in
    let same : c.in-Some.own.low ≡ c.args.end.low = c.in_default-seam_between.ensures in
    inl (
      refl,
      λ a b near from to apart known. apart (
          sink-unique m g.S.Side.NAME t (rank m c.args.here) a c.in-Some.own.low from own.1 ∙ same ∙ sink-unique m g.S.Side.NAME t (rank m c.args.near.0) c.args.end.low b e.sink to),
    )

pub returns : goal.returns
returns g c =
    let v = c.args.sight.now in
    let m : Map = g.T.Looked.map v.tiles.now in
    let n : Map = g.G.Heights.map v.window.now in
    let t : ℕ = v.tiling.side in
    let stamps : List ℕ = g.T.Looked.stamps v.tiles.now in
    let e = c.requires.end in
    let least = v.tiling.tile_side.least in
    let own = label m g.S.Side.NAME t v.tile v.part.now v.area c.args.here c.place_in.result (Some c.in-Some.own)
    (omega (arith, least)) c.requires.sees.area_is c.requires.sees.sight.noded c.requires.here c.place_in.ensures.at (sym c.in-Some.is ∙ c.node_at.ensures) in
    let at : tile_of m.size t c.args.here ≡ v.tile = area-tile m.size t v.tile v.area (omega (arith, least)) c.requires.sees.area_is c.args.here c.requires.here in
    let rank_is : c.rank_of.result ≡ rank m c.args.here = c.rank_of.ensures ∙ sym (seen m n t v.tile c.args.here c.requires.sees.shows at own.0).1 in
    let s : Seam = c.in-Some-seam_between.seam in
    let h = c.in-Some-seam_between.ensures in
    let pushed : c.push.new.self.items ≡ c.args.all.now.items ++ s ∷ [] = c.in_ok-push.ensures.items in
    let beside = subst (λ (x : Adjacency). AreBesideUnder x c.args.here c.args.near.0) (c.adjacency.ensures ∙ sym c.requires.sees.shows.adjacency) (c.if-not-are_beside.ensures.0 refl) in
    let near : Neighbour m c.args.here c.args.near.0 = record {
      from = own.0;
      to = e.present;
      columns = c.requires.columns;
      rows = c.requires.rows;
      different = λ same. c.requires.sees.stale (subst (IsFresh stamps v.parts.now) (ap (tile_of m.size t) (sym same) ∙ at) e.known);
      beside = beside;
    } in
    inr (
      s,
      pushed,
      record {
        near = near;
        in_tile = at;
        a = c.in-Some.own.low;
        b = c.args.end.low;
        from = own.1;
        to = e.sink;
        apart = h.0;
        pass_is = h.1 ∙ ap (λ (x : Rank). pass_between g.S.Side.NAME c.in-Some.own.low c.args.end.low (higher_by g.S.Side.NAME x c.args.near.1)) rank_is
            ∙ ap (λ (x : Rank). pass_between g.S.Side.NAME c.in-Some.own.low c.args.end.low (higher_by g.S.Side.NAME (rank m c.args.here) x)) c.requires.rank;
        with_is = h.2 ∙ e.with_is;
        stamp = ap (slice_get stamps) h.2 ∙ e.stamp ∙ ap (λ (k : ℕ). Some k) (sym h.3);
      },
      e.known,
    )
