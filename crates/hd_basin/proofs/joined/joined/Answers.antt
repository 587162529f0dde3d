use Rattle.std.proofs.Common.{◌≡◌, ◌*◌, ℕ, List, subst, arith}
use Rattle.hd_map.specs.declared.types.Size.{Size}
use Rattle.hd_map.specs.Map.{Map}
use Rattle.hd_basin.specs.declared.frame.Frame.{Frame}
use Rattle.hd_basin.specs.declared.part.Part.{Part}
use Rattle.hd_basin.specs.Built.{IsAsked, IsNoded}
use Rattle.hd_basin.specs.declared.part.Seam.{Seam}
use Rattle.hd_basin.specs.Seams.{AreCandidates, KeepLowest}
use Rattle.hd_basin.specs.Sinks.{IsArea}
use Rattle.hd_basin.proofs.BuiltSeams.{joined-built}
use Rattle.hd_basin.proofs.joined.joined.Goals as goal

pub seams_at-requires : goal.seams_at-requires
seams_at-requires g c =
    let m : Map = g.T.Looked.map c.args.tiles.now in
    record {
      size = c.requires.size;
      sight = c.requires.sight;
      shows = c.requires.shows;
      area_is = subst (λ (s : Size). IsArea s c.args.tiling.side c.args.tile c.area_of.result) c.requires.size c.area_of.ensures;
      fits = c.requires.fits;
      holds = c.requires.holds;
      only = c.requires.only;
      stale = c.requires.stale;
    }

pub returns-clause-built : goal.returns-clause-built
returns-clause-built g c =
    let m : Map = g.T.Looked.map c.args.tiles.now in
    let t : ℕ = c.args.tiling.side in
    let stamps : List ℕ = g.T.Looked.stamps c.args.tiles.now in
    let f : Frame = c.args.frame in
    let h = c.requires.sight.noded in
    let all : List Seam = c.in_ok-all.all.items in
    let kept : List Seam = c.in_ok-kept.kept.items in
    let seams : List Seam = c.from_vec.result in
    let done : Part = record { seen = c.args.part.seen; nodes = c.args.part.nodes; labels = c.args.part.labels; joins = c.args.part.joins; seams = seams } in
    let noded : IsNoded m g.S.Side.NAME t c.args.tile done = record {
      nodes = h.nodes;
      once = h.once;
      sinks = h.sinks;
      names =
          record { labels = h.names.labels; passes = h.names.passes };
      labels = h.labels;
      passes = h.passes;
    } in
    let keeps : KeepLowest g.S.Side.NAME all kept = subst (λ (xs : List Seam). KeepLowest g.S.Side.NAME xs kept) c.as_slice.ensures.value c.in_ok-kept.ensures in
    let places : f.rows * f.columns ≡ f.columns * f.rows = omega arith in
    let cand = subst (λ (n : ℕ). AreCandidates m g.S.Side.NAME t c.args.tile stamps (IsAsked m t c.args.tile stamps c.args.parts.now f n) all) places c.in_ok-all.ensures in
    joined-built m g.S.Side.NAME t c.args.tile stamps c.args.parts.now f c.requires.holds c.requires.stale all kept cand keeps done noded c.from_vec.ensures
