use Rattle.std.proofs.Common.{◌≤◌, ◌+◌, ◌*◌, ℕ, sym, ◌∙◌, ap, subst, arith}
use Rattle.std.proofs.lemmas.Nat.{mul-le}
use Rattle.hd_map.specs.declared.types.Size.{Size}
use Rattle.hd_map.specs.Map.{Map}
use Rattle.hd_tiles.specs.Tile.{tile_count}
use Rattle.hd_basin.specs.declared.frame.Frame.{Frame}
use Rattle.hd_basin.specs.Frames.{FitsGrid, HoldsRound, IsRoundOnly}
use Rattle.hd_basin.specs.Views.{ShowSame}
use Rattle.hd_basin.specs.WindowMap.{map_of_window}
use Rattle.hd_basin.proofs.Frames.{frame-shows, frame-in_grid}
use Rattle.hd_basin.proofs.Views.{keeps-show}
use Rattle.hd_basin.proofs.IsNoded.{noded-kept}
use Rattle.hd_basin.proofs.made.made.Goals as goal

pub look-requires-clause-allowed : goal.look-requires-clause-allowed
look-requires-clause-allowed g c = λ p within. c.requires.leave p (frame-in_grid c.args.tiling.size c.frame_of-frame.result p c.frame_of-frame.ensures.fits within)
    (c.frame_of-frame.ensures.only p within)

pub joined-requires-clause-shows : goal.joined-requires-clause-shows
joined-requires-clause-shows g c =
    let m : Map = g.T.Looked.map c.args.tiles.now in
    let n : Map = map_of_window c.in_ok-window.window in
    let t : ℕ = c.args.tiling.side in
    let f : Frame = c.frame_of-frame.result in
    let holds : HoldsRound m.size t c.args.tile f = subst (λ (s : Size). HoldsRound s t c.args.tile f) c.requires.size c.frame_of-frame.ensures.holds in
    frame-shows m n t c.args.tile f holds c.in_ok-window.ensures.shows

pub joined-requires-clause-sight : goal.joined-requires-clause-sight
joined-requires-clause-sight g c =
    let m : Map = g.T.Looked.map c.args.tiles.now in
    let n : Map = map_of_window c.in_ok-window.window in
    let t : ℕ = c.args.tiling.side in
    let f : Frame = c.frame_of-frame.result in
    let looked = g.met.T.Looked.whole c.args.tiles.now in
    let holds : HoldsRound m.size t c.args.tile f = subst (λ (s : Size). HoldsRound s t c.args.tile f) c.requires.size c.frame_of-frame.ensures.holds in
    let shows : ShowSame m n t c.args.tile = frame-shows m n t c.args.tile f holds c.in_ok-window.ensures.shows in
    record {
      whole = c.requires.whole ∙ ap (λ (s : Size). tile_count s t) c.requires.size;
      count = looked.tiles ∙ ap (tile_count m.size) (sym c.requires.side);
      fresh = c.requires.fresh;
      noded = noded-kept m n g.S.Side.NAME t c.args.tile (keeps-show m n t c.args.tile shows) c.in_ok-part.part c.in_ok-part.ensures.noded;
    }

-- the looks at a rectangle are few
few : (columns rows t before after : ℕ) → columns ≤ t + 2 → rows ≤ t + 2 → after ≤ before + columns * rows → after ≤ before + (t + 2) * (t + 2)
few columns rows t before after wide high paid = (let product = mul-le columns rows (t + 2) (t + 2) wide high in omega (arith, product, paid))

pub returns-clause-looks : goal.returns-clause-looks
returns-clause-looks g c = few c.frame_of-frame.result.columns c.frame_of-frame.result.rows c.args.tiling.side c.args.looks.now c.look.new.looks c.frame_of-frame.ensures.columns
    c.frame_of-frame.ensures.rows c.look.ensures.counted

pub returns-in_err-window-clause-looks : goal.returns-in_err-window-clause-looks
returns-in_err-window-clause-looks g c = few c.frame_of-frame.result.columns c.frame_of-frame.result.rows c.args.tiling.side c.args.looks.now c.look.new.looks
    c.frame_of-frame.ensures.columns c.frame_of-frame.ensures.rows c.look.ensures.counted

pub returns-in_err-part-clause-looks : goal.returns-in_err-part-clause-looks
returns-in_err-part-clause-looks g c = few c.frame_of-frame.result.columns c.frame_of-frame.result.rows c.args.tiling.side c.args.looks.now c.look.new.looks
    c.frame_of-frame.ensures.columns c.frame_of-frame.ensures.rows c.look.ensures.counted

pub noded-requires-clause-holds : goal.noded-requires-clause-holds
noded-requires-clause-holds g c = subst (λ (s : Size). HoldsRound s c.args.tiling.side c.args.tile c.frame_of-frame.result)
    (c.requires.size ∙ c.in_ok-window.ensures.shows.size) c.frame_of-frame.ensures.holds

pub joined-requires-clause-fits : goal.joined-requires-clause-fits
joined-requires-clause-fits g c = subst (λ (s : Size). FitsGrid s c.frame_of-frame.result) c.requires.size c.frame_of-frame.ensures.fits

pub joined-requires-clause-holds : goal.joined-requires-clause-holds
joined-requires-clause-holds g c = subst (λ (s : Size). HoldsRound s c.args.tiling.side c.args.tile c.frame_of-frame.result) c.requires.size c.frame_of-frame.ensures.holds

pub joined-requires-clause-only : goal.joined-requires-clause-only
joined-requires-clause-only g c = subst (λ (s : Size). IsRoundOnly s c.args.tiling.side c.args.tile c.frame_of-frame.result) c.requires.size c.frame_of-frame.ensures.only
