use Rattle.std.proofs.Common.{◌≡◌, ◌≤◌, ◌+◌, ◌*◌, ℕ, List, length, Result, Ok, Err, refl, sym, ◌∙◌, ap, subst, inl, inr, arith}
use Rattle.std.specs.Prelude.{OnErr}
use Rattle.std.proofs.lemmas.Bool.{cases_lt}
use Rattle.std.proofs.lemmas.Option.{slice_get_within}
use Rattle.hd_map.specs.declared.types.Size.{Size}
use Rattle.hd_map.specs.Map.{Map}
use Rattle.hd_tiles.specs.Tile.{tile_count}
use Rattle.hd_basin.specs.InStep.{KeepsSeen}
use Rattle.hd_basin.specs.Parts.{Pool, IsFresh, IsSound, stale_count}
use Rattle.hd_basin.proofs.FreshPools.{keeps-itself, keeps-onward, all-pool_of}
use Rattle.hd_basin.proofs.basins.Basins.refresh.Goals as goal

on_err : {A E : Type 0} (r : Result A E) {P : Type 0} → P → OnErr r P
on_err (Ok a) h = tt
on_err (Err e) h = h

pub each-init : goal.each-init
each-init g c = record {
  sound = subst IsSound c.self.view_is c.self.invariant;
  in_step = c.requires.in_step;
  kept = keeps-itself (g.T.Looked.stamps c.args.tiles.now) c.args.self.now;
  fresh = λ tile below. absurd (omega arith);
  side = refl;
  whole = refl;
  looks = omega arith;
}

pub refresh_tile-requires-clause-leave : goal.refresh_tile-requires-clause-leave
refresh_tile-requires-clause-leave g c = λ p beside. c.requires.leave p (record {
  in_grid = beside.in_grid;
  tile = beside.tile;
  stale = λ fresh. beside.stale (c.each.invariant.kept.fresh beside.tile fresh);
  round = rw (← c.each.invariant.side) beside.round;
})

pub returns-in_err-refresh_tile-clause-kept : goal.returns-in_err-refresh_tile-clause-kept
returns-in_err-refresh_tile-clause-kept g c =
    let kept : KeepsSeen (g.T.Looked.stamps c.args.tiles.now) c.args.self.now c.refresh_tile.new.self = keeps-onward
    (g.T.Looked.stamps c.args.tiles.now) c.args.self.now c.each.self c.refresh_tile.new.self c.each.invariant.kept c.refresh_tile.ensures.kept in
    on_err c.from_residual.result kept

pub each-preserved : goal.each-preserved
each-preserved g c =
    let stamps : List ℕ = g.T.Looked.stamps c.args.tiles.now in
    let i = c.each.invariant in
    let kept = c.in_ok-refresh_tile.ensures.kept in
    let new : Pool = c.refresh_tile.new.self in
    let paid : c.refresh_tile.new.looks + stale_count stamps new.parts * ((c.args.self.now.side + 2) * (c.args.self.now.side + 2)) ≤ c.each.looks
    + stale_count stamps c.each.self.parts * ((c.args.self.now.side + 2) * (c.args.self.now.side + 2)) =
    subst (λ (k : ℕ). c.refresh_tile.new.looks + stale_count stamps new.parts * ((k + 2) * (k + 2)) ≤ c.each.looks + stale_count stamps c.each.self.parts * ((k + 2) * (k + 2)))
    i.side c.in_ok-refresh_tile.ensures.looks in
    let before = i.looks in
    record {
      sound = c.in_ok-refresh_tile.ensures.sound;
      in_step = c.in_ok-refresh_tile.ensures.in_step;
      kept = keeps-onward stamps c.args.self.now c.each.self new i.kept kept;
      fresh = λ tile below. elim (cases_lt tile c.each.tile) [
        | inl earlier ↦ kept.fresh tile (i.fresh tile earlier)
        | inr later ↦ (let same : c.each.tile ≡ tile = omega (arith, below, later) in subst (IsFresh stamps new.parts) same c.in_ok-refresh_tile.ensures.fresh)
      ];
      side = c.in_ok-refresh_tile.ensures.side ∙ i.side;
      whole = c.in_ok-refresh_tile.ensures.whole ∙ i.whole;
      looks = omega (arith, paid, before);
    }

pub returns-clause-pool : goal.returns-clause-pool
returns-clause-pool g c =
    let b = c.self.inside in
    let i = c.each.invariant in
    let looked = g.met.T.Looked.whole c.args.tiles.now in
    let least = looked.side.least in
    let side = i.side ∙ c.requires.side in
    let some : 1 ≤ c.each.self.side = omega (arith, least, side) in
    let entry : length b.stock ≡ length c.args.self.now.parts = ap (λ (p : Pool). length p.parts) c.self.view_is in
    let count = c.count-tile-end.ensures in
    let counts : length b.stock ≡ tile_count b.tiling.size b.tiling.side = c.self.invariant.whole in
    let after = i.whole in
    let done = c.each-test.false in
    all-pool_of (g.T.Looked.map c.args.tiles.now) g.S.Side.NAME (g.T.Looked.stamps c.args.tiles.now) c.each.self i.sound i.in_step some
    (λ tile below. i.fresh tile (omega (arith, below, entry, after, count, counts, done)))

pub returns-clause-seen : goal.returns-clause-seen
returns-clause-seen g c = λ tile stamp now. (
    let b = c.self.inside in
    let i = c.each.invariant in
    let looked = g.met.T.Looked.whole c.args.tiles.now in
    let view = c.self.view_is in
    let m : Map = g.T.Looked.map c.args.tiles.now in
    let size : b.tiling.size ≡ m.size = ap (λ (p : Pool). p.size) view ∙ c.requires.in_step.size in
    let side : b.tiling.side ≡ g.T.Looked.tile_side c.args.tiles.now = ap (λ (p : Pool). p.side) view ∙ c.requires.side in
    let count : c.count-tile-end.result ≡ length (g.T.Looked.stamps c.args.tiles.now) = c.count-tile-end.ensures ∙ ap (λ (s : Size). tile_count s b.tiling.side) size
    ∙ ap (tile_count m.size) side ∙ sym looked.tiles in
    let within = slice_get_within (g.T.Looked.stamps c.args.tiles.now) tile stamp now in
    let done = c.each-test.false in
    i.fresh tile (omega (arith, within, count, done)))
