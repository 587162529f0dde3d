use Rattle.std.proofs.Common.{◌≡◌, ◌<◌, ◌≤◌, ◌+◌, ◌*◌, ℕ, List, length, set, Some, slice_get, Result, Ok, Err, sym, ◌∙◌, ap, subst, rules, arith}
use Rattle.std.specs.Prelude.{OnErr}
use Rattle.std.proofs.Math.Nat.{mul-le-mul_right}
use Rattle.std.proofs.lemmas.Option.{same_Some}
use Rattle.hd_map.specs.declared.types.SideName.{SideName}
use Rattle.hd_map.specs.declared.types.Size.{Size}
use Rattle.hd_map.specs.Map.{Map, InGrid}
use Rattle.hd_tiles.specs.Tile.{tile_count, IsRound}
use Rattle.hd_basin.specs.declared.part.Part.{Part}
use Rattle.hd_basin.specs.Built.{IsBuilt}
use Rattle.hd_basin.specs.InStep.{IsInStep, KeepsSeen}
use Rattle.hd_basin.specs.Parts.{Pool, IsFresh, IsSound, stale_count}
use Rattle.hd_basin.specs.Stock.{seen_of}
use Rattle.hd_basin.proofs.Lists.{read-inside}
use Rattle.hd_basin.proofs.Replacing.{in_step-sized, in_step-sized_back, pool_of, replaced-in_step, replaced-fresh, replaced-keeps, replaced-sound}
use Rattle.hd_basin.proofs.StaleCount.{stale-set, stale-some, seen_with, not_seen_with}
use Rattle.hd_basin.proofs.FreshPools.{keeps-itself}
use Rattle.hd_basin.proofs.basins.Basins.refresh_tile.Goals as goal

-- a tile with another seen stamp is not fresh
not_fresh : (stamps : List ℕ) (parts : List Part) (tile stamp : ℕ) (part : Part) → slice_get stamps tile ≡ Some stamp → slice_get parts tile ≡ Some part
    → (part.seen ≡ Some stamp → ⊥) → IsFresh stamps parts tile → ⊥
not_fresh stamps parts tile stamp part now at other fresh =
    let same : part ≡ fresh.part = same_Some part fresh.part (sym at ∙ fresh.at) in
    let value : fresh.stamp ≡ stamp = same_Some fresh.stamp stamp (sym fresh.now ∙ now) in
    other (ap (λ (p : Part). p.seen) same ∙ fresh.seen ∙ ap (λ (k : ℕ). Some k) value)

-- what holds holds after an error
on_err : {A E : Type 0} (r : Result A E) {P : Type 0} → P → OnErr r P
on_err (Ok a) h = tt
on_err (Err e) h = h

-- the tile is replaced in a pool that is seen as this one
module _ (m : Map) (side : SideName) (stamps : List ℕ) (s : Size) (t : ℕ) (parts : List Part) (pool : Pool) (view : record { size = s; side = t; parts = parts } ≡ pool)
    (sound : IsSound (record { size = s; side = t; parts = parts })) (step : IsInStep m side stamps pool) (tile stamp : ℕ)
    (old part : Part) (now : slice_get stamps tile ≡ Some stamp) (at : slice_get parts tile ≡ Some old) (other : old.seen ≡ Some stamp → ⊥) (inside : tile < length parts) where
  stepped : IsInStep m side stamps (record { size = s; side = t; parts = parts })
  stepped = subst (IsInStep m side stamps) (sym view) step

  sized : IsSound (pool_of m t parts)
  sized = subst (λ (z : Size). IsSound (record { size = z; side = t; parts = parts })) stepped.size sound

  stale : IsFresh stamps pool.parts tile → ⊥
  stale fresh = not_fresh stamps parts tile stamp old now at other (subst (λ (p : Pool). IsFresh stamps p.parts tile) (sym view) fresh)

  one_stale : (cost : ℕ) → cost ≤ stale_count stamps pool.parts * cost
  one_stale cost =
      let some = stale-some stamps parts tile stamp old now at (not_seen_with old.seen stamp other) in
      let product = mul-le-mul_right cost some in
      subst (λ (p : Pool). cost ≤ stale_count stamps p.parts * cost) view (omega (arith, product))

  module _ (built : IsBuilt m side pool.side stamps pool.parts tile part) (seen : part.seen ≡ Some stamp) (after : List Part) (is : after ≡ set parts tile part) where
    made : IsBuilt m side t stamps parts tile part
    made = subst (λ (p : Pool). IsBuilt m side p.side stamps p.parts tile part) (sym view) built

    in_step : IsInStep m side stamps (record { size = s; side = t; parts = after })
    in_step = subst (λ (ps : List Part). IsInStep m side stamps (record { size = s; side = t; parts = ps })) (sym is)
        (in_step-sized_back m side stamps s t (set parts tile part) stepped.size (replaced-in_step m side t stamps parts tile stamp part sized
        (in_step-sized m side stamps s t parts stepped) made now seen
        (not_fresh stamps parts tile stamp old now at other) inside))

    sound_after : IsSound (record { size = s; side = t; parts = after })
    sound_after = subst (λ (ps : List Part). IsSound (record { size = s; side = t; parts = ps })) (sym is)
        (subst (λ (z : Size). IsSound (record { size = z; side = t; parts = set parts tile part })) (sym stepped.size)
        (replaced-sound m side t stamps parts tile stamp part sized (in_step-sized m side stamps s t parts stepped) made now seen (not_fresh stamps parts tile stamp old now at other) inside))

    fresh : IsFresh stamps after tile
    fresh = subst (λ (ps : List Part). IsFresh stamps ps tile) (sym is) (replaced-fresh m side t stamps parts tile stamp part sized
        (in_step-sized m side stamps s t parts stepped) made now seen (not_fresh stamps parts tile stamp old now at other) inside)

    kept : KeepsSeen stamps pool (record { size = s; side = t; parts = after })
    kept =
        let k : KeepsSeen stamps (record { size = s; side = t; parts = parts }) (record { size = s; side = t; parts = set parts tile part }) =
        (let r = replaced-keeps m side t stamps parts tile stamp part sized (in_step-sized m side stamps s t parts stepped) made now seen
        (not_fresh stamps parts tile stamp old now at other) inside in record { fresh = r.fresh; known = r.known }) in
        subst (λ (ps : List Part). KeepsSeen stamps pool (record { size = s; side = t; parts = ps })) (sym is)
        (subst (λ (p : Pool). KeepsSeen stamps p (record { size = s; side = t; parts = set parts tile part })) view k)

    fewer : (cost before looks : ℕ) → looks ≤ before + cost → looks + stale_count stamps after * cost ≤ before + stale_count stamps pool.parts * cost
    fewer cost before looks paid =
        let one : stale_count stamps (set parts tile part) + 1 ≡ stale_count stamps parts = stale-set stamps parts tile stamp old part now at (not_seen_with old.seen stamp other)
        (seen_with part.seen stamp seen) in
        let product : (stale_count stamps (set parts tile part) + 1) * cost ≡ stale_count stamps parts * cost = ap (λ (k : ℕ). k * cost) one in
        subst (λ (ps : List Part). looks + stale_count stamps ps * cost ≤ before + stale_count stamps pool.parts * cost) (sym is)
        (subst (λ (p : Pool). looks + stale_count stamps (set parts tile part) * cost ≤ before + stale_count stamps p.parts * cost) view (omega (arith, product, paid)))

pub stamp-stamp-requires : goal.stamp-stamp-requires
stamp-stamp-requires g c =
    let b = c.self.inside in
    let looked = g.met.T.Looked.whole c.args.tiles.now in
    let inside : c.args.tile < length b.stock = subst (λ (p : Pool). c.args.tile < length p.parts) (sym c.self.view_is) c.requires.tile in
    let view = c.self.view_is in
    let size : b.tiling.size ≡ (g.T.Looked.map c.args.tiles.now).size = ap (λ (p : Pool). p.size) view ∙ c.requires.in_step.size in
    let side : b.tiling.side ≡ g.T.Looked.tile_side c.args.tiles.now = ap (λ (p : Pool). p.side) view ∙ c.requires.side in
    let count : length b.stock ≡ length (g.T.Looked.stamps c.args.tiles.now) = c.self.invariant.whole ∙ ap (λ (s : Size). tile_count s b.tiling.side) size
    ∙ ap (tile_count (g.T.Looked.map c.args.tiles.now).size) side ∙ sym looked.tiles in
    omega (arith, inside, count)

pub returns-then-eq-clause-fresh : goal.returns-then-eq-clause-fresh
returns-then-eq-clause-fresh g c =
    let b = c.self.inside in
    let m : Map = g.T.Looked.map c.args.tiles.now in
    let stamps : List ℕ = g.T.Looked.stamps c.args.tiles.now in
    let tile : ℕ = c.args.tile in
    let stamp : ℕ = c.stamp-stamp.result in
    let inside : tile < length b.stock = subst (λ (p : Pool). tile < length p.parts) (sym c.self.view_is) c.requires.tile in
    let had = read-inside b.stock tile inside in
    let old : Part = had.0 in
    let at : slice_get b.stock tile ≡ Some old = had.1 in
    let same : c.seen-seen.result ≡ old.seen = c.seen-seen.ensures ∙ ap seen_of at in
    let equal : c.seen-seen.result ≡ Some stamp = search rules in
    let seen : old.seen ≡ Some stamp = sym same ∙ equal in
    let fresh : IsFresh stamps b.stock tile = record { stamp = stamp; part = old; now = c.stamp-stamp.ensures; at = at; seen = seen } in
    subst (λ (p : Pool). IsFresh stamps p.parts tile) c.self.view_is fresh

pub returns-then-eq-clause-kept : goal.returns-then-eq-clause-kept
returns-then-eq-clause-kept g c = keeps-itself (g.T.Looked.stamps c.args.tiles.now) c.args.self.now

pub build-requires-clause-stale : goal.build-requires-clause-stale
build-requires-clause-stale g c =
    let b = c.self.inside in
    let m : Map = g.T.Looked.map c.args.tiles.now in
    let stamps : List ℕ = g.T.Looked.stamps c.args.tiles.now in
    let tile : ℕ = c.args.tile in
    let stamp : ℕ = c.stamp-stamp.result in
    let inside : tile < length b.stock = subst (λ (p : Pool). tile < length p.parts) (sym c.self.view_is) c.requires.tile in
    let had = read-inside b.stock tile inside in
    let old : Part = had.0 in
    let at : slice_get b.stock tile ≡ Some old = had.1 in
    let same : c.seen-seen.result ≡ old.seen = c.seen-seen.ensures ∙ ap seen_of at in
    let differs : c.seen-seen.result ≡ Some stamp → ⊥ = search rules in
    let other : old.seen ≡ Some stamp → ⊥ = λ e. differs (same ∙ e) in
    stale m g.S.Side.NAME stamps b.tiling.size b.tiling.side b.stock c.args.self.now c.self.view_is c.self.invariant c.requires.in_step tile stamp old old c.stamp-stamp.ensures at other inside

pub build-requires-clause-leave : goal.build-requires-clause-leave
build-requires-clause-leave g c =
    let b = c.self.inside in
    let m : Map = g.T.Looked.map c.args.tiles.now in
    let stamps : List ℕ = g.T.Looked.stamps c.args.tiles.now in
    let tile : ℕ = c.args.tile in
    let stamp : ℕ = c.stamp-stamp.result in
    let inside : tile < length b.stock = subst (λ (p : Pool). tile < length p.parts) (sym c.self.view_is) c.requires.tile in
    let had = read-inside b.stock tile inside in
    let old : Part = had.0 in
    let at : slice_get b.stock tile ≡ Some old = had.1 in
    let same : c.seen-seen.result ≡ old.seen = c.seen-seen.ensures ∙ ap seen_of at in
    let differs : c.seen-seen.result ≡ Some stamp → ⊥ = search rules in
    let other : old.seen ≡ Some stamp → ⊥ = λ e. differs (same ∙ e) in
    let not : IsFresh stamps c.args.self.now.parts tile → ⊥ = stale m g.S.Side.NAME stamps b.tiling.size b.tiling.side b.stock c.args.self.now c.self.view_is c.self.invariant
    c.requires.in_step tile stamp old old c.stamp-stamp.ensures at other inside in
    λ p within round. c.requires.leave p (record {
      in_grid = subst (λ (s : Size). InGrid s p) c.requires.in_step.size within;
      tile = tile;
      stale = not;
      round = subst (λ (s : Size). IsRound s c.args.self.now.side tile p) c.requires.in_step.size round;
    })

pub returns-in_err-part-clause-kept : goal.returns-in_err-part-clause-kept
returns-in_err-part-clause-kept g c = keeps-itself (g.T.Looked.stamps c.args.tiles.now) c.args.self.now

pub returns-in_err-part-clause-in_vain : goal.returns-in_err-part-clause-in_vain
returns-in_err-part-clause-in_vain g c =
    let b = c.self.inside in
    let m : Map = g.T.Looked.map c.args.tiles.now in
    let stamps : List ℕ = g.T.Looked.stamps c.args.tiles.now in
    let tile : ℕ = c.args.tile in
    let stamp : ℕ = c.stamp-stamp.result in
    let inside : tile < length b.stock = subst (λ (p : Pool). tile < length p.parts) (sym c.self.view_is) c.requires.tile in
    let had = read-inside b.stock tile inside in
    let old : Part = had.0 in
    let at : slice_get b.stock tile ≡ Some old = had.1 in
    let same : c.seen-seen.result ≡ old.seen = c.seen-seen.ensures ∙ ap seen_of at in
    let differs : c.seen-seen.result ≡ Some stamp → ⊥ = search rules in
    let other : old.seen ≡ Some stamp → ⊥ = λ e. differs (same ∙ e) in
    let cost : ℕ = (c.args.self.now.side + 2) * (c.args.self.now.side + 2) in
    let enough = one_stale m g.S.Side.NAME stamps b.tiling.size b.tiling.side b.stock c.args.self.now c.self.view_is c.self.invariant c.requires.in_step tile stamp old old
    c.stamp-stamp.ensures at other inside cost in
    let paid = c.build.ensures.looks in
    let bound : c.build.new.looks ≤ c.args.looks.now + stale_count stamps c.args.self.now.parts * cost = omega (arith, enough, paid) in
    on_err c.from_residual.result bound

pub returns-clause-fresh : goal.returns-clause-fresh
returns-clause-fresh g c =
    let b = c.self.inside in
    let m : Map = g.T.Looked.map c.args.tiles.now in
    let stamps : List ℕ = g.T.Looked.stamps c.args.tiles.now in
    let tile : ℕ = c.args.tile in
    let stamp : ℕ = c.stamp-stamp.result in
    let inside : tile < length b.stock = subst (λ (p : Pool). tile < length p.parts) (sym c.self.view_is) c.requires.tile in
    let had = read-inside b.stock tile inside in
    let old : Part = had.0 in
    let at : slice_get b.stock tile ≡ Some old = had.1 in
    let same : c.seen-seen.result ≡ old.seen = c.seen-seen.ensures ∙ ap seen_of at in
    let differs : c.seen-seen.result ≡ Some stamp → ⊥ = search rules in
    let other : old.seen ≡ Some stamp → ⊥ = λ e. differs (same ∙ e) in
    fresh m g.S.Side.NAME stamps b.tiling.size b.tiling.side b.stock c.args.self.now c.self.view_is c.self.invariant c.requires.in_step tile stamp old c.in_ok-part.part
    c.stamp-stamp.ensures at other inside c.in_ok-part.ensures.built c.in_ok-part.ensures.seen c.replace.new.self c.in_ok-replace.ensures.ok

pub returns-clause-kept : goal.returns-clause-kept
returns-clause-kept g c =
    let b = c.self.inside in
    let m : Map = g.T.Looked.map c.args.tiles.now in
    let stamps : List ℕ = g.T.Looked.stamps c.args.tiles.now in
    let tile : ℕ = c.args.tile in
    let stamp : ℕ = c.stamp-stamp.result in
    let inside : tile < length b.stock = subst (λ (p : Pool). tile < length p.parts) (sym c.self.view_is) c.requires.tile in
    let had = read-inside b.stock tile inside in
    let old : Part = had.0 in
    let at : slice_get b.stock tile ≡ Some old = had.1 in
    let same : c.seen-seen.result ≡ old.seen = c.seen-seen.ensures ∙ ap seen_of at in
    let differs : c.seen-seen.result ≡ Some stamp → ⊥ = search rules in
    let other : old.seen ≡ Some stamp → ⊥ = λ e. differs (same ∙ e) in
    kept m g.S.Side.NAME stamps b.tiling.size b.tiling.side b.stock c.args.self.now c.self.view_is c.self.invariant c.requires.in_step tile stamp old c.in_ok-part.part
    c.stamp-stamp.ensures at other inside c.in_ok-part.ensures.built c.in_ok-part.ensures.seen c.replace.new.self c.in_ok-replace.ensures.ok

pub returns-clause-in_step : goal.returns-clause-in_step
returns-clause-in_step g c =
    let b = c.self.inside in
    let m : Map = g.T.Looked.map c.args.tiles.now in
    let stamps : List ℕ = g.T.Looked.stamps c.args.tiles.now in
    let tile : ℕ = c.args.tile in
    let stamp : ℕ = c.stamp-stamp.result in
    let inside : tile < length b.stock = subst (λ (p : Pool). tile < length p.parts) (sym c.self.view_is) c.requires.tile in
    let had = read-inside b.stock tile inside in
    let old : Part = had.0 in
    let at : slice_get b.stock tile ≡ Some old = had.1 in
    let same : c.seen-seen.result ≡ old.seen = c.seen-seen.ensures ∙ ap seen_of at in
    let differs : c.seen-seen.result ≡ Some stamp → ⊥ = search rules in
    let other : old.seen ≡ Some stamp → ⊥ = λ e. differs (same ∙ e) in
    in_step m g.S.Side.NAME stamps b.tiling.size b.tiling.side b.stock c.args.self.now c.self.view_is c.self.invariant c.requires.in_step tile stamp old c.in_ok-part.part
    c.stamp-stamp.ensures at other inside c.in_ok-part.ensures.built c.in_ok-part.ensures.seen c.replace.new.self c.in_ok-replace.ensures.ok

pub returns-clause-looks : goal.returns-clause-looks
returns-clause-looks g c =
    let b = c.self.inside in
    let m : Map = g.T.Looked.map c.args.tiles.now in
    let stamps : List ℕ = g.T.Looked.stamps c.args.tiles.now in
    let tile : ℕ = c.args.tile in
    let stamp : ℕ = c.stamp-stamp.result in
    let inside : tile < length b.stock = subst (λ (p : Pool). tile < length p.parts) (sym c.self.view_is) c.requires.tile in
    let had = read-inside b.stock tile inside in
    let old : Part = had.0 in
    let at : slice_get b.stock tile ≡ Some old = had.1 in
    let same : c.seen-seen.result ≡ old.seen = c.seen-seen.ensures ∙ ap seen_of at in
    let differs : c.seen-seen.result ≡ Some stamp → ⊥ = search rules in
    let other : old.seen ≡ Some stamp → ⊥ = λ e. differs (same ∙ e) in
    fewer m g.S.Side.NAME stamps b.tiling.size b.tiling.side b.stock c.args.self.now c.self.view_is c.self.invariant c.requires.in_step tile stamp old c.in_ok-part.part
    c.stamp-stamp.ensures at other inside c.in_ok-part.ensures.built c.in_ok-part.ensures.seen c.replace.new.self c.in_ok-replace.ensures.ok
    ((c.args.self.now.side + 2) * (c.args.self.now.side + 2)) c.args.looks.now c.build.new.looks c.build.ensures.looks

pub returns-then-eq-clause-sound : goal.returns-then-eq-clause-sound
returns-then-eq-clause-sound g c = subst IsSound c.self.view_is c.self.invariant

pub returns-in_err-part-clause-sound : goal.returns-in_err-part-clause-sound
returns-in_err-part-clause-sound g c = subst IsSound c.self.view_is c.self.invariant

pub returns-clause-sound : goal.returns-clause-sound
returns-clause-sound g c =
    let b = c.self.inside in
    let m : Map = g.T.Looked.map c.args.tiles.now in
    let stamps : List ℕ = g.T.Looked.stamps c.args.tiles.now in
    let tile : ℕ = c.args.tile in
    let stamp : ℕ = c.stamp-stamp.result in
    let inside : tile < length b.stock = subst (λ (p : Pool). tile < length p.parts) (sym c.self.view_is) c.requires.tile in
    let had = read-inside b.stock tile inside in
    let old : Part = had.0 in
    let at : slice_get b.stock tile ≡ Some old = had.1 in
    let same : c.seen-seen.result ≡ old.seen = c.seen-seen.ensures ∙ ap seen_of at in
    let differs : c.seen-seen.result ≡ Some stamp → ⊥ = search rules in
    let other : old.seen ≡ Some stamp → ⊥ = λ e. differs (same ∙ e) in
    sound_after m g.S.Side.NAME stamps b.tiling.size b.tiling.side b.stock c.args.self.now c.self.view_is c.self.invariant c.requires.in_step tile stamp old c.in_ok-part.part
    c.stamp-stamp.ensures at other inside c.in_ok-part.ensures.built c.in_ok-part.ensures.seen c.replace.new.self c.in_ok-replace.ensures.ok

pub invariant_of-self-2 : goal.invariant_of-self-2
invariant_of-self-2 g c =
    let b = c.self.inside in
    let m : Map = g.T.Looked.map c.args.tiles.now in
    let stamps : List ℕ = g.T.Looked.stamps c.args.tiles.now in
    let tile : ℕ = c.args.tile in
    let stamp : ℕ = c.stamp-stamp.result in
    let inside : tile < length b.stock = subst (λ (p : Pool). tile < length p.parts) (sym c.self.view_is) c.requires.tile in
    let had = read-inside b.stock tile inside in
    let old : Part = had.0 in
    let at : slice_get b.stock tile ≡ Some old = had.1 in
    let same : c.seen-seen.result ≡ old.seen = c.seen-seen.ensures ∙ ap seen_of at in
    let differs : c.seen-seen.result ≡ Some stamp → ⊥ = search rules in
    let other : old.seen ≡ Some stamp → ⊥ = λ e. differs (same ∙ e) in
    sound_after m g.S.Side.NAME stamps b.tiling.size b.tiling.side b.stock c.args.self.now c.self.view_is c.self.invariant c.requires.in_step tile stamp old c.in_ok-part.part
    c.stamp-stamp.ensures at other inside c.in_ok-part.ensures.built c.in_ok-part.ensures.seen c.replace.new.self c.in_ok-replace.ensures.ok

-- where memory was refused, the pool is as it was
pub invariant_of-self : goal.invariant_of-self
invariant_of-self g c = subst (λ (ps : List Part). IsSound (record { size = c.self.inside.tiling.size; side = c.self.inside.tiling.side; parts = ps }))
    (sym c.in_err-replace.ensures.err) c.self.invariant

pub returns-in_err-replace-clause-sound : goal.returns-in_err-replace-clause-sound
returns-in_err-replace-clause-sound g c = subst (λ (ps : List Part). IsSound (record { size = c.self.inside.tiling.size; side = c.self.inside.tiling.side; parts = ps }))
    (sym c.in_err-replace.ensures.err) c.self.invariant

pub returns-in_err-replace-clause-in_step : goal.returns-in_err-replace-clause-in_step
returns-in_err-replace-clause-in_step g c =
    let b = c.self.inside in
    let m : Map = g.T.Looked.map c.args.tiles.now in
    subst (λ (ps : List Part). IsInStep m g.S.Side.NAME (g.T.Looked.stamps c.args.tiles.now) (record { size = b.tiling.size; side = b.tiling.side; parts = ps })) (sym c.in_err-replace.ensures.err)
    (subst (IsInStep m g.S.Side.NAME (g.T.Looked.stamps c.args.tiles.now)) (sym c.self.view_is) c.requires.in_step)

pub returns-in_err-replace-clause-kept : goal.returns-in_err-replace-clause-kept
returns-in_err-replace-clause-kept g c =
    let b = c.self.inside in
    subst (λ (ps : List Part). KeepsSeen (g.T.Looked.stamps c.args.tiles.now) c.args.self.now (record { size = b.tiling.size; side = b.tiling.side; parts = ps })) (sym c.in_err-replace.ensures.err)
    (subst (KeepsSeen (g.T.Looked.stamps c.args.tiles.now) c.args.self.now) (sym c.self.view_is) (keeps-itself (g.T.Looked.stamps c.args.tiles.now) c.args.self.now))

pub returns-in_err-replace-clause-in_vain : goal.returns-in_err-replace-clause-in_vain
returns-in_err-replace-clause-in_vain g c =
    let b = c.self.inside in
    let m : Map = g.T.Looked.map c.args.tiles.now in
    let stamps : List ℕ = g.T.Looked.stamps c.args.tiles.now in
    let tile : ℕ = c.args.tile in
    let stamp : ℕ = c.stamp-stamp.result in
    let inside : tile < length b.stock = subst (λ (p : Pool). tile < length p.parts) (sym c.self.view_is) c.requires.tile in
    let had = read-inside b.stock tile inside in
    let old : Part = had.0 in
    let at : slice_get b.stock tile ≡ Some old = had.1 in
    let same : c.seen-seen.result ≡ old.seen = c.seen-seen.ensures ∙ ap seen_of at in
    let differs : c.seen-seen.result ≡ Some stamp → ⊥ = search rules in
    let other : old.seen ≡ Some stamp → ⊥ = λ e. differs (same ∙ e) in
    let cost : ℕ = (c.args.self.now.side + 2) * (c.args.self.now.side + 2) in
    let enough = one_stale m g.S.Side.NAME stamps b.tiling.size b.tiling.side b.stock c.args.self.now c.self.view_is c.self.invariant c.requires.in_step tile stamp old old
    c.stamp-stamp.ensures at other inside cost in
    let paid = c.build.ensures.looks in
    let bound : c.build.new.looks ≤ c.args.looks.now + stale_count stamps c.args.self.now.parts * cost = omega (arith, enough, paid) in
    on_err c.from_residual-in_err-replace.result bound
