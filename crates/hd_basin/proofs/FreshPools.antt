-- A pool whose tiles are all fresh is that of the whole map.
use Rattle.std.proofs.Common.{◌≡◌, ◌<◌, ◌≤◌, ℕ, List, length, inl, inr, sym, ◌∙◌, ap, subst, arith}
use Rattle.std.proofs.lemmas.Option.{slice_get_within}
use Rattle.hd_map.specs.declared.types.Pos.{Pos}
use Rattle.hd_map.specs.declared.types.Rank.{Rank}
use Rattle.hd_map.specs.declared.types.Size.{Size}
use Rattle.hd_map.specs.declared.types.SideName.{SideName}
use Rattle.hd_map.specs.Map.{Map, InGrid}
use Rattle.hd_map.specs.Rank.{IsPoint}
use Rattle.hd_map.proofs.Points.{Near-from, Near-to}
use Rattle.hd_tiles.specs.Tile.{tile_of, tile_count}
use Rattle.hd_tiles.proofs.Corners.{tile_of-inside}
use Rattle.hd_basin.specs.Basin.{tile_at}
use Rattle.hd_basin.specs.InStep.{IsInStep, IsPoolOf, KeepsSeen}
use Rattle.hd_basin.specs.Parts.{Pool, IsFresh, IsLinked, IsSeamOf, IsSound}
use Rattle.hd_basin.proofs.Areas.{tile-of_point}
use Rattle.hd_basin.proofs.SinkLaws.{sink-tile}
use Rattle.hd_basin.proofs.Replacing.{both_ends, seam_ends}

-- a tile that is fresh stays so, and what is seen was seen or is present, from one pool to the next
pub keeps-onward : (stamps : List ℕ) (a b c : Pool) → KeepsSeen stamps a b → KeepsSeen stamps b c → KeepsSeen stamps a c
keeps-onward stamps a b c first second = record {
  fresh = λ tile fresh. second.fresh tile (first.fresh tile fresh);
  known = λ tile seen part at is. elim (second.known tile seen part at is) [
    | inl now ↦ inl now
    | inr was ↦ first.known tile seen was.0 was.1 was.2
  ];
}

pub keeps-itself : (stamps : List ℕ) (a : Pool) → KeepsSeen stamps a a
keeps-itself stamps a = record { fresh = λ tile fresh. fresh; known = λ tile seen part at is. inr (part, at, is) }

module _ (m : Map) (side : SideName) (stamps : List ℕ) (pool : Pool) (sound : IsSound pool) (step : IsInStep m side stamps pool) (some : 1 ≤ pool.side)
    (all : (tile : ℕ) → tile < length pool.parts → IsFresh stamps pool.parts tile) where
  tile_fresh : (p : Pos) → InGrid m.size p → IsFresh stamps pool.parts (tile_of m.size pool.side p)
  tile_fresh p inside =
      let below = tile_of-inside m.size pool.side p some inside in
      let count : tile_count m.size pool.side ≡ length pool.parts = ap (λ (s : Size). tile_count s pool.side) (sym step.size) ∙ sym sound.whole in
      all _ (omega (arith, below, count))

  point_fresh : (r : Rank) → IsPoint m r → IsFresh stamps pool.parts (tile_at m.size pool.side r)
  point_fresh r point = subst (IsFresh stamps pool.parts) (sym (tile-of_point m pool.side r point.at point.present point.rank_is)) (tile_fresh point.at point.present.in_grid)

  at_size : (r : Rank) (j : ℕ) → tile_at pool.size pool.side r ≡ j → tile_at m.size pool.side r ≡ j
  at_size r j e = ap (λ (s : Size). tile_at s pool.side r) (sym step.size) ∙ e

  link_fresh : (a b w : Rank) → IsLinked pool.parts a b w → IsFresh stamps pool.parts (tile_at m.size pool.side a) × IsFresh stamps pool.parts (tile_at m.size pool.side b)
  link_fresh a b w (inl x) =
      let r = sound.inside x.tile x.part x.pass x.at x.has in
      let ends = both_ends (λ z. tile_at m.size pool.side z ≡ x.tile) x.pass a b w x.between (at_size x.pass.a x.tile r.0) (at_size x.pass.b x.tile r.1) in
      let fresh = all x.tile (slice_get_within pool.parts x.tile x.part x.at) in
      (subst (IsFresh stamps pool.parts) (sym ends.0) fresh, subst (IsFresh stamps pool.parts) (sym ends.1) fresh)
  link_fresh a b w (inr x) =
      let of = subst (λ (s : Size). IsSeamOf s pool.side x.tile x.seam) step.size (sound.across x.tile x.part x.seam x.at x.has) in
      let here = all x.tile (slice_get_within pool.parts x.tile x.part x.at) in
      let there = all x.seam.with (slice_get_within pool.parts x.seam.with x.other x.with_at) in
      elim (seam_ends m pool.side x.tile x.seam a b w x.between of) [
        | inl h ↦ (subst (IsFresh stamps pool.parts) (sym h.0) here, subst (IsFresh stamps pool.parts) (sym h.1) there)
        | inr h ↦ (subst (IsFresh stamps pool.parts) (sym h.1) there, subst (IsFresh stamps pool.parts) (sym h.0) here)
      ]

  pub all-pool_of : IsPoolOf m side pool
  all-pool_of =
      let old = step.has.right in
      record {
        size = step.size;
        once = sound.once;
        has = record {
          right = record {
            nodes = λ tile n u has. old.nodes tile n (all tile (slice_get_within pool.parts tile has.part has.at)) has;
            sinks = λ s u sink. old.sinks s (point_fresh s sink.point) sink;
            labels = λ p inside u. old.labels p inside (tile_fresh p inside);
            passes = λ a b w u v has. (let f = link_fresh a b w has in old.passes a b w f.0 f.1 has);
            meetings = λ a b w u v apart meet. (
                let from = subst (IsFresh stamps pool.parts) (sym (sink-tile m side pool.side meet.from a meet.from_in)) (point_fresh meet.from (Near-from m meet.from meet.to meet.near)) in
                let to = subst (IsFresh stamps pool.parts) (sym (sink-tile m side pool.side meet.to b meet.to_in)) (point_fresh meet.to (Near-to m meet.from meet.to meet.near)) in
                old.meetings a b w from to apart meet);
          };
          once = λ tile part u at. step.has.once tile part (all tile (slice_get_within pool.parts tile part at)) at;
        };
      }
