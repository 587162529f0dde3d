use Rattle.std.proofs.Common.{ℕ, ◌≡◌, List, length, get_or, ◌∙◌, arith}
use Rattle.std.proofs.lemmas.Option.{slice_get_within, slice_get-get_or}
use Rattle.hd_map.specs.Map.{Map}
use Rattle.hd_map.specs.declared.types.SideName.{SideName}
use Rattle.hd_tiles.specs.Stamps.{ComesFrom}
use Rattle.hd_basin.specs.InStep.{IsInStep}
use Rattle.hd_basin.specs.Parts.{Pool, HasNode, IsLinked, IsFresh, label_of}
use Rattle.hd_basin.proofs.Views.{Keeps}
use Rattle.hd_basin.proofs.InStep.{right-kept, fresh-before}
use Rattle.hd_basin.proofs.laws.pool_stays_in_step.Goals as goal

-- what is fresh now was fresh before, and is kept
still : (pool : Pool) (side : SideName) (old new : Map) (before after : List ℕ) → length before ≡ length after → ComesFrom old pool.side before new pool.side after → IsInStep old side before pool
    → (tile : ℕ) → IsFresh after pool.parts tile → IsFresh before pool.parts tile × Keeps old new pool.side tile
still pool side old new before after long comes step tile fresh =
    let h = fresh-before pool.side old before new after long comes tile fresh.stamp fresh.now (λ was is. step.not_ahead tile fresh.stamp was fresh.part fresh.at fresh.seen is) in
    (record { stamp = fresh.stamp; part = fresh.part; now = h.0; at = fresh.at; seen = fresh.seen }, h.1)

pub returns : goal.returns
returns c = λ pool side old new before after long comes step. record {
  size = step.size ∙ comes.size;
  not_ahead = λ tile seen now part at is there. (
      let inside = slice_get_within after tile now there in
      let had = slice_get-get_or before tile 0 (omega (arith, long, inside)) in
      let low = step.not_ahead tile seen (get_or before tile 0) part at is had in
      let rise = comes.not_less tile (get_or before tile 0) now had there in
      omega (arith, low, rise));
  has = record {
    right = right-kept old new side pool.side (IsFresh before pool.parts) (IsFresh after pool.parts) (HasNode pool.parts) (label_of pool.size pool.side pool.parts) (IsLinked pool.parts) comes.size
        (still pool side old new before after long comes step) step.has.right;
    once = λ tile part fresh at. step.has.once tile part (still pool side old new before after long comes step tile fresh).0 at;
  };
}
