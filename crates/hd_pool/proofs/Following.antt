-- What is kept of a side follows a map in tiles through its changes.
use Rattle.std.proofs.Common.{◌≡◌, ℕ, List, length, sym, ◌∙◌, subst}
use Rattle.hd_map.specs.declared.types.SideName.{SideName}
use Rattle.hd_map.specs.Map.{Map}
use Rattle.hd_tiles.specs.Stamps.{ComesFrom}
use Rattle.hd_basin.specs.InStep.{IsInStep}
use Rattle.hd_basin.specs.Parts.{Pool}
use Rattle.hd_pool.specs.Following.{Follows, IsFollowing, KeptSide, nothing_kept}

-- pools in step with the map before stay in step
abbrev pub StayInStep : Map → Map → SideName → List ℕ → List ℕ → Type 0
StayInStep old new side before after = (pool : Pool) → length before ≡ length after → ComesFrom old pool.side before new pool.side after
    → IsInStep old side before pool → IsInStep new side after pool

-- a pool that stays in step follows what its map becomes
pub following-onward : (old new : Map) (side : SideName) (t u : ℕ) (before after : List ℕ) (pool : Pool) → StayInStep old new side before after
    → length before ≡ length after → ComesFrom old t before new u after → IsFollowing old side t before pool → IsFollowing new side u after pool
following-onward old new side t u before after pool stays same comes was =
    let one : u ≡ pool.side = sym (was.same_side ∙ comes.same_side) in
    record {
      same_side = was.same_side ∙ comes.same_side;
      in_step = stays pool same (subst (λ (k : ℕ). ComesFrom old pool.side before new k after) one (subst (λ (k : ℕ). ComesFrom old k before new u after) (sym was.same_side) comes)) was.in_step;
    }

-- so does what is kept of the side
pub follows-onward : (old new : Map) (side : SideName) (t u : ℕ) (before after : List ℕ) (kept : KeptSide) → StayInStep old new side before after
    → length before ≡ length after → ComesFrom old t before new u after → Follows old side t before kept → Follows new side u after kept
follows-onward old new side t u before after kept stays same comes was =
    λ p is. following-onward old new side t u before after p stays same comes (was p is)

-- where nothing is kept, nothing has to follow
pub follows-none : (m : Map) (side : SideName) (t : ℕ) (stamps : List ℕ) (kept : KeptSide) → kept ≡ nothing_kept → Follows m side t stamps kept
follows-none m side t stamps kept none = rw none (λ p is. absurd (cc is))
