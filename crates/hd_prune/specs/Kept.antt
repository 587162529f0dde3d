-- The kept pits with their nearest saddles.
use Rattle.std.specs.Prelude.{◌≡◌, ◌↔◌, ℕ, ℤ, List, map, Contains}
use Rattle.hd_map.specs.declared.types.Rank.{Rank}
use Rattle.hd_map.specs.declared.types.SideName.{SideName}
use Rattle.hd_map.specs.Map.{Map}
use Rattle.hd_map.specs.NearestSaddle.{NearestSaddleIs}
use Rattle.hd_map.specs.Region.{IsPit}
use Rattle.hd_map.specs.Undercut.{Undercuts}
use Rattle.hd_prune.specs.declared.step.Kept.{Kept}

-- the pits alone
abbrev pub pits_kept : List Kept → List Rank
pits_kept kept = map {A = Kept} {B = Rank} (λ k. k.pit) kept

-- the pits are those of the set, each with its nearest saddle there
pub record AreKept (m : Map) (side : SideName) (last : List Rank) (kept : List Kept) : Type 0 where
  pub pits : pits_kept kept ≡ last
  pub nearest : (k : Kept) → Contains kept k → NearestSaddleIs m side last k.pit k.nearest

-- the kept pits are exactly those that no pit undercuts
abbrev pub AreNotUndercut : Map → SideName → ℕ → ℤ → List Kept → Type 0
AreNotUndercut m side thousandths sz kept = (p : Rank) → Contains (pits_kept kept) p ↔ (IsPit m side p × ((q : Rank) → Undercuts m side thousandths sz q p → ⊥))
