-- How much fills the regions of kept pits up to their nearest saddles.
use Rattle.std.specs.Prelude.{◌≡◌, ◌<◌, ◌↔◌, ℕ, pos, List, [], ◌∷◌, length, sum_by, slice_get, Option, Some, None, Contains, AllPairs, MatchOption}
use Rattle.hd_num.specs.declared.frac.Frac.{Frac}
use Rattle.hd_num.specs.Frac.{IsFraction}
use Rattle.hd_map.specs.declared.types.Rank.{Rank}
use Rattle.hd_map.specs.declared.types.SideName.{SideName}
use Rattle.hd_map.specs.Map.{Map}
use Rattle.hd_map.specs.NearestSaddle.{IsNearestSaddle, NearestSaddleIs, local_height}
use Rattle.hd_map.specs.Shown.{IsReachedBelow}
use Rattle.hd_feature.specs.Value.{AreSameValues}
use Rattle.hd_prune.specs.declared.step.Kept.{Kept}
use Rattle.hd_prune.specs.Kept.{pits_kept}

-- the points are those that are reached from p by paths wholly below s, by index
pub record AreFilled (m : Map) (side : SideName) (p s : Rank) (points : List Rank) : Type 0 where
  pub exactly : (x : Rank) → Contains points x ↔ IsReachedBelow m side (Some s) p x
  pub in_order : AllPairs (λ x y. x.index < y.index) points

-- the fraction is the sum, over all these points, of the height difference between s and the point, taken positive
pub record IsVolume (m : Map) (side : SideName) (p s : Rank) (f : Frac) : Type 0 where
  pub points : List Rank
  pub are_filled : AreFilled m side p s points
  pub fraction : IsFraction (pos (sum_by (λ x. local_height x s) points)) 1 f.num f.den

-- the fill of a pit of the set: the volume below its nearest saddle, and none exactly where it has none
abbrev pub IsFill : Map → SideName → List Rank → Rank → Option Frac → Type 0
IsFill m side last p value = MatchOption value (NearestSaddleIs m side last p None) (λ f. (s : Rank) × IsNearestSaddle m side last p s × IsVolume m side p s f)

-- the fills of kept pits, in their order
pub record AreFills (m : Map) (side : SideName) (kept : List Kept) (values : List (Option Frac)) : Type 0 where
  pub whole : length values ≡ length kept
  pub each : (i : ℕ) (k : Kept) (value : Option Frac) → slice_get kept i ≡ Some k → slice_get values i ≡ Some value → IsFill m side (pits_kept kept) k.pit value

-- the same fills, one after another
abbrev pub AreSameFills : List (Option Frac) → List (Option Frac) → Type 0
AreSameFills [] [] = Unit {0}
AreSameFills [] (b ∷ others) = ⊥
AreSameFills (a ∷ more) [] = ⊥
AreSameFills (a ∷ more) (b ∷ others) = AreSameValues a b × AreSameFills more others
