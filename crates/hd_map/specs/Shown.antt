-- What is shown of two pits and their saddle: a path over the saddle, and the points reached below it.
use Rattle.std.specs.Prelude.{◌≡◌, ◌<◌, ◌≤◌, ◌⊎◌, ◌↔◌, ℕ, true, List, [], ◌∷◌, length, map, All, Contains, AllPairs, Option, Some, None}
use Rattle.hd_map.specs.declared.types.Pos.{Pos}
use Rattle.hd_map.specs.declared.types.Rank.{Rank}
use Rattle.hd_map.specs.declared.types.SideName.{SideName}
use Rattle.hd_map.specs.Map.{Map, Present}
use Rattle.hd_map.specs.Path.{IsTop, IsPath}
use Rattle.hd_map.specs.Rank.{rank, below_by}
use Rattle.hd_map.specs.Saddle.{IsSaddle, SaddleIs}

-- the indexes of points
abbrev pub indexes_of : List Rank → List ℕ
indexes_of xs = map {A = Rank} {B = ℕ} (λ x. x.index) xs

-- lexicographically the first list comes before the second, or they are the same up to its end
abbrev pub IsNotAfter : List ℕ → List ℕ → Type 0
IsNotAfter [] ys = Unit {0}
IsNotAfter (x ∷ xs) [] = ⊥
IsNotAfter (x ∷ xs) (y ∷ ys) = (x < y) ⊎ ((x ≡ y) × IsNotAfter xs ys)

-- the points are present at these positions
abbrev pub StandAt : Map → List Rank → List Pos → Type 0
StandAt m xs ps = All (Present m) ps × (xs ≡ map (rank m) ps)

module _ (m : Map) (side : SideName) (a b : Rank) where
  -- from a the points xs are a path to b with top s
  pub record IsPathOver (s : Rank) (xs : List Rank) : Type 0 where
    pub path : IsPath m a xs b
    pub top : IsTop (below_by side) s (a ∷ xs)

  -- of the paths from a to b whose top is their saddle s, the points xs are one with the fewest points, and
  -- of those with the fewest the first by the list of indexes
  pub record IsShownPath (s : Rank) (xs : List Rank) : Type 0 where
    pub saddle : IsSaddle m side a b s
    pub over : IsPathOver s xs
    pub fewest : (ys : List Rank) → IsPathOver s ys → length xs ≤ length ys
    pub first : (ys : List Rank) → IsPathOver s ys → length ys ≡ length xs → IsNotAfter (indexes_of xs) (indexes_of ys)

-- the point is below the saddle, and any point is where there is no saddle
abbrev pub IsBelowSaddle : SideName → Option Rank → Rank → Type 0
IsBelowSaddle side (Some s) x = below_by side x s ≡ true
IsBelowSaddle side None x = Unit {0}

-- p is reached from a by a path whose points are all below the saddle
pub record IsReachedBelow (m : Map) (side : SideName) (saddle : Option Rank) (a p : Rank) : Type 0 where
  pub points : List Rank
  pub path : IsPath m a points p
  pub below : All (IsBelowSaddle side saddle) (a ∷ points)

-- the cut at the saddle of a and b, on the side of a: the points that are reached below it, by index
pub record IsShownCut (m : Map) (side : SideName) (a b : Rank) (saddle : Option Rank) (cut : List Rank) : Type 0 where
  pub saddle_is : SaddleIs m side a b saddle
  pub exactly : (p : Rank) → Contains cut p ↔ IsReachedBelow m side saddle a p
  pub in_order : AllPairs (λ p q. p.index < q.index) cut
