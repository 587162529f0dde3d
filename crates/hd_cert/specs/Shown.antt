-- The certificate that is shown of two pits.
use Rattle.std.specs.Prelude.{◌≡◌, ℤ, List, [], ◌∷◌, Option, MatchOption, Some, None}
use Rattle.hd_map.specs.declared.types.Pos.{Pos}
use Rattle.hd_map.specs.declared.types.Rank.{Rank}
use Rattle.hd_map.specs.declared.types.SideName.{SideName}
use Rattle.hd_map.specs.Map.{Map, Present}
use Rattle.hd_map.specs.Rank.{rank}
use Rattle.hd_map.specs.Region.{IsPit}
use Rattle.hd_map.specs.Shown.{IsShownPath, IsShownCut, StandAt}
use Rattle.hd_check.specs.declared.types.Certificate.{Certificate}

-- two different pits, at these positions
pub record AreTwoPits (m : Map) (side : SideName) (a b : Pos) : Type 0 where
  pub here : Present m a
  pub there : Present m b
  pub pit : IsPit m side (rank m a)
  pub other : IsPit m side (rank m b)
  pub apart : a ≡ b → ⊥

-- the saddle by its position and its height, and none where there is none
abbrev pub IsWritten : Map → Option Rank → Option (Pos × ℤ) → Type 0
IsWritten m None None = Unit {0}
IsWritten m None (Some w) = ⊥
IsWritten m (Some s) None = ⊥
IsWritten m (Some s) (Some w) = Present m w.0 × (rank m w.0 ≡ s) × (w.1 ≡ s.height)

-- the positions of the shown path from a to b over their saddle s
pub record IsPathAt (m : Map) (side : SideName) (a b : Pos) (s : Rank) (path : List Pos) : Type 0 where
  pub points : List Rank
  pub shown : IsShownPath m side (rank m a) (rank m b) s points
  pub stand : StandAt m (rank m a ∷ points) path

-- the positions of the shown cut of a and b, on the side of a
pub record IsCutAt (m : Map) (side : SideName) (a b : Pos) (saddle : Option Rank) (cut : List Pos) : Type 0 where
  pub points : List Rank
  pub shown : IsShownCut m side (rank m a) (rank m b) saddle points
  pub stand : StandAt m points cut

-- the certificate of the pits a and b and their saddle: the shown path, and none where there is no
-- saddle, the shown cut, the saddle with its height, and the setting of the map
pub record IsShownCertificate (m : Map) (side : SideName) (a b : Pos) (saddle : Option Rank) (c : Certificate) : Type 0 where
  pub side_is : c.side ≡ side
  pub setting_is : c.adjacency ≡ m.adjacency
  pub from_is : c.from ≡ a
  pub to_is : c.to ≡ b
  pub saddle_is : IsWritten m saddle c.saddle
  pub path : MatchOption saddle (c.path ≡ []) (λ s. IsPathAt m side a b s c.path)
  pub cut : IsCutAt m side a b saddle c.cut
