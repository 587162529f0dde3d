-- Certificates whose text can be read.
use Rattle.std.specs.Prelude.{◌≡◌, ◌<◌, ◌^◌, ℤ, List, [], length, All, Option, Some, None}
use Rattle.std.specs.Int.{w64}
use Rattle.std.specs.Int.RustNames.{FitsSigned}
use Rattle.hd_map.specs.declared.types.Pos.{Pos}
use Rattle.hd_check.specs.declared.types.Certificate.{Certificate}

-- both numbers are counts
pub record IsWritablePoint (p : Pos) : Type 0 where
  pub column : p.x < 2 ^ 32
  pub profile : p.y < 2 ^ 32

-- the points and their number are counts
pub record AreWritable (points : List Pos) : Type 0 where
  pub few : length points < 2 ^ 32
  pub each : All IsWritablePoint points

-- the saddle is a point with a height that fits i64; without one there is no path
abbrev pub IsWritableSaddle : Option (Pos × ℤ) → List Pos → Type 0
IsWritableSaddle (Some s) path = IsWritablePoint s.0 × FitsSigned w64 s.1
IsWritableSaddle None path = path ≡ []

-- all numbers have their form
pub record IsWritable (c : Certificate) : Type 0 where
  pub from : IsWritablePoint c.from
  pub to : IsWritablePoint c.to
  pub saddle : IsWritableSaddle c.saddle c.path
  pub path : AreWritable c.path
  pub cut : AreWritable c.cut
