-- The neighbours of a point.
use Rattle.std.specs.Prelude.{◌≡◌, ◌<◌, ◌≤◌, ◌⊎◌, ◌+◌, ℕ}
use Rattle.hd_map.specs.declared.types.Adjacency.{Adjacency}
use Rattle.hd_map.specs.declared.types.Adjacency.TheVariants.{Four, Six, Eight}
use Rattle.hd_map.specs.declared.types.Pos.{Pos}
use Rattle.hd_map.specs.Map.{Map, Present}

-- two numbers differ by at most one
abbrev pub IsNear : ℕ → ℕ → Type 0
IsNear a b = (a ≤ b + 1) × (b ≤ a + 1)

-- the position of greater column has the greater profile
abbrev pub AreRising : Pos → Pos → Type 0
AreRising p q = ((p.x < q.x) × (p.y < q.y)) ⊎ ((q.x < p.x) × (q.y < p.y))

-- what a setting asks besides of two positions side by side: under 4, their columns or their profiles are equal;
-- under 6, these are equal, or the one of greater column has the greater profile
abbrev pub AreBesideUnder : Adjacency → Pos → Pos → Type 0
AreBesideUnder Four p q = (p.x ≡ q.x) ⊎ (p.y ≡ q.y)
AreBesideUnder Six p q = ((p.x ≡ q.x) ⊎ (p.y ≡ q.y)) ⊎ AreRising p q
AreBesideUnder Eight p q = Unit {0}

-- two present points are neighbours under the setting if their columns differ by at most one, their profiles
-- differ by at most one, they are different, and what the setting asks holds
pub record Neighbour (m : Map) (p q : Pos) : Type 0 where
  pub from : Present m p
  pub to : Present m q
  pub columns : IsNear p.x q.x
  pub rows : IsNear p.y q.y
  pub different : p ≡ q → ⊥
  pub beside : AreBesideUnder m.adjacency p q
