-- The chosen positions, in position order.
use Rattle.std.specs.Prelude.{◌≡◌, ◌<◌, ◌+◌, ◌-◌, ◌⊎◌, ◌++◌, ℕ, List, [], ◌∷◌, length}
use Rattle.std.specs.List.{Contains}
use Rattle.hd_map.specs.declared.types.Pos.{Pos}
use Rattle.hd_map.specs.declared.types.Size.{Size}
use Rattle.hd_map.specs.Map.{InGrid, place_of}
use Rattle.hd_check.specs.Rules.{point_of}

-- the chosen positions before an index
pub record AreListed (s : Size) (Chosen : Pos → Type 0) (index : ℕ) (ps : List Pos) : Type 0 where
  pub rises : (k : ℕ) → k < length ps - 1 → place_of s (point_of ps k) < place_of s (point_of ps (k + 1))
  pub before : (k : ℕ) → k < length ps → place_of s (point_of ps k) < index
  pub inside : (k : ℕ) → k < length ps → InGrid s (point_of ps k)
  pub chosen : (k : ℕ) → k < length ps → Chosen (point_of ps k)
  pub all : (p : Pos) → InGrid s p → place_of s p < index → Chosen p → Contains ps p

-- the position of an index is listed where it is chosen
abbrev pub Lists : Size → (Pos → Type 0) → ℕ → List Pos → List Pos → Type 0
Lists s Chosen index ps ps' = (p : Pos) × InGrid s p × (place_of s p ≡ index)
    × ((Chosen p × (ps' ≡ ps ++ p ∷ [])) ⊎ ((Chosen p → ⊥) × (ps' ≡ ps)))
