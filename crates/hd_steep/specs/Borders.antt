-- Borders by places.
use Rattle.std.specs.Prelude.{◌≡◌, ◌<◌, ◌⊎◌, ℕ, List, Contains, AllPairs}
use Rattle.hd_map.specs.declared.types.SideName.{SideName}
use Rattle.hd_map.specs.Map.{Map}
use Rattle.hd_steep.specs.declared.border.Border.{Border}
use Rattle.hd_steep.specs.Pairs.{AreCounted, IsAcross, Pair}
use Rattle.hd_steep.specs.Found.{HasPlace}

-- one border for each two places with a pair across, by the lesser place and then by the other
pub record AreBorders (m : Map) (side : SideName) (places : List ℕ) (borders : List Border) : Type 0 where
  pub lesser : (l : Border) → Contains borders l → l.a < l.b
  pub counted : (l : Border) → Contains borders l → AreCounted side (IsAcross m (HasPlace m places) l.a l.b) l.pairs l.pass
  pub all : (i j : ℕ) (p : Pair) → i < j → IsAcross m (HasPlace m places) i j p → (l : Border) × Contains borders l × (l.a ≡ i) × (l.b ≡ j)
  pub in_order : AllPairs (λ x y. (x.a < y.a) ⊎ ((x.a ≡ y.a) × (x.b < y.b))) borders
