-- Nexts and roots are unique, and each next is less deep.
use Rattle.std.proofs.Common.{◌≡◌, ◌<◌, [], ◌∷◌, ◌∙◌, true, ◌⊎◌, inl, inr, sym, subst, refl}
use Rattle.hd_map.specs.declared.types.Rank.{Rank}
use Rattle.hd_map.specs.declared.types.SideName.{SideName}
use Rattle.hd_map.specs.Map.{Map, IsMap}
use Rattle.hd_map.specs.Rank.{below_by}
use Rattle.hd_map.specs.Region.{IsNext, IsPit, AreNexts, IsRoot}
use Rattle.hd_map.specs.SideLaws.{below_by-order}
use Rattle.hd_map.proofs.Points.{Near-from, Near-to}
use Rattle.hd_map.proofs.Depth.{depth_by, depth_falls}

-- a point has one next at most
pub next-unique : (m : Map) (side : SideName) (p q r : Rank) → IsNext m side p q → IsNext m side p r → q ≡ r
next-unique m side p q r a b = (below_by-order side).total q r (b.lowest q a.lower) (a.lowest r b.lower)

-- a next is less deep
pub next-falls : (m : Map) (side : SideName) (p q : Rank) → IsMap m → IsNext m side p q → depth_by side q < depth_by side p
next-falls m side p q whole n = let near = n.lower.near in depth_falls m side q p whole (Near-to m p q near) (Near-from m p q near) n.lower.below

-- a pit is its own root
pub root-pit : (m : Map) (side : SideName) (p : Rank) → IsPit m side p → IsRoot m side p p
root-pit m side p pit = ([], (refl, pit))

-- the root of the next is the root
pub root-step : (m : Map) (side : SideName) (p q r : Rank) → IsNext m side p q → IsRoot m side q r → IsRoot m side p r
root-step m side p q r n (path, nexts) = (q ∷ path, (n, nexts))

-- the root is the root of the next
pub root-next : (m : Map) (side : SideName) (p q r : Rank) → IsNext m side p q → IsRoot m side p r → IsRoot m side q r
root-next m side p q r n ([], nexts) = absurd (nexts.1.alone q n.lower)
root-next m side p q r n ((s ∷ path), nexts) = (path, subst (λ (t : Rank). AreNexts m side t path r) (next-unique m side p s q nexts.0 n) nexts.1)

-- a root is a pit
pub root-is_pit : (m : Map) (side : SideName) (p r : Rank) → IsRoot m side p r → IsPit m side r
root-is_pit m side p r ([], nexts) = subst (λ (q : Rank). IsPit m side q) nexts.0 nexts.1
root-is_pit m side p r ((q ∷ path), nexts) = root-is_pit m side q r (path, nexts.1)

-- a point has one root at most
pub root-unique : (m : Map) (side : SideName) (p r s : Rank) → IsRoot m side p r → IsRoot m side p s → r ≡ s
root-unique m side p r s ([], nexts) ([], nexts') = sym nexts.0 ∙ nexts'.0
root-unique m side p r s ([], nexts) ((q ∷ path), nexts') = absurd (nexts.1.alone q nexts'.0.lower)
root-unique m side p r s ((q ∷ path), nexts) other = root-unique m side q r s (path, nexts.1) (root-next m side p q s nexts.0 other)

-- the root of a pit is that pit
pub root-of_pit : (m : Map) (side : SideName) (p r : Rank) → IsPit m side p → IsRoot m side p r → r ≡ p
root-of_pit m side p r pit root = root-unique m side p r p root (root-pit m side p pit)

-- the root of a point is that point, or below it
pub root-below : (m : Map) (side : SideName) (p r : Rank) → IsRoot m side p r → (r ≡ p) ⊎ (below_by side r p ≡ true)
root-below m side p r ([], nexts) = inl (sym nexts.0)
root-below m side p r ((q ∷ path), nexts) = inr (elim (root-below m side q r (path, nexts.1)) [
  | inl same ↦ subst (λ (t : Rank). below_by side t p ≡ true) (sym same) nexts.0.lower.below
  | inr below ↦ (below_by-order side).transitive r q p below nexts.0.lower.below
])
