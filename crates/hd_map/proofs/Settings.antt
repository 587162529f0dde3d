-- Positions side by side under a setting.
use Rattle.std.proofs.Common.{◌≡◌, inl, inr, refl, sym, subst}
use Rattle.hd_map.specs.declared.types.Adjacency.{Adjacency}
use Rattle.hd_map.specs.declared.types.Adjacency.TheVariants.{Four, Six, Eight}
use Rattle.hd_map.specs.declared.types.Pos.{Pos}
use Rattle.hd_map.specs.Neighbour.{AreBesideUnder}

-- what is beside under a setting is so both ways
pub beside-sym : (adjacency : Adjacency) (p q : Pos) → AreBesideUnder adjacency p q → AreBesideUnder adjacency q p
beside-sym Four p q (inl column) = inl (sym column)
beside-sym Four p q (inr profile) = inr (sym profile)
beside-sym Six p q (inl (inl column)) = inl (inl (sym column))
beside-sym Six p q (inl (inr profile)) = inl (inr (sym profile))
beside-sym Six p q (inr (inl right)) = inr (inr right)
beside-sym Six p q (inr (inr left)) = inr (inl left)
beside-sym Eight p q beside = tt

-- a position is beside itself
pub beside-itself : (adjacency : Adjacency) (p : Pos) → AreBesideUnder adjacency p p
beside-itself Four p = inl refl
beside-itself Six p = inl (inl refl)
beside-itself Eight p = tt

-- in one profile each is beside the others
pub beside-profile : (adjacency : Adjacency) (p q : Pos) → p.y ≡ q.y → AreBesideUnder adjacency p q
beside-profile Four p q same = inr same
beside-profile Six p q same = inl (inr same)
beside-profile Eight p q same = tt

-- under 8 all are
pub beside-eight : (adjacency : Adjacency) (p q : Pos) → adjacency ≡ Eight → AreBesideUnder adjacency p q
beside-eight adjacency p q eight = subst (λ (a : Adjacency). AreBesideUnder a p q) (sym eight) tt
