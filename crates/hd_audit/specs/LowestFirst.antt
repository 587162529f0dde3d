-- The order of a heap whose greatest is the lowest.
use Rattle.std.specs.Prelude.{◌≡◌, Bool, true, false, cond, refl}
use Rattle.std.proofs.Common.{ap}
use Rattle.std.specs.declared.cmp.Ordering.{Ordering}
use Rattle.std.specs.declared.cmp.Ordering.TheVariants.{Less, Equal, Greater}
use Rattle.std.specs.Cmp.{IsTotalOrder}
use Rattle.std.specs.Ordering.{ordering_reverse}
use Rattle.hd_map.specs.Order.{IsStrictOrder}

-- the lower of two is the greater
abbrev pub lowest_first : {A : Type 0} → (A → A → Bool) → A → A → Ordering
lowest_first below x y = cond (below y x) Less (cond (below x y) Greater Equal)

module _ {A : Type 0} (below : A → A → Bool) (laws : IsStrictOrder below) where
  turned : (x y : A) (b c : Bool) → below y x ≡ b → below x y ≡ c → cond b Less (cond c Greater Equal) ≡ ordering_reverse (cond c Less (cond b Greater Equal))
  turned x y true true p q = (let h = laws.transitive x y x q p in let k = laws.irreflexive x in absurd cc)
  turned x y true false p q = refl
  turned x y false true p q = refl
  turned x y false false p q = refl

  less_is : (b c : Bool) → cond b Less (cond c Greater Equal) ≡ Less → b ≡ true
  less_is true c e = refl
  less_is false true e = cc
  less_is false false e = cc

  equal_is : (x y : A) (b c : Bool) → below y x ≡ b → below x y ≡ c → cond b Less (cond c Greater Equal) ≡ Equal → x ≡ y
  equal_is x y true c p q e = cc
  equal_is x y false true p q e = cc
  equal_is x y false false p q e = laws.total x y q p

  lowest_first-same : (x y : A) → lowest_first below x y ≡ Equal → x ≡ y
  lowest_first-same x y e = equal_is x y (below y x) (below x y) refl refl e

  -- it is a total order
  pub lowest_first-total : IsTotalOrder (lowest_first below)
  lowest_first-total = record {
    antisymm = λ x y. turned x y (below y x) (below x y) refl refl;
    trans = λ x y z p q. (let a = less_is (below y x) (below x y) p in let b = less_is (below z y) (below y z) q in let c = laws.transitive z y x b a in rw c);
    congr = λ x y z e. ap (λ (v : A). lowest_first below v z) (lowest_first-same x y e);
  }
