-- Pruning is a function of the map, the side and the percent.
use Rattle.std.proofs.Common.{◌≡◌, ℕ, ℤ, ◌<◌, inl, inr, List, ◌∷◌, refl, sym, ◌∙◌, ap, subst, arith}
use Rattle.std.specs.Prelude.{pos, ◌-ℤ◌, ◌≤ℤ◌}
use Rattle.std.proofs.lemmas.Int.{ints}
use Rattle.hd_map.specs.declared.types.Rank.{Rank}
use Rattle.hd_map.specs.declared.types.SideName.{SideName}
use Rattle.hd_map.specs.Map.{Map}
use Rattle.hd_map.specs.NearestSaddle.{local_height, IsNearestSaddle}
use Rattle.hd_map.specs.Pruning.{Leaving, without, handed, GoesFirst, IsSmallest, IsTakenOver, IsPruneStep, Prunes, over, goes_on, SzIs, ArePits, IsPruning}
use Rattle.hd_map.specs.Rank.{below_by}
use Rattle.hd_map.specs.Region.{IsRoot}
use Rattle.hd_map.specs.SideLaws.{below_by-order}
use Rattle.hd_map.proofs.Nexts.{root-unique}
use Rattle.hd_map.proofs.Trees.{same_in_order}

same_difference : (a b c d : ℤ) → a ≤ℤ b → b ≤ℤ a → c ≤ℤ d → d ≤ℤ c → a -ℤ c ≡ b -ℤ d
same_difference a b c d ab ba cd dc = let p : a ≡ b = omega (arith, ints) in let q : c ≡ d = omega (arith, ints) in cc

-- a map has one Sz
pub sz-unique : (m : Map) (a b : ℤ) → SzIs m a → SzIs m b → a ≡ b
sz-unique m a b (inl x) (inl y) =
    x.5 ∙ same_difference (x.1).height (y.1).height (x.0).height (y.0).height ((y.4 x.1 x.3).1) ((x.4 y.1 y.3).1) ((x.4 y.0 y.2).0) ((y.4 x.0 x.2).0) ∙ sym y.5
sz-unique m a b (inl x) (inr y) = absurd (y.0 x.0 x.2)
sz-unique m a b (inr x) (inl y) = absurd (x.0 y.0 y.2)
sz-unique m a b (inr x) (inr y) = x.1 ∙ sym y.1

-- its pits stand in one list
pub pits-unique : (m : Map) (side : SideName) (a b : List Rank) → ArePits m side a → ArePits m side b → a ≡ b
pits-unique m side a b x y = same_in_order (λ (p : Rank) (q : Rank). p.index < q.index) (λ p q h k. omega arith) a b x.in_order y.in_order (λ p. (
  λ h. (y.exactly p).1 ((x.exactly p).0 h),
  λ h. (x.exactly p).1 ((y.exactly p).0 h),
))

module _ (m : Map) (side : SideName) where
  nearest-unique : (kept : List Rank) (p s u : Rank) → IsNearestSaddle m side kept p s → IsNearestSaddle m side kept p u → s ≡ u
  nearest-unique kept p s u h k = (below_by-order side).total s u
      (k.least h.reached.0 s h.reached.1 h.reached.2 h.reached.3)
      (h.least k.reached.0 u k.reached.1 k.reached.2 k.reached.3)

  first-antisym : (p s q u : Rank) → GoesFirst side p s q u → GoesFirst side q u p s → p ≡ q
  first-antisym p s q u (inl a) (inl b) = absurd (omega arith)
  first-antisym p s q u (inl a) (inr b) = absurd (omega (arith, b.0))
  first-antisym p s q u (inr a) (inl b) = absurd (omega (arith, a.0))
  first-antisym p s q u (inr a) (inr b) = (below_by-order side).total p q a.1 b.1

  smallest-unique : (kept : List Rank) (p s q u : Rank) → IsSmallest m side kept p s → IsSmallest m side kept q u → p ≡ q
  smallest-unique kept p s q u h k = first-antisym p s q u (h.first q u k.is_kept k.nearest) (k.first p s h.is_kept h.nearest)

  -- one pit takes over
  taken_over-unique : (owner : Rank → Rank) (p s o u : Rank) → IsTakenOver m side owner p s o → IsTakenOver m side owner p s u → o ≡ u
  taken_over-unique owner p s o u h k =
      let b : h.neighbour ≡ k.neighbour = (below_by-order side).total h.neighbour k.neighbour
      (k.across.lowest h.neighbour h.root h.across.beyond) (h.across.lowest k.neighbour k.root k.across.beyond) in
      let r : h.root ≡ k.root = root-unique m side h.neighbour h.root k.root h.across.beyond.root
      (subst (λ (c : Rank). IsRoot m side c k.root) (sym b) k.across.beyond.root) in
      h.into ∙ ap owner r ∙ sym k.into

  same_leaving : (p q s u o r : Rank) (l n : ℤ) → p ≡ q → l ≡ n → s ≡ u → o ≡ r → ◌≡◌ {A = Leaving} (record { pit = p; local = l; saddle = s; into = o })
      (record { pit = q; local = n; saddle = u; into = r })
  same_leaving p q s u o r l n a b c d = cc

  module _ (thousandths : ℕ) (sz : ℤ) where
    step-unique : (kept : List Rank) (owner : Rank → Rank) (x y : Leaving) → IsPruneStep m side thousandths sz kept owner x → IsPruneStep m side thousandths sz kept owner y → x ≡ y
    step-unique kept owner x y h k =
        let p : x.pit ≡ y.pit = smallest-unique kept x.pit x.saddle y.pit y.saddle h.smallest k.smallest in
        let s : x.saddle ≡ y.saddle = nearest-unique kept x.pit x.saddle y.saddle h.smallest.nearest (subst (λ (z : Rank). IsNearestSaddle m side kept z y.saddle) (sym p) k.smallest.nearest) in
        let l : x.local ≡ y.local = h.local_is ∙ ap (λ (z : Rank). pos (local_height z x.saddle)) p ∙ ap (λ (z : Rank). pos (local_height y.pit z)) s ∙ sym k.local_is in
        let t : IsTakenOver m side owner x.pit x.saddle y.into = subst (λ (z : Rank). IsTakenOver m side owner z x.saddle y.into) (sym p)
        (subst (λ (z : Rank). IsTakenOver m side owner y.pit z y.into) (sym s) k.taken_over) in
        same_leaving x.pit y.pit x.saddle y.saddle x.into y.into x.local y.local p l s (taken_over-unique owner x.pit x.saddle x.into y.into h.taken_over t)

    -- pruning is determined by where it starts
    pub prunes-unique : {kept last end : List Rank} {owner mine yours : Rank → Rank} {xs ys : List Leaving} → Prunes m side thousandths sz kept owner xs last mine
        → Prunes m side thousandths sz kept owner ys end yours →
        (xs ≡ ys) × (last ≡ end) × (mine ≡ yours)
    prunes-unique (over a) (over b) = (refl, refl, refl)
    prunes-unique (over a) (goes_on {x = y} h r) = absurd (a y h)
    prunes-unique (goes_on {x = x} h r) (over b) = absurd (b x h)
    prunes-unique {kept} {last} {end} {owner} {mine} {yours} (goes_on {x = x} {steps = xs} h r) (goes_on {x = y} {steps = ys} k q) =
        let e : x ≡ y = step-unique kept owner x y h k in
        let q' : Prunes m side thousandths sz (without (below_by side) x.pit kept) (handed (below_by side) x.pit x.into owner) ys end yours =
        subst (λ (z : Leaving). Prunes m side thousandths sz (without (below_by side) z.pit kept) (handed (below_by side) z.pit z.into owner) ys end yours) (sym e) q in
        let rest = prunes-unique r q' in
        (ap (λ (z : Leaving). z ∷ xs) e ∙ ap (λ (zs : List Leaving). y ∷ zs) rest.0, rest.1, rest.2)

-- and so of the map, the side and the percent
pub pruning-unique : (m : Map) (side : SideName) (thousandths : ℕ) (xs ys : List Leaving) (last end : List Rank) (mine yours : Rank → Rank) →
    IsPruning m side thousandths xs last mine → IsPruning m side thousandths ys end yours → (xs ≡ ys) × (last ≡ end) × (mine ≡ yours)
pruning-unique m side thousandths xs ys last end mine yours a b =
    let sz : b.sz ≡ a.sz = sz-unique m b.sz a.sz b.sz_is a.sz_is in
    let ps : b.pits ≡ a.pits = pits-unique m side b.pits a.pits b.are_pits a.are_pits in
    prunes-unique m side thousandths a.sz a.prunes
    (subst (λ (z : ℤ). Prunes m side thousandths z a.pits (λ p. p) ys end yours) sz (subst (λ (zs : List Rank). Prunes m side thousandths b.sz zs (λ p. p) ys end yours) ps b.prunes))
