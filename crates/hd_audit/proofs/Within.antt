-- What is within a threshold of a pit, and what is reached from it by points within it.
use Rattle.std.proofs.Common.{◌≡◌, ℕ, ℤ, Bool, true, false, List, [], ◌∷◌, ◌⊎◌, inl, inr, refl, sym, subst, arith}
use Rattle.std.specs.Prelude.{All, pos, negsuc, int_lt, ◌*ℤ◌, ◌-ℤ◌, ◌≤ℤ◌}
use Rattle.std.specs.Int.RustNames.{unsigned_abs}
use Rattle.std.proofs.lemmas.Int.{ints}
use Rattle.std.proofs.lemmas.Bool.Decides.{nat_tests}
use Rattle.std.proofs.lemmas.List.Elements.{All-nil, All-cons, All-head, All-tail}
use Rattle.hd_map.specs.declared.types.Rank.{Rank}
use Rattle.hd_map.specs.declared.types.SideName.{SideName}
use Rattle.hd_map.specs.declared.types.SideName.TheVariants.{Dales, Hills}
use Rattle.hd_map.specs.Map.{Map}
use Rattle.hd_map.specs.NearestSaddle.{local_height}
use Rattle.hd_map.specs.Order.{IsNotAbove}
use Rattle.hd_map.specs.Path.{Leads}
use Rattle.hd_map.specs.Pruning.{goes}
use Rattle.hd_map.specs.Rank.{IsPoint, Near, comes_before, below_by}
use Rattle.hd_map.proofs.Levels.{Reach, here, step, reach-trans}
use Rattle.hd_map.proofs.Points.{Near-to}
use Rattle.hd_map.proofs.Saddles.{near-sym}
use Rattle.hd_audit.specs.Rules.{rise_over, IsWithin}
use Rattle.hd_audit.specs.Shown.{IsReachedWithin}

height_order : (a b : Rank) → comes_before a b ≡ false → b.height ≤ℤ a.height
height_order a b h = grind (arith, ints, nat_tests)

-- what is not above x does not rise further over c
rise-lower : (side : SideName) (c x y : Rank) → IsNotAbove (below_by side) y x → rise_over side c y ≤ℤ rise_over side c x
rise-lower Dales c x y h = let e = height_order x y h in omega (arith, ints)
rise-lower Hills c x y h = let e = height_order y x h in omega (arith, ints)

-- over what is not above d no less is risen
rise-from_lower : (side : SideName) (c d x : Rank) → IsNotAbove (below_by side) c d → rise_over side d x ≤ℤ rise_over side c x
rise-from_lower Dales c d x h = let e = height_order d c h in omega (arith, ints)
rise-from_lower Hills c d x h = let e = height_order c d h in omega (arith, ints)

less-along : (a b t : ℤ) → a ≤ℤ b → int_lt (b *ℤ pos 100000) t ≡ true → int_lt (a *ℤ pos 100000) t ≡ true
less-along a b t le h = grind (arith, ints, nat_tests)

distance-is : (a b : ℤ) → a ≤ℤ b → pos (unsigned_abs (b -ℤ a)) ≡ b -ℤ a
distance-is (pos a) (pos b) h = omega (arith, ints)
distance-is (pos a) (negsuc b) h = omega (arith, ints)
distance-is (negsuc a) (pos b) h = omega (arith, ints)
distance-is (negsuc a) (negsuc b) h = omega (arith, ints)

distance-turned : (a b : ℤ) → b ≤ℤ a → pos (unsigned_abs (b -ℤ a)) ≡ a -ℤ b
distance-turned (pos a) (pos b) h = omega (arith, ints)
distance-turned (pos a) (negsuc b) h = omega (arith, ints)
distance-turned (negsuc a) (pos b) h = omega (arith, ints)
distance-turned (negsuc a) (negsuc b) h = omega (arith, ints)

-- where the pit is not above the saddle, its local height there is the rise of the saddle over it
local-rise : (side : SideName) (p s : Rank) → IsNotAbove (below_by side) p s → pos (local_height p s) ≡ rise_over side p s
local-rise Dales p s h = distance-is p.height s.height (height_order s p h)
local-rise Hills p s h = distance-turned p.height s.height (height_order p s h)

no-rise : (side : SideName) (p : Rank) (n : ℕ) → rise_over side p p ≤ℤ pos n
no-rise Dales p n = omega (arith, ints)
no-rise Hills p n = omega (arith, ints)

rise-trans : (a b c : ℤ) → a ≤ℤ b → b ≤ℤ c → a ≤ℤ c
rise-trans a b c p q = omega (arith, ints)

module _ (side : SideName) (thousandths : ℕ) (sz : ℤ) where
  -- what is not above what is within c is within c
  pub IsWithin-lower : (c x y : Rank) → IsNotAbove (below_by side) y x → IsWithin side thousandths sz c x → IsWithin side thousandths sz c y
  IsWithin-lower c x y low h = less-along (rise_over side c y) (rise_over side c x) (pos thousandths *ℤ sz) (rise-lower side c x y low) h

  -- what is within c is within what c is not above
  pub IsWithin-higher : (c d x : Rank) → IsNotAbove (below_by side) c d → IsWithin side thousandths sz c x → IsWithin side thousandths sz d x
  IsWithin-higher c d x low h = less-along (rise_over side d x) (rise_over side c x) (pos thousandths *ℤ sz) (rise-from_lower side c d x low) h

  -- where the pit is not above the saddle, the saddle is within the pit exactly where the local height goes
  pub IsWithin-goes : (p s : Rank) → IsNotAbove (below_by side) p s → goes thousandths sz (local_height p s) ≡ true → IsWithin side thousandths sz p s
  IsWithin-goes p s low h = subst (λ z. int_lt (z *ℤ pos 100000) (pos thousandths *ℤ sz) ≡ true) (local-rise side p s low) h

  pub goes-within : (p s : Rank) → IsNotAbove (below_by side) p s → IsWithin side thousandths sz p s → goes thousandths sz (local_height p s) ≡ true
  goes-within p s low h = subst (λ z. int_lt (z *ℤ pos 100000) (pos thousandths *ℤ sz) ≡ true) (sym (local-rise side p s low)) h

  -- where some local height goes, what is not above p is within p
  pub IsWithin-not_above : (n : ℕ) (p y : Rank) → goes thousandths sz n ≡ true → IsNotAbove (below_by side) y p → IsWithin side thousandths sz p y
  IsWithin-not_above n p y h low =
      less-along (rise_over side p y) (pos n) (pos thousandths *ℤ sz) (rise-trans (rise_over side p y) (rise_over side p p) (pos n) (rise-lower side p p y low) (no-rise side p n)) h

  pub IsWithin-or_not : (c x : Rank) → IsWithin side thousandths sz c x ⊎ (IsWithin side thousandths sz c x → ⊥)
  IsWithin-or_not c x = true_or_not (int_lt (rise_over side c x *ℤ pos 100000) (pos thousandths *ℤ sz))
    where
      true_or_not : (b : Bool) → (b ≡ true) ⊎ (b ≡ true → ⊥)
      true_or_not true = inl refl
      true_or_not false = inr (λ e. cc)

-- the first step of a way
pub Reach-first_step : {V : Type 0} {R : V → V → Type 0} {a b : V} → Reach R a b → (a ≡ b) ⊎ ((z : V) × R a z)
Reach-first_step here = inl refl
Reach-first_step (step {a} {b} {c} s r) = inr (b, s)

-- on a way from what has to what has not there is a step from what has to what has not
pub Reach-crosses : {V : Type 0} {R : V → V → Type 0} (D : V → Type 0) → ((x : V) → D x ⊎ (D x → ⊥)) → {a b : V} → Reach R a b → D a → (D b → ⊥) → (x : V) × (y : V) × D x × (D y → ⊥) × R x y
Reach-crosses D decided here has not = absurd (not has)
Reach-crosses D decided (step {a} {b} {c} s r) has not = elim (decided b) [
  | inl so ↦ Reach-crosses D decided r so not
  | inr lacks ↦ (a, b, has, lacks, s)
]

module _ (m : Map) (side : SideName) (thousandths : ℕ) (sz : ℤ) where
  -- a step to a near point that is within c
  abbrev pub StepsWithin : Rank → Rank → Rank → Type 0
  StepsWithin c a b = Near m a b × IsWithin side thousandths sz c b

  abbrev pub ReachesWithin : Rank → Rank → Rank → Type 0
  ReachesWithin c a b = Reach (StepsWithin c) a b

  pub ReachesWithin-from_points : (c a x : Rank) (xs : List Rank) → Leads (Near m) a xs x → All (IsWithin side thousandths sz c) xs → ReachesWithin c a x
  ReachesWithin-from_points c a x [] l all = subst (λ z. ReachesWithin c a z) l here
  ReachesWithin-from_points c a x (y ∷ ys) l all = step (l.0, All-head (IsWithin side thousandths sz c) y ys all)
      (ReachesWithin-from_points c y x ys l.1 (All-tail (IsWithin side thousandths sz c) y ys all))

  pub ReachesWithin-points : (c : Rank) {a x : Rank} → ReachesWithin c a x → (xs : List Rank) × Leads (Near m) a xs x × All (IsWithin side thousandths sz c) xs
  ReachesWithin-points c here = ([], refl, All-nil (IsWithin side thousandths sz c))
  ReachesWithin-points c (step {a} {b} s r) =
      let rest = ReachesWithin-points c r in
      (b ∷ rest.0, (s.0, rest.1), All-cons (IsWithin side thousandths sz c) b rest.0 s.1 rest.2)

  pub ReachesWithin-from_reached : (c x : Rank) → IsReachedWithin m side thousandths sz c x → ReachesWithin c c x
  ReachesWithin-from_reached c x h = ReachesWithin-from_points c c x h.points h.leads h.within

  pub IsReachedWithin-from_reach : (c x : Rank) → ReachesWithin c c x → IsReachedWithin m side thousandths sz c x
  IsReachedWithin-from_reach c x r = let p = ReachesWithin-points c r in record { points = p.0; leads = p.1; within = p.2 }

  -- one step further
  pub ReachesWithin-more : (c a x y : Rank) → ReachesWithin c a x → Near m x y → IsWithin side thousandths sz c y → ReachesWithin c a y
  ReachesWithin-more c a x y r near within = reach-trans (StepsWithin c) r (step (near, within) here)

  -- where a way ends is within c, or where it began
  pub ReachesWithin-last : (c : Rank) {a b : Rank} → ReachesWithin c a b → (a ≡ b) ⊎ IsWithin side thousandths sz c b
  ReachesWithin-last c here = inl refl
  ReachesWithin-last c (step {a} {b} s r) = inr (elim (ReachesWithin-last c r) [ inl e ↦ subst (IsWithin side thousandths sz c) e s.1 | inr w ↦ w ])

  pub ReachesWithin-point : (c : Rank) {a b : Rank} → IsPoint m a → ReachesWithin c a b → IsPoint m b
  ReachesWithin-point c point here = point
  ReachesWithin-point c point (step {a} {b} s r) = ReachesWithin-point c (Near-to m a b s.0) r

  -- the way back
  pub ReachesWithin-back : (c : Rank) {a b : Rank} → IsWithin side thousandths sz c a → ReachesWithin c a b → ReachesWithin c b a
  ReachesWithin-back c w here = here
  ReachesWithin-back c w (step {a} {b} s r) = reach-trans (StepsWithin c) (ReachesWithin-back c s.1 r) (step (near-sym m a b s.0, w) here)

  -- what c reaches within c is reached within what c is not above
  pub ReachesWithin-higher : (c d : Rank) → IsNotAbove (below_by side) c d → {a b : Rank} → ReachesWithin c a b → ReachesWithin d a b
  ReachesWithin-higher c d low here = here
  ReachesWithin-higher c d low (step {a} {b} s r) = step (s.0, IsWithin-higher side thousandths sz c d b low s.1) (ReachesWithin-higher c d low r)
