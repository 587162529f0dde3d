-- The local height on a side keeps the two laws of local heights, and is the difference of the heights, taken positive.
use Rattle.std.proofs.Common.{◌≡◌, ℕ, ◌≤◌, true, false, arith}
use Rattle.std.specs.Prelude.{ℤ, pos, negsuc, ◌≤ℤ◌, ◌-ℤ◌, ◌*ℤ◌, int_lt}
use Rattle.std.specs.Int.{int_gap}
use Rattle.std.specs.Int.RustNames.{unsigned_abs}
use Rattle.std.proofs.lemmas.Int.{ints}
use Rattle.std.proofs.lemmas.Bool.Decides.{nat_tests}
use Rattle.hd_map.specs.Order.{IsNotAbove}
use Rattle.hd_map.specs.Pruning.{goes}
use Rattle.hd_map.specs.Rank.{comes_before, below_by}
use Rattle.hd_map.specs.declared.types.Rank.{Rank}
use Rattle.hd_map.specs.declared.types.SideName.{SideName}
use Rattle.hd_map.specs.declared.types.SideName.TheVariants.{Dales, Hills}
use Rattle.hd_map.specs.NearestSaddle.{local_height}
use Rattle.hd_prune.specs.Heights.{local_height_on, local_on}

height_order : (a b : Rank) → comes_before a b ≡ false → b.height ≤ℤ a.height
height_order a b h = grind (arith, ints, nat_tests)

int_gap-end : (a b c : ℤ) → b ≤ℤ c → int_gap a b ≤ int_gap a c
int_gap-end (pos a) (pos b) (pos c) h = omega (arith, ints)
int_gap-end (pos a) (pos b) (negsuc c) h = omega (arith, ints)
int_gap-end (pos a) (negsuc b) (pos c) h = omega (arith, ints)
int_gap-end (pos a) (negsuc b) (negsuc c) h = omega (arith, ints)
int_gap-end (negsuc a) (pos b) (pos c) h = omega (arith, ints)
int_gap-end (negsuc a) (pos b) (negsuc c) h = omega (arith, ints)
int_gap-end (negsuc a) (negsuc b) (pos c) h = omega (arith, ints)
int_gap-end (negsuc a) (negsuc b) (negsuc c) h = omega (arith, ints)

int_gap-start : (a b c : ℤ) → a ≤ℤ b → int_gap b c ≤ int_gap a c
int_gap-start (pos a) (pos b) (pos c) h = omega (arith, ints)
int_gap-start (pos a) (pos b) (negsuc c) h = omega (arith, ints)
int_gap-start (pos a) (negsuc b) (pos c) h = omega (arith, ints)
int_gap-start (pos a) (negsuc b) (negsuc c) h = omega (arith, ints)
int_gap-start (negsuc a) (pos b) (pos c) h = omega (arith, ints)
int_gap-start (negsuc a) (pos b) (negsuc c) h = omega (arith, ints)
int_gap-start (negsuc a) (negsuc b) (pos c) h = omega (arith, ints)
int_gap-start (negsuc a) (negsuc b) (negsuc c) h = omega (arith, ints)

int_gap-is_abs : (a b : ℤ) → a ≤ℤ b → int_gap a b ≡ unsigned_abs (b -ℤ a)
int_gap-is_abs (pos a) (pos b) h = omega (arith, ints)
int_gap-is_abs (pos a) (negsuc b) h = omega (arith, ints)
int_gap-is_abs (negsuc a) (pos b) h = omega (arith, ints)
int_gap-is_abs (negsuc a) (negsuc b) h = omega (arith, ints)

int_gap-is_abs_below : (a b : ℤ) → b ≤ℤ a → int_gap b a ≡ unsigned_abs (b -ℤ a)
int_gap-is_abs_below (pos a) (pos b) h = omega (arith, ints)
int_gap-is_abs_below (pos a) (negsuc b) h = omega (arith, ints)
int_gap-is_abs_below (negsuc a) (pos b) h = omega (arith, ints)
int_gap-is_abs_below (negsuc a) (negsuc b) h = omega (arith, ints)

pub local_height_on-higher_saddle : (side : SideName) (p s t : Rank) → IsNotAbove (below_by side) s t → local_height_on side p s ≤ local_height_on side p t
local_height_on-higher_saddle Dales p s t h = int_gap-end p.height s.height t.height (height_order t s h)
local_height_on-higher_saddle Hills p s t h = int_gap-start t.height s.height p.height (height_order s t h)

pub local_height_on-higher_pit : (side : SideName) (p q s : Rank) → IsNotAbove (below_by side) p q → local_height_on side q s ≤ local_height_on side p s
local_height_on-higher_pit Dales p q s h = int_gap-start p.height q.height s.height (height_order q p h)
local_height_on-higher_pit Hills p q s h = int_gap-end s.height q.height p.height (height_order p q h)

-- where the pit is not above the saddle
pub local_height_on-local_height : (side : SideName) (p s : Rank) → IsNotAbove (below_by side) p s → local_height_on side p s ≡ local_height p s
local_height_on-local_height Dales p s h = int_gap-is_abs p.height s.height (height_order s p h)
local_height_on-local_height Hills p s h = int_gap-is_abs_below p.height s.height (height_order p s h)

pub local-higher_saddle : (side : SideName) (p s t : Rank) → IsNotAbove (below_by side) s t → local_on side p s ≤ local_on side p t
local-higher_saddle side p s t h = (let r = local_height_on-higher_saddle side p s t h in omega arith)

pub local-higher_pit : (side : SideName) (p q s : Rank) → IsNotAbove (below_by side) p q → local_on side q s ≤ local_on side p s
local-higher_pit side p q s h = (let r = local_height_on-higher_pit side p q s h in omega arith)

-- where one local height goes, each smaller one does
pub lower_goes : (thousandths : ℕ) (sz : ℤ) (a b : ℕ) → a ≤ b → goes thousandths sz b ≡ true → goes thousandths sz a ≡ true
lower_goes thousandths sz a b le h = lower (pos thousandths *ℤ sz) h
  where
    lower : (z : ℤ) → int_lt (pos b *ℤ pos 100000) z ≡ true → int_lt (pos a *ℤ pos 100000) z ≡ true
    lower z h = grind (arith, ints, nat_tests)
