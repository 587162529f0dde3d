-- Reduced fractions.
use Rattle.std.proofs.Common.{◌≡◌, ℕ, ℤ, zero, suc, pos, negsuc, neg_ℤ, ◌+◌, ◌*◌, ◌/◌, ◌%◌, ◌<◌, ◌≤◌, ◌^◌, ◌+ℤ◌, ◌*ℤ◌, int_lt, unsigned_abs, FitsSigned}
use Rattle.std.proofs.Common.{to_z, of_z, refl, sym, ap, ap₂, subst, ◌∙◌, arith, Bool, true, false, mul_assoc, mul_comm, mul_right_comm, mul-div_cancel}
use Rattle.std.proofs.Common.{mul-add, mul-pos, mul-le-mul_left, le_of_mul-le-mul_right, mul-lt-mul_of_pos_right, div-add-mod', subst₂}
use mir.Syntax.{w128}
use Rattle.std.specs.Int.{IsGcd, ◌∣◌}
use Rattle.std.proofs.lemmas.Int.{unsigned_abs-mul, ints, to_z-of_z, to_z_pos}
use Rattle.std.proofs.lemmas.Nat.{mod-mul-add, mod_below}
use Rattle.std.proofs.lemmas.Nat.Gcd.{IsGcd-from_zero, IsGcd-from_mod, dvd_antisymm, dvd_refl, dvd-zero, le_of_dvd}
use Rattle.std.proofs.Math.Nat.{le-mul_of_pos_right, dvd-mul_left, dvd_of_mul-dvd-mul_right, mul-dvd-mul_right, eq-one_of_dvd-one, div-mul_cancel}
use Rattle.hd_num.specs.Frac.{IsReduced, IsFraction, sum_over_product}
use Rattle.hd_num.specs.Whole.{signed_number}

-- a remainder of multiples
mod_scaled : (k a b : ℕ) → 0 < k → 0 < b → k * a % (k * b) ≡ k * (a % b)
mod_scaled k a b some positive =
    let parts : k * a ≡ a / b * (k * b) + k * (a % b) = parts_of in
    ap (λ n. n % (k * b)) parts ∙ mod-mul-add (a / b) (k * b) (k * (a % b)) (less (a % b) (mod_below a b positive))
  where
    swap : (x : ℕ) → k * (x * b) ≡ x * (k * b)
    swap x = sym (mul_assoc k x b) ∙ ap (λ n. n * b) (mul_comm k x) ∙ mul_assoc x k b

    parts_of : k * a ≡ a / b * (k * b) + k * (a % b)
    parts_of = ap (λ n. k * n) (sym (div-add-mod' a b)) ∙ mul-add k (a / b * b) (a % b) ∙ ap (λ n. n + k * (a % b)) (swap (a / b))

    less : (r : ℕ) → r < b → k * r < k * b
    less r lt = subst₂ (λ x y. x < y) (mul_comm r k) (mul_comm b k) (mul-lt-mul_of_pos_right lt some)

-- two numbers have a greatest common divisor, and so have their multiples
scaled : (fuel a b : ℕ) → b < fuel → (g : ℕ) × ((k : ℕ) → 0 < k → IsGcd (k * a) (k * b) (k * g))
scaled zero a b lt = absurd (omega arith)
scaled (suc fuel) a zero lt = (a, λ k some. IsGcd-from_zero (k * a) (k * 0) (omega arith))
scaled (suc fuel) a (suc b) lt =
    let below = mod_below a (suc b) (omega arith) in
    let rest = scaled fuel (suc b) (a % suc b) (omega (arith, below)) in
    (rest.0, λ k some. IsGcd-from_mod (k * a) (k * suc b) (k * rest.0) (subst (λ r. IsGcd (k * suc b) r (k * rest.0)) (sym (mod_scaled k a (suc b) some (omega arith))) (rest.1 k some)))

-- a divisor of a product that has nothing in common with the one factor divides the other
divides_other : (a b c : ℕ) → ((k : ℕ) → k ∣ a → k ∣ b → k ≡ 1) → 0 < c → b ∣ c * a → b ∣ c
divides_other a b c coprime some h =
    let s = scaled (suc b) a b (omega arith) in
    let alone = s.1 1 (omega arith) in
    let is_one : s.0 ≡ 1 = coprime s.0 (one_times a s.0 alone.0) (one_times b s.0 alone.1) in
    let whole = (s.1 c some).2 b h (dvd-mul_left b c) in
    subst (λ n. b ∣ n) (ap (λ n. c * n) is_one ∙ times_one c) whole
  where
    one_times : (n g : ℕ) → 1 * g ∣ 1 * n → g ∣ n
    one_times n g d = subst (λ x. x ∣ n) (omega arith) (subst (λ x. 1 * g ∣ x) (omega arith) d)

    times_one : (n : ℕ) → n * 1 ≡ n
    times_one n = omega arith

-- equal products with one factor
cancel : (m n k : ℕ) → 0 < k → m * k ≡ n * k → m ≡ n
cancel m n k some e = sym (mul-div_cancel m some) ∙ ap (λ x. x / k) e ∙ mul-div_cancel n some

-- a number is not less than 0
signs_apart : (x y : ℕ) → 0 < y → pos x ≡ neg_ℤ (pos y) → ⊥
signs_apart x y h e = omega (arith, ints)

cancel_signed : (a b : ℤ) (k : ℕ) → 0 < k → a *ℤ pos k ≡ b *ℤ pos k → a ≡ b
cancel_signed (pos m) (pos n) k some e = ap pos (cancel m n k some (same (m * k) (n * k) e))
  where
    same : (x y : ℕ) → pos x ≡ pos y → x ≡ y
    same x y h = omega (arith, ints)
cancel_signed (pos m) (negsuc n) k some e = absurd (signs_apart (m * k) (suc n * k) (mul-pos (omega arith) some) e)
cancel_signed (negsuc m) (pos n) k some e = absurd (signs_apart (n * k) (suc m * k) (mul-pos (omega arith) some) (sym e))
cancel_signed (negsuc m) (negsuc n) k some e = ap (λ x. neg_ℤ (pos x)) (cancel (suc m) (suc n) k some (same (suc m * k) (suc n * k) e))
  where
    same : (x y : ℕ) → neg_ℤ (pos x) ≡ neg_ℤ (pos y) → x ≡ y
    same x y h = omega (arith, ints)

-- a reduced fraction of 0 has the denominator 1
pub IsReduced-zero : (num : ℤ) (den : ℕ) → IsReduced num den → num ≡ pos 0 → den ≡ 1
IsReduced-zero num den r e = r.coprime den (subst (λ z. den ∣ unsigned_abs z) (sym e) (dvd-zero den)) (dvd_refl den)

-- two reduced fractions of the same number are the same
pub IsFraction-determined : (n : ℤ) (d : ℕ) (a : ℤ) (b : ℕ) (a' : ℤ) (b' : ℕ) → 0 < d → IsFraction n d a b → IsFraction n d a' b' → (a ≡ a') × (b ≡ b')
IsFraction-determined n d a b a' b' some f g =
    let same : b ≡ b' = dvd_antisymm (divides_other (unsigned_abs a) b b' f.reduced.coprime g.reduced.positive
    (subst (λ x. b ∣ x) (sym crossed ∙ mul_comm (unsigned_abs a) b') (dvd-mul_left b (unsigned_abs a'))))
    (divides_other (unsigned_abs a') b' b g.reduced.coprime f.reduced.positive (subst (λ x. b' ∣ x) (crossed ∙ mul_comm (unsigned_abs a') b) (dvd-mul_left b' (unsigned_abs a)))) in
    (cancel_signed a a' d some (sym f.value ∙ ap (λ x. n *ℤ pos x) same ∙ g.value), same)
  where
    sizes : (num : ℤ) (den : ℕ) → n *ℤ pos den ≡ num *ℤ pos d → unsigned_abs n * den ≡ unsigned_abs num * d
    sizes num den e = sym (unsigned_abs-mul n (pos den)) ∙ ap unsigned_abs e ∙ unsigned_abs-mul num (pos d)

    crossed : unsigned_abs a * b' ≡ unsigned_abs a' * b
    crossed = cancel (unsigned_abs a * b') (unsigned_abs a' * b) d some
        (mul_right_comm (unsigned_abs a) b' d ∙ ap (λ x. x * b') (sym (sizes a b f.value)) ∙ mul_right_comm (unsigned_abs n) b b' ∙ ap (λ x. x * b) (sizes a' b' g.value)
        ∙ mul_right_comm (unsigned_abs a') d b)

pub size_of_signed : (minus : Bool) (m : ℕ) → unsigned_abs (signed_number minus m) ≡ m
size_of_signed false m = refl
size_of_signed true zero = refl
size_of_signed true (suc m) = refl

pub product_of_signed : (minus : Bool) (m k : ℕ) → signed_number minus m *ℤ pos k ≡ signed_number minus (m * k)
product_of_signed false m k = refl
product_of_signed true zero k = (let none : zero * k ≡ 0 = omega arith in ap pos none ∙ sym (ap (λ x. neg_ℤ (pos x)) none))
product_of_signed true (suc m) k = refl

pub signed_of_size : (n : ℤ) → n ≡ signed_number (int_lt n (pos 0)) (unsigned_abs n)
signed_of_size (pos n) = grind (arith, ints)
signed_of_size (negsuc n) = refl

factor_positive : (e g d : ℕ) → e * g ≡ d → 0 < d → 0 < e
factor_positive zero g d h some = absurd (omega arith)
factor_positive (suc e) g d h some = omega arith

-- a number and a denominator divided by their greatest common divisor
pub IsFraction-divided : (n : ℤ) (d g : ℕ) → 0 < d → IsGcd (unsigned_abs n) d g → IsFraction n d (signed_number (int_lt n (pos 0)) (unsigned_abs n / g)) (d / g)
IsFraction-divided n d g some h = record {
  reduced = record { positive = factor_positive (d / g) g d den some; coprime = coprime };
  value = value;
}
  where
    num : unsigned_abs n / g * g ≡ unsigned_abs n
    num = div-mul_cancel g h.0

    den : d / g * g ≡ d
    den = div-mul_cancel g h.1

    divisor_positive : 0 < g
    divisor_positive = factor_positive g (d / g) d (mul_comm g (d / g) ∙ den) some

    coprime : (k : ℕ) → k ∣ unsigned_abs (signed_number (int_lt n (pos 0)) (unsigned_abs n / g)) → k ∣ d / g → k ≡ 1
    coprime k p q =
        let p' = subst (λ x. k ∣ x) (size_of_signed (int_lt n (pos 0)) (unsigned_abs n / g)) p in
        let both = h.2 (k * g) (subst (λ x. k * g ∣ x) num (mul-dvd-mul_right k p' g)) (subst (λ x. k * g ∣ x) den (mul-dvd-mul_right k q g)) in
        eq-one_of_dvd-one (dvd_of_mul-dvd-mul_right k divisor_positive (subst (λ x. k * g ∣ x) (omega arith) both))

    sizes : unsigned_abs n * (d / g) ≡ unsigned_abs n / g * d
    sizes = ap (λ x. x * (d / g)) (sym num) ∙ mul_assoc (unsigned_abs n / g) g (d / g) ∙ ap (λ x. unsigned_abs n / g * x) (mul_comm g (d / g) ∙ den)

    value : n *ℤ pos (d / g) ≡ signed_number (int_lt n (pos 0)) (unsigned_abs n / g) *ℤ pos d
    value = ap (λ z. z *ℤ pos (d / g)) (signed_of_size n) ∙ product_of_signed (int_lt n (pos 0)) (unsigned_abs n) (d / g)
        ∙ ap (signed_number (int_lt n (pos 0))) sizes ∙ sym (product_of_signed (int_lt n (pos 0)) (unsigned_abs n / g) d)

-- a factor is below what the product is below
below_product : (n m limit : ℕ) → 0 < m → n * m < limit → n < limit
below_product n m limit some h = let most = le-mul_of_pos_right n some in omega (arith, h, most)

-- a small number keeps its value
small_kept : (a : ℤ) → unsigned_abs a < 2 ^ 126 → to_z w128 (of_z w128 a) ≡ a
small_kept a h = to_z-of_z w128 a (small_fits a h)
  where
    small_fits : (z : ℤ) → unsigned_abs z < 2 ^ 126 → FitsSigned w128 z
    small_fits z h = omega (arith, ints)

-- so does a denominator of a product below 2^127
den_kept : (d b : ℕ) → 0 < b → d * b < 2 ^ 127 → to_z w128 d ≡ pos d
den_kept d b some h = let small = below_product d b (2 ^ 127) some h in to_z_pos w128 d (omega (arith, small))

product_small : (a : ℤ) (d : ℕ) → unsigned_abs a * d < 2 ^ 126 → unsigned_abs (a *ℤ pos d) < 2 ^ 126
product_small a d h = subst (λ n. n < 2 ^ 126) (sym (unsigned_abs-mul a (pos d))) h

-- the product of a numerator and the other denominator is that of whole numbers
product_kept : (a : ℤ) (d b : ℕ) → 0 < d → 0 < b → unsigned_abs a * d < 2 ^ 126 → d * b < 2 ^ 127
    → to_z w128 (of_z w128 (to_z w128 (of_z w128 a) *ℤ to_z w128 d)) ≡ a *ℤ pos d
product_kept a d b some some' small dens =
    ap₂ (λ y z. to_z w128 (of_z w128 (y *ℤ z))) (small_kept a (below_product (unsigned_abs a) d (2 ^ 126) some small)) (den_kept d b some' dens)
    ∙ small_kept (a *ℤ pos d) (product_small a d small)

sum_of_small : (x y : ℤ) → unsigned_abs x < 2 ^ 126 → unsigned_abs y < 2 ^ 126 → FitsSigned w128 (x +ℤ y)
sum_of_small x y hx hy = omega (arith, ints)

module _ (a : ℤ) (b : ℕ) (c : ℤ) (d : ℕ) (some : 0 < b) (some' : 0 < d) (own : unsigned_abs a * d < 2 ^ 126) (other : unsigned_abs c * b < 2 ^ 126) (dens : b * d < 2 ^ 127) where
  own_kept : to_z w128 (of_z w128 (to_z w128 (of_z w128 a) *ℤ to_z w128 d)) ≡ a *ℤ pos d
  own_kept = product_kept a d b some' some own (subst (λ n. n < 2 ^ 127) (mul_comm b d) dens)

  other_kept : to_z w128 (of_z w128 (to_z w128 (of_z w128 c) *ℤ to_z w128 b)) ≡ c *ℤ pos b
  other_kept = product_kept c b d some some' other dens

  -- the sum of the products fits
  pub sum_over_product-fits : FitsSigned w128 (to_z w128 (of_z w128 (to_z w128 (of_z w128 a) *ℤ to_z w128 d)) +ℤ to_z w128 (of_z w128 (to_z w128 (of_z w128 c) *ℤ to_z w128 b)))
  sum_over_product-fits = subst₂ (λ x y. FitsSigned w128 (x +ℤ y)) (sym own_kept) (sym other_kept) (sum_of_small (a *ℤ pos d) (c *ℤ pos b) (product_small a d own) (product_small c b other))

  -- and is the numerator of the sum
  pub sum_over_product-kept : to_z w128 (of_z w128 (to_z w128 (of_z w128 (to_z w128 (of_z w128 a) *ℤ to_z w128 d)) +ℤ to_z w128
      (of_z w128 (to_z w128 (of_z w128 c) *ℤ to_z w128 b)))) ≡ sum_over_product a b c d
  sum_over_product-kept = to_z-of_z w128 _ sum_over_product-fits ∙ ap₂ (λ x y. x +ℤ y) own_kept other_kept

-- a reduced fraction is made of no greater numbers
pub IsFraction-no_greater : (n : ℤ) (d : ℕ) (a : ℤ) (b : ℕ) → 0 < d → IsFraction n d a b → (unsigned_abs a ≤ unsigned_abs n) × (b ≤ d)
IsFraction-no_greater n d a b some f =
    let divides : b ∣ d = divides_other (unsigned_abs a) b d f.reduced.coprime some (subst (λ x. b ∣ x) (sizes ∙ mul_comm (unsigned_abs a) d) (dvd-mul_left b (unsigned_abs n))) in
    let den : b ≤ d = le_of_dvd some divides in
    let products : unsigned_abs a * b ≤ unsigned_abs n * b = subst (λ x. unsigned_abs a * b ≤ x) (sym sizes) (mul-le-mul_left (unsigned_abs a) den) in
    (le_of_mul-le-mul_right products f.reduced.positive, den)
  where
    sizes : unsigned_abs n * b ≡ unsigned_abs a * d
    sizes = sym (unsigned_abs-mul n (pos b)) ∙ ap unsigned_abs f.value ∙ unsigned_abs-mul a (pos d)
