-- The number that digits in the bytes of a word write.
use Rattle.std.proofs.Common.{◌≡◌, ◌+◌, ◌-◌, ◌*◌, ◌/◌, ◌%◌, ◌^◌, ◌<◌, ◌≤◌, ℕ, zero, suc, List, [], ◌∷◌, ◌++◌, length, take, refl, sym, ap, arith, ◌∙◌, length-append}
use Rattle.std.specs.Prelude.{bit_and, replicate}
use Rattle.std.specs.Int.Digits.{AllBelowBase, number_from_digits}
use Rattle.std.specs.Simd.Lanes.{number_l}
use Rattle.std.proofs.Math.Arith.{digits_div, digits_mod, mod-mul}
use Rattle.std.proofs.Math.Nat.{add-zero, mul-div_cancel, mul-mod_left, pow-suc, zero-mod}
use Rattle.std.proofs.lemmas.List.{length-replicate, length-take-le}
use Rattle.std.proofs.lemmas.Nat.{and_block, and_mask, pow-add}

-- a mask keeps the even bytes of four
even_bytes : (x : ℕ) → bit_and x 16711935 ≡ x / 2 ^ 16 % 256 * 2 ^ 16 + x % 2 ^ 16 % 256
even_bytes x =
    let parts : x ≡ x / 2 ^ 16 * 2 ^ 16 + x % 2 ^ 16 = omega arith in
    ap (λ y. bit_and y 16711935) parts ∙ and_block 16 (x / 2 ^ 16) 255 (x % 2 ^ 16) 255 (omega arith) (omega arith)
    ∙ (λ i. and_mask (x / 2 ^ 16) 8 i * 2 ^ 16 + and_mask (x % 2 ^ 16) 8 i)

-- a mask keeps the even bytes of eight: p, q, r and s
even_of_eight : (p q r s x y z : ℕ) → p < 100 → q < 100 → r < 100 → s < 100 → x < 100 → y < 100 → z < 100 → (pairs : ℕ)
    → pairs ≡ p + 2 ^ 8 * x + 2 ^ 16 * q + 2 ^ 24 * y + 2 ^ 32 * r + 2 ^ 40 * z + 2 ^ 48 * s
    → bit_and pairs 71777214294589695 ≡ p + 2 ^ 16 * q + 2 ^ 32 * r + 2 ^ 48 * s
even_of_eight p q r s x y z P Q R S X Y Z pairs is =
    let high = s * 2 ^ 16 + (z * 256 + r) in
    let low = (y * 256 + q) * 2 ^ 16 + (x * 256 + p) in
    let parts : pairs ≡ high * 2 ^ 32 + low = omega arith in
    let below : low < 2 ^ 32 = omega arith in
    let a : high / 2 ^ 16 % 256 ≡ s = omega arith in
    let b : high % 2 ^ 16 % 256 ≡ r = omega arith in
    let c : low / 2 ^ 16 % 256 ≡ q = omega arith in
    let d : low % 2 ^ 16 % 256 ≡ p = omega arith in
    ap (λ y. bit_and y 71777214294589695) parts ∙ and_block 32 high 16711935 low 16711935 below (omega arith)
    ∙ rw (even_bytes high, even_bytes low, a, b, c, d) (omega arith)

-- a mask keeps the even pairs of bytes of eight: p and r
even_pairs : (p q r : ℕ) → p < 10000 → q < 10000 → r < 10000 → bit_and (p + 2 ^ 16 * q + 2 ^ 32 * r) 281470681808895 ≡ p + 2 ^ 32 * r
even_pairs p q r P Q R =
    let parts : p + 2 ^ 16 * q + 2 ^ 32 * r ≡ r * 2 ^ 32 + (q * 2 ^ 16 + p) = omega arith in
    let low : (q * 2 ^ 16 + p) % 2 ^ 16 ≡ p = omega arith in
    let high : r % 2 ^ 16 ≡ r = omega arith in
    ap (λ y. bit_and y 281470681808895) parts ∙ and_block 32 r 65535 (q * 2 ^ 16 + p) 65535 (omega arith) (omega arith)
    ∙ rw (and_mask r 16, and_mask (q * 2 ^ 16 + p) 16, low, high) (omega arith)

-- a product puts a tenfold of each digit into the next byte
in_pairs : (a b c d f g i j : ℕ) → a < 10 → b < 10 → c < 10 → d < 10 → f < 10 → g < 10 → i < 10 → j < 10 → (word : ℕ)
    → word ≡ a + 2 ^ 8 * b + 2 ^ 16 * c + 2 ^ 24 * d + 2 ^ 32 * f + 2 ^ 40 * g + 2 ^ 48 * i + 2 ^ 56 * j
    → word * 2561 % 2 ^ 64 / 2 ^ 8
    ≡ 10 * a + b + 2 ^ 8 * (10 * b + c) + 2 ^ 16 * (10 * c + d) + 2 ^ 24 * (10 * d + f) + 2 ^ 32 * (10 * f + g) + 2 ^ 40 * (10 * g + i) + 2 ^ 48 * (10 * i + j)
in_pairs a b c d f g i j A B C D F G I J word is =
    let top = 10 * a + b + 2 ^ 8 * (10 * b + c) + 2 ^ 16 * (10 * c + d) + 2 ^ 24 * (10 * d + f) + 2 ^ 32 * (10 * f + g) + 2 ^ 40 * (10 * g + i) + 2 ^ 48 * (10 * i + j) in
    let parts : word * 2561 ≡ 10 * j * 2 ^ 64 + (top * 2 ^ 8 + a) = omega arith in
    let small : top * 2 ^ 8 + a < 2 ^ 64 = omega arith in
    let low : a < 2 ^ 8 = omega arith in
    ap (λ x. x % 2 ^ 64 / 2 ^ 8) parts ∙ ap (λ x. x / 2 ^ 8) (digits_mod (10 * j) small) ∙ digits_div top low

-- a product puts a hundredfold of each pair into the next one
in_fours : (p q r s : ℕ) → p < 100 → q < 100 → r < 100 → s < 100
    → (p + 2 ^ 16 * q + 2 ^ 32 * r + 2 ^ 48 * s) * 6553601 % 2 ^ 64 / 2 ^ 16 ≡ 100 * p + q + 2 ^ 16 * (100 * q + r) + 2 ^ 32 * (100 * r + s)
in_fours p q r s P Q R S =
    let top = 100 * p + q + 2 ^ 16 * (100 * q + r) + 2 ^ 32 * (100 * r + s) in
    let parts : (p + 2 ^ 16 * q + 2 ^ 32 * r + 2 ^ 48 * s) * 6553601 ≡ 100 * s * 2 ^ 64 + (top * 2 ^ 16 + p) = omega arith in
    let small : top * 2 ^ 16 + p < 2 ^ 64 = omega arith in
    let low : p < 2 ^ 16 = omega arith in
    ap (λ x. x % 2 ^ 64 / 2 ^ 16) parts ∙ ap (λ x. x / 2 ^ 16) (digits_mod (100 * s) small) ∙ digits_div top low

in_eight : (p r : ℕ) → p < 10000 → r < 10000 → (p + 2 ^ 32 * r) * 42949672960001 % 2 ^ 64 / 2 ^ 32 ≡ 10000 * p + r
in_eight p r P R =
    let parts : (p + 2 ^ 32 * r) * 42949672960001 ≡ 10000 * r * 2 ^ 64 + ((10000 * p + r) * 2 ^ 32 + p) = omega arith in
    let small : (10000 * p + r) * 2 ^ 32 + p < 2 ^ 64 = omega arith in
    let low : p < 2 ^ 32 = omega arith in
    ap (λ x. x % 2 ^ 64 / 2 ^ 32) parts ∙ ap (λ x. x / 2 ^ 32) (digits_mod (10000 * r) small) ∙ digits_div (10000 * p + r) low

-- what is computed of a word
abbrev worth : ℕ → ℕ
worth word = bit_and (bit_and (word * 2561 % 2 ^ 64 / 2 ^ 8) 71777214294589695 * 6553601 % 2 ^ 64 / 2 ^ 16) 281470681808895 * 42949672960001 % 2 ^ 64 / 2 ^ 32

-- it is the number that eight digits write
pub eight_is : (ds : List ℕ) (word : ℕ) → length ds ≡ 8 → AllBelowBase 10 ds → word ≡ number_l 256 ds → worth word ≡ number_from_digits 10 ds
eight_is [] word long below e = absurd (omega arith)
eight_is (a ∷ []) word long below e = absurd (omega arith)
eight_is (a ∷ b ∷ []) word long below e = absurd (omega arith)
eight_is (a ∷ b ∷ c ∷ []) word long below e = absurd (omega arith)
eight_is (a ∷ b ∷ c ∷ d ∷ []) word long below e = absurd (omega arith)
eight_is (a ∷ b ∷ c ∷ d ∷ f ∷ []) word long below e = absurd (omega arith)
eight_is (a ∷ b ∷ c ∷ d ∷ f ∷ g ∷ []) word long below e = absurd (omega arith)
eight_is (a ∷ b ∷ c ∷ d ∷ f ∷ g ∷ i ∷ []) word long below e = absurd (omega arith)
eight_is (a ∷ b ∷ c ∷ d ∷ f ∷ g ∷ i ∷ j ∷ k ∷ ds) word long below e = absurd (omega arith)
eight_is (a ∷ b ∷ c ∷ d ∷ f ∷ g ∷ i ∷ j ∷ []) word long below e =
    let is : word ≡ a + 2 ^ 8 * b + 2 ^ 16 * c + 2 ^ 24 * d + 2 ^ 32 * f + 2 ^ 40 * g + 2 ^ 48 * i + 2 ^ 56 * j = omega arith in
    let pairs = in_pairs a b c d f g i j (omega arith) (omega arith) (omega arith) (omega arith) (omega arith) (omega arith) (omega arith) (omega arith) word is in
    let even = even_of_eight (10 * a + b) (10 * c + d) (10 * f + g) (10 * i + j) (10 * b + c) (10 * d + f) (10 * g + i)
    (omega arith) (omega arith) (omega arith) (omega arith) (omega arith) (omega arith) (omega arith) (word * 2561 % 2 ^ 64 / 2 ^ 8) (pairs ∙ omega arith) in
    let fours = in_fours (10 * a + b) (10 * c + d) (10 * f + g) (10 * i + j) (omega arith) (omega arith) (omega arith) (omega arith) in
    let two = even_pairs (100 * (10 * a + b) + (10 * c + d)) (100 * (10 * c + d) + (10 * f + g)) (100 * (10 * f + g) + (10 * i + j)) (omega arith) (omega arith) (omega arith) in
    rw (even, fours, two, in_eight (100 * (10 * a + b) + (10 * c + d)) (100 * (10 * f + g) + (10 * i + j)) (omega arith) (omega arith)) (omega arith)

-- zeros before digits
padded : (k : ℕ) (ds : List ℕ) → AllBelowBase 10 ds → AllBelowBase 10 (replicate k 0 ++ ds) × (number_from_digits 10 (replicate k 0 ++ ds) ≡ number_from_digits 10 ds)
padded zero ds below = (below, refl)
padded (suc k) ds below = let rest = padded k ds below in ((omega arith, rest.0), rest.1)

raised : (k : ℕ) (ds : List ℕ) → number_l 256 (replicate k 0 ++ ds) ≡ number_l 256 ds * 256 ^ k
raised zero ds = omega arith
raised (suc k) ds = omega (arith, raised k ds, ap (λ x. number_l 256 ds * x) (pow-suc 256 k))

power_some : (k : ℕ) → 0 < 256 ^ k
power_some zero = omega arith
power_some (suc k) = omega (arith, pow-suc 256 k, power_some k)

-- the lowest bytes of a word are the first of its list
front : (xs : List ℕ) (n : ℕ) → AllBelowBase 256 xs → number_l 256 xs % 256 ^ n ≡ number_l 256 (take n xs)
front xs zero below = omega arith
front [] (suc n) below = zero-mod _
front (x ∷ xs) (suc n) below =
    let parts : x + 256 * number_l 256 xs ≡ number_l 256 xs * 256 + x = omega arith in
    let byte : 0 < 256 = omega arith in
    rw (pow-suc, parts, mod-mul _ (power_some n) byte, digits_div _ below.0, digits_mod _ below.0, front xs n below.1) (omega arith)

scaled : (a m c : ℕ) → 0 < m → 0 < c → a * c % (m * c) ≡ a % m * c
scaled a m c M C = rw (mod-mul _ M C, mul-div_cancel a C, mul-mod_left, add-zero)

-- a shift by as many bytes as there are behind the first n
shift_is : (n : ℕ) → 1 ≤ n → n ≤ 8 → 2 ^ (64 - 8 * n) ≡ 256 ^ (8 - n)
shift_is zero some few = absurd (omega arith)
shift_is (suc zero) some few = refl
shift_is (suc (suc zero)) some few = refl
shift_is (suc (suc (suc zero))) some few = refl
shift_is (suc (suc (suc (suc zero)))) some few = refl
shift_is (suc (suc (suc (suc (suc zero))))) some few = refl
shift_is (suc (suc (suc (suc (suc (suc zero)))))) some few = refl
shift_is (suc (suc (suc (suc (suc (suc (suc zero))))))) some few = refl
shift_is (suc (suc (suc (suc (suc (suc (suc (suc zero)))))))) some few = refl
shift_is (suc (suc (suc (suc (suc (suc (suc (suc (suc n))))))))) some few = absurd (omega arith)

-- a word shifted up until its first n digits are the last has zeros and then these digits
module _ (xs : List ℕ) (n : ℕ) (eight : length xs ≡ 8) (bytes : AllBelowBase 256 xs) (digits : AllBelowBase 10 (take n xs)) (few : n ≤ 8) where
  abbrev pub raised_digits : List ℕ
  raised_digits = replicate (8 - n) 0 ++ take n xs

  pub raised_digits-length : length raised_digits ≡ 8
  raised_digits-length = omega (arith, few, length-append (replicate (8 - n) 0) (take n xs), length-replicate {A = ℕ} (8 - n) 0, length-take-le n xs (omega (arith, few, eight)))

  pub raised_digits-below : AllBelowBase 10 raised_digits
  raised_digits-below = (padded (8 - n) (take n xs) digits).0

  pub raised_digits-word : (word : ℕ) → word ≡ number_l 256 xs → 1 ≤ n → word * 2 ^ (64 - 8 * n) % 2 ^ 64 ≡ number_l 256 raised_digits
  raised_digits-word word is some =
      let all : 256 ^ n * 256 ^ (8 - n) ≡ 2 ^ 64 = sym (pow-add 256 n (8 - n)) ∙ ap (λ k. 256 ^ k) {y = 8} (omega (arith, few)) in
      ap (λ w. w * 2 ^ (64 - 8 * n) % 2 ^ 64) is
      ∙ rw (shift_is n some few, ← all, scaled (number_l 256 xs) (256 ^ n) (256 ^ (8 - n)) (power_some n) (power_some (8 - n)), front xs n bytes) (sym (raised (8 - n) (take n xs)))

  pub raised_digits-number : number_from_digits 10 raised_digits ≡ number_from_digits 10 (take n xs)
  raised_digits-number = (padded (8 - n) (take n xs) digits).1
