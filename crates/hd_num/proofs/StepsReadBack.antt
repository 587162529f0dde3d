-- The text of a height is read as its decimal.
use Rattle.std.proofs.Common.{◌≡◌, ◌≢◌, ◌+◌, ◌-◌, ◌*◌, ◌/◌, ◌%◌, ◌≤◌, ◌<◌, ◌^◌, ℕ, ℤ, zero, suc, pos, neg_ℤ, Bool, true, false, not, cond, int_lt}
use Rattle.std.proofs.Common.{unsigned_abs, List, [], ◌∷◌, ◌++◌, length, take, drop, get_or, replicate, Some, if◌then◌else◌, refl, sym, ap, ap₂, ◌∙◌}
use Rattle.std.proofs.Common.{arith, ne_eqb, length-append, pow-suc, add-mul, mul_assoc, mul_comm, append-nil, div-add-mod', div-le_self, div-one}
use Rattle.std.specs.Prelude.{decimal, FitsSigned}
use mir.Syntax.{w64}
use Rattle.std.specs.Char.{digit_value, is_ascii_digit}
use Rattle.std.specs.Fmt.{sign_text}
use Rattle.std.specs.List.{after_first, before_first, list_all, position_or_len}
use Rattle.std.specs.Str.Parse.{digits_value, digits_value_after, starts_with_minus, without_leading_plus, without_leading_sign}
use Rattle.std.proofs.Math.Seq.{drop-append-add, take-append_seam}
use Rattle.std.proofs.Math.Nat.{mod-le}
use Rattle.std.proofs.lemmas.Bool.{and_from, and_parts}
use Rattle.std.proofs.lemmas.Bool.Decides.{nat_tests}
use Rattle.std.proofs.lemmas.Fmt.{decimal_nonempty, digits_decimal, digits_value-decimal, length-decimal-le}
use Rattle.std.proofs.lemmas.Int.{ints}
use Rattle.std.proofs.lemmas.List.{get_or_append_left, length-replicate}
use Rattle.std.proofs.lemmas.List.Folds.{list_all-append}
use Rattle.std.proofs.lemmas.Str.Parse.{without_leading_plus_none}
use Rattle.hd_num.specs.Decimal.{decimal_of, is_exponent_mark, is_point}
use Rattle.hd_num.specs.Steps.{padded, steps_decimal, steps_text}
use Rattle.hd_num.proofs.Decimals.{IsValueOf-found, decimal_of-is, IsSplit-none, digits_value_after-append}
use Rattle.hd_num.proofs.Percents.{unsigned_abs-small}
use Rattle.hd_num.proofs.WholeReadsBack.{IsNumeralModel-digits, decimal-first}
use Rattle.hd_num.proofs.StepsText.{ten_power-rest}

-- a digit is no mark of an exponent and no point
no_mark : (c : ℕ) → is_ascii_digit c ≡ true → is_exponent_mark c ≡ false
no_mark c digit = grind (arith, nat_tests)

pub is_point-digit : (c : ℕ) → is_ascii_digit c ≡ true → is_point c ≡ false
is_point-digit c digit = grind (arith, nat_tests)

-- the first place after digits that fail the test
pub position_or_len-past_digits : (test : ℕ → Bool) → ((c : ℕ) → is_ascii_digit c ≡ true → test c ≡ false) → (ds rest : List ℕ) → list_all is_ascii_digit ds ≡ true
    → position_or_len test (ds ++ rest) ≡ length ds + position_or_len test rest
position_or_len-past_digits test fails [] rest all = omega arith
position_or_len-past_digits test fails (d ∷ ds) rest all =
    let parts = and_parts (is_ascii_digit d) (list_all is_ascii_digit ds) all in
    let step : position_or_len test (d ∷ (ds ++ rest)) ≡ 1 + position_or_len test (ds ++ rest) = ap (λ b. cond (not b) (1 + position_or_len test (ds ++ rest)) 0) (fails d parts.0) in
    let more = position_or_len-past_digits test fails ds rest parts.1 in
    omega (arith, step, more)

-- digits of this count that write this number
record AreDigits (ds : List ℕ) (count value : ℕ) : Type 0 where
  all : list_all is_ascii_digit ds ≡ true
  count_is : length ds ≡ count
  value_is : digits_value 10 ds ≡ value

zeros_are_digits : (k : ℕ) → list_all is_ascii_digit (replicate k 48) ≡ true
zeros_are_digits zero = refl
zeros_are_digits (suc k) = zeros_are_digits k

value_after_zeros : (k : ℕ) (ds : List ℕ) → digits_value 10 (replicate k 48 ++ ds) ≡ digits_value 10 ds
value_after_zeros zero ds = refl
value_after_zeros (suc k) ds = value_after_zeros k ds

padded_digits : (places n : ℕ) → 1 ≤ places → n < 10 ^ places → n < 2 ^ 64 → AreDigits (padded places n) places n
padded_digits places n some fits small =
    let k : ℕ = places - length (decimal n) in
    let short = length-decimal-le places n some fits small in
    record {
      all = list_all-append is_ascii_digit (replicate k 48) (decimal n) ∙ and_from _ _ (zeros_are_digits k) (digits_decimal IsNumeralModel-digits n small);
      count_is = omega (arith, length-append (replicate k 48) (decimal n), length-replicate {A = ℕ} k 48, short);
      value_is = value_after_zeros k (decimal n) ∙ digits_value-decimal IsNumeralModel-digits n small;
    }

-- digits behind a number
pub digits_value_after-split : (m : ℕ) (ds : List ℕ) → digits_value_after 10 m ds ≡ m * 10 ^ length ds + digits_value 10 ds
digits_value_after-split m [] = omega arith
digits_value_after-split m (d ∷ ds) =
    let v : ℕ = digit_value d in
    let k : ℕ = 10 ^ length ds in
    let first : digits_value_after 10 (m * 10 + v) ds ≡ (m * 10 + v) * k + digits_value 10 ds = digits_value_after-split (m * 10 + v) ds in
    let same : 0 * 10 + v ≡ v = omega arith in
    let alone : digits_value 10 (d ∷ ds) ≡ v * k + digits_value 10 ds = digits_value_after-split (0 * 10 + v) ds ∙ ap (λ x. x * k + digits_value 10 ds) same in
    let parts : (m * 10 + v) * k ≡ m * 10 * k + v * k = add-mul (m * 10) v k in
    let moved : m * 10 * k ≡ m * (k * 10) = mul_assoc m 10 k ∙ ap (λ x. m * x) (mul_comm 10 k) in
    let power : 10 ^ suc (length ds) ≡ k * 10 = pow-suc 10 (length ds) in
    let whole : m * 10 ^ suc (length ds) ≡ m * (k * 10) = ap (λ x. m * x) power in
    omega (arith, first, alone, parts, moved, whole)

-- a text of digits and what follows them is no sign
unsigned_same : (b : Bool) (text : List ℕ) → get_or text 0 0 ≢ 45 → get_or text 0 0 ≢ 43 → without_leading_sign (sign_text b ++ text) ≡ text
unsigned_same true text minus plus = refl
unsigned_same false text minus plus = ap (λ b. if b then drop 1 text else without_leading_plus text) (ne_eqb (get_or text 0 0) 45 minus) ∙ without_leading_plus_none text plus

sign_same : (b : Bool) (text : List ℕ) → get_or text 0 0 ≢ 45 → starts_with_minus (sign_text b ++ text) ≡ b
sign_same true text minus = refl
sign_same false text minus = ne_eqb (get_or text 0 0) 45 minus

-- what follows the whole digits: nothing, or a point and these digits
pub record IsTail (tail fs : List ℕ) : Type 0 where
  pub point : position_or_len is_point tail ≡ 0
  pub marks : position_or_len is_exponent_mark tail ≡ length tail
  pub after : drop 1 tail ≡ fs
  pub short : length tail ≤ length fs + 1

pub IsTail-none : IsTail [] []
IsTail-none = record { point = refl; marks = refl; after = refl; short = omega arith }

pub IsTail-point : (fs : List ℕ) → list_all is_ascii_digit fs ≡ true → IsTail (46 ∷ fs) fs
IsTail-point fs all =
    let past : position_or_len is_exponent_mark fs ≡ length fs + 0 = ap (position_or_len is_exponent_mark) (sym (append-nil fs)) ∙ position_or_len-past_digits is_exponent_mark no_mark fs [] all in
    record { point = refl; marks = omega (arith, past); after = refl; short = omega arith }

-- a word of a sign or none, digits and such a tail is read as a decimal
pub decimal_of-word : (word ds tail fs : List ℕ) (negative : Bool) (value scale : ℕ) → without_leading_sign word ≡ ds ++ tail → starts_with_minus word ≡ negative → length word ≤ 64
    → list_all is_ascii_digit ds ≡ true → list_all is_ascii_digit fs ≡ true → 1 ≤ length ds + length fs → length ds + length fs ≤ 38 → length fs ≡ scale → IsTail tail fs
    → value ≡ digits_value 10 (ds ++ fs)
    → Some (record { negative = negative; digits = value; exponent = neg_ℤ (pos scale); literal = word }) ≡ decimal_of word
decimal_of-word word ds tail fs negative value scale unsigned minus short all more some few size ends value_is =
    let text : List ℕ = ds ++ tail in
    let marks : position_or_len is_exponent_mark text ≡ length text = position_or_len-past_digits is_exponent_mark no_mark ds tail all ∙ ap (λ n. length ds + n) ends.marks
    ∙ sym (length-append ds tail) in
    let point : position_or_len is_point text ≡ length ds + 0 = position_or_len-past_digits is_point is_point-digit ds tail all ∙ ap (λ n. length ds + n) ends.point in
    let plain : length ds + 0 ≡ length ds = omega arith in
    let whole : ds ≡ before_first is_point text = sym (ap (λ n. take n text) (point ∙ plain) ∙ take-append_seam ds tail) in
    let fraction : fs ≡ after_first is_point text = sym (ap (λ n. drop (n + 1) text) (point ∙ plain) ∙ drop-append-add ds tail 1 ∙ ends.after) in
    decimal_of-is word value (neg_ℤ (pos scale)) negative word
    (IsValueOf-found word text text ds fs value (pos 0) (neg_ℤ (pos scale)) (sym unsigned) (IsSplit-none text marks) whole fraction short some few all more value_is
    (omega (arith, ints, size)) (record { low = omega (arith, ints); high = omega (arith, ints) }))
    (sym minus) refl

-- a sign, digits and such a tail are read as a decimal
decimal_parts : (negative : Bool) (ds tail fs : List ℕ) (value scale : ℕ) → list_all is_ascii_digit ds ≡ true → list_all is_ascii_digit fs ≡ true → 0 < length ds → length ds ≤ 20
    → scale ≤ 18 → length fs ≡ scale
    → IsTail tail fs → get_or ds 0 0 ≢ 45 → get_or ds 0 0 ≢ 43 → value ≡ digits_value 10 (ds ++ fs)
    → Some (record { negative = negative; digits = value; exponent = neg_ℤ (pos scale); literal = sign_text negative ++ (ds ++ tail) }) ≡ decimal_of (sign_text negative ++ (ds ++ tail))
decimal_parts negative ds tail fs value scale all more some few small size ends minus plus value_is =
    let text : List ℕ = ds ++ tail in
    let word : List ℕ = sign_text negative ++ text in
    let first : get_or text 0 0 ≡ get_or ds 0 0 = get_or_append_left ds tail 0 0 some in
    let no_minus : get_or text 0 0 ≢ 45 = λ e. minus (sym first ∙ e) in
    let no_plus : get_or text 0 0 ≢ 43 = λ e. plus (sym first ∙ e) in
    let short : length word ≤ 64 = omega (arith, length-append (sign_text negative) text, length-append ds tail, ends.short, sign_short negative) in
    decimal_of-word word ds tail fs negative value scale (unsigned_same negative text no_minus no_plus) (sign_same negative text no_minus) short all more (omega arith) (omega arith) size ends value_is
  where
    sign_short : (b : Bool) → length (sign_text b) ≤ 1
    sign_short true = omega arith
    sign_short false = omega arith

-- the text of a height is read as this height
pub decimal_of_steps_text : (steps : ℤ) (places : ℕ) → FitsSigned w64 steps → places ≤ 18 → decimal_of (steps_text steps places) ≡ Some (steps_decimal steps places)
decimal_of_steps_text steps zero fits few =
    let n : ℕ = unsigned_abs steps in
    let ds : List ℕ = decimal (n / 1) in
    let wide : n / 1 < 2 ^ 64 = omega (arith, unsigned_abs-small steps fits, div-le_self n 1) in
    let value : n ≡ digits_value 10 (ds ++ []) = sym (ap (digits_value 10) (append-nil ds) ∙ digits_value-decimal IsNumeralModel-digits (n / 1) wide ∙ div-one n) in
    sym (decimal_parts (int_lt steps (pos 0)) ds [] [] n 0 (digits_decimal IsNumeralModel-digits (n / 1) wide) refl (decimal_nonempty (n / 1) wide)
    (length-decimal-le 20 (n / 1) (omega arith) (omega (arith, wide)) wide) few refl IsTail-none
    (decimal-first (n / 1) 45 wide (omega arith)) (decimal-first (n / 1) 43 wide (omega arith)) value)
decimal_of_steps_text steps (suc p) fits few =
    let n : ℕ = unsigned_abs steps in
    let unit : ℕ = 10 ^ suc p in
    let ds : List ℕ = decimal (n / unit) in
    let fs : List ℕ = padded (suc p) (n % unit) in
    let wide : n / unit < 2 ^ 64 = omega (arith, unsigned_abs-small steps fits, div-le_self n unit) in
    let places = padded_digits (suc p) (n % unit) (omega arith) (ten_power-rest n unit (suc p) refl) (omega (arith, unsigned_abs-small steps fits, mod-le n unit)) in
    let value : n ≡ digits_value 10 (ds ++ fs) =
    sym (digits_value_after-append 0 ds fs ∙ digits_value_after-split (digits_value 10 ds) fs
    ∙ ap₂ (λ x y. x * 10 ^ length fs + y) (digits_value-decimal IsNumeralModel-digits (n / unit) wide) places.value_is
    ∙ ap (λ k. n / unit * 10 ^ k + n % unit) places.count_is ∙ div-add-mod' n unit) in
    let text : steps_text steps (suc p) ≡ sign_text (int_lt steps (pos 0)) ++ (ds ++ (46 ∷ fs)) =
    ap (λ b. sign_text (int_lt steps (pos 0)) ++ (ds ++ (if b then [] else (46 ∷ fs)))) (ne_eqb (suc p) 0 (λ none. omega (arith, none))) in
    rw text (sym (decimal_parts (int_lt steps (pos 0)) ds (46 ∷ fs) fs n (suc p) (digits_decimal IsNumeralModel-digits (n / unit) wide) places.all (decimal_nonempty (n / unit) wide)
    (length-decimal-le 20 (n / unit) (omega arith) (omega (arith, wide)) wide) few places.count_is (IsTail-point fs places.all)
    (decimal-first (n / unit) 45 wide (omega arith)) (decimal-first (n / unit) 43 wide (omega arith)) value))
