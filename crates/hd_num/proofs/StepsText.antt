-- The texts of heights.
use Rattle.std.proofs.Common.{◌≡◌, ◌+◌, ◌-◌, ◌/◌, ◌%◌, ◌≤◌, ◌<◌, ◌^◌, ℕ, ℤ, suc, pos, negsuc, true, false, int_lt, unsigned_abs, List, [], ◌∷◌, ◌++◌}
use Rattle.std.proofs.Common.{length, take, replicate, sym, ap, ap₂, subst, ◌∙◌, arith, rules, ne_eqb}
use Rattle.std.specs.Prelude.{decimal, if◌then◌else◌}
use Rattle.std.specs.Fmt.{sign_text, signed_decimal}
use Rattle.std.proofs.lemmas.List.{take-replicate}
use Rattle.std.proofs.lemmas.Nat.{mod_below}
use Rattle.std.proofs.Math.Nat.{one-le-pow}
use Rattle.hd_num.specs.Steps.{magnitude_text, padded, steps_text}

-- a power of ten is not 0
pub ten_power-some : (unit places : ℕ) → unit ≡ 10 ^ places → 0 < unit
ten_power-some unit places is = let some = one-le-pow places 10 (omega arith) in omega (arith, is, some)

-- what is left of a magnitude has its places
pub ten_power-rest : (n unit places : ℕ) → unit ≡ 10 ^ places → n % unit < 10 ^ places
ten_power-rest n unit places is = subst (λ u. n % unit < u) is (mod_below n unit (ten_power-some unit places is))

-- a point and zeros, taken from many
point_zeros : (k : ℕ) → k ≤ 18 → take {A = ℕ} (1 + k) (46 ∷ replicate 18 48) ≡ 46 ∷ replicate k 48
point_zeros k few =
    let more : 1 + k ≡ suc k = omega arith in
    ap (λ n. take {A = ℕ} n (46 ∷ replicate 18 48)) more ∙ ap (λ (t : List ℕ). 46 ∷ t) (take-replicate k 18 48 few)

-- a point, zeros and digits
pub padded-point : (width places n : ℕ) (digits : List ℕ) → width ≡ places → digits ≡ decimal n → places ≤ 18
    → take {A = ℕ} (1 + (width - length digits)) (46 ∷ replicate 18 48) ++ digits ≡ 46 ∷ padded places n
padded-point width places n digits width_is digits_are few =
    ap₂ (λ (w : ℕ) (ds : List ℕ). take {A = ℕ} (1 + (w - length ds)) (46 ∷ replicate 18 48) ++ ds) width_is digits_are
    ∙ ap (λ (t : List ℕ). t ++ decimal n) (point_zeros (places - length (decimal n)) (omega arith))

-- a magnitude with places, by its unit
pub magnitude_text-with_places : (n unit places : ℕ) → unit ≡ 10 ^ places → 1 ≤ places → decimal (n / unit) ++ (46 ∷ padded places (n % unit)) ≡ magnitude_text n places
magnitude_text-with_places n unit places is some =
    ap (λ (u : ℕ). decimal (n / u) ++ (46 ∷ padded places (n % u))) is
    ∙ ap (λ b. decimal (n / 10 ^ places) ++ (if b then [] else (46 ∷ padded places (n % 10 ^ places)))) (sym (ne_eqb places 0 (λ none. omega (arith, none, some))))

-- a height below 0
pub steps_text-negative : (steps : ℤ) (n places : ℕ) → n ≡ unsigned_abs steps → int_lt steps (pos 0) ≡ true → (45 ∷ []) ++ magnitude_text n places ≡ steps_text steps places
steps_text-negative steps n places is minus = ap (λ (m : ℕ). (45 ∷ []) ++ magnitude_text m places) is ∙ ap (λ b. sign_text b ++ magnitude_text (unsigned_abs steps) places) (sym minus)

-- any other height
pub steps_text-unsigned : (steps : ℤ) (n places : ℕ) → n ≡ unsigned_abs steps → int_lt steps (pos 0) ≡ false → magnitude_text n places ≡ steps_text steps places
steps_text-unsigned steps n places is plus = ap (λ (m : ℕ). magnitude_text m places) is ∙ ap (λ b. sign_text b ++ magnitude_text (unsigned_abs steps) places) (sym plus)

-- a height without decimal places
pub steps_text-whole : (steps : ℤ) → steps_text steps 0 ≡ signed_decimal steps
steps_text-whole (pos n) = search rules
steps_text-whole (negsuc n) = search rules
