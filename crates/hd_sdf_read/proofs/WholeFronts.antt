-- Whole numbers at the front of a text.
use Rattle.std.proofs.Common.{◌≡◌, ◌+◌, ◌-◌, ◌+ℤ◌, ◌^◌, ◌<◌, ◌≤◌, ℕ, zero, suc, ℤ, pos, negsuc, Bool, true, false, not, List, [], ◌∷◌, length, take}
use Rattle.std.proofs.Common.{drop, get_or, eqb, ◌&&◌, Some, None, Ok, inl, inr, refl, sym, ap, ap₂, arith, ◌∙◌, if◌then◌else◌}
use Rattle.std.specs.Prelude.{bytes_eq, codes, int_le}
use Rattle.std.specs.Char.{is_ascii_digit}
use Rattle.std.specs.List.{before_first, list_all, position_or_len}
use Rattle.std.specs.Str.Parse.{digits_value, signed_digits_value, starts_with_minus, without_leading_sign}
use Rattle.std.proofs.lemmas.Bool.{and_from, and_parts, cases_Bool, lt-ltb, ne_eqb}
use Rattle.std.proofs.lemmas.Bool.Decides.{nat_tests}
use Rattle.std.proofs.lemmas.List.{get_or-drop, get_or-take, length-take-le}
use Rattle.std.proofs.lemmas.List.Elements.{All-get_or}
use Rattle.std.proofs.lemmas.List.Sums.{AllPass-from_list_all, position_or_len_is, prefix_len-le-length}
use Rattle.std.proofs.lemmas.Int.{ints}
use Rattle.std.proofs.lemmas.Slice.Eq.{bytes_eq-Decides}
use Rattle.hd_map.specs.declared.types.Cell.{Cell}
use Rattle.hd_map.specs.declared.types.Cell.TheVariants.{Height}
use Rattle.hd_num.specs.Lines.{without_start}
use Rattle.hd_num.specs.Whole.{is_numeral, signed_number, whole_of, whole_of_value}
use Rattle.hd_num.specs.declared.whole.Whole.TheVariants.{Is, Not, Outside}
use Rattle.hd_sdf_read.specs.Tokens.{is_gap, after_token, is_star, token_of}
use Rattle.hd_sdf_read.specs.Grammar.{cell_of, datum_at}
use Rattle.hd_sdf_read.proofs.DatumAt.{datum_at-by_token}
use Rattle.hd_sdf_read.specs.WholeTokens.{AreDigits, TakesCell, TakesHeight, TakesNumber}
use Rattle.hd_num.proofs.Integers.{int_le-true}

-- a digit is no gap
pub is_gap-digit : (byte : ℕ) → is_ascii_digit byte ≡ true → is_gap byte ≡ false
is_gap-digit byte digit = grind (arith, nat_tests)

-- what a small number is
is_small : (negative : Bool) (n : ℕ) → n < 1000000000000000000 → whole_of_value (Some (signed_number negative n)) ≡ Is (signed_number negative n)
is_small false n small = ap (λ b. if b then Is (pos n) else Outside) (lt-ltb n (2 ^ 63) (omega arith))
is_small true zero small = refl
is_small true (suc n) small = ap (λ b. if b then Is (negsuc n) else Outside) (lt-ltb n (2 ^ 63) (omega arith))

-- one of the digits
digit_at : (text : List ℕ) (count k : ℕ) → count ≤ length text → list_all is_ascii_digit (take count text) ≡ true → k < count → is_ascii_digit (get_or text k 0) ≡ true
digit_at text count k inside digits less =
    let within : k < length (take count text) = rw (length-take-le count text inside) less in
    sym (ap is_ascii_digit (get_or-take count text k 0 less))
    ∙ All-get_or (λ byte. is_ascii_digit byte ≡ true) (take count text) k 0 within (AllPass-from_list_all is_ascii_digit (take count text) digits)

-- the digits at the front of a text, up to a gap or the end, are a token
digits_end : (text : List ℕ) (count : ℕ) → count ≤ length text → list_all is_ascii_digit (take count text) ≡ true → (count < length text → is_gap (get_or text count 0) ≡ true)
    → position_or_len is_gap text ≡ count
digits_end text count inside digits after =
    position_or_len_is is_gap text count 0 inside (λ k less. is_gap-digit (get_or text k 0) (digit_at text count k inside digits less)) after

-- a token of digits with a sign or none
token_number : (token ds : List ℕ) (negative : Bool) (n : ℕ) → without_leading_sign token ≡ ds → starts_with_minus token ≡ negative → 0 < length ds
    → list_all is_ascii_digit ds ≡ true → n ≡ digits_value 10 ds
    → n < 1000000000000000000 → whole_of token ≡ Is (signed_number negative n)
token_number token ds negative n is minus some digits value small =
    let numeral : is_numeral (without_leading_sign token) ≡ true = ap is_numeral is ∙ and_from _ _ (ap not (ne_eqb (length ds) 0 (λ none. omega (arith, none, some)))) digits in
    let number : signed_digits_value 10 token ≡ signed_number negative n = rw (is, minus, value) refl in
    ap (λ b. whole_of_value (if b then Some (signed_digits_value 10 token) else None)) numeral ∙ ap (λ z. whole_of_value (Some z)) number ∙ is_small negative n small

-- a number is no other word
pub whole_of-apart : (word token : List ℕ) (h : ℤ) → whole_of word ≡ Not → whole_of token ≡ Is h → bytes_eq token word ≡ false
whole_of-apart word token h none number = elim (cases_Bool (bytes_eq token word)) [
  | inl same ↦ let wrong : Is h ≡ Not = sym number ∙ ap whole_of ((bytes_eq-Decides token word).0 same) ∙ none in cc
  | inr other ↦ other
]

-- digits without a sign
plain_height : (byte : ℕ) (bytes : List ℕ) (k n : ℕ) → eqb byte 45 ≡ false → eqb byte 43 ≡ false → suc k ≤ length (byte ∷ bytes) → list_all is_ascii_digit (take (suc k) (byte ∷ bytes)) ≡ true
    → (suc k < length (byte ∷ bytes) → is_gap (get_or (byte ∷ bytes) (suc k) 0) ≡ true) → n ≡ digits_value 10 (take (suc k) (byte ∷ bytes)) → n < 1000000000000000000
    → TakesHeight (byte ∷ bytes) (drop (suc k) (byte ∷ bytes)) (signed_number false n)
plain_height byte bytes k n no_minus no_plus inside digits after value small =
    let end = digits_end (byte ∷ bytes) (suc k) inside digits after in
    let whole : without_leading_sign (byte ∷ take k bytes) ≡ byte ∷ take k bytes = rw (no_minus, no_plus) refl in
    record {
      token = byte ∷ take k bytes;
      place = ap (λ p. take p (byte ∷ bytes)) end;
      after = ap (λ p. drop p (byte ∷ bytes)) end;
      filled = ne_eqb (length (byte ∷ take k bytes)) 0 (λ none. omega (arith, none));
      number = token_number (byte ∷ take k bytes) (byte ∷ take k bytes) false n whole no_minus (omega arith) digits value small;
    }

-- digits with a sign
signed_height : (byte : ℕ) (bytes : List ℕ) (k n : ℕ) (negative : Bool) → is_gap byte ≡ false → without_leading_sign (byte ∷ take (suc k) bytes) ≡ take (suc k) bytes → eqb byte 45 ≡ negative
    → suc k ≤ length bytes → list_all is_ascii_digit (take (suc k) bytes) ≡ true
    → (suc k < length bytes → is_gap (get_or bytes (suc k) 0) ≡ true) → n ≡ digits_value 10 (take (suc k) bytes) → n < 1000000000000000000
    → TakesHeight (byte ∷ bytes) (drop (suc k) bytes) (signed_number negative n)
signed_height byte bytes k n negative sign unsigned minus inside digits after value small =
    let end = digits_end bytes (suc k) inside digits after in
    let place : position_or_len is_gap (byte ∷ bytes) ≡ suc (suc k) = rw (sign, end) (omega arith) in
    record {
      token = byte ∷ take (suc k) bytes;
      place = ap (λ p. take p (byte ∷ bytes)) place;
      after = ap (λ p. drop p (byte ∷ bytes)) place;
      filled = ne_eqb (length (byte ∷ take (suc k) bytes)) 0 (λ none. omega (arith, none));
      number = token_number (byte ∷ take (suc k) bytes) (take (suc k) bytes) negative n unsigned minus (rw (length-take-le (suc k) bytes inside) (omega arith)) digits value small;
    }

-- a gap at the front of what follows some bytes
gap_behind : (text rest : List ℕ) (count : ℕ) → rest ≡ drop count text → is_gap (get_or rest 0 0) ≡ true → is_gap (get_or text count 0) ≡ true
gap_behind text rest count is gap =
    let place : count + 0 ≡ count = omega arith in
    ap is_gap (sym (ap (λ xs. get_or xs 0 0) is ∙ get_or-drop count text 0 0 ∙ ap (λ k. get_or text k 0) place)) ∙ gap

-- a digit is no sign
digit_no_sign : (byte : ℕ) → is_ascii_digit byte ≡ true → (eqb byte 45 ≡ false) × (eqb byte 43 ≡ false)
digit_no_sign byte digit = (grind (arith, nat_tests), grind (arith, nat_tests))

plain_at : (text : List ℕ) (count n : ℕ) → 0 < count → AreDigits text count n → is_gap (get_or text count 0) ≡ true → TakesHeight text (drop count text) (signed_number false n)
plain_at text zero n some digits gap = absurd (omega arith)
plain_at [] (suc k) n some digits gap = let within = digits.within in absurd (omega (arith, within))
plain_at (byte ∷ bytes) (suc k) n some digits gap =
    let within = digits.within in
    let no_sign = digit_no_sign byte (and_parts (is_ascii_digit byte) (list_all is_ascii_digit (take k bytes)) digits.digits).0 in
    plain_height byte bytes k n no_sign.0 no_sign.1 (omega (arith, within)) digits.digits (λ _. gap) digits.value digits.bound

minus_at : (text : List ℕ) (count n : ℕ) → 0 < length text → get_or text 0 0 ≡ 45 → 0 < count → AreDigits (drop 1 text) count n → is_gap (get_or (drop 1 text) count 0) ≡ true
    → TakesHeight text (drop count (drop 1 text)) (signed_number true n)
minus_at text zero n filled minus some digits gap = absurd (omega arith)
minus_at [] (suc k) n filled minus some digits gap = absurd (omega arith)
minus_at (byte ∷ bytes) (suc k) n filled minus some digits gap =
    let within = digits.within in
    let is : byte ≡ 45 = minus in
    signed_height byte bytes k n true (rw is refl) (rw is refl) (rw is refl) (omega (arith, within)) digits.digits (λ _. gap) digits.value digits.bound

module _ (below greatest : ℕ) (text rest : List ℕ) (n : ℕ) where
  -- a number without a sign in the range, by how far it is over the least height
  pub TakesCell-plain : TakesNumber text rest n → n ≤ greatest → TakesCell (signed_number true below) (pos greatest) text rest (Height (signed_number true below +ℤ pos (below + n)))
  TakesCell-plain takes within = record {
    height = signed_number false n;
    takes = rw takes.after (plain_at text takes.count n takes.some takes.digits (gap_behind text rest takes.count takes.after takes.begins));
    low = int_le-true (signed_number true below) (signed_number false n) (omega (arith, ints));
    high = int_le-true (signed_number false n) (pos greatest) (omega (arith, ints, within));
    cell_is = ap Height (let sum : signed_number true below +ℤ pos (below + n) ≡ signed_number false n = omega (arith, ints) in sum);
  }

  -- or with a minus
  pub TakesCell-minus : 0 < length text → get_or text 0 0 ≡ 45 → TakesNumber (drop 1 text) rest n → n ≤ below
      → TakesCell (signed_number true below) (pos greatest) text rest (Height (signed_number true below +ℤ pos (below - n)))
  TakesCell-minus filled minus takes within = record {
    height = signed_number true n;
    takes = rw takes.after (minus_at text takes.count n filled minus takes.some takes.digits (gap_behind (drop 1 text) rest takes.count takes.after takes.begins));
    low = int_le-true (signed_number true below) (signed_number true n) (omega (arith, ints, within));
    high = int_le-true (signed_number true n) (pos greatest) (omega (arith, ints));
    cell_is = ap Height (let sum : signed_number true below +ℤ pos (below - n) ≡ signed_number true n = omega (arith, ints, within) in sum);
  }

-- a text that a gap begins is not empty
pub is_gap-begins : (rest : List ℕ) → is_gap (get_or rest 0 0) ≡ true → 0 < length rest
is_gap-begins [] gap = let wrong : false ≡ true = gap in cc
is_gap-begins (byte ∷ rest) gap = omega arith

-- the first token, after the gaps
pub token_of-front : (text front token : List ℕ) → front ≡ without_start is_gap text → take (position_or_len is_gap front) front ≡ token → token_of text ≡ token
unfolding token_of
token_of-front text front token is place = ap (before_first is_gap) (sym is) ∙ place

-- and the text after it
pub after_token-front : (text front rest : List ℕ) → front ≡ without_start is_gap text → drop (position_or_len is_gap front) front ≡ rest → rest ≡ after_token text
unfolding after_token
after_token-front text front rest is after =
    let token = token_of-front text front (take (position_or_len is_gap front) front) is refl in
    let size : length (token_of text) ≡ position_or_len is_gap front =
    ap length token ∙ length-take-le (position_or_len is_gap front) front (prefix_len-le-length (λ byte. not (is_gap byte)) front) in
    sym (ap₂ (λ (n : ℕ) (xs : List ℕ). drop n xs) size (sym is) ∙ after)

-- the token at the front of a text is a height in the range
pub TakesCell-given : (least greatest : ℤ) (read : ℕ) (text front rest : List ℕ) (cell : Cell) → front ≡ without_start is_gap text → TakesCell least greatest front rest cell
    → (datum_at least greatest read text ≡ Ok cell) × (rest ≡ after_token text)
TakesCell-given least greatest read text front rest cell is taken =
    let takes = taken.takes in
    let token = token_of-front text front takes.token is takes.place in
    let no_star : is_star takes.token ≡ false = whole_of-apart (codes "*") takes.token taken.height refl takes.number in
    let no_bad : bytes_eq takes.token (codes "BAD") ≡ false = whole_of-apart (codes "BAD") takes.token taken.height refl takes.number in
    let within : (int_le least taken.height && int_le taken.height greatest) ≡ true = and_from _ _ taken.low taken.high in
    let right : cell_of least greatest (read + 1) takes.token ≡ Ok cell = rw (no_bad, takes.number, within, taken.cell_is) refl in
    (datum_at-by_token least greatest read text takes.token (sym token) takes.filled no_star ∙ right, after_token-front text front rest is takes.after)
