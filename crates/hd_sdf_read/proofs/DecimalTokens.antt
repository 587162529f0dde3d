-- Decimals, token by token.
use Rattle.std.proofs.Common.{◌≡◌, ◌+◌, ◌-◌, ◌*◌, ◌<◌, ◌≤◌, ◌^◌, ℕ, suc, true, false, eqb, List, [], ◌∷◌, ◌++◌, length, take, drop, get_or, Some, None}
use Rattle.std.proofs.Common.{Ok, Err, inl, inr, refl, sym, ap, ap₂, ◌∙◌, arith, length-append, append_assoc}
use Rattle.std.specs.Prelude.{bytes_eq, codes}
use Rattle.std.specs.Char.{is_ascii_digit}
use Rattle.std.specs.List.{list_all}
use Rattle.std.specs.Str.Parse.{digits_value}
use Rattle.std.proofs.lemmas.Bool.{and_from, cases_Bool}
use Rattle.std.proofs.lemmas.List.{length-take-le, take-append-drop}
use Rattle.std.proofs.lemmas.List.Folds.{list_all-append}
use Rattle.std.proofs.lemmas.Slice.Eq.{bytes_eq-Decides}
use Rattle.std.proofs.lemmas.Str.Parse.{digits_value_short}
use Rattle.hd_num.proofs.Decimals.{digits_value_after-append}
use Rattle.hd_num.proofs.WholeReadsBack.{IsNumeralModel-digits}
use Rattle.hd_num.proofs.StepsReadBack.{digits_value_after-split}
use Rattle.hd_num.specs.Decimal.{decimal_of}
use Rattle.hd_num.specs.Lines.{without_start}
use Rattle.hd_sdf_read.specs.Tokens.{is_gap, after_token, is_absent, is_star, token_of}
use Rattle.hd_num.specs.declared.decimal.Decimal.{Decimal}
use Rattle.hd_sdf_read.specs.declared.error.SdfError.{SdfError}
use Rattle.hd_sdf_read.specs.declared.error.SdfError.TheVariants.{DatumRange, TooFewData}
use Rattle.hd_sdf_read.specs.declared.scaled.Datum.{Datum}
use Rattle.hd_sdf_read.specs.declared.scaled.Scaled.{Scaled}
use Rattle.hd_map.specs.declared.types.DataType.{DataType}
use Rattle.hd_sdf_read.specs.Decimals.{IsSmall, data_with, datum_of, decimals_from, measured, ranged}
use Rattle.hd_sdf_read.specs.Reads.{◌>>=◌}
use Rattle.hd_sdf_read.specs.Scaling.{Pushes, IsScaled}
use Rattle.hd_sdf_read.specs.DecimalTokens.{AreUnits, IsNextDatum, TakesDecimal}
use Rattle.hd_sdf_read.proofs.WholeFronts.{after_token-front, token_of-front}
use Rattle.hd_sdf_read.proofs.Scaling.{ranged-not_small}

-- a decimal that alone is out of range, behind others
pub datum_of-out : (number : ℕ) (token : List ℕ) (d : Decimal) (before : List Datum) → bytes_eq token (codes "BAD") ≡ false → Some d ≡ decimal_of token → (IsSmall (measured d) → ⊥)
    → number ≡ length before + 1
    → (datum_of number token >>= (λ datum. ranged (before ++ datum ∷ []))) ≡ Err (DatumRange number)
datum_of-out number token d before other is great number_is = rw (other, ← is) (ranged-not_small before (measured d) number great number_is)

-- a token that is there, behind others
pub data_with-token : (before : List Datum) (token : List ℕ) → is_absent token ≡ false → is_star token ≡ false
    → data_with before token ≡ (datum_of (length before + 1) token >>= (λ datum. ranged (before ++ datum ∷ [])))
unfolding data_with
data_with-token before token some other = rw (some, other) refl

-- the next datum is read
module _ (before : List Datum) (read count : ℕ) (text rest : List ℕ) (read_is : length before ≡ read) (more : read < count) where
  pub decimals_from-more : (d : Datum) → IsNextDatum read text d → rest ≡ after_token text → ranged (before ++ d ∷ []) ≡ Ok (before ++ d ∷ [])
      → decimals_from before (count - read) text ≡ decimals_from (before ++ d ∷ []) (count - (read + 1)) rest
  unfolding decimals_from
  decimals_from-more d next is fits =
      let step : count - read ≡ suc (count - (read + 1)) = omega arith in
      let datum : datum_of (length before + 1) (token_of text) ≡ Ok d = ap (λ n. datum_of (n + 1) (token_of text)) read_is ∙ next.datum in
      let with : data_with before (token_of text) ≡ Ok (before ++ d ∷ []) = data_with-token before (token_of text) next.some next.other ∙ rw datum fits in
      rw (step, with, is) refl

  -- it is out of range
  pub decimals_from-out : (d : Datum) (e : SdfError) → IsNextDatum read text d → ranged (before ++ d ∷ []) ≡ Err e → decimals_from before (count - read) text ≡ Err e
  unfolding decimals_from
  decimals_from-out d e next wrong =
      let step : count - read ≡ suc (count - (read + 1)) = omega arith in
      let datum : datum_of (length before + 1) (token_of text) ≡ Ok d = ap (λ n. datum_of (n + 1) (token_of text)) read_is ∙ next.datum in
      let with : data_with before (token_of text) ≡ Err e = data_with-token before (token_of text) next.some next.other ∙ rw datum wrong in
      rw (step, with) refl

  -- there is none
  pub decimals_from-stop : (e : SdfError) → data_with before (token_of text) ≡ Err e → decimals_from before (count - read) text ≡ Err e
  unfolding decimals_from
  decimals_from-stop e wrong =
      let step : count - read ≡ suc (count - (read + 1)) = omega arith in
      rw (step, wrong) refl

-- all data are read
pub decimals_from-done : (before : List Datum) (read count : ℕ) (text : List ℕ) → count ≤ read → decimals_from before (count - read) text ≡ Ok (record { items = before; rest = text })
unfolding decimals_from
decimals_from-done before read count text all =
    let none : count - read ≡ 0 = omega arith in
    rw none refl

-- no token is left
pub data_with-absent : (before : List Datum) (read : ℕ) (text token : List ℕ) → token ≡ token_of text → is_absent token ≡ true → length before ≡ read
    → data_with before (token_of text) ≡ Err (TooFewData read)
unfolding data_with
data_with-absent before read text token is none read_is = rw (← is, none, read_is) refl

-- a token ends the data
pub data_with-star : (before : List Datum) (read : ℕ) (text token : List ℕ) → token ≡ token_of text → is_absent token ≡ false → is_star token ≡ true → length before ≡ read
    → data_with before (token_of text) ≡ Err (TooFewData read)
unfolding data_with
data_with-star before read text token is some star read_is = rw (← is, some, star, read_is) refl

-- a token that is no datum, or one out of range
pub data_with-stop : (before : List Datum) (read : ℕ) (text token : List ℕ) (e : SdfError) → token ≡ token_of text → is_absent token ≡ false → is_star token ≡ false → length before ≡ read
    → ((before : List Datum) → read + 1 ≡ length before + 1 → (datum_of (read + 1) token >>= (λ datum. ranged (before ++ datum ∷ []))) ≡ Err e) → data_with before (token_of text) ≡ Err e
data_with-stop before read text token e is some other read_is wrong =
    ap (data_with before) (sym is) ∙ data_with-token before token some other ∙ ap (λ n. datum_of (n + 1) token >>= (λ datum. ranged (before ++ datum ∷ []))) read_is
    ∙ wrong before (ap (λ n. n + 1) (sym read_is))

-- a decimal is no other word
pub decimal_of-apart : (word token : List ℕ) (d : Decimal) → decimal_of word ≡ None → decimal_of token ≡ Some d → bytes_eq token word ≡ false
decimal_of-apart word token d none some = elim (cases_Bool (bytes_eq token word)) [
  | inl same ↦ let wrong : Some d ≡ None = sym some ∙ ap decimal_of ((bytes_eq-Decides token word).0 same) ∙ none in cc
  | inr other ↦ other
]

pub decimal_of-star : decimal_of (codes "*") ≡ None
unfolding decimal_of
decimal_of-star = refl

pub decimal_of-bad : decimal_of (codes "BAD") ≡ None
unfolding decimal_of
decimal_of-bad = refl

-- the token at the front of a text is a decimal
pub IsNextDatum-given : (read : ℕ) (text front rest : List ℕ) (d : Datum) → front ≡ without_start is_gap text → TakesDecimal front rest d → IsNextDatum read text d × (rest ≡ after_token text)
IsNextDatum-given read text front rest d is taken =
    let token = token_of-front text front taken.token is taken.place in
    let bad : bytes_eq taken.token (codes "BAD") ≡ false = decimal_of-apart (codes "BAD") taken.token taken.decimal decimal_of-bad taken.is_decimal in (
      record {
        some = rw token taken.filled;
        other = rw token (decimal_of-apart (codes "*") taken.token taken.decimal decimal_of-star taken.is_decimal);
        datum = rw (token, bad, taken.is_decimal) (ap Ok taken.is_measured);
        small = taken.small;
      },
      after_token-front text front rest is taken.after,
    )

-- the number of digits before and after a point
module _ (whole fraction : List ℕ) (first part : ℕ) (all : list_all is_ascii_digit whole ≡ true) (more : list_all is_ascii_digit fraction ≡ true) (few : length whole + length fraction ≤ 18)
    (first_is : first ≡ digits_value 10 whole) (part_is : part ≡ digits_value 10 fraction) where
  pub digits_value-pointed : first * 10 ^ length fraction + part ≡ digits_value 10 (whole ++ fraction)
  digits_value-pointed = sym (digits_value_after-append 0 whole fraction ∙ digits_value_after-split (digits_value 10 whole) fraction
      ∙ ap₂ (λ a b. a * 10 ^ length fraction + b) (sym first_is) (sym part_is))

  pub digits_value-pointed_small : first * 10 ^ length fraction + part < 1000000000000000000
  digits_value-pointed_small =
      let both : list_all is_ascii_digit (whole ++ fraction) ≡ true = list_all-append is_ascii_digit whole fraction ∙ and_from _ _ all more in
      let bound : digits_value 10 (whole ++ fraction) < 10 ^ 18 = digits_value_short IsNumeralModel-digits (whole ++ fraction) 18 both (omega (arith, length-append whole fraction, few)) in
      rw digits_value-pointed bound

-- digits with a point
pub AreUnits-pointed : (text after fraction rest : List ℕ) (count places first part : ℕ) → count ≤ length text → places ≤ length fraction → 1 ≤ count + places → count + places ≤ 18
    → list_all is_ascii_digit (take count text) ≡ true → list_all is_ascii_digit (take places fraction) ≡ true → first ≡ digits_value 10 (take count text)
    → part ≡ digits_value 10 (take places fraction)
    → after ≡ drop count text → after ≡ 46 ∷ fraction → rest ≡ drop places fraction
    → AreUnits text (first * 10 ^ places + part) places rest
AreUnits-pointed text after fraction rest count places first part inside within some few IsNumeralModel-digits more first_is part_is after_is point rest_is =
    let whole : List ℕ = take count text in
    let ds : List ℕ = take places fraction in
    let size = length-take-le count text inside in
    let part_size = length-take-le places fraction within in
    record {
      whole = whole;
      fraction = ds;
      point = true;
      bare = λ wrong. (let no : true ≡ false = wrong in cc);
      text_is = sym (append_assoc whole (46 ∷ ds) rest ∙ ap (λ (r : List ℕ). whole ++ (46 ∷ (ds ++ r))) rest_is ∙ ap (λ (r : List ℕ). whole ++ (46 ∷ r)) (take-append-drop places fraction)
          ∙ ap (λ (r : List ℕ). whole ++ r) (sym point ∙ after_is) ∙ take-append-drop count text);
      whole_digits = IsNumeralModel-digits;
      fraction_digits = more;
      some = omega (arith, size, part_size, some);
      few = omega (arith, size, part_size, few);
      places_are = part_size;
      units_are = ap (λ n. first * 10 ^ n + part) (sym part_size) ∙ digits_value-pointed whole ds first part IsNumeralModel-digits more (omega (arith, size, part_size, few)) first_is part_is;
    }

-- a text that begins with a byte
pub text-first_byte : (text : List ℕ) (byte other : ℕ) → eqb (length text) 0 ≡ false → get_or text 0 other ≡ byte → text ≡ byte ∷ drop 1 text
text-first_byte [] byte other some is = let wrong : true ≡ false = some in cc
text-first_byte (x ∷ xs) byte other some is = ap (λ b. b ∷ xs) is

-- so many data are read, and what is left of the text gives the others
pub record HasRead (s : Scaled) (t : DataType) (read count : ℕ) (rest text : List ℕ) : Type 0 where
  pub items : List Datum
  pub kept : IsScaled s t items
  pub size : length items ≡ read
  pub left : decimals_from items (count - read) rest ≡ decimals_from [] count text

-- one more is read
pub HasRead-more : (old new : Scaled) (t : DataType) (read count : ℕ) (rest after text : List ℕ) (d : Datum) → HasRead old t read count rest text → read < count
    → IsNextDatum read rest d → after ≡ after_token rest
    → Pushes old new (read + 1) d (Ok tt) → HasRead new t (read + 1) count after text
HasRead-more old new t read count rest after text d has more next is pushes =
    let both = pushes t has.items has.kept in
    let size = has.size in
    record {
      items = has.items ++ d ∷ [];
      kept = both.1;
      size = length-append has.items (d ∷ []) ∙ ap (λ n. n + 1) size;
      left = sym (decimals_from-more has.items read count rest after size more d next is both.0) ∙ has.left;
    }
