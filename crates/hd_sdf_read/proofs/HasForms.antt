-- The texts of a file have their forms.
use Rattle.std.proofs.Common.{◌≡◌, ◌≤◌, ℕ, true, List, length, cond, Option, Some, None, Ok, refl, sym, ap, ◌∙◌, inl, inr}
use Rattle.std.specs.Prelude.{codes, IfOk, Result, Err, ok_or, option_and_then, unwrap_or}
use Rattle.std.specs.Str.Parse.{starts_with_minus, without_leading_sign}
use Rattle.std.proofs.lemmas.Bool.{and_from, cases_Bool, le-leb}
use Rattle.std.proofs.lemmas.Slice.Eq.{bytes_eq-Decides}
use Rattle.hd_map.specs.Map.{Map}
use Rattle.hd_num.specs.Decimal.{decimal_of, digits_of, is_decimal, scale_of}
use Rattle.hd_num.specs.Lines.{trimmed_by}
use Rattle.hd_num.specs.declared.decimal.Decimal.{Decimal}
use Rattle.hd_sdf_read.specs.declared.error.SdfError.{SdfError}
use Rattle.hd_sdf_read.specs.declared.file.Extra.{Extra}
use Rattle.hd_sdf_read.specs.declared.file.Version.{Version}
use Rattle.hd_sdf_read.specs.Entries.{value_of}
use Rattle.hd_sdf_read.specs.File.{AreGood, HasForms, is_trailer}
use Rattle.hd_sdf_read.specs.Tokens.{is_gap}
use Rattle.hd_sdf_read.specs.Grammar.{file_with, minus_one, resolution_of}
use Rattle.hd_sdf_read.specs.RequiredKeys.{RequiredKeys, decimal_at, HasDecimals, IsRead}
use Rattle.hd_sdf_read.proofs.GoodEntries.{are_apart-extra_entries, is_extra-good, text_of-good}
use Rattle.hd_sdf_read.proofs.Trims.{IsTrimmed-trimmed_by, IsTrimmed-same}

-- the literal of a decimal is its word
literal_same : (word : List ℕ) (d : Decimal) → decimal_of word ≡ Some d → word ≡ d.literal
unfolding decimal_of
literal_same word d e =
    let read : Decimal = record {
      negative = starts_with_minus word;
      digits = digits_of (without_leading_sign word);
      exponent = scale_of (without_leading_sign word);
      literal = word;
    } in
    elim (cases_Bool (is_decimal word)) [
      | inl right ↦
          let same : Some read ≡ Some d = sym (ap (λ b. cond b (Some read) None) right) ∙ e in
          let whole : read ≡ d = cc in
          ap (λ (x : Decimal). x.literal) whole
      | inr wrong ↦ let none : None ≡ Some d = sym (ap (λ b. cond b (Some read) None) wrong) ∙ e in cc
    ]

-- a decimal is read from its literal
literal_is : (word : List ℕ) (d : Decimal) → decimal_of word ≡ Some d → decimal_of d.literal ≡ Some d
literal_is word d e = ap decimal_of (sym (literal_same word d e)) ∙ e

value_good : (value : Option (List ℕ)) (d : Decimal) → Some d ≡ option_and_then decimal_of value → decimal_of d.literal ≡ Some d
value_good None d e = cc
value_good (Some word) d e = literal_is word d (sym e)

-- the decimal of a key is read from its literal
pub decimal_of-literal : (key : List ℕ) (entries : List Extra) (d : Decimal) → Some d ≡ decimal_at key entries → decimal_of d.literal ≡ Some d
decimal_of-literal key entries d e = value_good (value_of key entries) d e

-- so is -1
minus_one_good : decimal_of minus_one.literal ≡ Some minus_one
unfolding decimal_of
minus_one_good = refl

or_minus_one : (found : Option Decimal) → ((d : Decimal) → Some d ≡ found → decimal_of d.literal ≡ Some d) → decimal_of (unwrap_or found minus_one).literal ≡ Some (unwrap_or found minus_one)
or_minus_one None good = minus_one_good
or_minus_one (Some d) good = good d refl

-- and so is the resolution
resolution_good : (entries : List Extra) → decimal_of (resolution_of entries).literal ≡ Some (resolution_of entries)
resolution_good entries = or_minus_one (decimal_at (codes "Zresolution") entries) (decimal_of-literal (codes "Zresolution") entries)

-- a trailer without its ends
pub is_trailer-trimmed : (text : List ℕ) → length (trimmed_by is_gap text) ≤ 65536 → is_trailer (trimmed_by is_gap text) ≡ true
is_trailer-trimmed text short =
    and_from _ _ (le-leb _ _ short) ((bytes_eq-Decides (trimmed_by is_gap (trimmed_by is_gap text)) (trimmed_by is_gap text)).1
    (IsTrimmed-same is_gap (trimmed_by is_gap text) (IsTrimmed-trimmed_by is_gap text)))

-- the file of such parts
pub HasForms-good : (version : Version) (entries : List Extra) (keys : RequiredKeys) (map : Map) (trailer : List ℕ) → AreGood entries → HasDecimals keys → is_trailer trailer ≡ true
    → HasForms (file_with version entries keys map trailer)
HasForms-good version entries keys map trailer good decimals end = record {
  manufac_id = text_of-good (codes "ManufacID") entries good.forms;
  create_date = text_of-good (codes "CreateDate") entries good.forms;
  mod_date = text_of-good (codes "ModDate") entries good.forms;
  x_scale = decimals.x_scale;
  y_scale = decimals.y_scale;
  z_scale = decimals.z_scale;
  z_resolution = resolution_good entries;
  few = good.few;
  extra = is_extra-good entries good.forms;
  apart = are_apart-extra_entries entries good.apart;
  trailer = end;
}

-- what is there in place of an error
pub ok_or-some : (found : Option Decimal) (e : SdfError) (d : Decimal) → Ok d ≡ ok_or found e → Some d ≡ found
ok_or-some None e d given = cc
ok_or-some (Some x) e d given = cc

-- what is read of a key, or that it is missing
pub IsRead-scale : (key : List ℕ) (entries : List Extra) (found : Option Decimal) (e : SdfError) (r : Result Decimal SdfError) → found ≡ decimal_at key entries → r ≡ ok_or found e → IfOk r IsRead
IsRead-scale key entries found e (Ok d) at given = decimal_of-literal key entries d (ok_or-some found e d given ∙ at)
IsRead-scale key entries found e (Err x) at given = tt
