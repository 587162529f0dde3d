-- A line of a point without more blanks than needed is the first line of its text.
use Rattle.std.proofs.Common.{◌≡◌, ◌≢◌, ◌<◌, ◌≤◌, ◌^◌, ◌&&◌, ◌++◌, ℕ, Bool, true, false, List, [], ◌∷◌, length, map, take, drop, Option, Some, None, ap}
use Rattle.std.proofs.Common.{ap₂, ◌∙◌, sym, refl, arith, append_assoc, if◌then◌else◌}
use Rattle.std.specs.Prelude.{codes, nat_lt}
use Rattle.std.specs.Char.{is_ascii_digit}
use Rattle.std.specs.List.{list_all}
use Rattle.std.specs.Str.{bytes_eq}
use Rattle.std.specs.Str.Parse.{digits_value}
use Rattle.std.proofs.lemmas.Bool.{and_from, and_parts, lt-ltb}
use Rattle.std.proofs.lemmas.List.{length-append, length-take, take-append-drop}
use Rattle.std.proofs.lemmas.Slice.Eq.{bytes_eq-Decides}
use Rattle.hd_num.specs.Lines.{lines_of, words_of}
use Rattle.hd_num.specs.Whole.{count_of, is_numeral}
use Rattle.hd_num.proofs.Decimals.{count_of-parts}
use Rattle.hd_check.specs.Text.{line_text}
use Rattle.hd_check.proofs.ReadsBack.{IsWord, is_clear-digits, IsWord-filled, lines_of-first}
use Rattle.hd_audit.specs.Plain.{BeginsWith, BeginsWithLine}
use Rattle.hd_audit.specs.Reading.{count_or_none, given, line_of_parts}

-- what is read as a count is a word
count_is_word : (w : List ℕ) (n : ℕ) → count_of w ≡ Some n → IsWord w
count_is_word w n read = let parts = and_parts _ _ (count_of-parts w n (sym read)).numeral in record { some = parts.0; clear = is_clear-digits w parts.1 }

-- so is what is read as a count or none
count_or_none_is_word : (w : List ℕ) (o : Option ℕ) → count_or_none w ≡ Some o → IsWord w
count_or_none_is_word w o read = by_test (bytes_eq w (codes "-")) refl read
  where
    is_dash : w ≡ codes "-" → IsWord w
    is_dash e = rw e (record { some = refl; clear = refl })

    is_given : (c : Option ℕ) → count_of w ≡ c → given c ≡ Some o → IsWord w
    is_given (Some n) c e = count_is_word w n c
    is_given None c e = cc

    by_test : (b : Bool) → bytes_eq w (codes "-") ≡ b → (if b then Some None else given (count_of w)) ≡ Some o → IsWord w
    by_test true b e = is_dash ((bytes_eq-Decides w (codes "-")).0 b)
    by_test false b e = is_given (count_of w) refl e

-- so many digits at the front of a text are a count, and the others follow
pub BeginsWith-digits : (text rest : List ℕ) (d n : ℕ) → d ≢ 0 → d ≤ length text → list_all is_ascii_digit (take d text) ≡ true → n ≡ digits_value 10 (take d text) → n < 2 ^ 32 → rest ≡ drop d text
    → BeginsWith count_of text n rest
BeginsWith-digits text rest d n some within digits value small is_rest = record {
  word = take d text;
  whole = sym (ap (λ (t : List ℕ). take d text ++ t) is_rest ∙ take-append-drop d text);
  reads = rw (← value) (ap (λ (b : Bool). if b && nat_lt n (2 ^ 32) then Some n else None) numeral ∙ ap (λ (b : Bool). if b then Some n else None) (lt-ltb n (2 ^ 32) small));
}
  where
    numeral : is_numeral (take d text) ≡ true
    numeral = and_from _ _ (IsWord-filled (take d text) (let long = length-take d text in omega (arith, long, some, within))) digits

-- a count is read as a count or none
pub count_or_none-given : (w : List ℕ) (n : ℕ) → count_of w ≡ Some n → count_or_none w ≡ Some (Some n)
count_or_none-given w n read = by_test (bytes_eq w (codes "-")) refl
  where
    by_test : (b : Bool) → bytes_eq w (codes "-") ≡ b → (if b then Some None else given (count_of w)) ≡ Some (Some n)
    by_test true b = absurd (let e : count_of (codes "-") ≡ Some n = rw ((bytes_eq-Decides w (codes "-")).0 b) at read in cc)
    by_test false b = ap given read

-- the words `INDEX PARENT CUT` with one blank between them are the first line
module _ (text rest a b c d e : List ℕ) (index : ℕ) (parent cut : Option ℕ)
    (first : BeginsWith count_of text index a) (space : a ≡ 32 ∷ b) (second : BeginsWith count_or_none b parent c) (space' : c ≡ 32 ∷ d) (third : BeginsWith count_or_none d cut e)
    (ends : e ≡ 10 ∷ rest) where
  abbrev words : List (List ℕ)
  words = first.word ∷ second.word ∷ third.word ∷ []

  plain_line-last_word : d ≡ (third.word ++ 10 ∷ []) ++ rest
  plain_line-last_word = third.whole ∙ ap (λ (t : List ℕ). third.word ++ t) ends ∙ sym (append_assoc third.word (10 ∷ []) rest)

  plain_line-last_words : b ≡ (second.word ++ 32 ∷ (third.word ++ 10 ∷ [])) ++ rest
  plain_line-last_words = second.whole ∙ ap (λ (t : List ℕ). second.word ++ t) (space' ∙ ap (λ (t : List ℕ). 32 ∷ t) plain_line-last_word)
      ∙ sym (append_assoc second.word (32 ∷ (third.word ++ 10 ∷ [])) rest)

  plain_line-first : text ≡ line_text words ++ rest
  plain_line-first = first.whole ∙ ap (λ (t : List ℕ). first.word ++ t) (space ∙ ap (λ (t : List ℕ). 32 ∷ t) plain_line-last_words)
      ∙ sym (append_assoc first.word (32 ∷ (second.word ++ 32 ∷ (third.word ++ 10 ∷ []))) rest)

  pub BeginsWithLine-plain : BeginsWithLine text (record { index = index; parent = parent; cut = cut }) rest
  BeginsWithLine-plain = record {
    words = words;
    lines = ap (λ (t : List ℕ). map words_of (lines_of t)) plain_line-first
        ∙ lines_of-first first.word (second.word ∷ third.word ∷ []) rest (
          count_is_word first.word index first.reads,
          (count_or_none_is_word second.word parent second.reads, (count_or_none_is_word third.word cut third.reads, tt)),
        );
    form = ap (λ (i : Option ℕ). line_of_parts i (count_or_none second.word) (count_or_none third.word)) first.reads
        ∙ ap₂ (λ (p q : Option (Option ℕ)). line_of_parts (Some index) p q) second.reads third.reads;
    front = line_text words;
    whole = plain_line-first;
    some = omega (arith, length-append first.word (32 ∷ (second.word ++ 32 ∷ (third.word ++ 10 ∷ []))));
  }
