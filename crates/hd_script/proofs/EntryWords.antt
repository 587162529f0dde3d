-- The entries of an element, one word after another.
use Rattle.std.proofs.Common.{◌≡◌, ℕ, suc, ◌+◌, ◌<◌, List, [], ◌∷◌, ◌++◌, length, get_or, drop, map, Option, Result, Ok, Err, arith, refl, sym, ◌∙◌, ap, ap₂, append_assoc}
use Rattle.std.specs.Prelude.{ℤ}
use Rattle.std.proofs.lemmas.List.{length-map}
use Rattle.std.proofs.Math.ListN.{get_or-map}
use Rattle.std.proofs.Math.Seq.{drop-cons}
use Rattle.hd_num.specs.declared.span.Span.{Span}
use Rattle.hd_num.specs.Span.{text_at}
use Rattle.hd_script.specs.declared.command.LineError.{LineError}
use Rattle.hd_script.specs.Words.{and_then, entry_word, entry_words}

-- the entries so far, and then those of the other words
abbrev pub entry_words-with_others : List (Option ℤ) → Result (List (Option ℤ)) LineError → Result (List (Option ℤ)) LineError
entry_words-with_others table others = and_then others (λ entries. Ok (table ++ entries))

-- one entry before the others
before_others : (table : List (Option ℤ)) (entry : Option ℤ) (others : Result (List (Option ℤ)) LineError)
    → entry_words-with_others table (and_then others (λ entries. Ok (entry ∷ entries))) ≡ entry_words-with_others (table ++ entry ∷ []) others
before_others table entry (Ok entries) = ap Ok (sym (append_assoc table (entry ∷ []) entries))
before_others table entry (Err error) = refl

-- the next word's entry, or its refusal
abbrev pub Onward : List (Option ℤ) → Result (List (Option ℤ)) LineError → Result (Option ℤ) LineError → Result (List (Option ℤ)) LineError → Type 0
Onward table all (Ok entry) others = all ≡ entry_words-with_others (table ++ entry ∷ []) others
Onward table all (Err error) others = all ≡ Err error

next_entry : (table : List (Option ℤ)) (all others : Result (List (Option ℤ)) LineError) (read : Result (Option ℤ) LineError)
    → all ≡ entry_words-with_others table (and_then read (λ entry. and_then others (λ entries. Ok (entry ∷ entries)))) → Onward table all read others
next_entry table all others (Ok entry) is = is ∙ before_others table entry others
next_entry table all others (Err error) is = is

-- the word at an index has an entry, which stands after those so far; or it refuses all
pub entry_words-next : (line : List ℕ) (spans : List Span) (i : ℕ) (table : List (Option ℤ)) (span : Span) (word : List ℕ) (read : Result (Option ℤ) LineError)
    → entry_words 5 (map (text_at line) spans) ≡ entry_words-with_others table (entry_words (i + 5) (drop i (map (text_at line) spans)))
    → i < length spans → word ≡ text_at line (get_or spans i span) → read ≡ entry_word (i + 5) word
    → Onward table (entry_words 5 (map (text_at line) spans)) read (entry_words (i + 1 + 5) (drop (i + 1) (map (text_at line) spans)))
entry_words-next line spans i table span word read before below is reads =
    let text : Span → List ℕ = text_at line in
    let words : List (List ℕ) = map text spans in
    let here : drop i words ≡ word ∷ drop (suc i) words =
    drop-cons words i (text span) (omega (arith, length-map spans text)) ∙ ap (λ w. w ∷ drop (suc i) words) (get_or-map text spans i span ∙ sym is) in
    let number : i + 5 + 1 ≡ i + 1 + 5 = omega arith in
    let next : suc i ≡ i + 1 = omega arith in
    next_entry table (entry_words 5 words) (entry_words (i + 1 + 5) (drop (i + 1) words)) read (
    before ∙ ap (λ ws. entry_words-with_others table (entry_words (i + 5) ws)) here
    ∙ ap (λ r. entry_words-with_others table (and_then r (λ entry. and_then (entry_words (i + 5 + 1) (drop (suc i) words)) (λ entries. Ok (entry ∷ entries))))) (sym reads)
    ∙ ap₂ (λ (n m : ℕ). entry_words-with_others table (and_then read (λ entry. and_then (entry_words n (drop m words)) (λ entries. Ok (entry ∷ entries))))) number next
    )
