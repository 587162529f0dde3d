-- Where the pieces of a text end: a line is the piece at its place, and the words of a line are its pieces that have bytes.
use Rattle.std.proofs.Common.{◌≡◌, ℕ, zero, suc, ◌+◌, ◌-◌, ◌<◌, ◌≤◌, ◌||◌, ◌==◌, List, [], ◌∷◌, length, get_or, take, drop, Bool, true, false, not}
use Rattle.std.proofs.Common.{arith, refl, sym, ◌∙◌, ap, ap₂, length-drop, length-take, min, inl, inr, if◌then◌else◌, ◌++◌, map, append_assoc}
use Rattle.std.specs.List.{position_or_len, slice_split, onto_first, AllPairs}
use Rattle.std.specs.Prelude.{slice_range, All, filter}
use Rattle.std.proofs.lemmas.Bool.{false_from_ne_true, ne_eqb, cases_lt}
use Rattle.std.proofs.lemmas.List.{drop-drop, drop_all, map-append}
use Rattle.std.proofs.lemmas.List.Elements.{All-get_or, All-push, All-weaker}
use Rattle.std.proofs.lemmas.List.Quantifiers.{all_pairs_push}
use Rattle.std.proofs.lemmas.List.Splits.{slice_split-cons_yes, slice_split-cons_no, length-slice_split}
use Rattle.std.proofs.lemmas.List.Sums.{position_or_len_is}
use Rattle.std.proofs.lemmas.Slice.{between_to_end}
use Rattle.bstr.specs.Bytes.{is_in}
use Rattle.bstr.specs.Find.{NoneBefore, Nowhere, Passes}
use Rattle.hd_num.specs.Lines.{IsPieceEnd, is_blank, is_filled, IsLineAt, after_line, is_line_feed, lines_of, without_empty_last, words_of}
use Rattle.hd_num.specs.Span.{IsBefore, IsPart, text_at}
use Rattle.hd_num.specs.declared.span.Span.{Span}

-- bytes of which none passes are one piece
pub split_none : (test : ℕ → Bool) (xs : List ℕ) → ((k : ℕ) → k < length xs → test (get_or xs k 0) ≡ false) → slice_split test xs ≡ xs ∷ []
split_none test [] none = refl
split_none test (x ∷ xs) none = slice_split-cons_no test x xs (none 0 (omega arith)) ∙ ap (onto_first x) (split_none test xs (λ k lt. none (suc k) (omega arith)))

-- the first piece ends at the first byte that passes
split_first : (test : ℕ → Bool) (xs : List ℕ) (i : ℕ) → i < length xs → test (get_or xs i 0) ≡ true → ((k : ℕ) → k < i → test (get_or xs k 0) ≡ false)
    → slice_split test xs ≡ take i xs ∷ slice_split test (drop (suc i) xs)
split_first test [] i lt here none = absurd (omega arith)
split_first test (x ∷ xs) zero lt here none = slice_split-cons_yes test x xs here
split_first test (x ∷ xs) (suc i) lt here none =
    slice_split-cons_no test x xs (none 0 (omega arith)) ∙ ap (onto_first x) (split_first test xs i (omega arith) here (λ k less. none (suc k) (omega arith)))

-- a byte passes the one test where it passes the other
abbrev pub AgreeOn : (ℕ → Bool) → (ℕ → Bool) → Type 0
AgreeOn given test = (x : ℕ) → given x ≡ test x

-- a byte that does not pass the one test fails the other
piece_test-fails : (given test : ℕ → Bool) → AgreeOn given test → (x : ℕ) → (given x ≡ true → ⊥) → test x ≡ false
piece_test-fails given test same x refused = sym (same x) ∙ false_from_ne_true (given x) refused

-- a search finds the first place that passes
pub position_or_len-found : (given test : ℕ → Bool) → AgreeOn given test → (text : List ℕ) (place : ℕ) → NoneBefore (Passes given text) 0 (length text) place → Passes given text place
    → position_or_len test text ≡ place
position_or_len-found given test same text place none here =
    let high = none.high in
    position_or_len_is test text place 0 (omega arith) (λ k less. piece_test-fails given test same (get_or text k 0) (none.before k (omega arith) less)) (λ _. sym (same (get_or text place 0)) ∙ here)

-- a search that finds nothing shows that no place passes
pub position_or_len-nowhere : (given test : ℕ → Bool) → AgreeOn given test → (text : List ℕ) → Nowhere (Passes given text) 0 (length text) → position_or_len test text ≡ length text
position_or_len-nowhere given test same text none =
    position_or_len_is test text (length text) 0 (omega arith) (λ k less. piece_test-fails given test same (get_or text k 0) (none k (omega arith) less)) (λ less. absurd (omega arith))

-- a search from a place on finds the end of the piece there
pub IsPieceEnd-found : (given test : ℕ → Bool) → AgreeOn given test → (bytes rest : List ℕ) (from count : ℕ) → rest ≡ drop from bytes → from ≤ length bytes
    → NoneBefore (Passes given rest) 0 (length rest) count → Passes given rest count → IsPieceEnd test bytes from (from + count)
IsPieceEnd-found given test same bytes rest from count is fits none here =
    let len : length rest ≡ length bytes - from = ap length is ∙ length-drop from bytes in
    let high = none.high in
    let first : slice_split test rest ≡ take count rest ∷ slice_split test (drop (suc count) rest) =
    split_first test rest count high (sym (same (get_or rest count 0)) ∙ here) (λ k less. piece_test-fails given test same (get_or rest k 0) (none.before k (omega arith) less)) in
    let width : count ≡ from + count - from = omega arith in
    let after : from + suc count ≡ from + count + 1 = omega arith in
    let place = position_or_len-found given test same rest count none here in
    record {
      place = ap (λ n. from + n) (sym place ∙ ap (position_or_len test) is);
      low = omega arith;
      high = omega arith;
      last = λ at_end. absurd (omega arith);
      more = λ _. ap (slice_split test) (sym is) ∙ first
          ∙ ap₂ (λ (xs ys : List ℕ). xs ∷ slice_split test ys) (ap (take count) is ∙ ap (λ n. take n (drop from bytes)) width)
          (ap (drop (suc count)) is ∙ drop-drop (suc count) from bytes ∙ ap (λ n. drop n bytes) after);
    }

-- a search that finds nothing shows that the piece ends with the text
pub IsPieceEnd-none : (given test : ℕ → Bool) → AgreeOn given test → (bytes rest : List ℕ) (from : ℕ) → rest ≡ drop from bytes → from ≤ length bytes
    → Nowhere (Passes given rest) 0 (length rest) → IsPieceEnd test bytes from (length bytes)
IsPieceEnd-none given test same bytes rest from is fits none =
    let place = position_or_len-nowhere given test same rest none in
    let same_place : position_or_len test (drop from bytes) ≡ length rest = ap (position_or_len test) (sym is) ∙ place in
    let len : length rest ≡ length bytes - from = ap length is ∙ length-drop from bytes in
    record {
      place = omega arith;
      low = fits;
      high = omega arith;
      last = λ _. ap (slice_split test) (sym is) ∙ split_none test rest (λ k less. piece_test-fails given test same (get_or rest k 0) (none k (omega arith) less))
          ∙ ap (λ (xs : List ℕ). xs ∷ []) (is ∙ sym (between_to_end bytes from (length bytes) (omega arith)));
      more = λ less. absurd (omega arith);
    }

-- the set of the blanks
pub is_blank-is_in : AgreeOn (is_in (32 ∷ 9 ∷ 13 ∷ [])) is_blank
unfolding is_in
is_blank-is_in x = elim (x == 32) as (λ a. (a || (x == 9 || (x == 13 || false))) ≡ ((a || x == 9) || x == 13)) [
  | true ↦ refl
  | false ↦ elim (x == 9) as (λ b. (b || (x == 13 || false)) ≡ (b || x == 13)) [
    | true ↦ refl
    | false ↦ elim (x == 13) as (λ d. (d || false) ≡ d) [ true ↦ refl | false ↦ refl ]
  ]
]

-- a piece has bytes where it ends after it begins
pub is_filled-piece : (bytes : List ℕ) (from end : ℕ) → from < end → end ≤ length bytes → is_filled (slice_range bytes from end) ≡ true
is_filled-piece bytes from end some within =
    ap not (ne_eqb (length (slice_range bytes from end)) 0 (λ none. omega (arith, none, length-take (end - from) (drop from bytes), length-drop from bytes)))

-- a piece before others stays
pub without_empty_last-cons : (piece : List ℕ) (parts : List (List ℕ)) → 0 < length parts → without_empty_last (piece ∷ parts) ≡ piece ∷ without_empty_last parts
without_empty_last-cons piece [] some = absurd (omega arith)
without_empty_last-cons piece (next ∷ more) some = refl

-- what follows the first piece of a text
rest_after : (bytes : List ℕ) (from end next : ℕ) → next ≡ min (end + 1) (length bytes) → IsPieceEnd is_line_feed bytes from end
    → drop next bytes ≡ after_line (drop from bytes)
rest_after bytes from end next is piece =
    let place = piece.place in
    let step : from + (position_or_len is_line_feed (drop from bytes) + 1) ≡ end + 1 = omega arith in
    let after : after_line (drop from bytes) ≡ drop (end + 1) bytes =
    drop-drop (position_or_len is_line_feed (drop from bytes) + 1) from bytes ∙ ap (λ n. drop n bytes) step in
    elim (cases_lt end (length bytes)) [
      | inl inside ↦ let e : next ≡ end + 1 = omega arith in ap (λ n. drop n bytes) e ∙ sym after
      | inr outside ↦ drop_all next bytes (omega arith) ∙ sym (after ∙ drop_all (end + 1) bytes (omega arith))
    ]

-- the piece at a place before the end is the line there
pub IsLineAt-from_piece : (bytes : List ℕ) (from end next : ℕ) → from < length bytes → next ≡ min (end + 1) (length bytes)
    → IsPieceEnd is_line_feed bytes from end → IsLineAt bytes from (record { start = from; end = end }) next
IsLineAt-from_piece bytes from end next before is piece =
    let low = piece.low in
    let high = piece.high in
    let line : List ℕ = slice_range bytes from end in
    let rest : List (List ℕ) = slice_split is_line_feed (drop (end + 1) bytes) in
    record {
      start = refl;
      ordered = low;
      before = omega arith;
      within = omega arith;
      onward = omega arith;
      text =
          let place = piece.place in
          let size : end - from ≡ position_or_len is_line_feed (drop from bytes) = omega arith in
          ap (λ n. take n (drop from bytes)) size;
      rest = rest_after bytes from end next is piece;
      lines = elim (cases_lt end (length bytes)) [
        | inl inside ↦ ap without_empty_last (piece.more inside)
            ∙ without_empty_last-cons line rest (omega (arith, length-slice_split is_line_feed (drop (end + 1) bytes)))
            ∙ ap (λ n. line ∷ lines_of (drop n bytes)) (let e : end + 1 ≡ next = omega arith in e)
        | inr outside ↦
            let at_end : end ≡ length bytes = omega arith in
            ap without_empty_last (piece.last at_end)
            ∙ ap (λ b. if b then line ∷ [] else []) (is_filled-piece bytes from end (omega arith) high)
            ∙ ap (λ (xs : List ℕ). line ∷ lines_of xs) (sym (drop_all next bytes (omega arith)))
      ];
    }

-- a piece with bytes is the next word
words_of-filled : (line : List ℕ) (from end : ℕ) → from < end → IsPieceEnd is_blank line from end
    → words_of (drop from line) ≡ slice_range line from end ∷ words_of (drop (end + 1) line)
words_of-filled line from end some piece =
    let high = piece.high in
    let word : List ℕ = slice_range line from end in
    let rest : List (List ℕ) = words_of (drop (end + 1) line) in
    let filled : is_filled word ≡ true = is_filled-piece line from end some high in
    elim (cases_lt end (length line)) [
      | inl inside ↦ ap (filter is_filled) (piece.more inside) ∙ ap (λ b. if b then word ∷ rest else rest) filled
      | inr outside ↦ ap (filter is_filled) (piece.last (omega arith)) ∙ ap (λ b. if b then word ∷ [] else []) filled
          ∙ ap (λ (xs : List ℕ). word ∷ words_of xs) (sym (drop_all (end + 1) line (omega arith)))
    ]

-- an empty piece is no word
words_of-empty : (line : List ℕ) (from end : ℕ) → end ≤ from → from < length line → IsPieceEnd is_blank line from end
    → words_of (drop from line) ≡ words_of (drop (end + 1) line)
words_of-empty line from end none before piece =
    let gone : end - from ≡ 0 = omega arith in
    ap (filter is_filled) (piece.more (omega arith))
    ∙ ap (λ n. filter is_filled (take n (drop from line) ∷ slice_split is_blank (drop (end + 1) line))) gone

-- these are the words before a place of the line
pub record AreWordsBefore (line : List ℕ) (words : List Span) (place : ℕ) : Type 0 where
  pub whole : map (text_at line) words ++ words_of (drop place line) ≡ words_of line
  pub parts : All (IsPart line) words
  pub apart : AllPairs IsBefore words
  pub before : All (λ word. word.end < place) words

-- a piece with bytes is one more word
pub AreWordsBefore-more : (line : List ℕ) (words : List Span) (from end : ℕ) → from < end → IsPieceEnd is_blank line from end
    → AreWordsBefore line words from → AreWordsBefore line (words ++ record { start = from; end = end } ∷ []) (end + 1)
AreWordsBefore-more line words from end some piece before =
    let word : Span = record { start = from; end = end } in
    let rest : List (List ℕ) = words_of (drop (end + 1) line) in
    record {
      whole = ap (λ (xs : List (List ℕ)). xs ++ rest) (map-append (text_at line) words (word ∷ []))
          ∙ append_assoc (map (text_at line) words) (text_at line word ∷ []) rest
          ∙ ap (λ (xs : List (List ℕ)). map (text_at line) words ++ xs) (sym (words_of-filled line from end some piece))
          ∙ before.whole;
      parts = All-push (IsPart line) words word before.parts (record { ordered = piece.low; within = piece.high });
      apart = all_pairs_push IsBefore words word before.apart (λ k d less. All-get_or (λ w. w.end < from) words k d less before.before);
      before = All-push (λ w. w.end < end + 1) words word
          (All-weaker (λ w. w.end < from) (λ w. w.end < end + 1) (λ w less. omega (arith, less, some)) words before.before) (omega arith);
    }

-- an empty piece leaves the words as they are
pub AreWordsBefore-same : (line : List ℕ) (words : List Span) (from end : ℕ) → end ≤ from → from < length line → IsPieceEnd is_blank line from end
    → AreWordsBefore line words from → AreWordsBefore line words (end + 1)
AreWordsBefore-same line words from end none inside piece before = record {
  whole = ap (λ (xs : List (List ℕ)). map (text_at line) words ++ xs) (sym (words_of-empty line from end none inside piece)) ∙ before.whole;
  parts = before.parts;
  apart = before.apart;
  before =
      let low = piece.low in
      All-weaker (λ w. w.end < from) (λ w. w.end < end + 1) (λ w less. omega (arith, less, low)) words before.before;
}
