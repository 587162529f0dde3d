-- A header that is read line by line, in pieces.
use Rattle.std.proofs.Common.{◌≡◌, ◌+◌, ◌-◌, ◌<◌, ◌≤◌, ℕ, zero, suc, false, List, [], ◌∷◌, ◌++◌, length, drop, cond, Option, not, ◌⊎◌, Some, None}
use Rattle.std.proofs.Common.{Result, Ok, Err, refl, sym, ap, arith, ◌∙◌, inl, inr, length-append, append_assoc}
use Rattle.std.specs.List.{list_any, onto_first, position_or_len, slice_split}
use Rattle.std.proofs.lemmas.Bool.{cases_Bool, ne_eqb, or_from, or_parts, lt-ltb}
use borrow.Author.Tests.{eqb-true}
use Rattle.std.proofs.lemmas.List.{drop_all}
use Rattle.std.proofs.lemmas.List.Splits.{slice_split-cons_no}
use Rattle.std.proofs.lemmas.List.Folds.{list_any-append}
use Rattle.hd_num.specs.Lines.{after_line, is_line_feed, lines_of, trimmed, without_empty_last}
use Rattle.hd_sdf_read.specs.declared.error.SdfError.{SdfError}
use Rattle.hd_sdf_read.specs.declared.error.SdfError.TheVariants.{BadHeaderLine, BadVersion, HeaderEnds}
use Rattle.hd_sdf_read.specs.declared.file.Extra.{Extra}
use Rattle.hd_sdf_read.specs.declared.file.Version.{Version}
use Rattle.hd_sdf_read.specs.Entries.{Header, Keyed, Kind, Skipped, Ends, Unread, header_by, header_from, kind_of, kind_of_text, offence, unless}
use Rattle.hd_sdf_read.specs.declared.file.Version.TheVariants.{Bcr}
use Rattle.hd_sdf_read.specs.FirstLine.{IsFirstLine}
use Rattle.hd_sdf_read.specs.Grammar.{after_lines, body_in, file_in, version_of_line, version_of_text}
use Rattle.hd_sdf_read.specs.HeaderPieces.{header_in}
use Rattle.hd_sdf_read.specs.Reads.{◌>>=◌}
use Rattle.hd_sdf_read.proofs.TextFronts.{after_line-front, lines_of-front}

-- the header from a line on, by the kind of the line
header_from-kind : (n : ℕ) (before : List Extra) (line : List ℕ) (lines : List (List ℕ)) (kind : Kind) → kind ≡ kind_of line
    → header_from n before (line ∷ lines) ≡ header_by n before kind (λ entries. header_from (n + 1) entries lines)
unfolding header_from
header_from-kind n before line lines kind is = ap (λ k. header_by n before k (λ entries. header_from (n + 1) entries lines)) (sym is)

-- an entry without an offence is read on
unless_ok : (o : Option SdfError) (r : Result Header SdfError) (h : Header) → unless o r ≡ Ok h → r ≡ Ok h
unless_ok (Some e) r h is = cc
unless_ok None r h is = is

-- the last line of a header is none before this one, where none is before the next
last_by : (lines : List (List ℕ)) (n : ℕ) (before : List Extra) (h : Header) → ((entries : List Extra) → header_from (n + 1) entries lines ≡ Ok h → n + 1 ≤ h.last)
    → (kind : Kind) → header_by n before kind (λ entries. header_from (n + 1) entries lines) ≡ Ok h → n ≤ h.last
last_by lines n before h later Skipped on = omega (arith, later before on)
last_by lines n before h later Ends on = let last : n ≡ h.last = cc in omega (arith, last)
last_by lines n before h later (Keyed e) on = omega (arith, later (before ++ e ∷ []) (unless_ok (offence n before e) (header_from (n + 1) (before ++ e ∷ []) lines) h on))
last_by lines n before h later Unread on = cc

-- the last line of a header is none before the first
header_last : (lines : List (List ℕ)) (n : ℕ) (before : List Extra) (h : Header) → header_from n before lines ≡ Ok h → n ≤ h.last
unfolding header_from
header_last [] n before h is = cc
header_last (line ∷ lines) n before h is = last_by lines n before h (λ entries on. header_last lines (n + 1) entries h on) (kind_of line) is

-- two readings that go on alike
alike : {A B : Type 0} (r : Result A SdfError) (f g : A → Result B SdfError) → ((x : A) → r ≡ Ok x → f x ≡ g x) → (r >>= f) ≡ (r >>= g)
alike (Ok x) f g same = same x refl
alike (Err e) f g same = refl

-- the first of the lines is left out first
after_first_line : (n : ℕ) (text : List ℕ) → after_lines (suc n) text ≡ after_lines n (after_line text)
after_first_line zero text = refl
after_first_line (suc n) text = ap after_line (after_first_line n text)

module _ (version : Version) (n : ℕ) (before : List Extra) (line rest : List ℕ) (one : list_any is_line_feed line ≡ false) where
  -- the header from a line on, by its kind
  by_kind : (kind : Kind) → kind ≡ kind_of line → header_from n before (lines_of (line ++ 10 ∷ rest)) ≡ header_by n before kind (λ entries. header_from (n + 1) entries (lines_of rest))
  by_kind kind is = ap (header_from n before) (lines_of-front line rest one) ∙ header_from-kind n before line (lines_of rest) kind is

  -- the text after the header, where the header ends later
  after_more : (h : Header) → n + 1 ≤ h.last → after_lines (h.last + 1 - n) (line ++ 10 ∷ rest) ≡ after_lines (h.last + 1 - (n + 1)) rest
  after_more h later =
      let step : h.last + 1 - n ≡ suc (h.last + 1 - (n + 1)) = omega arith in
      ap (λ k. after_lines k (line ++ 10 ∷ rest)) step ∙ after_first_line (h.last + 1 - (n + 1)) (line ++ 10 ∷ rest)
      ∙ ap (after_lines (h.last + 1 - (n + 1))) (after_line-front line rest one)

  -- the header goes on after the line with these entries
  goes_on : (entries : List Extra) → header_from n before (lines_of (line ++ 10 ∷ rest)) ≡ header_from (n + 1) entries (lines_of rest)
      → header_in version n before (line ++ 10 ∷ rest) ≡ header_in version (n + 1) entries rest
  unfolding header_in
  goes_on entries is =
      ap (λ (r : Result Header SdfError). r >>= (λ h. body_in version h.entries (after_lines (h.last + 1 - n) (line ++ 10 ∷ rest)))) is
      ∙ alike (header_from (n + 1) entries (lines_of rest))
      (λ h. body_in version h.entries (after_lines (h.last + 1 - n) (line ++ 10 ∷ rest)))
      (λ h. body_in version h.entries (after_lines (h.last + 1 - (n + 1)) rest))
      (λ h found. ap (body_in version h.entries) (after_more h (header_last (lines_of rest) (n + 1) entries h found)))

  pub header_in-skipped : Skipped ≡ kind_of line → header_in version n before (line ++ 10 ∷ rest) ≡ header_in version (n + 1) before rest
  header_in-skipped is = goes_on before (by_kind Skipped is)

  pub header_in-keyed : (e : Extra) → Keyed e ≡ kind_of line → None ≡ offence n before e → header_in version n before (line ++ 10 ∷ rest) ≡ header_in version (n + 1) (before ++ e ∷ []) rest
  header_in-keyed e is good = goes_on (before ++ e ∷ []) (by_kind (Keyed e) is ∙ ap (λ o. unless o (header_from (n + 1) (before ++ e ∷ []) (lines_of rest))) (sym good))

  pub header_in-ends : Ends ≡ kind_of line → header_in version n before (line ++ 10 ∷ rest) ≡ body_in version before rest
  unfolding header_in
  header_in-ends is =
      let once : n + 1 - n ≡ 1 = omega arith in
      ap (λ (r : Result Header SdfError). r >>= (λ h. body_in version h.entries (after_lines (h.last + 1 - n) (line ++ 10 ∷ rest)))) (by_kind Ends is)
      ∙ ap (λ k. body_in version before (after_lines k (line ++ 10 ∷ rest))) once ∙ ap (body_in version before) (after_line-front line rest one)

  pub header_in-refused : (e : Extra) (refusal : SdfError) → Keyed e ≡ kind_of line → Some refusal ≡ offence n before e → header_in version n before (line ++ 10 ∷ rest) ≡ Err refusal
  unfolding header_in
  header_in-refused e refusal is wrong =
      ap (λ (r : Result Header SdfError). r >>= (λ h. body_in version h.entries (after_lines (h.last + 1 - n) (line ++ 10 ∷ rest))))
      (by_kind (Keyed e) is ∙ ap (λ o. unless o (header_from (n + 1) (before ++ e ∷ []) (lines_of rest))) (sym wrong))

  pub header_in-unread : Unread ≡ kind_of line → header_in version n before (line ++ 10 ∷ rest) ≡ Err (BadHeaderLine n)
  unfolding header_in
  header_in-unread is = ap (λ (r : Result Header SdfError). r >>= (λ h. body_in version h.entries (after_lines (h.last + 1 - n) (line ++ 10 ∷ rest)))) (by_kind Unread is)

  -- line 1 names the version
  pub file_in-version : version_of_line line ≡ Some version → file_in (line ++ 10 ∷ rest) ≡ header_in version 2 [] rest
  unfolding file_in header_in
  file_in-version named =
      let lines = lines_of-front line rest one in
      rw (lines, named) (alike (header_from 2 [] (lines_of rest))
      (λ h. body_in version h.entries (after_lines h.last (line ++ 10 ∷ rest)))
      (λ h. body_in version h.entries (after_lines (h.last + 1 - 2) rest))
      (λ h found.
      let later = header_last (lines_of rest) 2 [] h found in
      let step : h.last ≡ suc (h.last + 1 - 2) = omega arith in
      ap (body_in version h.entries) (ap (λ k. after_lines k (line ++ 10 ∷ rest)) step ∙ after_first_line (h.last + 1 - 2) (line ++ 10 ∷ rest)
      ∙ ap (after_lines (h.last + 1 - 2)) (after_line-front line rest one))))

  -- it names none
  pub file_in-no_version : version_of_line line ≡ None → file_in (line ++ 10 ∷ rest) ≡ Err BadVersion
  unfolding file_in
  file_in-no_version none = rw (lines_of-front line rest one, none) refl

-- a text is one line, or has a first one
line_cases : (text : List ℕ) → (list_any is_line_feed text ≡ false) ⊎ ((line : List ℕ) × (rest : List ℕ) × IsFirstLine text line rest)
line_cases [] = inl refl
line_cases (x ∷ xs) = elim (cases_Bool (is_line_feed x)) [
  | inl feed ↦ inr ([], xs, record { text_is = ap (λ y. y ∷ xs) (eqb-true x 10 feed); one = refl })
  | inr other ↦ elim (line_cases xs) [
    | inl one ↦ inl (or_from _ _ other one)
    | inr (line, rest, is) ↦ inr (x ∷ line, rest, record { text_is = ap (λ ys. x ∷ ys) is.text_is; one = or_from _ _ other is.one })
  ]
]

-- a text without an LF is its one line
split_one : (text : List ℕ) → list_any is_line_feed text ≡ false → slice_split is_line_feed text ≡ text ∷ []
split_one [] one = refl
split_one (x ∷ xs) one =
    let parts = or_parts (is_line_feed x) (list_any is_line_feed xs) one in
    slice_split-cons_no is_line_feed x xs parts.0 ∙ ap (onto_first x) (split_one xs parts.1)

lines_one : (text : List ℕ) → list_any is_line_feed text ≡ false → 0 < length text → lines_of text ≡ text ∷ []
lines_one text one some =
    ap without_empty_last (split_one text one)
    ∙ ap (λ b. cond b (text ∷ []) []) (ap not (ne_eqb (length text) 0 (λ none. omega (arith, none))))

-- its end is no LF
end_one : (text : List ℕ) → list_any is_line_feed text ≡ false → position_or_len is_line_feed text ≡ length text
end_one [] one = refl
end_one (x ∷ xs) one =
    let parts = or_parts (is_line_feed x) (list_any is_line_feed xs) one in
    let more = end_one xs parts.1 in
    rw (parts.0, more) (omega arith)

-- nothing follows it
after_one : (n : ℕ) (text : List ℕ) → list_any is_line_feed text ≡ false → after_lines (suc n) text ≡ after_lines n []
after_one n text one =
    let end : position_or_len is_line_feed text ≡ length text = end_one text one in
    after_first_line n text ∙ ap (after_lines n) (ap (λ k. drop (k + 1) text) end ∙ drop_all (length text + 1) text (omega arith))

-- the last line of a header needs no LF
pub header_in-last_line : (version : Version) (n : ℕ) (before : List Extra) (line : List ℕ) → list_any is_line_feed line ≡ false → 0 < length line
    → header_in version n before line ≡ header_in version n before (line ++ 10 ∷ [])
unfolding header_in
header_in-last_line version n before line one some =
    let same : lines_of line ≡ lines_of (line ++ 10 ∷ []) = lines_one line one some ∙ sym (lines_of-front line [] one) in
    alike (header_from n before (lines_of line)) (λ h. body_in version h.entries (after_lines (h.last + 1 - n) line)) (λ h. body_in version h.entries (after_lines (h.last + 1 - n) (line ++ 10 ∷ [])))
    (λ h found.
    let later = header_last (lines_of line) n before h found in
    let step : h.last + 1 - n ≡ suc (h.last - n) = omega arith in
    ap (body_in version h.entries) (ap (λ k. after_lines k line) step ∙ after_one (h.last - n) line one
    ∙ sym (ap (λ k. after_lines k (line ++ 10 ∷ [])) step ∙ after_first_line (h.last - n) (line ++ 10 ∷ []) ∙ ap (after_lines (h.last - n)) (after_line-front line [] one))))
    ∙ ap (λ (ls : List (List ℕ)). header_from n before ls >>= (λ h. body_in version h.entries (after_lines (h.last + 1 - n) (line ++ 10 ∷ [])))) same

-- no line is left
pub header_in-no_line : (version : Version) (n : ℕ) (before : List Extra) → header_in version n before [] ≡ Err HeaderEnds
unfolding header_in header_from
header_in-no_line version n before = refl

-- a long line is not read
pub kind_of-long : (line : List ℕ) → 1024 < length line → kind_of line ≡ Unread
unfolding kind_of
kind_of-long line long = ap (λ b. cond b Unread (kind_of_text (trimmed line))) (lt-ltb 1024 (length line) long)

pub version_of_line-long : (line : List ℕ) → 1024 < length line → version_of_line line ≡ None
unfolding version_of_line
version_of_line-long line long = ap (λ b. cond b None (version_of_text (trimmed line))) (lt-ltb 1024 (length line) long)

-- two texts without an LF have none together
pub is_line_feed-none_joined : (a b : List ℕ) → list_any is_line_feed a ≡ false → list_any is_line_feed b ≡ false → list_any is_line_feed (a ++ b) ≡ false
is_line_feed-none_joined a b left right = list_any-append is_line_feed a b ∙ or_from _ _ left right

-- however a line goes on that is too long
pub header_in-long_line : (version : Version) (n : ℕ) (before : List Extra) (front more : List ℕ) → list_any is_line_feed front ≡ false → 1024 < length front
    → header_in version n before (front ++ more) ≡ Err (BadHeaderLine n)
header_in-long_line version n before front more one long = elim (line_cases more) [
  | inl last ↦
      let size = length-append front more in
      let none = is_line_feed-none_joined front more one last in
      header_in-last_line version n before (front ++ more) none (omega arith) ∙ header_in-unread version n before (front ++ more) [] none (sym (kind_of-long (front ++ more) (omega arith)))
  | inr (line, rest, is) ↦
      let size = length-append front line in
      let whole : front ++ more ≡ (front ++ line) ++ 10 ∷ rest = ap (λ xs. front ++ xs) is.text_is ∙ sym (append_assoc front line (10 ∷ rest)) in
      ap (header_in version n before) whole ∙ header_in-unread version n before (front ++ line) rest (is_line_feed-none_joined front line one is.one) (sym (kind_of-long (front ++ line) (omega arith)))
]

-- line 1 needs no LF
file_one : (line : List ℕ) → list_any is_line_feed line ≡ false → 0 < length line → version_of_line line ≡ None → file_in line ≡ Err BadVersion
unfolding file_in
file_one line one some none = rw (lines_one line one some, none) refl

pub file_in-version_alone : (line : List ℕ) (version : Version) → list_any is_line_feed line ≡ false → version_of_line line ≡ Some version → file_in line ≡ Err HeaderEnds
unfolding file_in version_of_line header_from
file_in-version_alone [] version one named = cc
file_in-version_alone (x ∷ xs) version one named =
    let named' : version_of_line (x ∷ xs) ≡ Some version = named in
    rw (lines_one (x ∷ xs) one (omega arith), named') refl

pub file_in-no_version_alone : (line : List ℕ) → list_any is_line_feed line ≡ false → version_of_line line ≡ None → file_in line ≡ Err BadVersion
unfolding file_in
file_in-no_version_alone [] one none = refl
file_in-no_version_alone (x ∷ xs) one none = file_one (x ∷ xs) one (omega arith) none

-- however line 1 goes on that is too long
pub file_in-long_version : (front more : List ℕ) → list_any is_line_feed front ≡ false → 1024 < length front → file_in (front ++ more) ≡ Err BadVersion
file_in-long_version front more one long = elim (line_cases more) [
  | inl last ↦
      let size = length-append front more in
      file_one (front ++ more) (is_line_feed-none_joined front more one last) (omega arith) (version_of_line-long (front ++ more) (omega arith))
  | inr (line, rest, is) ↦
      let size = length-append front line in
      let whole : front ++ more ≡ (front ++ line) ++ 10 ∷ rest = ap (λ xs. front ++ xs) is.text_is ∙ sym (append_assoc front line (10 ∷ rest)) in
      ap file_in whole ∙ file_in-no_version Bcr 2 [] (front ++ line) rest (is_line_feed-none_joined front line one is.one) (version_of_line-long (front ++ line) (omega arith))
]
