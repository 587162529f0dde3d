-- The text of a certificate is read as this certificate.
use Rattle.std.proofs.Common.{◌≡◌, ◌<◌, ◌+◌, ◌^◌, ◌||◌, ℕ, ℤ, pos, negsuc, suc, Bool, true, false, not, List, [], ◌∷◌, ◌++◌, length, map, Option, Some}
use Rattle.std.proofs.Common.{None, Ok, refl, sym, ap, ap₂, ◌∙◌, append_assoc, arith, if◌then◌else◌}
use Rattle.std.specs.Prelude.{All, codes, decimal, filter}
use Rattle.std.specs.Char.{is_ascii_digit}
use Rattle.std.specs.Fmt.{signed_decimal}
use Rattle.std.specs.Int.{w64}
use Rattle.std.specs.Int.RustNames.{FitsSigned}
use Rattle.std.specs.List.{flat_map, list_all, slice_split, onto_first}
use Rattle.std.proofs.lemmas.Bool.{and_from, and_parts, ne_eqb}
use Rattle.std.proofs.lemmas.Bool.Decides.{nat_tests}
use Rattle.std.proofs.lemmas.List.Elements.{All-head, All-tail}
use Rattle.std.specs.Str.{bytes_eq}
use Rattle.std.proofs.lemmas.Fmt.{decimal_nonempty, digits_decimal}
use Rattle.std.proofs.lemmas.List.Splits.{length-slice_split, slice_split-cons_yes, slice_split-cons_no}
use Rattle.hd_map.specs.declared.types.Adjacency.{Adjacency}
use Rattle.hd_map.specs.declared.types.Adjacency.TheVariants.{Four, Six, Eight}
use Rattle.hd_map.specs.declared.types.Pos.{Pos}
use Rattle.hd_map.specs.declared.types.SideName.{SideName}
use Rattle.hd_map.specs.declared.types.SideName.TheVariants.{Dales, Hills}
use Rattle.hd_num.specs.Lines.{is_blank, is_filled, is_line_feed, lines_of, without_empty_last, words_of}
use Rattle.hd_num.specs.Whole.{i64_of}
use Rattle.hd_num.proofs.WholeReadsBack.{count_of-decimal, IsNumeralModel-digits, whole_of-signed_decimal}
use Rattle.hd_num.proofs.LinePieces.{without_empty_last-cons}
use Rattle.hd_check.specs.declared.types.Certificate.{Certificate}
use Rattle.hd_check.specs.declared.words.CertificateHead.{CertificateHead}
use Rattle.hd_check.specs.Reading.{Lines, Read, and_then, certificate_of, count_form, head_form, items_in, line_as, line_gives, point_form, point_of_counts, saddle_form, saddle_of_parts, value_of}
use Rattle.hd_check.proofs.ReadingSteps.{after_cut, after_from, after_head, after_path, after_saddle, after_to}
use Rattle.hd_check.specs.Text.{adjacency_word, certificate_lines, certificate_text, line_text, point_words, saddle_lines, side_word}
use Rattle.hd_check.specs.Writable.{IsWritable, IsWritablePoint, IsWritableSaddle, AreWritable}

-- neither a blank nor a line feed
abbrev pub is_clear : ℕ → Bool
is_clear byte = not (is_blank byte || is_line_feed byte)

-- bytes, and none of them a blank or a line feed
pub record IsWord (w : List ℕ) : Type 0 where
  pub some : is_filled w ≡ true
  pub clear : list_all is_clear w ≡ true

not_blank : (b : ℕ) → is_clear b ≡ true → is_blank b ≡ false
not_blank b h = elim (is_blank b) as (λ v. not (v || is_line_feed b) ≡ true → v ≡ false) [ true ↦ λ e. sym e | false ↦ λ e. refl ] h

not_feed : (b : ℕ) → is_clear b ≡ true → is_line_feed b ≡ false
not_feed b h = elim (is_blank b) as (λ v. not (v || is_line_feed b) ≡ true → is_line_feed b ≡ false) [
  | true ↦ λ e. absurd (let f : false ≡ true = e in cc)
  | false ↦ λ e. elim (is_line_feed b) as (λ v. not v ≡ true → v ≡ false) [ true ↦ λ f. sym f | false ↦ λ f. refl ] e
] h

-- a text without bytes that pass, before one that passes, is a piece
split_front : (test : ℕ → Bool) → ((b : ℕ) → is_clear b ≡ true → test b ≡ false) → (w : List ℕ) (end : ℕ) (rest : List ℕ) → list_all is_clear w ≡ true → test end ≡ true
    → slice_split test (w ++ end ∷ rest) ≡ w ∷ slice_split test rest
split_front test fails [] end rest clear ends = slice_split-cons_yes test end rest ends
split_front test fails (b ∷ w) end rest clear ends =
    slice_split-cons_no test b (w ++ end ∷ rest) (fails b ((and_parts _ _ clear).0)) ∙ ap (onto_first b) (split_front test fails w end rest (and_parts _ _ clear).1 ends)

-- and alone one piece
split_alone : (test : ℕ → Bool) → ((b : ℕ) → is_clear b ≡ true → test b ≡ false) → (w : List ℕ) → list_all is_clear w ≡ true → slice_split test w ≡ w ∷ []
split_alone test fails [] clear = refl
split_alone test fails (b ∷ w) clear = slice_split-cons_no test b w (fails b ((and_parts _ _ clear).0)) ∙ ap (onto_first b) (split_alone test fails w (and_parts _ _ clear).1)

-- words, and no other bytes
abbrev pub AreWords : List (List ℕ) → Type 0
AreWords [] = Unit {0}
AreWords (w ∷ ws) = IsWord w × AreWords ws

-- lines of some words each
abbrev pub AreLines : List (List (List ℕ)) → Type 0
AreLines [] = Unit {0}
AreLines ([] ∷ lines) = ⊥
AreLines ((w ∷ ws) ∷ lines) = AreWords (w ∷ ws) × AreLines lines

-- a line without its line feed
abbrev joined : List (List ℕ) → List ℕ
joined [] = []
joined (w ∷ []) = w
joined (w ∷ v ∷ ws) = w ++ 32 ∷ joined (v ∷ ws)

line_joined : (ws : List (List ℕ)) (rest : List ℕ) → line_text ws ++ rest ≡ joined ws ++ 10 ∷ rest
line_joined [] rest = refl
line_joined (w ∷ []) rest = append_assoc w (10 ∷ []) rest
line_joined (w ∷ v ∷ ws) rest = append_assoc w (32 ∷ line_text (v ∷ ws)) rest ∙ ap (λ (t : List ℕ). w ++ 32 ∷ t) (line_joined (v ∷ ws) rest) ∙ sym (append_assoc w (32 ∷ joined (v ∷ ws)) (10 ∷ rest))

-- no line feed stands in a word before a space
feed_front : (u line : List ℕ) (rest : List ℕ) → list_all is_clear u ≡ true → slice_split is_line_feed (line ++ 10 ∷ rest) ≡ line ∷ slice_split is_line_feed rest
    → slice_split is_line_feed (u ++ 32 ∷ (line ++ 10 ∷ rest)) ≡ (u ++ 32 ∷ line) ∷ slice_split is_line_feed rest
feed_front [] line rest clear h = slice_split-cons_no is_line_feed 32 (line ++ 10 ∷ rest) refl ∙ ap (onto_first 32) h
feed_front (b ∷ u) line rest clear h =
    slice_split-cons_no is_line_feed b (u ++ 32 ∷ (line ++ 10 ∷ rest)) (not_feed b ((and_parts _ _ clear).0)) ∙ ap (onto_first b) (feed_front u line rest ((and_parts _ _ clear).1) h)

-- nor in the line
split_line : (w : List ℕ) (ws : List (List ℕ)) (rest : List ℕ) → AreWords (w ∷ ws) → slice_split is_line_feed (joined (w ∷ ws) ++ 10 ∷ rest) ≡ joined (w ∷ ws) ∷ slice_split is_line_feed rest
split_line w [] rest are = split_front is_line_feed not_feed w 10 rest are.0.clear refl
split_line w (v ∷ ws) rest are =
    ap (slice_split is_line_feed) (append_assoc w (32 ∷ joined (v ∷ ws)) (10 ∷ rest)) ∙ feed_front w (joined (v ∷ ws)) rest are.0.clear (split_line v ws rest are.1)

-- the words of a line are these
split_words : (w : List ℕ) (ws : List (List ℕ)) → AreWords (w ∷ ws) → slice_split is_blank (joined (w ∷ ws)) ≡ w ∷ ws
split_words w [] are = split_alone is_blank not_blank w are.0.clear
split_words w (v ∷ ws) are = split_front is_blank not_blank w 32 (joined (v ∷ ws)) are.0.clear refl ∙ ap (λ (us : List (List ℕ)). w ∷ us) (split_words v ws are.1)

filter_words : (ws : List (List ℕ)) → AreWords ws → filter is_filled ws ≡ ws
filter_words [] are = refl
filter_words (w ∷ ws) are = ap (λ (b : Bool). if b then w ∷ filter is_filled ws else filter is_filled ws) are.0.some ∙ ap (λ (us : List (List ℕ)). w ∷ us) (filter_words ws are.1)

words_joined : (w : List ℕ) (ws : List (List ℕ)) → AreWords (w ∷ ws) → words_of (joined (w ∷ ws)) ≡ w ∷ ws
words_joined w ws are = ap (filter is_filled) (split_words w ws are) ∙ filter_words (w ∷ ws) are

-- the pieces of the text are its lines and an empty one
split_text : (lines : List (List (List ℕ))) → AreLines lines → slice_split is_line_feed (flat_map line_text lines) ≡ map joined lines ++ [] ∷ []
split_text [] are = refl
split_text ([] ∷ lines) are = absurd are
split_text ((w ∷ ws) ∷ lines) are =
    ap (slice_split is_line_feed) (line_joined (w ∷ ws) (flat_map line_text lines)) ∙ split_line w ws (flat_map line_text lines) are.0
    ∙ ap (λ (ps : List (List ℕ)). joined (w ∷ ws) ∷ ps) (split_text lines are.1)

empty_last : (ps : List (List ℕ)) → without_empty_last (ps ++ [] ∷ []) ≡ ps
empty_last [] = refl
empty_last (p ∷ []) = refl
empty_last (p ∷ q ∷ ps) = ap (λ (us : List (List ℕ)). p ∷ us) (empty_last (q ∷ ps))

map_words : (lines : List (List (List ℕ))) → AreLines lines → map words_of (map joined lines) ≡ lines
map_words [] are = refl
map_words ([] ∷ lines) are = absurd are
map_words ((w ∷ ws) ∷ lines) are = ap₂ (λ (us : List (List ℕ)) (uss : List (List (List ℕ))). us ∷ uss) (words_joined w ws are.0) (map_words lines are.1)

-- the lines of the text, by their words
pub lines_of-line_text : (lines : List (List (List ℕ))) → AreLines lines → map words_of (lines_of (flat_map line_text lines)) ≡ lines
lines_of-line_text lines are = ap (λ (ps : List (List ℕ)). map words_of (without_empty_last ps)) (split_text lines are) ∙ ap (map words_of) (empty_last (map joined lines)) ∙ map_words lines are

-- a line before more text is its first line
pub lines_of-first : (w : List ℕ) (ws : List (List ℕ)) (rest : List ℕ) → AreWords (w ∷ ws) → map words_of (lines_of (line_text (w ∷ ws) ++ rest)) ≡ (w ∷ ws) ∷ map words_of (lines_of rest)
lines_of-first w ws rest are =
    ap (λ (t : List ℕ). map words_of (lines_of t)) (line_joined (w ∷ ws) rest)
    ∙ ap (λ (ps : List (List ℕ)). map words_of (without_empty_last ps)) (split_line w ws rest are)
    ∙ ap (map words_of) (without_empty_last-cons (joined (w ∷ ws)) (slice_split is_line_feed rest) (omega (arith, length-slice_split is_line_feed rest)))
    ∙ ap (λ (us : List (List ℕ)). us ∷ map words_of (lines_of rest)) (words_joined w ws are)

-- digits are a word
pub is_clear-digit : (b : ℕ) → is_ascii_digit b ≡ true → is_clear b ≡ true
is_clear-digit b h = grind (arith, nat_tests)

pub is_clear-digits : (w : List ℕ) → list_all is_ascii_digit w ≡ true → list_all is_clear w ≡ true
is_clear-digits [] h = refl
is_clear-digits (b ∷ w) h = and_from _ _ (is_clear-digit b (and_parts _ _ h).0) (is_clear-digits w (and_parts _ _ h).1)

pub IsWord-filled : (w : List ℕ) → 0 < length w → is_filled w ≡ true
IsWord-filled w some = ap not (ne_eqb (length w) 0 (λ none. omega (arith, none, some)))

pub IsWord-decimal : (n : ℕ) → n < 2 ^ 64 → IsWord (decimal n)
IsWord-decimal n small = record { some = IsWord-filled (decimal n) (decimal_nonempty n small); clear = is_clear-digits (decimal n) (digits_decimal IsNumeralModel-digits n small) }

signed_word : (z : ℤ) → FitsSigned w64 z → IsWord (signed_decimal z)
signed_word (pos n) fits = let small : n < 2 ^ 63 = fits.sfits in IsWord-decimal n (omega arith)
signed_word (negsuc n) fits =
    let small : n < 2 ^ 63 = fits.sfits in
    let w = IsWord-decimal (suc n) (omega arith) in
    record { some = IsWord-filled (45 ∷ decimal (suc n)) (omega arith); clear = w.clear }

-- a point has words
point_clear : (p : Pos) → IsWritablePoint p → AreWords (point_words p)
point_clear p fits = let x = fits.column in let y = fits.profile in (IsWord-decimal p.x (omega arith), (IsWord-decimal p.y (omega arith), tt))

-- lines of items are lines of words
pub AreLines-items : {A : Type 0} (words : A → List (List ℕ)) (Is : A → Type 0) → ((x : A) → Is x → AreLines (words x ∷ [])) → (xs : List A) → All Is xs
    → (rest : List (List (List ℕ))) → AreLines rest → AreLines (map words xs ++ rest)
AreLines-items words Is clear [] all rest are = are
AreLines-items words Is clear (x ∷ xs) all rest are = more_lines (words x) (clear x (All-head Is x xs all)) (AreLines-items words Is clear xs (All-tail Is x xs all) rest are)
  where
    more_lines : (ws : List (List ℕ)) → AreLines (ws ∷ []) → AreLines (map words xs ++ rest) → AreLines (ws ∷ (map words xs ++ rest))
    more_lines [] one more = absurd one
    more_lines (w ∷ ws) one more = (one.0, more)

points_clear : (ps : List Pos) → All IsWritablePoint ps → (rest : List (List (List ℕ))) → AreLines rest → AreLines (map point_words ps ++ rest)
points_clear = AreLines-items point_words IsWritablePoint (λ p fits. (point_clear p fits, tt))

-- a line of a word and a number
pub AreWords-number : (key : List ℕ) (n : ℕ) → IsWord key → n < 2 ^ 32 → AreWords (key ∷ decimal n ∷ [])
AreWords-number key n is small = (is, (IsWord-decimal n (omega arith), tt))

-- the words that stand in each certificate
word_certificate : IsWord (codes "certificate")
word_certificate = record { some = refl; clear = refl }

word_from : IsWord (codes "from")
word_from = record { some = refl; clear = refl }

word_to : IsWord (codes "to")
word_to = record { some = refl; clear = refl }

word_saddle : IsWord (codes "saddle")
word_saddle = record { some = refl; clear = refl }

word_none : IsWord (codes "none")
word_none = record { some = refl; clear = refl }

word_path : IsWord (codes "path")
word_path = record { some = refl; clear = refl }

word_cut : IsWord (codes "cut")
word_cut = record { some = refl; clear = refl }

pub IsWord-end : IsWord (codes "end")
IsWord-end = record { some = refl; clear = refl }

pub side_word-clear : (side : SideName) → IsWord (side_word side)
side_word-clear Dales = record { some = refl; clear = refl }
side_word-clear Hills = record { some = refl; clear = refl }

pub adjacency_word-clear : (adjacency : Adjacency) → IsWord (adjacency_word adjacency)
adjacency_word-clear Four = record { some = refl; clear = refl }
adjacency_word-clear Six = record { some = refl; clear = refl }
adjacency_word-clear Eight = record { some = refl; clear = refl }

-- the lines from that of the cut on
abbrev cut_part : List Pos → List (List (List ℕ))
cut_part cut = (codes "cut" ∷ decimal (length cut) ∷ []) ∷ (map point_words cut ++ (codes "end" ∷ []) ∷ [])

cut_clear : (cut : List Pos) → AreWritable cut → AreLines (cut_part cut)
cut_clear cut are = (AreWords-number (codes "cut") (length cut) word_cut are.few, points_clear cut are.each ((codes "end" ∷ []) ∷ []) ((IsWord-end, tt), tt))

saddle_clear : (saddle : Option (Pos × ℤ)) (path : List Pos) → IsWritableSaddle saddle path → AreWritable path → (rest : List (List (List ℕ))) → AreLines rest
    → AreLines (saddle_lines saddle path ++ rest)
saddle_clear (Some s) path is are rest more =
    let x = is.0.column in
    let y = is.0.profile in (
      (word_saddle, (IsWord-decimal s.0.x (omega arith), (IsWord-decimal s.0.y (omega arith), (signed_word s.1 is.1, tt)))),
      (AreWords-number (codes "path") (length path) word_path are.few, points_clear path are.each rest more),
    )
saddle_clear None path is are rest more = ((word_saddle, (word_none, tt)), more)

all_clear : (c : Certificate) → IsWritable c → AreLines (certificate_lines c)
all_clear c is = (
  (word_certificate, (side_word-clear c.side, (adjacency_word-clear c.adjacency, tt))),
  ((word_from, point_clear c.from is.from), ((word_to, point_clear c.to is.to), saddle_clear c.saddle c.path is.saddle is.path (cut_part c.cut) (cut_clear c.cut is.cut))),
)

-- a point reads back
point_back : (p : Pos) → IsWritablePoint p → point_form (point_words p) ≡ Some p
point_back p fits = ap₂ point_of_counts (count_of-decimal p.x fits.column) (count_of-decimal p.y fits.profile)

abbrev pub numbered-from_line : ℕ → List (List (List ℕ)) → Lines
numbered-from_line number lines = record { number = number; lines = lines }

module _ {A : Type 0} (words : A → List (List ℕ)) (form : List (List ℕ) → Option A) (Is : A → Type 0) (back : (x : A) → Is x → form (words x) ≡ Some x) where
  items_back : (xs : List A) (number : ℕ) (rest : List (List (List ℕ))) → All Is xs → (n : ℕ)
      × (items_in form (length xs) (numbered-from_line number (map words xs ++ rest)) ≡ Ok (xs, numbered-from_line n rest))
  items_back [] number rest all = (number, refl)
  items_back (x ∷ xs) number rest all =
      let more = items_back xs (number + 1) rest (All-tail Is x xs all) in (
        more.0,
        ap (λ (o : Option A). and_then (line_gives number (map words xs ++ rest) o) (λ y left. and_then (items_in form (length xs) left) (λ ys left. Ok (y ∷ ys, left))))
            (back x (All-head Is x xs all))
            ∙ ap (λ (r : Read (List A)). and_then r (λ ys left. Ok (x ∷ ys, left))) more.1,
      )

  -- a number and so many items read back
  pub count_form-counted : (key : List ℕ) → bytes_eq key key ≡ true → (xs : List A) (number : ℕ) (rest : List (List (List ℕ))) → length xs < 2 ^ 32 → All Is xs
      → (n : ℕ) × (and_then (line_as (count_form key) (numbered-from_line number ((key ∷ decimal (length xs) ∷ []) ∷ (map words xs ++ rest)))) (items_in form) ≡ Ok (xs, numbered-from_line n rest))
  count_form-counted key same xs number rest few all =
      let more = items_back xs (number + 1) rest all in (
        more.0,
        ap₂ (λ (b : Bool) (o : Option ℕ). and_then (line_gives number (map words xs ++ rest) (if b then o else None)) (items_in form)) same (count_of-decimal (length xs) few) ∙ more.1,
      )

-- a saddle
saddle_back : (s : Pos × ℤ) → IsWritablePoint s.0 → FitsSigned w64 s.1 → saddle_form (codes "saddle" ∷ decimal s.0.x ∷ decimal s.0.y ∷ signed_decimal s.1 ∷ []) ≡ Some (Some s)
saddle_back s point fits = ap₂ (λ (p : Option Pos) (h : Option ℤ). saddle_of_parts p h) (point_back s.0 point) (ap i64_of (whole_of-signed_decimal s.1 fits))

-- the lines of a saddle and a path, and what follows them
path_back : (head : CertificateHead) (from to : Pos) (saddle : Option (Pos × ℤ)) (path : List Pos) (number : ℕ) (rest : List (List (List ℕ))) → IsWritableSaddle saddle path → AreWritable path
    → (n : ℕ) × (after_to head from to (numbered-from_line number (saddle_lines saddle path ++ rest)) ≡ after_path head from to saddle path (numbered-from_line n rest))
path_back head from to (Some s) path number rest is are =
    let more = count_form-counted point_words point_form IsWritablePoint point_back (codes "path") refl path (number + 1) rest are.few are.each in (
      more.0,
      ap (λ (o : Option (Option (Pos × ℤ))). and_then (line_gives number ((codes "path" ∷ decimal (length path) ∷ []) ∷ (map point_words path ++ rest)) o)
          (after_saddle head from to)) (saddle_back s is.0 is.1)
          ∙ ap (λ (r : Read (List Pos)). and_then r (after_path head from to (Some s))) more.1,
    )
path_back head from to None path number rest is are = (number + 1, ap (λ (ps : List Pos). after_path head from to None ps (numbered-from_line (number + 1) rest)) (sym is))

-- the lines of a cut, and the end
cut_back : (head : CertificateHead) (from to : Pos) (saddle : Option (Pos × ℤ)) (path cut : List Pos) (number : ℕ) → AreWritable cut
    → value_of (after_path head from to saddle path (numbered-from_line number (cut_part cut)))
    ≡ Ok (record { side = head.side; adjacency = head.adjacency; from = from; to = to; saddle = saddle; path = path; cut = cut })
cut_back head from to saddle path cut number are =
    let more = count_form-counted point_words point_form IsWritablePoint point_back (codes "cut") refl cut number ((codes "end" ∷ []) ∷ []) are.few are.each in
    ap (λ (r : Read (List Pos)). value_of (and_then r (after_cut head from to saddle path))) more.1

head_back : (side : SideName) (adjacency : Adjacency) → head_form (codes "certificate" ∷ side_word side ∷ adjacency_word adjacency ∷ []) ≡ Some (record { side = side; adjacency = adjacency })
head_back Dales Four = refl
head_back Dales Six = refl
head_back Dales Eight = refl
head_back Hills Four = refl
head_back Hills Six = refl
head_back Hills Eight = refl

-- the text of a certificate is read as this certificate
pub certificate_in-certificate_text : (c : Certificate) → IsWritable c → certificate_of (certificate_text c) ≡ Ok c
certificate_in-certificate_text c is =
    let head : CertificateHead = record { side = c.side; adjacency = c.adjacency } in
    let tail : List (List (List ℕ)) = saddle_lines c.saddle c.path ++ cut_part c.cut in
    let third : List (List (List ℕ)) = (codes "to" ∷ point_words c.to) ∷ tail in
    let second : List (List (List ℕ)) = (codes "from" ∷ point_words c.from) ∷ third in
    let path = path_back head c.from c.to c.saddle c.path 4 (cut_part c.cut) is.saddle is.path in
    ap (λ (lines : List (List (List ℕ))). value_of (and_then (line_as head_form (numbered-from_line 1 lines)) after_head)) (lines_of-line_text (certificate_lines c) (all_clear c is))
    ∙ ap (λ (o : Option CertificateHead). value_of (and_then (line_gives 1 second o) after_head)) (head_back c.side c.adjacency)
    ∙ ap (λ (o : Option Pos). value_of (and_then (line_gives 2 third o) (after_from head))) (point_back c.from is.from)
    ∙ ap (λ (o : Option Pos). value_of (and_then (line_gives 3 tail o) (after_to head c.from))) (point_back c.to is.to)
    ∙ ap value_of path.1
    ∙ cut_back head c.from c.to c.saddle c.path c.cut path.0 is.cut
