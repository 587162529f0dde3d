-- The kind of a line of the canonical text.
use Rattle.std.proofs.Common.{◌≡◌, ◌-◌, ◌<◌, ◌≤◌, ◌||◌, ◌&&◌, ℕ, suc, true, false, not, List, [], ◌∷◌, ◌++◌, length, get_or, eqb, ltb, leb, cond, refl}
use Rattle.std.proofs.Common.{sym, ap, ap₂, subst, arith, ◌∙◌, inl, inr, length-append, append-nil, append_assoc, ne_eqb}
use Rattle.std.specs.Prelude.{bytes_eq, codes}
use Rattle.std.specs.List.{list_any}
use Rattle.std.proofs.lemmas.Bool.{and_from, and_parts, cases_Bool, le-ltb, leb-true, lt-ltb, not-true, or_from}
use Rattle.std.proofs.lemmas.List.{get_or-append_right, get_or_append_left}
use Rattle.std.proofs.lemmas.List.Folds.{list_any-append}
use Rattle.std.proofs.lemmas.Slice.Eq.{bytes_eq-Decides}
use Rattle.hd_num.specs.Lines.{is_blank, is_line_feed, trimmed}
use Rattle.hd_sdf_read.specs.Entries.{Ends, Keyed, Skipped, Unread, entry, entry_of, is_comment, is_equals, is_key, is_value, keyed, kind_of, kind_of_text}
use Rattle.hd_sdf_read.specs.File.{is_header_key, is_header_value, is_trimmed_line}
use Rattle.hd_sdf_read.proofs.Trims.{IsTrimmed, IsTrimmed-trimmed_by, IsTrimmed-same}
use Rattle.hd_sdf_write.specs.Canonical.{entry_text}
use Rattle.hd_sdf_read.proofs.TextFronts.{after_first-front, before_first-front, trimmed_by-around}

-- a text of one line without blanks at its ends
pub record IsLine (text : List ℕ) : Type 0 where
  pub trims : IsTrimmed is_blank text
  pub one : list_any is_line_feed text ≡ false

pub IsLine-good : (text : List ℕ) → is_trimmed_line text ≡ true → IsLine text
IsLine-good text good =
    let parts = and_parts (bytes_eq (trimmed text) text) (not (list_any is_line_feed text)) good in
    record {
      trims = subst (IsTrimmed is_blank) ((bytes_eq-Decides (trimmed text) text).0 parts.0) (IsTrimmed-trimmed_by is_blank text);
      one = not-true (list_any is_line_feed text) parts.1;
    }

-- what the form of a key says
pub record IsKeyText (key : List ℕ) : Type 0 where
  pub form : is_key key ≡ true
  pub some : 0 < length key
  pub short : length key ≤ 64
  pub line : IsLine key
  pub bare : list_any is_equals key ≡ false
  pub plain : is_comment key ≡ false

pub IsKeyText-good : (key : List ℕ) → is_header_key key ≡ true → IsKeyText key
IsKeyText-good key good =
    let front = and_parts (is_key key && is_trimmed_line key && not (list_any is_equals key)) (not (is_comment key)) good in
    let more = and_parts (is_key key && is_trimmed_line key) (not (list_any is_equals key)) front.0 in
    let first = and_parts (is_key key) (is_trimmed_line key) more.0 in
    let range = and_parts (leb 1 (length key) && leb (length key) 64) _ first.0 in
    let bounds = and_parts (leb 1 (length key)) (leb (length key) 64) range.0 in
    let low = leb-true 1 (length key) bounds.0 in
    record {
      form = first.0;
      some = omega (arith, low);
      short = leb-true (length key) 64 bounds.1;
      line = IsLine-good key first.1;
      bare = not-true (list_any is_equals key) more.1;
      plain = not-true (is_comment key) front.1;
    }

-- the first byte of a filled text in front of others decides whether it is a comment
comment_front : (text rest : List ℕ) → 0 < length text → is_comment text ≡ false → is_comment (text ++ rest) ≡ false
comment_front [] rest some plain = absurd (omega arith)
comment_front (x ∷ xs) rest some plain =
    let here : ltb 0 (length (x ∷ xs)) ≡ true = lt-ltb 0 (length (x ∷ xs)) (omega arith) in
    let there : ltb 0 (length (x ∷ (xs ++ rest))) ≡ true = lt-ltb 0 (length (x ∷ (xs ++ rest))) (omega arith) in
    let other : eqb x 59 ≡ false = sym (ap (λ b. b && eqb x 59) here) ∙ plain in
    ap (λ b. b && eqb x 59) there ∙ other

-- a key, ` =` and what follows it
module _ (key tail value : List ℕ) (is : IsKeyText key) (good : is_value value ≡ true) (reads : trimmed tail ≡ value) (short : length tail ≤ 897)
    (last : 0 < length tail → is_blank (get_or tail (length tail - 1) 0) ≡ false) where
  text : List ℕ
  text = key ++ 32 ∷ 61 ∷ tail

  last_byte : (rest : List ℕ) → (0 < length rest → is_blank (get_or rest (length rest - 1) 0) ≡ false) → is_blank (get_or (key ++ 32 ∷ 61 ∷ rest) (length (key ++ 32 ∷ 61 ∷ rest) - 1) 0) ≡ false
  last_byte [] ends =
      let whole = length-append key (32 ∷ 61 ∷ []) in
      let place : length (key ++ 32 ∷ 61 ∷ []) - 1 - length key ≡ 1 = omega arith in
      let there : get_or (key ++ 32 ∷ 61 ∷ []) (length (key ++ 32 ∷ 61 ∷ []) - 1) 0 ≡ get_or (32 ∷ 61 ∷ []) (length (key ++ 32 ∷ 61 ∷ []) - 1 - length key) 0 =
      get_or-append_right key (32 ∷ 61 ∷ []) (length key) (length (key ++ 32 ∷ 61 ∷ []) - 1) 0 refl (omega arith) in
      rw (there, place) refl
  last_byte (x ∷ xs) ends =
      let whole = length-append key (32 ∷ 61 ∷ x ∷ xs) in
      let place : length (key ++ 32 ∷ 61 ∷ x ∷ xs) - 1 - length key ≡ suc (suc (length (x ∷ xs) - 1)) = omega arith in
      let there : get_or (key ++ 32 ∷ 61 ∷ x ∷ xs) (length (key ++ 32 ∷ 61 ∷ x ∷ xs) - 1) 0 ≡ get_or (32 ∷ 61 ∷ x ∷ xs) (length (key ++ 32 ∷ 61 ∷ x ∷ xs) - 1 - length key) 0 =
      get_or-append_right key (32 ∷ 61 ∷ x ∷ xs) (length key) (length (key ++ 32 ∷ 61 ∷ x ∷ xs) - 1) 0 refl (omega arith) in
      rw (there, place) (ends (omega arith))

  trims : IsTrimmed is_blank (key ++ 32 ∷ 61 ∷ tail)
  trims = record {
    first = λ _. ap is_blank (get_or_append_left key (32 ∷ 61 ∷ tail) 0 0 is.some) ∙ is.line.trims.first is.some;
    last = λ _. last_byte tail last;
  }

  split : key ++ 32 ∷ 61 ∷ tail ≡ (key ++ 32 ∷ []) ++ 61 ∷ tail
  split = sym (append_assoc key (32 ∷ []) (61 ∷ tail))

  no_equals : list_any is_equals (key ++ 32 ∷ []) ≡ false
  no_equals = list_any-append is_equals key (32 ∷ []) ∙ ap (λ b. b || false) is.bare

  entry_is : entry_of (key ++ 32 ∷ 61 ∷ tail) ≡ entry key value
  entry_is = ap entry_of split ∙ ap₂ (λ (k v : List ℕ). entry (trimmed k) (trimmed v))
      (before_first-front is_equals (key ++ 32 ∷ []) 61 tail no_equals refl) (after_first-front is_equals (key ++ 32 ∷ []) 61 tail no_equals refl)
      ∙ ap₂ (λ (k v : List ℕ). entry k v) (trimmed_by-around is_blank [] key (32 ∷ []) refl refl is.line.trims) reads

  equals : list_any is_equals (key ++ 32 ∷ 61 ∷ tail) ≡ true
  equals = list_any-append is_equals key (32 ∷ 61 ∷ tail) ∙ ap (λ b. b || true) is.bare

  no_star : bytes_eq (key ++ 32 ∷ 61 ∷ tail) (codes "*") ≡ false
  no_star = elim (cases_Bool (bytes_eq (key ++ 32 ∷ 61 ∷ tail) (codes "*"))) [
    | inl same ↦ let wrong : true ≡ false = sym equals ∙ ap (list_any is_equals) ((bytes_eq-Decides (key ++ 32 ∷ 61 ∷ tail) (codes "*")).0 same) in cc
    | inr other ↦ other
  ]

  kept : (eqb (length (key ++ 32 ∷ 61 ∷ tail)) 0 || is_comment (key ++ 32 ∷ 61 ∷ tail)) ≡ false
  kept = or_from _ _ (ne_eqb (length (key ++ 32 ∷ 61 ∷ tail)) 0 (λ none. omega (arith, none, length-append key (32 ∷ 61 ∷ tail))))
      (comment_front key (32 ∷ 61 ∷ tail) is.some is.plain)

  keyed_is : keyed (entry_of (key ++ 32 ∷ 61 ∷ tail)) ≡ Keyed (entry key value)
  keyed_is = ap keyed entry_is ∙ ap (λ b. cond b (Keyed (entry key value)) Unread) (and_from _ _ is.form good)

  pub kind_of-keyed : kind_of (key ++ 32 ∷ 61 ∷ tail) ≡ Keyed (entry key value)
  unfolding kind_of
  kind_of-keyed =
      let size = length-append key (32 ∷ 61 ∷ tail) in
      let low = is.short in
      let fits : ltb 1024 (length (key ++ 32 ∷ 61 ∷ tail)) ≡ false = le-ltb 1024 (length (key ++ 32 ∷ 61 ∷ tail)) (omega arith) in
      ap (λ b. cond b Unread (kind_of_text (trimmed (key ++ 32 ∷ 61 ∷ tail)))) fits ∙ ap kind_of_text (IsTrimmed-same is_blank (key ++ 32 ∷ 61 ∷ tail) trims)
      ∙ ap (λ b. cond b Skipped (cond (bytes_eq (key ++ 32 ∷ 61 ∷ tail) (codes "*")) Ends (cond (list_any is_equals (key ++ 32 ∷ 61 ∷ tail)) (keyed (entry_of (key ++ 32 ∷ 61 ∷ tail))) Unread))) kept
      ∙ ap (λ b. cond b Ends (cond (list_any is_equals (key ++ 32 ∷ 61 ∷ tail)) (keyed (entry_of (key ++ 32 ∷ 61 ∷ tail))) Unread)) no_star
      ∙ ap (λ b. cond b (keyed (entry_of (key ++ 32 ∷ 61 ∷ tail))) Unread) equals ∙ keyed_is

-- a key before a filled value
pub entry_text-filled : (key : List ℕ) (x : ℕ) (xs : List ℕ) → entry_text key (x ∷ xs) ≡ key ++ 32 ∷ 61 ∷ 32 ∷ x ∷ xs
entry_text-filled key x xs = ap (λ b. cond b (key ++ codes " =") (key ++ codes " = " ++ (x ∷ xs))) (ne_eqb (length (x ∷ xs)) 0 (λ none. omega (arith, none))) ∙ append_assoc key (codes " = ") (x ∷ xs)

-- the line of a key and its value is that entry
pub kind_of-entry_text : (key value : List ℕ) → is_header_key key ≡ true → is_header_value value ≡ true → kind_of (entry_text key value) ≡ Keyed (entry key value)
kind_of-entry_text key [] right good = kind_of-keyed key [] [] (IsKeyText-good key right) refl refl (omega arith) (λ some. absurd (omega arith))
kind_of-entry_text key (x ∷ xs) right good =
    let parts = and_parts (is_value (x ∷ xs)) (is_trimmed_line (x ∷ xs)) good in
    let line = IsLine-good (x ∷ xs) parts.1 in
    let few = leb-true (length (x ∷ xs)) 896 parts.0 in
    ap kind_of (entry_text-filled key x xs) ∙ kind_of-keyed key (32 ∷ x ∷ xs) (x ∷ xs) (IsKeyText-good key right) parts.0
    (ap trimmed (ap (λ (t : List ℕ). 32 ∷ t) (sym (append-nil (x ∷ xs)))) ∙ trimmed_by-around is_blank (32 ∷ []) (x ∷ xs) [] refl refl line.trims) (omega arith)
    (λ _. (let place : length (32 ∷ x ∷ xs) - 1 ≡ suc (length (x ∷ xs) - 1) = omega arith in ap (λ k. is_blank (get_or (32 ∷ x ∷ xs) k 0)) place) ∙ line.trims.last (omega arith))

-- it is one line
pub entry_text-one_line : (key value : List ℕ) → is_header_key key ≡ true → is_header_value value ≡ true → list_any is_line_feed (entry_text key value) ≡ false
entry_text-one_line key [] right good = list_any-append is_line_feed key (32 ∷ 61 ∷ []) ∙ ap (λ b. b || false) (IsKeyText-good key right).line.one
entry_text-one_line key (x ∷ xs) right good =
    let parts = and_parts (is_value (x ∷ xs)) (is_trimmed_line (x ∷ xs)) good in
    ap (list_any is_line_feed) (entry_text-filled key x xs) ∙ list_any-append is_line_feed key (32 ∷ 61 ∷ 32 ∷ x ∷ xs)
    ∙ ap (λ b. b || list_any is_line_feed (32 ∷ 61 ∷ 32 ∷ x ∷ xs)) (IsKeyText-good key right).line.one ∙ (IsLine-good (x ∷ xs) parts.1).one

-- the line that ends a header
pub kind_of-star : kind_of (codes "*") ≡ Ends
unfolding kind_of
kind_of-star = refl
