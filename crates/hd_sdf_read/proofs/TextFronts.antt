-- A text in front of others.
use Rattle.std.proofs.Common.{◌≡◌, ◌+◌, ◌-◌, ◌<◌, ◌≤◌, ℕ, zero, suc, Bool, true, false, List, [], ◌∷◌, ◌++◌, length, take, drop, get_or, eqb, refl, sym, ap, ap₂, arith, ◌∙◌, length-append, append-nil}
use Rattle.std.specs.List.{after_first, before_first, list_all, list_any, position_or_len, prefix_len, suffix_len, slice_split}
use Rattle.std.proofs.Math.Seq.{take-append_seam, drop-append_seam, drop-append-add}
use Rattle.std.proofs.lemmas.Bool.{and_parts, not-false, or_parts}
use Rattle.std.proofs.lemmas.List.{get_or-append_right, get_or_append_left}
use Rattle.std.proofs.lemmas.List.Elements.{All-get_or}
use Rattle.std.proofs.lemmas.List.Splits.{length-slice_split, slice_split_first}
use Rattle.std.proofs.lemmas.Simd.{run_in_chunk_fails, run_in_chunk_le}
use Rattle.std.proofs.lemmas.List.Sums.{AllPass-from_list_all, suffix_len_is}
use Rattle.hd_num.specs.Lines.{after_line, is_line_feed, lines_of, trimmed_by, without_empty_last, without_end, without_start}
use Rattle.hd_sdf_read.specs.Tokens.{is_gap, is_not_space, after_token, token_of}
use Rattle.hd_sdf_read.proofs.Trims.{IsTrimmed}

module _ (test : ℕ → Bool) where
  -- the first byte that passes stands after a text in which none does
  place_front : (text : List ℕ) (x : ℕ) (rest : List ℕ) → list_any test text ≡ false → test x ≡ true → position_or_len test (text ++ x ∷ rest) ≡ length text
  place_front [] x rest none here = rw here refl
  place_front (y ∷ ys) x rest none here =
      let parts = or_parts (test y) (list_any test ys) none in
      let more = place_front ys x rest parts.1 here in
      rw (parts.0, more) (omega arith)

  pub before_first-front : (text : List ℕ) (x : ℕ) (rest : List ℕ) → list_any test text ≡ false → test x ≡ true → before_first test (text ++ x ∷ rest) ≡ text
  before_first-front text x rest none here = ap (λ n. take n (text ++ x ∷ rest)) (place_front text x rest none here) ∙ take-append_seam text (x ∷ rest)

  pub after_first-front : (text : List ℕ) (x : ℕ) (rest : List ℕ) → list_any test text ≡ false → test x ≡ true → after_first test (text ++ x ∷ rest) ≡ rest
  after_first-front text x rest none here = ap (λ n. drop (n + 1) (text ++ x ∷ rest)) (place_front text x rest none here) ∙ drop-append-add text (x ∷ rest) 1

  -- the bytes at the front that pass are left out
  pub without_start-front : (front rest : List ℕ) → list_all test front ≡ true → without_start test (front ++ rest) ≡ without_start test rest
  without_start-front [] rest all = refl
  without_start-front (x ∷ xs) rest all =
      let parts = and_parts (test x) (list_all test xs) all in
      let one : 1 + prefix_len test (xs ++ rest) ≡ suc (prefix_len test (xs ++ rest)) = omega arith in
      rw (parts.0, one) (without_start-front xs rest parts.1)

  pub without_start-behind : (n : ℕ) (text : List ℕ) → n ≤ length text → ((k : ℕ) → k < n → test (get_or text k 0) ≡ true) → without_start test (drop n text) ≡ without_start test text
  without_start-behind zero text within passes = refl
  without_start-behind (suc n) [] within passes = absurd (omega arith)
  without_start-behind (suc n) (x ∷ xs) within passes =
      let one : 1 + prefix_len test xs ≡ suc (prefix_len test xs) = omega arith in
      rw (passes 0 (omega arith), one) (without_start-behind n xs (omega arith) (λ k less. passes (suc k) (omega arith)))

  -- so are those that are counted in a block
  start_block : (other : ℕ → Bool) → ((byte : ℕ) → other byte ≡ false → test byte ≡ true) → (block count : ℕ) (text : List ℕ) → block ≤ length text → count ≡ position_or_len other (take block text)
      → without_start test (drop count text) ≡ without_start test text
  start_block other passes block count text room counted =
      let inside : 0 + block ≤ length text = omega (arith, room) in
      let few = run_in_chunk_le other text 0 block count 0 inside counted in
      without_start-behind count text (omega (arith, few, room)) (λ k less. passes (get_or text k 0)
      (run_in_chunk_fails other text 0 block count 0 inside counted k (omega arith) (omega (arith, less))))

  -- a text whose first byte does not pass stays
  pub without_start-stays : (text rest : List ℕ) → 0 < length text → test (get_or text 0 0) ≡ false → without_start test (text ++ rest) ≡ text ++ rest
  without_start-stays [] rest some first = absurd (omega arith)
  without_start-stays (x ∷ xs) rest some first = rw first refl

  start_all : (back : List ℕ) → list_all test back ≡ true → without_start test back ≡ []
  start_all back all = ap (without_start test) (sym (append-nil back)) ∙ without_start-front back [] all

  pub without_end-front : (text back : List ℕ) → 0 < length text → test (get_or text (length text - 1) 0) ≡ false → list_all test back ≡ true → without_end test (text ++ back) ≡ text
  without_end-front text back some last all =
      let whole = length-append text back in
      let end : suffix_len test (text ++ back) ≡ length (text ++ back) - length text =
      suffix_len_is test (text ++ back) (length text) 0 (omega arith)
      (λ k low high. ap test (get_or-append_right text back (length text) k 0 refl low)
      ∙ All-get_or (λ byte. test byte ≡ true) back (k - length text) 0 (omega arith) (AllPass-from_list_all test back all))
      (λ _. ap test (get_or_append_left text back 0 (length text - 1) (omega arith)) ∙ last) in
      let size : length (text ++ back) - suffix_len test (text ++ back) ≡ length text = omega arith in
      ap (λ n. take n (text ++ back)) size ∙ take-append_seam text back

  -- bytes around a text that pass are left out
  pub trimmed_by-around : (front text back : List ℕ) → list_all test front ≡ true → list_all test back ≡ true → IsTrimmed test text → trimmed_by test (front ++ (text ++ back)) ≡ text
  trimmed_by-around front [] back before after is = ap (without_end test) (without_start-front front back before ∙ start_all back after)
  trimmed_by-around front (x ∷ xs) back before after is =
      ap (without_end test) (without_start-front front ((x ∷ xs) ++ back) before ∙ without_start-stays (x ∷ xs) back (omega arith) (is.first (omega arith)))
      ∙ without_end-front (x ∷ xs) back (omega arith) (is.last (omega arith)) after

-- a space is a gap
space_is_gap : (byte : ℕ) → is_not_space byte ≡ false → is_gap byte ≡ true
space_is_gap byte space = rw (not-false (eqb byte 32) space) refl

-- the spaces at the front of a block are left out
pub without_start-spaces : (block count : ℕ) (text : List ℕ) → block ≤ length text → count ≡ position_or_len is_not_space (take block text)
    → without_start is_gap (drop count text) ≡ without_start is_gap text
without_start-spaces block count text room counted = start_block is_gap is_not_space space_is_gap block count text room counted

-- there is a piece after the first
last_front : (text : List ℕ) (pieces : List (List ℕ)) (n : ℕ) → length pieces ≡ n + 1 → without_empty_last (text ∷ pieces) ≡ text ∷ without_empty_last pieces
last_front text [] n size = absurd (omega (arith, size))
last_front text (piece ∷ pieces) n size = refl

-- a line in front of others
pub lines_of-front : (text rest : List ℕ) → list_any is_line_feed text ≡ false → lines_of (text ++ 10 ∷ rest) ≡ text ∷ lines_of rest
lines_of-front text rest one =
    let place = place_front is_line_feed text 10 rest one refl in
    let inside : position_or_len is_line_feed (text ++ 10 ∷ rest) < length (text ++ 10 ∷ rest) = omega (arith, place, length-append text (10 ∷ rest)) in
    let split : slice_split is_line_feed (text ++ 10 ∷ rest) ≡ text ∷ slice_split is_line_feed rest =
    slice_split_first is_line_feed (text ++ 10 ∷ rest) 0 inside
    ∙ ap₂ (λ (line more : List ℕ). line ∷ slice_split is_line_feed more) (before_first-front is_line_feed text 10 rest one refl) (after_first-front is_line_feed text 10 rest one refl) in
    ap without_empty_last split ∙ last_front text (slice_split is_line_feed rest) _ (length-slice_split is_line_feed rest)

pub after_line-front : (text rest : List ℕ) → list_any is_line_feed text ≡ false → after_line (text ++ 10 ∷ rest) ≡ rest
after_line-front text rest one = after_first-front is_line_feed text 10 rest one refl

-- no byte passes, so the first does not
pub list_any-first : (test : ℕ → Bool) (text : List ℕ) → 0 < length text → list_any test text ≡ false → test (get_or text 0 0) ≡ false
list_any-first test [] some none = absurd (omega arith)
list_any-first test (x ∷ xs) some none = (or_parts (test x) (list_any test xs) none).0

module _ (front token : List ℕ) (gap : ℕ) (rest : List ℕ) (gaps : list_all is_gap front ≡ true) (some : 0 < length token) (none : list_any is_gap token ≡ false) (ends : is_gap gap ≡ true) where
  begins : without_start is_gap (front ++ (token ++ gap ∷ rest)) ≡ token ++ gap ∷ rest
  begins = without_start-front is_gap front (token ++ gap ∷ rest) gaps ∙ without_start-stays is_gap token (gap ∷ rest) some (list_any-first is_gap token some none)

  -- a token between gaps
  pub token_of-front : token_of (front ++ (token ++ gap ∷ rest)) ≡ token
  unfolding token_of
  token_of-front = ap (before_first is_gap) begins ∙ before_first-front is_gap token gap rest none ends

  pub after_token-front : after_token (front ++ (token ++ gap ∷ rest)) ≡ gap ∷ rest
  unfolding after_token
  after_token-front = ap₂ (λ (n : ℕ) (xs : List ℕ). drop n xs) (ap length token_of-front) begins ∙ drop-append_seam token (gap ∷ rest)
