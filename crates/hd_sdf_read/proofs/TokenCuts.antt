-- Texts that are cut after a token.
use Rattle.std.proofs.Common.{◌≡◌, ◌+◌, ◌<◌, ◌≤◌, ℕ, suc, Bool, true, false, List, [], ◌∷◌, ◌++◌, length, take, drop, get_or, inl, inr, refl, sym, ap}
use Rattle.std.proofs.Common.{ap₂, arith, ◌∙◌, append_assoc, length-append, length-drop, length-take}
use Rattle.std.specs.List.{before_first, list_all, list_any, position_or_len, prefix_len}
use Rattle.std.proofs.Math.Seq.{drop-append_seam, take-append_seam}
use Rattle.std.proofs.lemmas.Bool.{and_from, cases_Bool, cases_lt, or_from}
use Rattle.std.proofs.lemmas.List.{drop-append-le, take-append-drop, take-append-le, take_all}
use Rattle.std.proofs.lemmas.List.Folds.{list_any-append}
use Rattle.hd_num.specs.Lines.{without_start}
use Rattle.hd_sdf_read.specs.TokenPieces.{IsCut, IsWord}
use Rattle.hd_sdf_read.specs.Tokens.{is_gap, after_token, token_of}
use Rattle.hd_sdf_read.proofs.DecimalFronts.{position_or_len-token}
use Rattle.hd_sdf_read.proofs.TextFronts.{list_any-first, without_start-front, without_start-stays}
use Rattle.hd_sdf_read.proofs.Trims.{before_first-none}

-- the first gap of a text with more behind it
module _ (test : ℕ → Bool) where
  place_stays : (text more : List ℕ) → position_or_len test text < length text → position_or_len test (text ++ more) ≡ position_or_len test text
  place_stays [] more some = absurd (omega arith)
  place_stays (x ∷ xs) more some = elim (cases_Bool (test x)) [
    | inl passes ↦ rw passes refl
    | inr fails ↦
        let inside : 1 + position_or_len test xs < suc (length xs) = rw fails at some in
        rw fails (ap (λ n. 1 + n) (place_stays xs more (omega (arith, inside))))
  ]

  -- a byte that passes stands there
  passes_there : (text : List ℕ) → position_or_len test text < length text → test (get_or (drop (position_or_len test text) text) 0 0) ≡ true
  passes_there [] some = absurd (omega arith)
  passes_there (x ∷ xs) some = elim (cases_Bool (test x)) [
    | inl passes ↦ rw passes passes
    | inr fails ↦
        let inside : 1 + position_or_len test xs < suc (length xs) = rw fails at some in
        let one : 1 + position_or_len test xs ≡ suc (position_or_len test xs) = omega arith in
        rw (fails, one) (passes_there xs (omega (arith, inside)))
  ]

  -- none passes before the end
  none_to_end : (text : List ℕ) → length text ≤ position_or_len test text → list_any test text ≡ false
  none_to_end [] all = refl
  none_to_end (x ∷ xs) all = elim (cases_Bool (test x)) [
    | inl passes ↦ let wrong : suc (length xs) ≤ 0 = rw passes at all in absurd (omega (arith, wrong))
    | inr fails ↦
        let more : suc (length xs) ≤ 1 + position_or_len test xs = rw fails at all in
        or_from _ _ fails (none_to_end xs (omega (arith, more)))
  ]

  -- more behind a text that has some byte that does not pass
  start_append : (text more : List ℕ) → 0 < length (without_start test text) → without_start test (text ++ more) ≡ without_start test text ++ more
  start_append [] more some = absurd (omega arith)
  start_append (x ∷ xs) more some = elim (cases_Bool (test x)) [
    | inl passes ↦
        let long : 1 + prefix_len test (xs ++ more) ≡ suc (prefix_len test (xs ++ more)) = omega arith in
        let short : 1 + prefix_len test xs ≡ suc (prefix_len test xs) = omega arith in
        let left : 0 < length (without_start test xs) = rw (passes, short) at some in
        rw (passes, long, short) (start_append xs more left)
    | inr fails ↦ rw fails refl
  ]

  -- what is left begins with a byte that does not pass
  start_first : (text : List ℕ) → 0 < length (without_start test text) → test (get_or (without_start test text) 0 0) ≡ false
  start_first [] some = absurd (omega arith)
  start_first (x ∷ xs) some = elim (cases_Bool (test x)) [
    | inl passes ↦
        let short : 1 + prefix_len test xs ≡ suc (prefix_len test xs) = omega arith in
        let left : 0 < length (without_start test xs) = rw (passes, short) at some in
        rw (passes, short) (start_first xs left)
    | inr fails ↦ rw fails fails
  ]

  place_some : (text : List ℕ) → 0 < length text → test (get_or text 0 0) ≡ false → 0 < position_or_len test text
  place_some [] some first = absurd (omega arith)
  place_some (x ∷ xs) some first = rw first (omega arith)

  -- where nothing is left, all pass
  all_start : (text : List ℕ) → length (without_start test text) ≤ 0 → list_all test text ≡ true
  all_start [] none = refl
  all_start (x ∷ xs) none = elim (cases_Bool (test x)) [
    | inl passes ↦
        let short : 1 + prefix_len test xs ≡ suc (prefix_len test xs) = omega arith in
        let left : length (without_start test xs) ≤ 0 = rw (passes, short) at none in
        and_from _ _ passes (all_start xs left)
    | inr fails ↦ let wrong : suc (length xs) ≤ 0 = rw fails at none in absurd (omega (arith, wrong))
  ]

nothing_left : (text : List ℕ) → length text ≤ 0 → text ≡ []
nothing_left [] none = refl
nothing_left (x ∷ xs) none = absurd (omega arith)

-- a text is cut at its first gap
pub IsCut-at : (text token rest : List ℕ) (end : ℕ) → end ≡ position_or_len is_gap text → end < length text → token ≡ take end text → rest ≡ drop end text → IsCut text token rest
IsCut-at text token rest end is inside token_is rest_is = record {
  text_is = sym (take-append-drop end text) ∙ ap₂ (λ (a b : List ℕ). a ++ b) (sym token_is) (sym rest_is);
  gapless = ap (list_any is_gap) (token_is ∙ ap (λ n. take n text) is) ∙ before_first-none is_gap text;
  some = (let size = length-drop end text in omega (arith, ap length rest_is, size, inside));
  gap = ap (λ (t : List ℕ). is_gap (get_or t 0 0)) (rest_is ∙ ap (λ n. drop n text) is) ∙ passes_there is_gap text (omega (arith, is, inside));
}

-- or has none
pub is_gap-uncut : (text : List ℕ) (end : ℕ) → end ≡ position_or_len is_gap text → length text ≤ end → list_any is_gap text ≡ false
is_gap-uncut text end is all = none_to_end is_gap text (omega (arith, is, all))

-- a token, before a gap or the end
module _ (token rest : List ℕ) (some : 0 < length token) (gapless : list_any is_gap token ≡ false) (ends : 0 < length rest → is_gap (get_or rest 0 0) ≡ true) where
  stays_here : without_start is_gap (token ++ rest) ≡ token ++ rest
  stays_here = without_start-stays is_gap token rest some (list_any-first is_gap token some gapless)

  pub token_of-here : token_of (token ++ rest) ≡ token
  unfolding token_of
  token_of-here = ap (before_first is_gap) stays_here ∙ ap (λ n. take n (token ++ rest)) (position_or_len-token token rest gapless ends) ∙ take-append_seam token rest

  pub after_token-here : after_token (token ++ rest) ≡ rest
  unfolding after_token
  after_token-here = ap₂ (λ (n : ℕ) (t : List ℕ). drop n t) (ap length token_of-here) stays_here ∙ drop-append_seam token rest

-- a token before a gap, with more behind it
module _ (text more : List ℕ) (cut : 0 < length (after_token text)) where
  front : List ℕ
  front = without_start is_gap text

  inside : position_or_len is_gap front < length front
  unfolding after_token token_of front
  inside =
      let size = length-drop (length (token_of text)) front in
      let token = length-take (position_or_len is_gap front) front in
      omega (arith, cut, size, token)

  begins : without_start is_gap (text ++ more) ≡ front ++ more
  unfolding front
  begins = start_append is_gap text more (omega (arith, inside))

  pub token_of-stays : token_of (text ++ more) ≡ token_of text
  unfolding token_of front
  token_of-stays = ap (before_first is_gap) begins ∙ ap (λ n. take n (front ++ more)) (place_stays is_gap front more inside)
      ∙ take-append-le (position_or_len is_gap front) front more (omega (arith, inside))

  pub after_token-stays : after_token (text ++ more) ≡ after_token text ++ more
  unfolding after_token front
  after_token-stays =
      let size : length (token_of text) ≤ length front = omega (arith, cut, length-drop (length (token_of text)) front) in
      ap₂ (λ (n : ℕ) (t : List ℕ). drop n t) (ap length token_of-stays) begins ∙ drop-append-le (length (token_of text)) front more size

  -- the token is there
  pub token_of-some : 0 < length (token_of text)
  unfolding token_of front
  token_of-some =
      let first : is_gap (get_or front 0 0) ≡ false = start_first is_gap text (omega (arith, inside)) in
      let place = place_some is_gap front (omega (arith, inside)) first in
      omega (arith, inside, place, length-take (position_or_len is_gap front) front)

-- a text whose last token is not ended, with more behind it
module _ (text more : List ℕ) (unended : after_token text ≡ []) where
  open_front : List ℕ
  open_front = without_start is_gap text

  open_all : length open_front ≤ position_or_len is_gap open_front
  unfolding after_token token_of open_front
  open_all =
      let none : length (drop (length (token_of text)) open_front) ≡ 0 = ap length unended in
      omega (arith, none, length-drop (length (token_of text)) open_front, length-take (position_or_len is_gap open_front) open_front)

  -- it is the text without the gaps at its front
  pub token_of-open : token_of text ≡ without_start is_gap text
  unfolding token_of open_front
  token_of-open = take_all (position_or_len is_gap open_front) open_front open_all

  -- the gaps at its front say nothing
  pub without_start-open : without_start is_gap (text ++ more) ≡ without_start is_gap (token_of text ++ more)
  without_start-open = elim (cases_lt 0 (length (without_start is_gap text))) [
    | inl some ↦
        start_append is_gap text more some
        ∙ sym (ap (λ (t : List ℕ). without_start is_gap (t ++ more)) token_of-open ∙ without_start-stays is_gap (without_start is_gap text) more some (start_first is_gap text some))
    | inr none ↦
        let gaps : list_all is_gap text ≡ true = all_start is_gap text none in
        without_start-front is_gap text more gaps ∙ sym (ap (λ (t : List ℕ). without_start is_gap (t ++ more)) (token_of-open ∙ nothing_left (without_start is_gap text) none))
  ]

-- gaps at the front of a piece say nothing
pub without_start-twice : (text more : List ℕ) → without_start is_gap (text ++ more) ≡ without_start is_gap (without_start is_gap text ++ more)
without_start-twice text more = elim (cases_lt 0 (length (without_start is_gap text))) [
  | inl some ↦ start_append is_gap text more some ∙ sym (without_start-stays is_gap (without_start is_gap text) more some (start_first is_gap text some))
  | inr none ↦ without_start-front is_gap text more (all_start is_gap text none) ∙ sym (ap (λ (t : List ℕ). without_start is_gap (t ++ more)) (nothing_left (without_start is_gap text) none))
]

pub without_start-first : (text : List ℕ) → 0 < length (without_start is_gap text) → is_gap (get_or (without_start is_gap text) 0 0) ≡ false
without_start-first text some = start_first is_gap text some

-- a part of a token and a piece that ends it
pub IsWord-joined : (before text shown end rest word : List ℕ) → list_any is_gap before ≡ false
    → ((more : List ℕ) → without_start is_gap (before ++ (text ++ more)) ≡ without_start is_gap (before ++ (shown ++ more)))
    → (length before ≡ 0 → 0 < length shown → is_gap (get_or shown 0 0) ≡ false)
    → IsCut shown end rest → word ≡ before ++ end → IsWord before text word rest
IsWord-joined before text shown end rest word gapless same begins cut is =
    let left = cut.some in
    let sizes = length-append end rest in
    record {
      same = λ more.
          same more ∙ ap (λ (t : List ℕ). without_start is_gap (before ++ (t ++ more))) cut.text_is
          ∙ ap (λ (t : List ℕ). without_start is_gap t) (ap (λ (t : List ℕ). before ++ t) (append_assoc end rest more) ∙ sym (append_assoc before end (rest ++ more))
          ∙ ap (λ (t : List ℕ). t ++ (rest ++ more)) (sym is));
      some = elim (cases_lt 0 (length word)) [
        | inl some ↦ some
        | inr none ↦
            let size : length word ≡ length before + length end = ap length is ∙ length-append before end in
            let no_end : end ≡ [] = nothing_left end (omega (arith, size, none)) in
            let shown_is : shown ≡ rest = cut.text_is ∙ ap (λ (t : List ℕ). t ++ rest) no_end in
            let first = begins (omega (arith, size, none)) (omega (arith, left, ap length shown_is)) in
            let wrong : true ≡ false = sym cut.gap ∙ ap (λ (t : List ℕ). is_gap (get_or t 0 0)) (sym shown_is) ∙ first in
            cc
      ];
      gapless = ap (list_any is_gap) is ∙ list_any-append is_gap before end ∙ or_from _ _ gapless cut.gapless;
      left = left;
      gap = cut.gap;
    }

-- a piece without a gap goes on with the token
pub without_start-joined : (before text shown token : List ℕ) → ((more : List ℕ) → without_start is_gap (before ++ (text ++ more))
    ≡ without_start is_gap (before ++ (shown ++ more))) → token ≡ before ++ shown
    → (more : List ℕ) → without_start is_gap (before ++ (text ++ more)) ≡ without_start is_gap (token ++ more)
without_start-joined before text shown token same is more = same more ∙ ap (λ (t : List ℕ). without_start is_gap t) (sym (append_assoc before shown more) ∙ ap (λ (t : List ℕ). t ++ more) (sym is))
