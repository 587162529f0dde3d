-- A trailer that is read in pieces.
use Rattle.std.proofs.Common.{◌≡◌, ◌+◌, ◌-◌, ◌<◌, ◌≤◌, ◌⊎◌, ℕ, suc, subst, true, false, List, [], ◌∷◌, ◌++◌, length, get_or, ◌&&◌, cond, Ok, Err, inl}
use Rattle.std.proofs.Common.{inr, refl, sym, ap, arith, ◌∙◌, append_assoc, drop, length-append, length-take, length-take-le, take, Result}
use Rattle.std.specs.List.{list_all, prefix_len, suffix_len}
use Rattle.std.proofs.lemmas.Bool.{and_from, and_parts, cases_Bool, lt-ltb, true≢false}
use Rattle.std.proofs.lemmas.List.{get_or-append_right, get_or_append_left}
use Rattle.std.proofs.lemmas.List.Folds.{list_all-append}
use Rattle.std.proofs.lemmas.List.Sums.{prefix_len_is}
use Rattle.hd_num.specs.Lines.{trimmed_by, without_end, without_start}
use Rattle.hd_sdf_read.specs.declared.error.SdfError.{SdfError}
use Rattle.hd_sdf_read.specs.declared.part_trailer.PartTrailer.{PartTrailer}
use Rattle.hd_sdf_read.specs.declared.error.SdfError.TheVariants.{TrailerTooLong}
use Rattle.hd_sdf_read.specs.File.{is_trailer}
use Rattle.hd_sdf_read.specs.Tokens.{is_gap}
use Rattle.hd_sdf_read.specs.Grammar.{trailer_text}
use Rattle.hd_sdf_read.specs.PartTrailers.{FeedsTrailer, IsExtended, trailer_in}
use Rattle.hd_sdf_read.proofs.HasForms.{is_trailer-trimmed}
use Rattle.hd_sdf_read.proofs.TextFronts.{without_end-front, without_start-stays}

-- a text without the bytes at its end that are gaps: something that ends with no gap, and gaps behind it
record HasEnd (text : List ℕ) : Type 0 where
  front : List ℕ
  back : List ℕ
  text_is : text ≡ front ++ back
  some : 0 < length front
  last : is_gap (get_or front (length front - 1) 0) ≡ false
  gaps : list_all is_gap back ≡ true

-- a text is all gaps, or has such an end
ends : (text : List ℕ) → (list_all is_gap text ≡ true) ⊎ HasEnd text
ends [] = inl refl
ends (x ∷ xs) = elim (ends xs) [
  | inl gaps ↦ elim (cases_Bool (is_gap x)) [
    | inl gap ↦ inl (and_from _ _ gap gaps)
    | inr other ↦ inr (record { front = x ∷ []; back = xs; text_is = refl; some = omega arith; last = other; gaps = gaps })
  ]
  | inr e ↦
      let some : 0 < length e.front = e.some in
      let place : length (x ∷ e.front) - 1 ≡ suc (length e.front - 1) = omega arith in
      inr (record {
        front = x ∷ e.front;
        back = e.back;
        text_is = ap (λ ys. x ∷ ys) e.text_is;
        some = omega arith;
        last = ap (λ k. is_gap (get_or (x ∷ e.front) k 0)) place ∙ e.last;
        gaps = e.gaps;
      })
]

-- a gap at the front of a text is no part of it, and another byte is
start_gap : (x : ℕ) (xs : List ℕ) → is_gap x ≡ true → without_start is_gap (x ∷ xs) ≡ without_start is_gap xs
start_gap x xs gap = let one : 1 + prefix_len is_gap xs ≡ suc (prefix_len is_gap xs) = omega arith in rw (gap, one) refl

start_other : (x : ℕ) (xs : List ℕ) → is_gap x ≡ false → without_start is_gap (x ∷ xs) ≡ x ∷ xs
start_other x xs other = rw other refl

-- the gaps at the front of a text are left out once
start_once : (text more : List ℕ) → without_start is_gap (text ++ more) ≡ without_start is_gap (without_start is_gap text ++ more)
start_once [] more = refl
start_once (x ∷ xs) more = elim (cases_Bool (is_gap x)) [
  | inl gap ↦ start_gap x (xs ++ more) gap ∙ start_once xs more ∙ sym (ap (λ (t : List ℕ). without_start is_gap (t ++ more)) (start_gap x xs gap))
  | inr other ↦ sym (ap (λ (t : List ℕ). without_start is_gap (t ++ more)) (start_other x xs other))
]

pub trailer_in-skipped : (text more : List ℕ) → trailer_in (text ++ more) ≡ trailer_in (without_start is_gap text ++ more)
trailer_in-skipped text more = ap (λ (t : List ℕ). trailer_text (without_end is_gap t)) (start_once text more)

-- what is left begins with no gap
pub without_start-begins : (text : List ℕ) → 0 < length (without_start is_gap text) → is_gap (get_or (without_start is_gap text) 0 0) ≡ false
without_start-begins [] some = absurd (omega arith)
without_start-begins (x ∷ xs) some = elim (cases_Bool (is_gap x)) [
  | inl gap ↦ ap (λ (t : List ℕ). is_gap (get_or t 0 0)) (start_gap x xs gap) ∙ without_start-begins xs (subst (λ (t : List ℕ). 0 < length t) (start_gap x xs gap) some)
  | inr other ↦ ap (λ (t : List ℕ). is_gap (get_or t 0 0)) (start_other x xs other) ∙ other
]

-- nothing is left of gaps alone, and something where there is more
pub is_gap-all : (text : List ℕ) → length (without_start is_gap text) ≡ 0 → list_all is_gap text ≡ true
is_gap-all [] none = refl
is_gap-all (x ∷ xs) none = elim (cases_Bool (is_gap x)) [
  | inl gap ↦ and_from _ _ gap (is_gap-all xs (sym (ap length (start_gap x xs gap)) ∙ none))
  | inr other ↦ let some : length (x ∷ xs) ≡ 0 = sym (ap length (start_other x xs other)) ∙ none in absurd (omega (arith, some))
]

pub is_gap-some : (text : List ℕ) → 0 < length (without_start is_gap text) → list_all is_gap text ≡ false
is_gap-some [] some = absurd (omega arith)
is_gap-some (x ∷ xs) some = elim (cases_Bool (is_gap x)) [
  | inl gap ↦ ap (λ b. b && list_all is_gap xs) gap ∙ is_gap-some xs (subst (λ (t : List ℕ). 0 < length t) (start_gap x xs gap) some)
  | inr other ↦ ap (λ b. b && list_all is_gap xs) other
]

-- a text of gaps alone begins with one
first_gap : (text : List ℕ) → 0 < length text → list_all is_gap text ≡ true → is_gap (get_or text 0 0) ≡ true
first_gap [] some all = absurd (omega arith)
first_gap (x ∷ xs) some all = (and_parts (is_gap x) (list_all is_gap xs) all).0

-- the last byte of two texts is that of the second
last_joined : (full front : List ℕ) → 0 < length front → is_gap (get_or front (length front - 1) 0) ≡ false → is_gap (get_or (full ++ front) (length (full ++ front) - 1) 0) ≡ false
last_joined full front some last =
    let size = length-append full front in
    let place : length (full ++ front) - 1 - length full ≡ length front - 1 = omega arith in
    ap is_gap (get_or-append_right full front (length full) (length (full ++ front) - 1) 0 refl (omega arith) ∙ ap (λ k. get_or front k 0) place) ∙ last

module _ (full : List ℕ) (begins : 0 < length full → is_gap (get_or full 0 0) ≡ false) (whole : 65536 ≤ length full) where
  stays : (tail : List ℕ) → without_start is_gap (full ++ tail) ≡ full ++ tail
  stays tail = without_start-stays is_gap full tail (omega arith) (begins (omega arith))

  -- a text that goes on with more than gaps is too long
  pub trailer_in-too_long : (tail : List ℕ) → list_all is_gap tail ≡ false → trailer_in (full ++ tail) ≡ Err TrailerTooLong
  trailer_in-too_long tail other = elim (ends tail) [
    | inl all ↦ absurd (true≢false (sym all ∙ other))
    | inr e ↦
        let size = length-append full e.front in
        let some : 0 < length e.front = e.some in
        let end : without_end is_gap (full ++ tail) ≡ full ++ e.front =
        ap (without_end is_gap) (ap (λ ys. full ++ ys) e.text_is ∙ sym (append_assoc full e.front e.back))
        ∙ without_end-front is_gap (full ++ e.front) e.back (omega arith) (last_joined full e.front some e.last) e.gaps in
        ap (λ (t : List ℕ). trailer_text (without_end is_gap t)) (stays tail) ∙ ap trailer_text end
        ∙ ap (λ b. cond b (Err TrailerTooLong) (Ok (full ++ e.front))) (lt-ltb 65536 (length (full ++ e.front)) (omega arith))
  ]

  -- one that goes on with gaps alone is what it is without them
  ended_by : (e : HasEnd full) (gaps : List ℕ) → list_all is_gap gaps ≡ true → trailer_in (full ++ gaps) ≡ trailer_text e.front
  ended_by e gaps all =
      let back : list_all is_gap (e.back ++ gaps) ≡ true = list_all-append is_gap e.back gaps ∙ and_from _ _ e.gaps all in
      ap (λ (t : List ℕ). trailer_text (without_end is_gap t)) (stays gaps)
      ∙ ap (λ (t : List ℕ). trailer_text (without_end is_gap t)) (ap (λ xs. xs ++ gaps) e.text_is ∙ append_assoc e.front e.back gaps)
      ∙ ap trailer_text (without_end-front is_gap e.front (e.back ++ gaps) e.some e.last back)

  -- gaps behind it may be left out
  pub trailer_in-gaps_dropped : (gaps more : List ℕ) → list_all is_gap gaps ≡ true → trailer_in (full ++ (gaps ++ more)) ≡ trailer_in (full ++ more)
  trailer_in-gaps_dropped gaps more all = elim (cases_Bool (list_all is_gap more)) [
    | inr other ↦
        let some : list_all is_gap (gaps ++ more) ≡ false = list_all-append is_gap gaps more ∙ ap (λ b. b && list_all is_gap more) all ∙ other in
        trailer_in-too_long (gaps ++ more) some ∙ sym (trailer_in-too_long more other)
    | inl none ↦ elim (ends full) [
      | inl wrong ↦ absurd (true≢false (sym (first_gap full (omega arith) wrong) ∙ begins (omega arith)))
      | inr e ↦ ended_by e (gaps ++ more) (list_all-append is_gap gaps more ∙ and_from _ _ all none) ∙ sym (ended_by e more none)
    ]
  ]

-- it has the form of a trailer
pub is_trailer-ended : (text : List ℕ) → (0 < length text → is_gap (get_or text 0 0) ≡ false) → length text ≤ 65536 → is_trailer (without_end is_gap text) ≡ true
is_trailer-ended text begins few =
    let start : prefix_len is_gap text ≡ 0 = prefix_len_is is_gap text 0 0 (omega arith) (λ k less. absurd (omega arith)) begins in
    let whole : trimmed_by is_gap text ≡ without_end is_gap text = ap (λ n. without_end is_gap (drop n text)) start in
    let size = length-take (length text - suffix_len is_gap text) text in
    subst (λ (t : List ℕ). is_trailer t ≡ true) whole (is_trailer-trimmed text (subst (λ (t : List ℕ). length t ≤ 65536) (sym whole) (omega arith)))

-- it is what is left of the text
pub without_end-take : (text : List ℕ) → take (length (without_end is_gap text)) text ≡ without_end is_gap text
without_end-take text = ap (λ n. take n text) (length-take-le (length text - suffix_len is_gap text) text (omega arith))

-- what came, and the next piece in two parts
module _ (text first kept over : List ℕ) (parts : first ≡ kept ++ over) (begins : 0 < length (text ++ first) → is_gap (get_or (text ++ first) 0 0) ≡ false) (full : 65536 ≤ length (text ++ kept)) where
  kept_begins : 0 < length (text ++ kept) → is_gap (get_or (text ++ kept) 0 0) ≡ false
  kept_begins some =
      let whole : text ++ first ≡ (text ++ kept) ++ over = ap (λ xs. text ++ xs) parts ∙ sym (append_assoc text kept over) in
      let size = length-append (text ++ kept) over in
      let longer = ap length whole in
      ap is_gap (sym (ap (λ (t : List ℕ). get_or t 0 0) whole ∙ get_or_append_left (text ++ kept) over 0 0 some)) ∙ begins (omega arith)

  cut : (more : List ℕ) → text ++ (first ++ more) ≡ (text ++ kept) ++ (over ++ more)
  cut more = ap (λ xs. text ++ (xs ++ more)) parts ∙ ap (λ xs. text ++ xs) (append_assoc kept over more) ∙ sym (append_assoc text kept (over ++ more))

  pub trailer_in-over_long : (more : List ℕ) → list_all is_gap over ≡ false → trailer_in (text ++ (first ++ more)) ≡ Err TrailerTooLong
  trailer_in-over_long more other =
      let some : list_all is_gap (over ++ more) ≡ false = list_all-append is_gap over more ∙ ap (λ b. b && list_all is_gap more) other in
      ap trailer_in (cut more) ∙ trailer_in-too_long (text ++ kept) kept_begins full (over ++ more) some

  pub trailer_in-over_gaps : (more : List ℕ) → list_all is_gap over ≡ true → trailer_in (text ++ (first ++ more)) ≡ trailer_in ((text ++ kept) ++ more)
  trailer_in-over_gaps more all = ap trailer_in (cut more) ∙ trailer_in-gaps_dropped (text ++ kept) kept_begins full over more all

-- the text with more bytes is read on
pub FeedsTrailer-extended : (old : PartTrailer) (piece kept : List ℕ) (result : Result PartTrailer SdfError) → IsExtended old kept result
    → ((more : List ℕ) → trailer_in (old.text ++ (piece ++ more)) ≡ trailer_in ((old.text ++ kept) ++ more)) → FeedsTrailer old piece result
FeedsTrailer-extended old piece kept (Ok new) is same = λ more. same more ∙ ap (λ (t : List ℕ). trailer_in (t ++ more)) (sym is)
FeedsTrailer-extended old piece kept (Err e) is same = λ refused more. absurd (refused is)
