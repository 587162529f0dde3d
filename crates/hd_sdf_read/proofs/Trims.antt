-- What is left of a text without the bytes at its ends that pass a test.
use Rattle.std.proofs.Common.{◌≡◌, ◌+◌, ◌-◌, ◌<◌, ◌≤◌, ◌||◌, ℕ, zero, suc, Bool, true, false, not, List, [], ◌∷◌, length, take, drop, get_or, reverse}
use Rattle.std.proofs.Common.{refl, sym, ap, arith, ◌∙◌, inl, inr, length-take, length-drop}
use Rattle.std.specs.List.{before_first, list_any, prefix_len, suffix_len}
use Rattle.std.proofs.lemmas.Bool.{cases_Bool}
use Rattle.std.proofs.lemmas.List.{get_or-drop, get_or-reverse, get_or-take, length-reverse, take_all}
use Rattle.std.proofs.lemmas.List.Sums.{prefix_len_is, prefix_len_stops, suffix_len_is, take_while-cons}
use Rattle.hd_num.specs.Lines.{is_blank, trimmed, trimmed_by, without_end, without_start}

-- the text begins and ends with no byte that passes the test
pub record IsTrimmed (test : ℕ → Bool) (text : List ℕ) : Type 0 where
  pub first : 0 < length text → test (get_or text 0 0) ≡ false
  pub last : 0 < length text → test (get_or text (length text - 1) 0) ≡ false

-- such a text stays as it is
pub IsTrimmed-same : (test : ℕ → Bool) (text : List ℕ) → IsTrimmed test text → trimmed_by test text ≡ text
IsTrimmed-same test text is =
    let start : prefix_len test text ≡ 0 = prefix_len_is test text 0 0 (omega arith) (λ k less. absurd (omega arith)) is.first in
    let front : without_start test text ≡ text = ap (λ n. drop n text) start in
    let end : suffix_len test text ≡ length text - length text = suffix_len_is test text (length text) 0 (omega arith) (λ k low high. absurd (omega arith)) is.last in
    let all : length text - suffix_len test text ≡ length text = omega arith in
    ap (without_end test) front ∙ ap (λ n. take n text) all ∙ take_all (length text) text (omega arith)

-- what stands before those at the end that pass
before_end : (test : ℕ → Bool) (text : List ℕ) → suffix_len test text < length text → test (get_or text (length text - suffix_len test text - 1) 0) ≡ false
before_end test text some =
    let inside : prefix_len test (reverse text) < length (reverse text) = omega (arith, some, length-reverse text) in
    let stops = prefix_len_stops test (reverse text) 0 inside in
    let place : length text - 1 - suffix_len test text ≡ length text - suffix_len test text - 1 = omega arith in
    ap test (sym (get_or-reverse text (suffix_len test text) 0 some ∙ ap (λ k. get_or text k 0) place)) ∙ stops

-- a text without its ends begins and ends so
pub IsTrimmed-trimmed_by : (test : ℕ → Bool) (text : List ℕ) → IsTrimmed test (trimmed_by test text)
IsTrimmed-trimmed_by test text =
    let start : ℕ = prefix_len test text in
    let rest : List ℕ = without_start test text in
    let size : ℕ = length rest - suffix_len test rest in
    let rest_size = length-drop start text in
    let whole : length (take size rest) ≡ size = omega (arith, length-take size rest) in
    record {
      first = λ some.
          let here : get_or (take size rest) 0 0 ≡ get_or text start 0 =
          get_or-take size rest 0 0 (omega arith) ∙ get_or-drop start text 0 0 ∙ (let e : start + 0 ≡ start = omega arith in ap (λ k. get_or text k 0) e) in
          ap test here ∙ prefix_len_stops test text 0 (omega arith);
      last = λ some.
          let here : get_or (take size rest) (length (take size rest) - 1) 0 ≡ get_or rest (size - 1) 0 =
          ap (λ n. get_or (take size rest) (n - 1) 0) whole ∙ get_or-take size rest (size - 1) 0 (omega arith) in
          ap test here ∙ before_end test rest (omega arith);
    }

-- a text that begins with no such byte keeps its first byte
pub trimmed_by-first : (test : ℕ → Bool) (text : List ℕ) → (0 < length text → test (get_or text 0 0) ≡ false) → 0 < length (trimmed_by test text) → get_or (trimmed_by test text) 0 0 ≡ get_or text 0 0
trimmed_by-first test text keeps some =
    let start : prefix_len test text ≡ 0 = prefix_len_is test text 0 0 (omega arith) (λ k less. absurd (omega arith)) keeps in
    let rest : List ℕ = without_start test text in
    let size : ℕ = length rest - suffix_len test rest in
    get_or-take size rest 0 0 (omega (arith, length-take size rest)) ∙ ap (λ n. get_or (drop n text) 0 0) start

-- a part of a text has no byte that the text has not
pub list_any-take : (test : ℕ → Bool) (n : ℕ) (text : List ℕ) → list_any test text ≡ false → list_any test (take n text) ≡ false
list_any-take test zero text none = refl
list_any-take test (suc n) [] none = refl
list_any-take test (suc n) (x ∷ xs) none = elim (cases_Bool (test x)) [
  | inl passes ↦ let wrong : true ≡ false = rw passes at none in cc
  | inr fails ↦ rw fails (list_any-take test n xs (rw fails at none))
]

pub list_any-drop : (test : ℕ → Bool) (n : ℕ) (text : List ℕ) → list_any test text ≡ false → list_any test (drop n text) ≡ false
list_any-drop test zero text none = none
list_any-drop test (suc n) [] none = refl
list_any-drop test (suc n) (x ∷ xs) none = elim (cases_Bool (test x)) [
  | inl passes ↦ let wrong : true ≡ false = rw passes at none in cc
  | inr fails ↦ list_any-drop test n xs (rw fails at none)
]

pub trimmed_by-any : (trims test : ℕ → Bool) (text : List ℕ) → list_any test text ≡ false → list_any test (trimmed_by trims text) ≡ false
trimmed_by-any trims test text none =
    let rest : List ℕ = without_start trims text in
    list_any-take test (length rest - suffix_len trims rest) rest (list_any-drop test (prefix_len trims text) text none)

-- no byte before the first that passes does
pub before_first-none : (test : ℕ → Bool) (text : List ℕ) → list_any test (before_first test text) ≡ false
before_first-none test [] = refl
before_first-none test (x ∷ xs) = elim (cases_Bool (test x)) [
  | inl passes ↦
      let none : before_first test (x ∷ xs) ≡ [] = take_while-cons (λ y. not (test y)) x xs ∙ rw passes refl in
      ap (list_any test) none
  | inr fails ↦
      let more : before_first test (x ∷ xs) ≡ x ∷ before_first test xs = take_while-cons (λ y. not (test y)) x xs ∙ rw fails refl in
      ap (list_any test) more ∙ ap (λ b. b || list_any test (before_first test xs)) fails ∙ before_first-none test xs
]

-- a trimmed text is no longer
pub trimmed-length : (text : List ℕ) → length (trimmed text) ≤ length text
trimmed-length text =
    let rest : List ℕ = without_start is_blank text in
    omega (arith, length-take (length rest - suffix_len is_blank rest) rest, length-drop (prefix_len is_blank text) text)
