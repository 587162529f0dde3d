-- The parts of a word with `;Sum` after it.
use Rattle.std.proofs.Common.{◌≡◌, ◌∙◌, ℕ, List, [], ◌∷◌, ◌++◌, ◌<◌, length, cond, Bool, true, false, arith, Result, Ok, Err, Option, Some, None, codes, refl, sym, ap, is_some, true≢false}
use Rattle.std.specs.List.{onto_first}
use Rattle.std.proofs.lemmas.List.Splits.{length-slice_split}
use denote.Bor.{Bor}
use Rattle.hd_feature.specs.declared.notation.Notation.{Notation}
use Rattle.hd_feature.specs.declared.notation.NotationError.{NotationError}
use Rattle.hd_feature.specs.declared.notation.NotationError.TheVariants.{BadPart}
use Rattle.hd_feature.specs.declared.notation.Statistic.{Statistic}
use Rattle.hd_feature.specs.declared.notation.Statistic.TheVariants.{Sum}
use Rattle.hd_feature.specs.Notation.{notation_of, notation_of_parts, statistic_of}
use Rattle.hd_feature.specs.Parts.{Reads, and_then, is_separator, parts_left, no_part, part, parts_of, read_or_bad}

-- the part that comes after
abbrev pub sum_part : List ℕ
sum_part = codes "Sum"

abbrev pub followed : List (List ℕ) → List (List ℕ)
followed parts = parts ++ sum_part ∷ []

onto_followed : (x : ℕ) (parts : List (List ℕ)) → 0 < length parts → onto_first x (followed parts) ≡ followed (onto_first x parts)
onto_followed x [] some = absurd (omega arith)
onto_followed x (part ∷ parts) some = refl

split_followed : (b : Bool) (x : ℕ) (parts more : List (List ℕ)) → 0 < length parts → more ≡ followed parts
    → cond b ([] ∷ more) (onto_first x more) ≡ followed (cond b ([] ∷ parts) (onto_first x parts))
split_followed true x parts more some e = ap (λ ps. [] ∷ ps) e
split_followed false x parts more some e = ap (onto_first x) e ∙ onto_followed x parts some

-- the parts of a word are followed by that part
parts_followed : (word : List ℕ) → parts_of (word ++ codes ";Sum") ≡ followed (parts_of word)
parts_followed [] = refl
parts_followed (x ∷ xs) = split_followed (is_separator x) x (parts_of xs) (parts_of (xs ++ codes ";Sum")) (let n = length-slice_split is_separator xs in omega (arith, n)) (parts_followed xs)

pub notation_of-followed : (word : List ℕ) → notation_of (word ++ codes ";Sum") ≡ notation_of_parts (followed (parts_of word))
notation_of-followed word = ap notation_of_parts (parts_followed word)

-- a part that is not the one after is read where it stands, or is missing
part-followed : {A B : Type 0} (number : ℕ) (form : List ℕ → Option A) → form sum_part ≡ None → (parts : List (List ℕ)) (make : A → List (List ℕ) → Result B NotationError)
    → part number form (followed parts) make ≡ part number form parts (λ x more. make x (followed more))
part-followed number form none [] make = ap (λ o. and_then (read_or_bad number o) (λ x. make x [])) none
part-followed number form none (text ∷ more) make = refl

pub part-read_followed : {A : Type 0} (number : ℕ) (form : List ℕ → Option A) (parts : List (List ℕ)) (result : Result (A × Option (Bor (List ℕ))) NotationError)
    → form sum_part ≡ None → Reads number form parts result
    → (make : A → List (List ℕ) → Result Notation NotationError) → part number form (followed parts) make ≡ and_then result (λ p. make p.0 (followed (parts_left p.1)))
part-read_followed number form parts result none reads make = part-followed number form none parts make ∙ reads (λ x more. make x (followed more))

-- where no part is left, that one is read as part 6
pub statistic-sum_alone : (rest : Option (Bor (List ℕ))) (make : Statistic → List (List ℕ) → Result Notation NotationError) → is_some rest ≡ false
    → part 6 statistic_of (followed (parts_left rest)) make ≡ make Sum []
statistic-sum_alone None make h = refl
statistic-sum_alone (Some text) make h = absurd (true≢false h)

after_all : (more : List (List ℕ)) (made : Result Notation NotationError) → no_part 7 (followed more) made ≡ Err (BadPart 7)
after_all [] made = refl
after_all (part ∷ more) made = refl

read_then : (read : Result Statistic NotationError) (more : List (List ℕ)) (made : Statistic → Result Notation NotationError)
    → and_then read (λ s. no_part 7 (followed more) (made s)) ≡ and_then read (λ s. Err (BadPart 7))
read_then (Ok s) more made = after_all more (made s)
read_then (Err error) more made = refl

sixth_then : (parts : List (List ℕ)) (made : Statistic → Result Notation NotationError) → 0 < length parts
    → part 6 statistic_of (followed parts) (λ s more. no_part 7 more (made s)) ≡ part 6 statistic_of parts (λ s more. Err (BadPart 7))
sixth_then [] made some = absurd (omega arith)
sixth_then (text ∷ more) made some = read_then (read_or_bad 6 (statistic_of text)) more made

-- where one is left, part 6 is read of it, and that one is too many
pub statistic-sum_seventh : (rest : Option (Bor (List ℕ))) (result : Result (Statistic × Option (Bor (List ℕ))) NotationError) (made : Statistic → Result Notation NotationError) → is_some rest ≡ true
    → Reads 6 statistic_of (parts_left rest) result → part 6 statistic_of (followed (parts_left rest)) (λ s more. no_part 7 more (made s)) ≡ and_then result (λ p. Err (BadPart 7))
statistic-sum_seventh None result made h reads = absurd (true≢false (sym h))
statistic-sum_seventh (Some text) result made h reads =
    sixth_then (parts_of text.now) made (let n = length-slice_split is_separator text.now in omega (arith, n)) ∙ reads (λ s more. Err (BadPart 7))
