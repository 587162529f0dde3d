-- Pits and counts of points, index by index.
use Rattle.std.proofs.Common.{◌≡◌, ◌<◌, ◌≤◌, ◌+◌, ℕ, true, false, List, ◌∷◌, length, map, get_or, set, take, drop, drop-cons, Option, None, inl, inr}
use Rattle.std.proofs.Common.{nat_eq, refl, sym, ap, ◌∙◌, add-one, arith, length-take-le}
use Rattle.std.specs.Prelude.{filter}
use Rattle.std.proofs.lemmas.Bool.{cases_eq}
use Rattle.std.proofs.lemmas.Bool.Decides.{nat_tests}
use Rattle.std.proofs.lemmas.List.{get_or-set_same, get_or-set_other}
use Rattle.std.proofs.lemmas.List.Sums.{count_by_more_yes, count_by_more_no, count_by-le-length}
use Rattle.std.specs.List.{enumerate_from}
use Rattle.hd_survey.specs.Regions.{names, points_numbered}

-- the pits among the points from an index on
abbrev pub pits_from : ℕ → List (Option ℕ) → List ℕ
pits_from k roots = map (λ entry. entry.0) (filter (λ entry. names entry.1 entry.0) (enumerate_from k roots))

-- the point of the index is its own root
pub pits_from-own : (roots : List (Option ℕ)) (k : ℕ) → k < length roots → names (get_or roots k None) k ≡ true → pits_from k (drop k roots) ≡ k ∷ pits_from (k + 1) (drop (k + 1) roots)
pits_from-own roots k inside own = rw (drop-cons roots k None inside, own, add-one) refl

-- the point of the index has another root, or none
pub pits_from-other : (roots : List (Option ℕ)) (k : ℕ) → k < length roots → names (get_or roots k None) k ≡ false → pits_from k (drop k roots) ≡ pits_from (k + 1) (drop (k + 1) roots)
pits_from-other roots k inside other = rw (drop-cons roots k None inside, other, add-one) refl

-- the counts of points by number so far, with one more point
pub counted-some : (numbers points : List ℕ) (count i : ℕ) → i < length numbers → get_or numbers i 0 < length points
    → ((k : ℕ) → k < count → get_or points k 0 ≡ points_numbered (take i numbers) k)
    → (k : ℕ) → k < count → get_or (set points (get_or numbers i 0) (get_or points (get_or numbers i 0) 0 + 1)) k 0 ≡ points_numbered (take (i + 1) numbers) k
counted-some numbers points count i inside fits so_far k below =
    let n : ℕ = get_or numbers i 0 in
    elim (cases_eq k n) [
      | inl same ↦
          let yes : nat_eq n k ≡ true = grind (arith, nat_tests) in
          ap (λ j. get_or (set points n (get_or points n 0 + 1)) j 0) same ∙ get_or-set_same points n _ 0 fits ∙ ap (λ j. j + 1) (ap (λ j. get_or points j 0) (sym same) ∙ so_far k below)
          ∙ sym (count_by_more_yes (λ j. nat_eq j k) numbers i 0 inside yes)
      | inr other ↦
          let no : nat_eq n k ≡ false = grind (arith, nat_tests) in
          get_or-set_other points n k _ 0 other ∙ so_far k below ∙ sym (count_by_more_no (λ j. nat_eq j k) numbers i 0 inside no)
    ]

-- the same where no pit has the number
pub counted-none : (numbers points : List ℕ) (count i : ℕ) → i < length numbers → count ≤ get_or numbers i 0
    → ((k : ℕ) → k < count → get_or points k 0 ≡ points_numbered (take i numbers) k)
    → (k : ℕ) → k < count → get_or points k 0 ≡ points_numbered (take (i + 1) numbers) k
counted-none numbers points count i inside past so_far k below =
    let no : nat_eq (get_or numbers i 0) k ≡ false = grind (arith, nat_tests) in
    so_far k below ∙ sym (count_by_more_no (λ j. nat_eq j k) numbers i 0 inside no)

-- no number has more points than there are
pub points_numbered-le : (numbers : List ℕ) (i k : ℕ) → i ≤ length numbers → points_numbered (take i numbers) k ≤ i
points_numbered-le numbers i k within = omega (arith, count_by-le-length (λ n. nat_eq n k) (take i numbers), length-take-le i numbers within)
