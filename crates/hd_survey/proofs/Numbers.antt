-- The points of a pit by its number, and by its index.
use Rattle.std.proofs.Common.{◌≡◌, ◌<◌, ◌≤◌, ◌+◌, ◌∙◌, ℕ, Bool, true, false, List, [], ◌∷◌, length, map, get_or, Option, Some, None, cond, inl, inr, refl, sym, ap, nat_eq, arith}
use Rattle.std.specs.Prelude.{AllPairs, count_by, if◌then◌else◌, nat_lt, pos}
use Rattle.std.specs.List.{fold}
use Rattle.std.specs.Option.{is_some, option_map}
use Rattle.std.proofs.lemmas.Bool.{cases_eq, cases_lt}
use Rattle.std.proofs.lemmas.Bool.Decides.{nat_tests}
use Rattle.std.proofs.lemmas.List.{get_or-map}
use Rattle.std.proofs.lemmas.Option.{cond_some, slice_get-get_or, slice_get_past}
use Rattle.hd_map.specs.declared.types.Rank.{Rank}
use Rattle.hd_steep.specs.Numbering.{Numbering, number_of, root_of, roots_of}
use Rattle.hd_steep.proofs.Numbered.{roots_of-at}
use Rattle.hd_steep.proofs.Pits.{rising_apart}
use Rattle.hd_survey.specs.Regions.{AreCountsOf, CountsPoints, names, points_numbered, points_of}
use Rattle.hd_survey.specs.Tallies.{numbered_below, rooted_below}
use Rattle.hd_survey.proofs.Lists.{filter_same}

-- a number that is read is one of a pit
pub number-some : (pits : List Rank) (n k : ℕ) → number_of pits n ≡ Some k → (n ≡ k) × (k < length pits)
number-some pits n k e =
    let parts = cond_some (nat_lt n (length pits)) n k e in
    let test = parts.0 in
    let same = parts.1 in
    (same, grind (arith, nat_tests))

none_some : (n : ℕ) → ◌≡◌ {A = Option ℕ} (Some n) None → ⊥
none_some n e = cc

-- and where none is read, no pit has it
pub number-none : (pits : List Rank) (n : ℕ) → number_of pits n ≡ None → length pits ≤ n
number-none pits n e = elim (cases_lt n (length pits)) [
  | inl below ↦ (let yes : nat_lt n (length pits) ≡ true = grind (arith, nat_tests) in
      absurd (none_some n (sym (ap (λ b. if b then Some n else None) yes) ∙ e)))
  | inr not ↦ omega (arith, not)
]

eq_both : (a b c d : ℕ) → (a ≡ b → c ≡ d) → (c ≡ d → a ≡ b) → nat_eq a b ≡ nat_eq c d
eq_both a b c d f g = elim (cases_eq a b) [
  | inl same ↦ (let other : c ≡ d = f same in grind (arith, nat_tests))
  | inr apart ↦ (let other : c ≡ d → ⊥ = λ h. apart (g h) in grind (arith, nat_tests))
]

-- what a mapped list counts
fold-map : {X Y : Type 0} (f : X → Y) (v : Y → ℕ) (w : X → ℕ) → ((x : X) → v (f x) ≡ w x) → (xs : List X) (n : ℕ) → fold (λ n y. n + v y) n (map f xs) ≡ fold (λ n x. n + w x) n xs
fold-map f v w same [] n = refl
fold-map f v w same (x ∷ xs) n = ap (λ k. fold (λ n y. n + v y) (n + k) (map f xs)) (same x) ∙ fold-map f v w same xs (n + w x)

count_by-map : {X Y : Type 0} (f : X → Y) (p : Y → Bool) (q : X → Bool) (xs : List X) → ((x : X) → p (f x) ≡ q x) → count_by p (map f xs) ≡ count_by q xs
count_by-map f p q xs same =
    let one : ℕ = 1 in
    let none : ℕ = 0 in
    fold-map f (λ y. cond (p y) one none) (λ x. cond (q x) one none) (λ x. ap (λ b. cond b one none) (same x)) xs 0

module _ (pits : List Rank) (ordered : AllPairs (λ a b. a.index < b.index) pits) where
  -- a point has the number of a pit where it has that root
  pub names-number : (n i : ℕ) (d : Rank) → i < length pits → names (root_of pits n) (get_or pits i d).index ≡ nat_eq n i
  names-number n i d inside = elim (cases_lt n (length pits)) [
    | inl below ↦
        ap (λ (o : Option Rank). names (option_map (λ (p : Rank). p.index) o) (get_or pits i d).index) (slice_get-get_or pits n d below)
        ∙ eq_both (get_or pits n d).index (get_or pits i d).index n i (rising_apart pits ordered n i d below inside) (ap (λ j. (get_or pits j d).index))
    | inr not ↦
        let no : nat_eq n i ≡ false = grind (arith, nat_tests) in
        ap (λ (o : Option Rank). names (option_map (λ (p : Rank). p.index) o) (get_or pits i d).index) (slice_get_past pits n (omega (arith, not))) ∙ sym no
  ]

  -- and so have as many
  pub points-numbered : (numbers : List ℕ) (i : ℕ) (d : Rank) → i < length pits → points_of (map (root_of pits) numbers) (get_or pits i d).index ≡ points_numbered numbers i
  points-numbered numbers i d inside =
      count_by-map (root_of pits) (λ root. names root (get_or pits i d).index) (λ n. nat_eq n i) numbers (λ n. names-number n i d inside)

  pub below-numbered : (numbers : List ℕ) (i n : ℕ) (d : Rank) → i < length pits → n ≤ length numbers
      → numbered_below numbers i n ≡ rooted_below (map (root_of pits) numbers) (get_or pits i d).index n
  below-numbered numbers i n d inside within =
      filter_same (λ k. nat_eq (get_or numbers k 0) i) (λ k. names (get_or (map (root_of pits) numbers) k None) (get_or pits i d).index) 0 n
      (λ k less. sym (ap (λ root. names root (get_or pits i d).index) (get_or-map (root_of pits) numbers k 0 None (omega (arith, less, within)))
      ∙ names-number (get_or numbers k 0) i d inside))

-- a number is read where a root is
some_both : (pits : List Rank) (n : ℕ) → is_some (number_of pits n) ≡ is_some (root_of pits n)
some_both pits n = elim (cases_lt n (length pits)) [
  | inl below ↦ (let yes : nat_lt n (length pits) ≡ true = grind (arith, nat_tests) in
      ap (λ b. is_some (if b then Some n else None)) yes ∙ sym (ap (λ (o : Option Rank). is_some (option_map (λ (p : Rank). p.index) o))
      (slice_get-get_or pits n (record { height = pos 0; index = 0 }) below)))
  | inr not ↦ (let no : nat_lt n (length pits) ≡ false = grind (arith, nat_tests) in
      ap (λ b. is_some (if b then Some n else None)) no ∙ sym (ap (λ (o : Option Rank). is_some (option_map (λ (p : Rank). p.index) o)) (slice_get_past pits n (omega (arith, not)))))
]

pub number-there : (regions : Numbering) (k : ℕ) → k < length regions.numbers → is_some (number_of regions.pits (get_or regions.numbers k 0)) ≡ is_some (get_or (roots_of regions) k None)
number-there regions k below = some_both regions.pits (get_or regions.numbers k 0) ∙ sym (ap is_some (roots_of-at regions k below))

-- the counts by number are those of the points that have the pits as their roots
pub counts_of : (regions : Numbering) (points : List ℕ) → AllPairs (λ (a b : Rank). a.index < b.index) regions.pits → CountsPoints regions points
    → AreCountsOf (roots_of regions) regions.pits points
counts_of regions points ordered are = record {
  whole = are.whole;
  each = λ n d inside. are.counted n inside ∙ sym (points-numbered regions.pits ordered regions.numbers n d inside);
}
