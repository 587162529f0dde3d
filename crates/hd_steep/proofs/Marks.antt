-- How many places of a list are marked, where that is one at most, and which of them is lowest.
use Rattle.std.proofs.Common.{◌≡◌, ◌<◌, ◌≤◌, ◌+◌, ℕ, zero, suc, Bool, true, false, List, length, set, inl, inr, ap, refl, sym, subst, arith}
use Rattle.std.specs.Int.{from_bool}
use Rattle.std.proofs.lemmas.Bool.{cases_Bool, cases_eq, cases_lt, both_ways}
use Rattle.std.proofs.lemmas.List.{get_or_past, get_or-set_same, get_or-set_other}
use Rattle.hd_map.specs.declared.types.Adjacency.{Adjacency}
use Rattle.hd_map.specs.declared.types.Adjacency.TheVariants.{Four, Six, Eight}
use Rattle.hd_map.specs.Order.{IsNotAbove, IsStrictOrder}
use Rattle.hd_map.proofs.Order.{not_above-refl, not_above-trans, not_above-total}
use Rattle.hd_steep.specs.Ring.{is_marked, marks_of, IsOneAtMost}

-- places that are the first of their group are marked among eight
pub eight_marks : (adjacency : Adjacency) (lower : List Bool) → length (marks_of adjacency lower) ≡ 8
eight_marks Four lower = refl
eight_marks Six lower = refl
eight_marks Eight lower = refl

-- what holds of the marks before a place, and of the one written there, holds before the next place
pub marks_more : (P : ℕ → Bool → Type 0) (marks : List Bool) (x : ℕ) (mark : Bool) → x < length marks → ((k : ℕ) → k < x → P k (is_marked marks k)) → P x mark
    → (k : ℕ) → k < x + 1 → P k (is_marked (set marks x mark) k)
marks_more P marks x mark inside before here k below = elim (cases_eq k x) [
  | inl same ↦ subst (λ i. P i (is_marked (set marks x mark) i)) (sym same) (subst (P x) (sym (get_or-set_same marks x mark false inside)) here)
  | inr other ↦ subst (P k) (sym (get_or-set_other marks x k mark false other)) (before k (omega (arith, below, other)))
]

module _ (marks : List Bool) where
  -- how many of the first n places are marked
  abbrev count_to : ℕ → ℕ
  count_to zero = 0
  count_to (suc n) = count_to n + from_bool (is_marked marks n)

  counted_on : (n : ℕ) → count_to (suc n) ≡ count_to n + from_bool (is_marked marks n)
  counted_on n = refl

  -- a marked place counts one
  counts_one : (i n : ℕ) → i ≡ n → is_marked marks i ≡ true → from_bool (is_marked marks n) ≡ 1
  counts_one i n same is = ap from_bool (subst (λ k. is_marked marks k ≡ true) same is)

  -- one that is marked is counted
  one_counted : (n i : ℕ) → i < n → is_marked marks i ≡ true → 1 ≤ count_to n
  one_counted zero i below is = omega (arith, below)
  one_counted (suc n) i below is = let more = counted_on n in elim (cases_eq i n) [
    | inl same ↦ let one = counts_one i n same is in omega (arith, more, one)
    | inr other ↦ let before = one_counted n i (omega (arith, below, other)) is in omega (arith, more, before)
  ]

  -- and so are two
  two_counted : (n i j : ℕ) → i < j → j < n → is_marked marks i ≡ true → is_marked marks j ≡ true → 2 ≤ count_to n
  two_counted zero i j less below is is' = omega (arith, below)
  two_counted (suc n) i j less below is is' = let more = counted_on n in elim (cases_eq j n) [
    | inl same ↦
        let one = counts_one j n same is' in
        let before = one_counted n i (omega (arith, less, same)) is in omega (arith, more, one, before)
    | inr other ↦ let before = two_counted n i j less (omega (arith, below, other)) is is' in omega (arith, more, before)
  ]

  -- a place past the end is not marked
  pub marked_inside : (i : ℕ) → is_marked marks i ≡ true → i < length marks
  marked_inside i is = elim (cases_lt i (length marks)) [
    | inl inside ↦ inside
    | inr past ↦ absurd (both_ways (is_marked marks i) (get_or_past marks i false past) is)
  ]

  -- where one of eight places is marked at most, no two are
  pub one_of_eight : length marks ≡ 8
      → from_bool (is_marked marks 0) + from_bool (is_marked marks 1) + from_bool (is_marked marks 2) + from_bool (is_marked marks 3)
      + from_bool (is_marked marks 4) + from_bool (is_marked marks 5) + from_bool (is_marked marks 6) + from_bool (is_marked marks 7) ≤ 1
      → IsOneAtMost marks
  one_of_eight long few i j is is' =
      let inside = marked_inside i is in
      let inside' = marked_inside j is' in
      let all : count_to 8 ≡ 0 + from_bool (is_marked marks 0) + from_bool (is_marked marks 1) + from_bool (is_marked marks 2) + from_bool (is_marked marks 3)
      + from_bool (is_marked marks 4) + from_bool (is_marked marks 5) + from_bool (is_marked marks 6) + from_bool (is_marked marks 7) = refl in
      elim (cases_eq i j) [
        | inl same ↦ same
        | inr other ↦ elim (cases_lt i j) [
          | inl less ↦ let two : 2 ≤ count_to 8 = two_counted 8 i j less (omega (arith, inside', long)) is is' in absurd (omega (arith, two, few, all))
          | inr more ↦ let two : 2 ≤ count_to 8 = two_counted 8 j i (omega (arith, more, other)) (omega (arith, inside, long)) is' is in absurd (omega (arith, two, few, all))
        ]
      ]

module _ {V : Type 0} (below : V → V → Bool) (laws : IsStrictOrder below) (at : ℕ → V) (marks : List Bool) where
  -- of what stands at a marked one of the first n places none is below what stands at k
  pub record IsLowestTo (n k : ℕ) : Type 0 where
    pub marked : is_marked marks k ≡ true
    pub lowest : (j : ℕ) → j < n → is_marked marks j ≡ true → IsNotAbove below (at k) (at j)

  -- and at one place more
  lowest_more : (n k : ℕ) → IsLowestTo n k → (is_marked marks n ≡ true → IsNotAbove below (at k) (at n)) → IsLowestTo (suc n) k
  lowest_more n k before last = record {
    marked = before.marked;
    lowest = λ j inside is. elim (cases_eq j n) [
      | inl same ↦ subst (λ i. IsNotAbove below (at k) (at i)) (sym same) (last (subst (λ i. is_marked marks i ≡ true) same is))
      | inr other ↦ before.lowest j (omega (arith, inside, other)) is
    ];
  }

  -- where a place is marked, there is such a one
  pub lowest_marked : (n i : ℕ) → is_marked marks i ≡ true → (k : ℕ) × IsLowestTo n k
  lowest_marked zero i is = (i, record { marked = is; lowest = λ j inside. absurd (omega (arith, inside)) })
  lowest_marked (suc n) i is =
      let (k, before) = lowest_marked n i is in
      elim (not_above-total below laws (at k) (at n)) [
        | inl low ↦ (k, lowest_more n k before (λ marked. low))
        | inr low ↦ elim (cases_Bool (is_marked marks n)) [
          | inl marked ↦ (
            n,
            lowest_more n n (record { marked = marked; lowest = λ j inside is'. not_above-trans below laws (at n) (at k) (at j) low (before.lowest j inside is') })
                (λ is'. not_above-refl below laws (at n)),
          )
          | inr not ↦ (k, lowest_more n k before (λ marked. absurd (both_ways (is_marked marks n) not marked)))
        ]
      ]
