-- Round a place: lower places that are beside one another lead to the first of their group.
use Rattle.std.proofs.Common.{◌≡◌, ◌<◌, ◌+◌, ◌&&◌, not, ℕ, zero, suc, Bool, true, false, List, [], ◌∷◌, get_or, inl, inr, refl}
use Rattle.std.proofs.Math.Dec.{eqb, leb}
use Rattle.std.proofs.lemmas.Bool.{cases_Bool, and_parts, and_from, leb-true, eq-eqb, not-true, agree_below_at}
use Rattle.hd_map.specs.Neighbour.{IsNear}
use Rattle.hd_steep.specs.Ring.{is_marked, first_of}

-- the column and the profile of a place of the ring, and of the one in the middle as the eighth, counted
-- from those of the first corner
abbrev pub column_of : ℕ → ℕ
column_of k = get_or (1 ∷ 2 ∷ 2 ∷ 2 ∷ 1 ∷ 0 ∷ 0 ∷ 0 ∷ 1 ∷ []) k 9

abbrev pub profile_of : ℕ → ℕ
profile_of k = get_or (0 ∷ 0 ∷ 1 ∷ 2 ∷ 2 ∷ 2 ∷ 1 ∷ 0 ∷ 1 ∷ []) k 9

-- whether two numbers differ by at most one
abbrev near_test : ℕ → ℕ → Bool
near_test a b = leb a (b + 1) && leb b (a + 1)

-- whether two places are one
abbrev same_test : ℕ → ℕ → Bool
same_test i j = eqb (column_of i) (column_of j) && eqb (profile_of i) (profile_of j)

-- whether two places are beside each other
abbrev pub are_close : ℕ → ℕ → Bool
are_close i j = near_test (column_of i) (column_of j) && (near_test (profile_of i) (profile_of j) && not (same_test i j))

-- two places are beside each other
pub record AreClose (i j : ℕ) : Type 0 where
  pub columns : IsNear (column_of i) (column_of j)
  pub profiles : IsNear (profile_of i) (profile_of j)
  pub different : column_of i ≡ column_of j → profile_of i ≡ profile_of j → ⊥

-- numbers that pass the test are near
near_from_test : (a b : ℕ) → near_test a b ≡ true → IsNear a b
near_from_test a b h = let parts = and_parts (leb a (b + 1)) (leb b (a + 1)) h in (leb-true a (b + 1) parts.0, leb-true b (a + 1) parts.1)

-- places that pass the test are beside each other
pub close_from_test : (i j : ℕ) → are_close i j ≡ true → AreClose i j
close_from_test i j h =
    let one = and_parts (near_test (column_of i) (column_of j)) (near_test (profile_of i) (profile_of j) && not (same_test i j)) h in
    let two = and_parts (near_test (profile_of i) (profile_of j)) (not (same_test i j)) one.1 in
    record {
      columns = near_from_test (column_of i) (column_of j) one.0;
      profiles = near_from_test (profile_of i) (profile_of j) two.0;
      different = λ c p. (let same = and_from (eqb (column_of i) (column_of j)) (eqb (profile_of i) (profile_of j)) (eq-eqb (column_of i) (column_of j) c) (eq-eqb (profile_of i) (profile_of j) p) in
          let not = not-true (same_test i j) two.1 in cc);
    }

-- the places of the ring are beside the one in the middle
pub close_middle : (k : ℕ) → k < 8 → are_close 8 k ≡ true
close_middle k below = agree_below_at (are_close 8) (λ i. true) 8 k refl below

module _ (J : ℕ → ℕ → Type 0) (itself : (i : ℕ) → J i i) (onward : (i j k : ℕ) → J i j → J j k → J i k)
    (n ne e se s sw w nw : Bool) where
  abbrev lower : List Bool
  lower = n ∷ ne ∷ e ∷ se ∷ s ∷ sw ∷ w ∷ nw ∷ []

  abbrev first : List Bool
  first = first_of n ne e se s sw w nw

  -- the place leads to one that is first
  pub record LeadsFirst (i : ℕ) : Type 0 where
    pub last : ℕ
    pub is_first : is_marked first last ≡ true
    pub along : J i last

  -- by way of another place
  by_way : (i j : ℕ) → J i j → LeadsFirst j → LeadsFirst i
  by_way i j to leads = record { last = leads.last; is_first = leads.is_first; along = onward i j leads.last to leads.along }

  -- at once
  at_once : (i : ℕ) → is_marked first i ≡ true → LeadsFirst i
  at_once i is = record { last = i; is_first = is; along = itself i }

  module _ (beside : (i j : ℕ) → are_close i j ≡ true → is_marked lower i ≡ true → is_marked lower j ≡ true → J i j) where
    from_north : n ≡ true → LeadsFirst 0
    from_north hn = at_once 0 hn

    from_east : e ≡ true → LeadsFirst 2
    from_east he = elim (cases_Bool n) [
      | inl hn ↦ by_way 2 0 (beside 2 0 refl he hn) (from_north hn)
      | inr hn ↦ at_once 2 (rw (he, hn) refl)
    ]

    from_south : s ≡ true → LeadsFirst 4
    from_south hs = elim (cases_Bool e) [
      | inl he ↦ by_way 4 2 (beside 4 2 refl hs he) (from_east he)
      | inr he ↦ elim (cases_Bool w) [
        | inl hw ↦ elim (cases_Bool n) [
          | inl hn ↦ by_way 4 6 (beside 4 6 refl hs hw)
              (by_way 6 0 (beside 6 0 refl hw hn) (from_north hn))
          | inr hn ↦ at_once 4 (rw (hs, he, hw, hn) refl)
        ]
        | inr hw ↦ at_once 4 (rw (hs, he, hw) refl)
      ]
    ]

    from_west : w ≡ true → LeadsFirst 6
    from_west hw = elim (cases_Bool n) [
      | inl hn ↦ by_way 6 0 (beside 6 0 refl hw hn) (from_north hn)
      | inr hn ↦ elim (cases_Bool s) [
        | inl hs ↦ by_way 6 4 (beside 6 4 refl hw hs) (from_south hs)
        | inr hs ↦ at_once 6 (rw (hw, hs, hn) refl)
      ]
    ]

    -- a corner leads to the first of the places on its two sides, or is first itself
    from_corner : (k i j : ℕ) → are_close k i ≡ true → are_close k j ≡ true → (is_marked lower i ≡ true → LeadsFirst i) → (is_marked lower j ≡ true → LeadsFirst j)
        → (is_marked lower i ≡ false → is_marked lower j ≡ false → is_marked first k ≡ true) → is_marked lower k ≡ true → LeadsFirst k
    from_corner k i j close close' from from' alone here = elim (cases_Bool (is_marked lower i)) [
      | inl there ↦ by_way k i (beside k i close here there) (from there)
      | inr not ↦ elim (cases_Bool (is_marked lower j)) [
        | inl there ↦ by_way k j (beside k j close' here there) (from' there)
        | inr not' ↦ at_once k (alone not not')
      ]
    ]

    -- each lower place leads to one that is first
    pub leads_first : (k : ℕ) → is_marked lower k ≡ true → LeadsFirst k
    leads_first zero h = from_north h
    leads_first (suc zero) h = from_corner 1 0 2 refl refl from_north from_east (λ a b. rw (h, a, b) refl) h
    leads_first (suc (suc zero)) h = from_east h
    leads_first (suc (suc (suc zero))) h = from_corner 3 2 4 refl refl from_east from_south (λ a b. rw (h, a, b) refl) h
    leads_first (suc (suc (suc (suc zero)))) h = from_south h
    leads_first (suc (suc (suc (suc (suc zero))))) h = from_corner 5 4 6 refl refl from_south from_west (λ a b. rw (h, a, b) refl) h
    leads_first (suc (suc (suc (suc (suc (suc zero)))))) h = from_west h
    leads_first (suc (suc (suc (suc (suc (suc (suc zero))))))) h = from_corner 7 6 0 refl refl from_west from_north (λ a b. rw (h, a, b) refl) h
    leads_first (suc (suc (suc (suc (suc (suc (suc (suc k)))))))) h = absurd cc
