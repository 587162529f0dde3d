-- Keys, and the ranks for which they stand.
use Rattle.std.proofs.Common.{◌≡◌, ◌<◌, ◌≤◌, ◌+◌, ◌-◌, ◌⊎◌, ℕ, ℤ, zero, suc, neg_ℤ, Bool, List, [], ◌∷◌, length, length-set, get_or-set_other}
use Rattle.std.proofs.Common.{get_or-set_same, slice_set, inl, inr, Option, Some, None, refl, ap, sym, subst, ◌∙◌, arith}
use Rattle.std.specs.Prelude.{not, slice_index_or}
use Rattle.std.proofs.lemmas.Int.{ints}
use Rattle.std.proofs.lemmas.Bool.{cases_eq, cases_lt}
use Rattle.std.proofs.lemmas.List.{get_or_default, get_or_past}
use Rattle.std.proofs.lemmas.Bool.Decides.{nat_tests}
use Rattle.hd_map.specs.declared.types.Rank.{Rank}
use Rattle.hd_map.specs.declared.types.SideName.{SideName}
use Rattle.hd_map.specs.declared.types.SideName.TheVariants.{Dales, Hills}
use Rattle.hd_map.specs.Encoding.{Encoding, most_filtered, number_in}
use Rattle.hd_map.specs.Lanes.{IsBounded, IsNegated, IsPlainNumber, exceeds}
use Rattle.hd_map.specs.Ranks.{rank_shown}
use Rattle.hd_steep.specs.Keys.{on_side, most_of_map, ArePlain, AreTurned, IsKey, IsKeyOf, IsTurned, rank_of, ranks_in}
use Rattle.hd_steep.specs.Lowest.{missing, earlier_below, later_below}
use Rattle.hd_steep.specs.Rows.{rank_in}

-- the rank of a value at an index
abbrev rank_for : SideName → ℕ → Option ℤ → Rank
rank_for side index value = rank_shown (missing side) index (on_side side value)

-- whether the second of two values is below the first, by the values alone
abbrev pub later_value : SideName → Option ℤ → Option ℤ → Bool
later_value Dales earlier later = exceeds later earlier
later_value Hills earlier later = not (exceeds earlier later)

-- and whether the first is below the second
abbrev pub earlier_value : SideName → Option ℤ → Option ℤ → Bool
earlier_value Dales earlier later = not (exceeds later earlier)
earlier_value Hills earlier later = exceeds earlier later

-- what the values tell of the later one, they tell of their ranks
pub later-value : (side : SideName) (i j : ℕ) (a b : Option ℤ) → IsBounded most_of_map a → IsBounded most_of_map b → later_value side a b ≡ later_below side (rank_for side j b) (rank_for side i a)
later-value Dales i j None None of of' = grind (arith, ints, nat_tests)
later-value Dales i j None (Some y) of of' = let low = of'.least y refl in grind (arith, ints, nat_tests)
later-value Dales i j (Some x) None of of' = let low = of.least x refl in grind (arith, ints, nat_tests)
later-value Dales i j (Some x) (Some y) of of' = grind (arith, ints, nat_tests)
later-value Hills i j None None of of' = grind (arith, ints, nat_tests)
later-value Hills i j None (Some y) of of' = let low = of'.least y refl in grind (arith, ints, nat_tests)
later-value Hills i j (Some x) None of of' = let low = of.least x refl in grind (arith, ints, nat_tests)
later-value Hills i j (Some x) (Some y) of of' = grind (arith, ints, nat_tests)

-- and of the earlier one
pub earlier-value : (side : SideName) (i j : ℕ) (a b : Option ℤ) → IsBounded most_of_map a → IsBounded most_of_map b
    → earlier_value side a b ≡ earlier_below side (rank_for side i a) (rank_for side j b)
earlier-value Dales i j None None of of' = grind (arith, ints, nat_tests)
earlier-value Dales i j None (Some y) of of' = let low = of'.least y refl in grind (arith, ints, nat_tests)
earlier-value Dales i j (Some x) None of of' = let low = of.least x refl in grind (arith, ints, nat_tests)
earlier-value Dales i j (Some x) (Some y) of of' = grind (arith, ints, nat_tests)
earlier-value Hills i j None None of of' = grind (arith, ints, nat_tests)
earlier-value Hills i j None (Some y) of of' = let low = of'.least y refl in grind (arith, ints, nat_tests)
earlier-value Hills i j (Some x) None of of' = let low = of.least x refl in grind (arith, ints, nat_tests)
earlier-value Hills i j (Some x) (Some y) of of' = grind (arith, ints, nat_tests)

-- a height comes back
pub on_side-twice : (side : SideName) (value : Option ℤ) → on_side side (on_side side value) ≡ value
on_side-twice Dales None = refl
on_side-twice Dales (Some z) = ap Some (let e : neg_ℤ (neg_ℤ z) ≡ z = omega (arith, ints) in e)
on_side-twice Hills value = refl

-- none stays none
pub on_side-none : (side : SideName) → on_side side None ≡ None
on_side-none Dales = refl
on_side-none Hills = refl

-- bounds of either sign
on_side-bounded : (side : SideName) (n : ℕ) (value : Option ℤ) → IsBounded n value → IsBounded n (on_side side value)
on_side-bounded Dales n None within = record { least = λ z e. absurd (cc e); greatest = λ z e. absurd (cc e) }
on_side-bounded Dales n (Some x) within =
    let low = within.least x refl in
    let high = within.greatest x refl in
    record {
      least = λ z e. let is : neg_ℤ x ≡ z = cc in omega (arith, ints);
      greatest = λ z e. let is : neg_ℤ x ≡ z = cc in omega (arith, ints);
    }
on_side-bounded Hills n value within = within

-- a height is there or not
pub cases_option : (value : Option ℤ) → (value ≡ None) ⊎ ((z : ℤ) × (value ≡ Some z))
cases_option None = inl refl
cases_option (Some z) = inr (z, refl)

-- the rank of a height has the index
shown_index : (side : SideName) (index : ℕ) (z : ℤ) → (rank_for side index (Some z)).index ≡ index
shown_index Dales index z = refl
shown_index Hills index z = refl

-- and is not the one where no point is present
shown_apart : (side : SideName) (index : ℕ) (z : ℤ) → IsBounded most_of_map (Some z) → rank_for side index (Some z) ≡ missing side → ⊥
shown_apart Dales index z within e = let low = within.least z refl in let h = ap (λ (r : Rank). r.height) e in omega (arith, ints, low, h)
shown_apart Hills index z within e = let low = within.least z refl in let h = ap (λ (r : Rank). r.height) e in omega (arith, ints, low, h)

module _ {L : Type 0} (code : Encoding L) where
  -- what stands for no height is plain
  pub missing_plain : IsPlainNumber code (most_filtered code) code.missing
  missing_plain = record {
    bounded = record {
      least = λ z is. absurd (let e : None ≡ Some z = sym code.missing_none ∙ is in cc);
      greatest = λ z is. absurd (let e : None ≡ Some z = sym code.missing_none ∙ is in cc);
    };
    absent = λ none. refl;
  }

  -- and is a key
  pub missing_key : IsKey code code.missing
  missing_key = record {
    plain = missing_plain;
    limits = record {
      least = λ z is. absurd (let e : None ≡ Some z = sym code.missing_none ∙ is in cc);
      greatest = λ z is. absurd (let e : None ≡ Some z = sym code.missing_none ∙ is in cc);
    };
  }

  -- a height becomes its key on the side of dales by its negative
  pub negated_turned : (old new : L) → IsPlainNumber code (most_filtered code) old → IsNegated code old new → IsTurned code Dales old new
  negated_turned old new plain negated = record {
    value = negated.value;
    plain = record {
      bounded = subst (IsBounded (most_filtered code)) (sym negated.value) (on_side-bounded Dales (most_filtered code) (code.shown old) plain.bounded);
      absent = λ none. negated.absent (sym (on_side-twice Dales (code.shown old)) ∙ ap (on_side Dales) (sym negated.value ∙ none));
    };
  }

  -- and on that of hills it stays
  pub plain_turned : (old : L) → IsPlainNumber code (most_filtered code) old → IsTurned code Hills old old
  plain_turned old plain = record { value = refl; plain = plain }

  -- the numbers of a row before a place have become keys on the side of dales
  pub record AreNegatedTo (old new : List L) (x : ℕ) : Type 0 where
    pub whole : length new ≡ length old
    pub turned : (k : ℕ) → k < x → IsTurned code Dales (number_in code old k) (number_in code new k)
    pub others : (k : ℕ) → x ≤ k → number_in code new k ≡ number_in code old k

  -- the number at a place that is read
  pub number_read : (keys : List L) (x : ℕ) (number : L) → x < length keys → number ≡ slice_index_or keys x number → number ≡ number_in code keys x
  number_read keys x number inside is = is ∙ get_or_default keys x number code.missing inside

  -- none yet
  pub negated_none : (old : List L) → AreNegatedTo old old 0
  negated_none old = record { whole = refl; turned = λ k below. absurd (omega arith); others = λ k above. refl }

  module _ (old new : List L) (x : ℕ) (plain : ArePlain code old) (before : AreNegatedTo old new x) where
    module _ (number : L) (inside : x < length new) (is : number ≡ slice_index_or new x number) where
      -- the next one is as it was
      next_is : number ≡ number_in code old x
      next_is = number_read new x number inside is ∙ before.others x (omega arith)

      -- and plain
      pub next_plain : IsPlainNumber code (most_filtered code) number
      next_plain = subst (IsPlainNumber code (most_filtered code)) (sym next_is) (plain x)

      -- one more
      pub negated_more : (negated : L) → IsNegated code number negated → AreNegatedTo old (slice_set new x negated) (x + 1)
      negated_more negated of = record {
        whole = length-set new x negated ∙ before.whole;
        turned = λ k below. elim (cases_eq k x) [
          | inl same ↦ rw (same, get_or-set_same new x negated code.missing inside) (negated_turned (number_in code old x) negated (plain x) (subst (λ (n : L). IsNegated code n negated) next_is of))
          | inr other ↦ rw (get_or-set_other new x k negated code.missing other) (before.turned k (omega (arith, below, other)))
        ];
        others = λ k above. rw (get_or-set_other new x k negated code.missing (λ e. omega (arith, e, above))) (before.others k (omega (arith, above)));
      }

    -- all of them
    pub negated_all : length new ≤ x → AreTurned code Dales old new
    negated_all end = record {
      whole = before.whole;
      each = λ k. elim (cases_lt k x) [
        | inl below ↦ before.turned k below
        | inr past ↦
            let old_none : number_in code old k ≡ code.missing = get_or_past old k code.missing (let w = before.whole in omega (arith, w, past, end)) in
            let same = before.others k past in
            rw (same, old_none) (record { value = code.missing_none ∙ sym (on_side-none Dales) ∙ ap (on_side Dales) (sym code.missing_none); plain = missing_plain })
      ];
    }

  module _ (side : SideName) where
    -- what stands for no height stays
    pub turned_missing : (old new : L) → IsTurned code side old new → old ≡ code.missing → new ≡ code.missing
    turned_missing old new turned none = turned.plain.absent (turned.value ∙ ap (on_side side) (ap code.shown none ∙ code.missing_none) ∙ on_side-none side)

    -- the key of a height of a map
    pub turned_key : (height : Option ℤ) (old new : L) → IsBounded most_of_map height → code.shown old ≡ height → IsTurned code side old new → IsKeyOf code side height new
    turned_key height old new within shown turned =
        let is : code.shown new ≡ on_side side height = turned.value ∙ ap (on_side side) shown in
        record {
          is = is;
          stands = record { plain = turned.plain; limits = subst (IsBounded most_of_map) (sym is) (on_side-bounded side most_of_map height within) };
        }

    -- the rank for which a key stands
    pub rank_of_key : (index : ℕ) (height : Option ℤ) (key : L) → IsKeyOf code side height key → rank_of code side index key ≡ rank_shown (missing side) index height
    rank_of_key index height key of = ap (rank_shown (missing side) index) (ap (on_side side) of.is ∙ on_side-twice side height)

    -- and where it stands for none
    pub rank_of_missing : (index : ℕ) (key : L) → code.shown key ≡ None → rank_of code side index key ≡ missing side
    rank_of_missing index key none = ap (rank_shown (missing side) index) (ap (on_side side) none ∙ on_side-none side)

    -- and where it stands for a height
    pub rank_of_some : (index : ℕ) (key : L) (z : ℤ) → code.shown key ≡ Some z → (rank_of code side index key).index ≡ index
    rank_of_some index key z some = ap (λ (v : Option ℤ). (rank_shown (missing side) index (on_side side v)).index) some ∙ shown_index side index z

    -- that is then not the one where no point is present
    pub key_apart : (index : ℕ) (key : L) (z : ℤ) → IsKey code key → code.shown key ≡ Some z → rank_of code side index key ≡ missing side → ⊥
    key_apart index key z of some e = shown_apart side index z (subst (IsBounded most_of_map) some of.limits) (sym (ap (λ (v : Option ℤ). rank_shown (missing side) index (on_side side v)) some) ∙ e)

    -- a rank for each key
    pub ranks_length : (first : ℕ) (keys : List L) → length (ranks_in code side first keys) ≡ length keys
    ranks_length first [] = refl
    ranks_length first (key ∷ keys) = ap suc (ranks_length (suc first) keys)

    -- at each place that for which its key stands
    pub rank_at_key : (first : ℕ) (keys : List L) (k : ℕ) → k < length keys → rank_in (ranks_in code side first keys) k ≡ rank_of code side (first + k - 1) (number_in code keys k)
    rank_at_key first [] k below = absurd (omega (arith, below))
    rank_at_key first (key ∷ keys) zero below = ap (λ i. rank_of code side i key) (let e : first - 1 ≡ first + 0 - 1 = omega arith in e)
    rank_at_key first (key ∷ keys) (suc k) below =
        rank_at_key (suc first) keys k (omega (arith, below)) ∙ ap (λ i. rank_of code side i (number_in code keys k)) (let e : suc first + k - 1 ≡ first + suc k - 1 = omega arith in e)
