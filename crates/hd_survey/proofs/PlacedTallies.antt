-- The tallies of regions, taken together by owner.
use Rattle.std.proofs.Common.{◌≡◌, ◌<◌, ◌+◌, ◌∙◌, ℕ, ℤ, Bool, true, false, List, length, get_or, drop, drop-cons, Option, Some, None, refl, sym, ap, subst, arith, add-one}
use Rattle.std.specs.Prelude.{if◌then◌else◌}
use Rattle.std.specs.Int.{int_min, int_max}
use Rattle.std.proofs.lemmas.Int.{ints, int_min_is, int_max_is}
use Rattle.hd_map.specs.declared.height_range.HeightRange.{HeightRange}
use Rattle.hd_prune.specs.declared.step.Owned.{Owned}
use Rattle.hd_regions.specs.declared.tally.Tally.{Tally}
use Rattle.hd_survey.specs.Owned.{JoinsAt, is_placed, joined_of}
use Rattle.hd_survey.specs.Tallies.{joined, joined_ranges, no_tally}

min_assoc : (a b c : ℤ) → int_min (int_min a b) c ≡ int_min a (int_min b c)
min_assoc a b c = omega (arith, ints, int_min_is a b, int_min_is (int_min a b) c, int_min_is b c, int_min_is a (int_min b c))

max_assoc : (a b c : ℤ) → int_max (int_max a b) c ≡ int_max a (int_max b c)
max_assoc a b c = omega (arith, ints, int_max_is a b, int_max_is (int_max a b) c, int_max_is b c, int_max_is a (int_max b c))

same_range : (a b c d : ℤ) → a ≡ b → c ≡ d → ◌≡◌ {A = Option HeightRange} (Some (record { least = a; greatest = c })) (Some (record { least = b; greatest = d }))
same_range a b c d e f = cc

same_tally : (a b : ℕ) (r s : Option HeightRange) → a ≡ b → r ≡ s → ◌≡◌ {A = Tally} (record { points = a; edge = r }) (record { points = b; edge = s })
same_tally a b r s e f = cc

ranges_assoc : (a b c : Option HeightRange) → joined_ranges (joined_ranges a b) c ≡ joined_ranges a (joined_ranges b c)
ranges_assoc None b c = refl
ranges_assoc (Some a) None c = refl
ranges_assoc (Some a) (Some b) None = refl
ranges_assoc (Some a) (Some b) (Some c) = same_range _ _ _ _ (min_assoc a.least b.least c.least) (max_assoc a.greatest b.greatest c.greatest)

joined_assoc : (a b c : Tally) → joined (joined a b) c ≡ joined a (joined b c)
joined_assoc a b c = same_tally _ _ _ _ (omega arith) (ranges_assoc a.edge b.edge c.edge)

pub none_joined : (a : Tally) → joined no_tally a ≡ a
none_joined a = same_tally _ _ _ _ (omega arith) refl

join_step : (b : Bool) (x t rest : Tally) → joined (if b then joined x t else x) rest ≡ joined x (if b then joined t rest else rest)
join_step true x t rest = joined_assoc x t rest
join_step false x t rest = refl

-- the tallies of the places so far, and of the pits that are left
pub record ArePlacedBefore (count : ℕ) (places : List ℕ) (owners : List Owned) (tallies : List Tally) (k : ℕ) (all : List Tally) : Type 0 where
  pub whole : length all ≡ count
  pub each : (i : ℕ) (d : Tally) → i < count
      → joined (get_or all i d) (joined_of (is_placed places i) (drop k owners) (drop k tallies)) ≡ joined_of (is_placed places i) owners tallies

-- one more pit
pub placed_more : (count : ℕ) (places : List ℕ) (owners : List Owned) (tallies : List Tally) (k : ℕ) (old new : List Tally) (o : Owned) (t : Tally) → k < length owners → k < length tallies
    → JoinsAt old (get_or places (get_or owners k o).owner.index 0) (get_or tallies k t) new → ArePlacedBefore count places owners tallies k old
    → ArePlacedBefore count places owners tallies (k + 1) new
placed_more count places owners tallies k old new o t inside within joins before = record {
  whole = joins.whole ∙ before.whole;
  each = λ i d below.
      let p : Owned → Bool = is_placed places i in
      let b : Bool = p (get_or owners k o) in
      let x : Tally = get_or old i d in
      let rest : Tally = joined_of p (drop (k + 1) owners) (drop (k + 1) tallies) in
      let left : joined_of p (drop k owners) (drop k tallies) ≡ (if b then joined (get_or tallies k t) rest else rest) =
      rw (drop-cons owners k o inside, drop-cons tallies k t within, add-one) refl in
      ap (λ y. joined y rest) (joins.each i d (subst (λ n. i < n) (sym before.whole) below))
      ∙ join_step b x (get_or tallies k t) rest
      ∙ ap (joined x) (sym left)
      ∙ before.each i d below;
}
