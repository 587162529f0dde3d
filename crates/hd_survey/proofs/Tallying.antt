-- How the points of regions are counted, number by number.
use Rattle.std.proofs.Common.{◌≡◌, ◌<◌, ◌≤◌, ◌+◌, ◌++◌, ℕ, ℤ, zero, suc, Bool, true, false, List, [], ◌∷◌, length, get_or, Option, Some, None, sym, ap, ◌∙◌, subst, nat_eq, arith, append-nil}
use Rattle.std.specs.Prelude.{All, filter}
use Rattle.std.specs.List.{cons_option, range_with_len}
use Rattle.std.proofs.lemmas.Bool.Decides.{nat_tests}
use Rattle.std.proofs.lemmas.List.{length_push}
use Rattle.std.proofs.lemmas.List.Elements.{filter-append, filter_map-append}
use Rattle.std.proofs.lemmas.List.Sums.{count_by-le-length, length-filter}
use Rattle.std.proofs.lemmas.List.FromFn.{length-range_with_len}
use Rattle.hd_map.specs.declared.height_range.HeightRange.{HeightRange}
use Rattle.hd_map.specs.Map.{Map, position_at}
use Rattle.hd_map.specs.HeightRange.{range_of}
use Rattle.hd_map.proofs.Presences.{range_more}
use Rattle.hd_steep.specs.Numbering.{Numbering}
use Rattle.hd_regions.specs.declared.tally.Tally.{Tally}
use Rattle.hd_survey.specs.Edges.{edge_height, edge_heights}
use Rattle.hd_survey.specs.Tallies.{AddsPoint, AreTallies, edge_with, numbered_below, tally_after, tally_of}

range_last : (a n j : ℕ) → a + n ≡ j → range_with_len a (suc n) ≡ range_with_len a n ++ j ∷ []
range_last a zero j e = let same : a ≡ j = omega (arith, e) in ap (λ k. k ∷ []) same
range_last a (suc n) j e = ap (λ xs. a ∷ xs) (range_last (a + 1) n j (omega (arith, e)))

pub counting_more : (n : ℕ) → range_with_len 0 (n + 1) ≡ range_with_len 0 n ++ n ∷ []
counting_more n = let one : n + 1 ≡ suc n = omega arith in ap (range_with_len 0) one ∙ range_last 0 n n (omega arith)

module _ (m : Map) where
  abbrev pub edge_at : ℕ → Option ℤ
  edge_at k = edge_height m (position_at m.size k)

  range_with : (heights : List ℤ) (height : Option ℤ) → edge_with (range_of heights) height ≡ range_of (heights ++ cons_option height [])
  range_with heights None = ap range_of (sym (append-nil heights))
  range_with heights (Some height) = sym (range_more heights height)

  same_tally : (a b : ℕ) (r s : Option HeightRange) → a ≡ b → r ≡ s → ◌≡◌ {A = Tally} (record { points = a; edge = r }) (record { points = b; edge = s })
  same_tally a b r s e f = cc

  -- a tally with one more point, or the same
  pub tally_step : (b : Bool) (points : List ℕ) (k : ℕ) → tally_after b (tally_of m points) (edge_at k) ≡ tally_of m (points ++ filter (λ x. b) (k ∷ []))
  tally_step true points k = same_tally _ _ _ _ (sym (length_push points k))
      (range_with (edge_heights m points) (edge_at k) ∙ ap range_of (sym (filter_map-append edge_at points (k ∷ []))))
  tally_step false points k = ap (tally_of m) (sym (append-nil points))

  module _ (regions : Numbering) where
    abbrev number_at : ℕ → ℕ
    number_at k = get_or regions.numbers k 0

    numbered_more : (i n : ℕ) → numbered_below regions.numbers i (n + 1) ≡ numbered_below regions.numbers i n ++ filter (λ x. nat_eq (number_at n) i) (n ∷ [])
    numbered_more i n = ap (filter (λ k. nat_eq (number_at k) i)) (counting_more n)
        ∙ filter-append (λ k. nat_eq (number_at k) i) (range_with_len 0 n) (n ∷ [])

    -- a point without a pit
    pub tallies_pass : (n : ℕ) (tallies : List Tally) → length regions.pits ≤ number_at n → AreTallies m regions n tallies → AreTallies m regions (n + 1) tallies
    tallies_pass n tallies past before = record {
      whole = before.whole;
      each = λ i d below.
          let no : nat_eq (number_at n) i ≡ false = grind (arith, nat_tests) in
          before.each i d below ∙ tally_step false (numbered_below regions.numbers i n) n
          ∙ ap (λ b. tally_of m (numbered_below regions.numbers i n ++ filter (λ x. b) (n ∷ []))) (sym no) ∙ ap (tally_of m) (sym (numbered_more i n));
    }

    -- a point of a pit
    pub tallies_add : (n : ℕ) (old new : List Tally) → AddsPoint old (number_at n) (edge_at n) new → AreTallies m regions n old → AreTallies m regions (n + 1) new
    tallies_add n old new adds before = record {
      whole = adds.whole ∙ before.whole;
      each = λ i d below.
          let points = numbered_below regions.numbers i n in
          adds.each i d (subst (λ n. i < n) (sym before.whole) below)
          ∙ ap (λ t. tally_after (nat_eq (number_at n) i) t (edge_at n)) (before.each i d below)
          ∙ tally_step (nat_eq (number_at n) i) points n ∙ ap (tally_of m) (sym (numbered_more i n));
    }

    filter_few : (p : ℕ → Bool) (xs : List ℕ) → length (filter p xs) ≤ length xs
    filter_few p xs = omega (arith, length-filter p xs, count_by-le-length p xs)

    -- no tally has more points than were seen
    pub tallies_few : (n : ℕ) (tallies : List Tally) → AreTallies m regions n tallies → All (λ t. t.points ≤ n) tallies
    tallies_few n tallies are i d below =
        let e : (get_or tallies i d).points ≡ length (numbered_below regions.numbers i n) = ap (λ (t : Tally). t.points) (are.each i d (subst (λ k. i < k) are.whole below)) in
        let few = filter_few (λ k. nat_eq (number_at k) i) (range_with_len 0 n) in
        omega (arith, e, few, length-range_with_len 0 n)
