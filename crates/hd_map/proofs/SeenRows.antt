-- The points that were seen, and one more by the number that stands for its height.
use Rattle.std.proofs.Common.{◌≡◌, ◌≤ℤ◌, ◌+◌, ◌++◌, ◌∙◌, ℕ, ℤ, Bool, true, false, List, [], ◌∷◌, Option, Some, None, ap, sym, arith, append-nil}
use mir.Syntax.{w32}
use Rattle.std.specs.Prelude.{FitsSigned, if◌then◌else◌, is_some, MatchOption}
use Rattle.std.specs.Int.{int_min, int_max}
use Rattle.std.specs.List.{cons_option}
use Rattle.std.proofs.lemmas.Int.{ints, by_lt_z, clamps}
use Rattle.std.proofs.lemmas.List.{length_push}
use Rattle.hd_map.specs.declared.by_rows.Seen.{Seen}
use Rattle.hd_map.specs.declared.height_range.HeightRange.{HeightRange}
use Rattle.hd_map.specs.Encoding.{narrow, narrow_floor}
use Rattle.hd_map.specs.HeightRange.{range_of, widened}
use Rattle.hd_map.specs.Lanes.{IsPlainHeight}
use Rattle.hd_map.specs.Seen.{AreNoneSeen, AreSeen, greatest_number, or_greatest}
use Rattle.hd_map.proofs.Lanes.{shown_above, shown_below}
use Rattle.hd_map.proofs.Presences.{range_more}

-- the greatest number, too, is one of 32 bits
pub or_greatest-fits : (number : ℤ) → FitsSigned w32 number → FitsSigned w32 (or_greatest number)
or_greatest-fits number fits = pick (is_some (narrow.shown number))
  where
    pick : (shows : Bool) → FitsSigned w32 (if shows then number else greatest_number)
    pick true = fits
    pick false = omega (arith, ints)

-- a number that stands for a height is that height, and above the number for none
itself : (number z : ℤ) → narrow.shown number ≡ Some z → (number ≡ z) × (narrow.missing ≤ℤ number)
itself number z is = by_lt_z narrow_floor number
    (λ above. let e : Some number ≡ Some z = sym (shown_above narrow_floor number above) ∙ is in (cc, omega (arith, ints, above)))
    (λ below. let e : None ≡ Some z = sym (shown_below narrow_floor number below) ∙ is in absurd (cc e))

-- the same points, since the number stands for no height
none_more : (heights : List ℤ) (seen next : Seen) → AreSeen heights seen → next.count ≡ seen.count + 0 → next.least ≡ int_min seen.least greatest_number
    → next.greatest ≡ int_max seen.greatest narrow.missing → AreSeen heights next
none_more heights seen next so count least greatest =
    let below = so.least.high in
    let above = so.greatest.low in
    let low : next.least ≡ seen.least = omega (arith, ints, clamps, least, below) in
    let high : next.greatest ≡ seen.greatest = omega (arith, ints, clamps, greatest, above) in
    record {
      count = omega (arith, count, so.count);
      range = same (range_of heights) low high so.range;
      least = rw low so.least;
      greatest = rw high so.greatest;
    }
  where
    same : (range : Option HeightRange) → next.least ≡ seen.least → next.greatest ≡ seen.greatest
        → MatchOption range (AreNoneSeen seen) (λ range. (seen.least ≡ range.least) × (seen.greatest ≡ range.greatest))
        → MatchOption range (AreNoneSeen next) (λ range. (next.least ≡ range.least) × (next.greatest ≡ range.greatest))
    same None low high is = record { least = low ∙ is.least; greatest = high ∙ is.greatest }
    same (Some range) low high is = (low ∙ is.0, high ∙ is.1)

-- one more height
some_more : (heights : List ℤ) (height : ℤ) (seen next : Seen) → AreSeen heights seen → height ≤ℤ greatest_number → narrow.missing ≤ℤ height
    → next.count ≡ seen.count + 1 → next.least ≡ int_min seen.least height → next.greatest ≡ int_max seen.greatest height → AreSeen (heights ++ height ∷ []) next
some_more heights height seen next so most least_one count least greatest =
    record {
      count = count ∙ ap (λ n. n + 1) so.count ∙ sym (length_push heights height);
      range = rw (range_more heights height) (wider (range_of heights) so.range);
      least = let low = so.least.low in let high = so.least.high in record {
        low = omega (arith, ints, clamps, least, low, least_one);
        high = omega (arith, ints, clamps, least, high);
      };
      greatest = let low = so.greatest.low in let high = so.greatest.high in record {
        low = omega (arith, ints, clamps, greatest, low);
        high = omega (arith, ints, clamps, greatest, high, most);
      };
    }
  where
    wider : (range : Option HeightRange) → MatchOption range (AreNoneSeen seen) (λ range. (seen.least ≡ range.least) × (seen.greatest ≡ range.greatest))
        → (next.least ≡ (widened range height).least) × (next.greatest ≡ (widened range height).greatest)
    wider None is =
        let l = is.least in
        let g = is.greatest in
        (omega (arith, ints, clamps, least, l, most), omega (arith, ints, clamps, greatest, g, least_one))
    wider (Some range) is = (least ∙ ap (λ z. int_min z height) is.0, greatest ∙ ap (λ z. int_max z height) is.1)

-- the points and one more, by the number that stands for its height
pub AreSeen-more : (heights : List ℤ) (height : Option ℤ) (seen next : Seen) (number : ℤ) (shows : ℕ) → AreSeen heights seen → IsPlainHeight narrow height number
    → (is_some (narrow.shown number) ≡ true → shows ≡ 1) → (is_some (narrow.shown number) ≡ false → shows ≡ 0)
    → next.count ≡ seen.count + shows → next.least ≡ int_min seen.least (or_greatest number) → next.greatest ≡ int_max seen.greatest number
    → AreSeen (heights ++ cons_option height []) next
AreSeen-more heights None seen next number shows so stands one none count least greatest =
    let is : narrow.shown number ≡ None = stands.is in
    let absent : number ≡ narrow.missing = stands.plain.absent is in
    let off : is_some (narrow.shown number) ≡ false = ap is_some is in
    let most : or_greatest number ≡ greatest_number = rw off in
    rw (append-nil heights) (none_more heights seen next so (rw (none off) at count) (rw most at least) (rw absent at greatest))
AreSeen-more heights (Some height) seen next number shows so stands one none count least greatest =
    let is : narrow.shown number ≡ Some height = stands.is in
    let same = itself number height is in
    let on : is_some (narrow.shown number) ≡ true = ap is_some is in
    let own : or_greatest number ≡ number = rw on in
    let high = stands.plain.bounded.greatest height is in
    some_more heights height seen next so (omega (arith, ints, high)) (rw same.0 at same.1) (rw (one on) at count) (rw (same.0) at (rw own at least)) (rw same.0 at greatest)
