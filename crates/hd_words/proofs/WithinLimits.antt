-- The numbers that words ask for are within their limits.
use Rattle.std.proofs.Common.{◌≡◌, ◌∙◌, ◌≤◌, ◌&&◌, ℕ, Bool, true, false, refl, sym, subst, arith, List, [], ◌∷◌, length, Some, None, codes, nat_le, if◌then◌else◌}
use Rattle.std.specs.Prelude.{⊤}
use Rattle.std.specs.Str.{bytes_eq}
use Rattle.std.specs.Str.Parse.{digits_value}
use Rattle.std.proofs.lemmas.Bool.Decides.{nat_tests}
use Rattle.hd_num.specs.Whole.{count_of, is_numeral}
use Rattle.hd_words.specs.Demo.{IsDemo, demo_of, demo_within, is_demo_side, is_size}
use Rattle.hd_words.specs.Limits.{greatest_tile, least_tile, most_edits, usual_tile}
use Rattle.hd_words.specs.Forms.{check_form, dales_form, demo_form, form_named, form_of, run_form, tile_of}
use Rattle.hd_words.specs.GivenWords.{Given, given_of}
use Rattle.hd_words.specs.Requests.{IsWithinLimits, Request}
use Rattle.hd_words.specs.declared.demo.Demo.{Demo}
use Rattle.hd_words.specs.declared.found.Stage.TheVariants.{Options}
use Rattle.hd_words.proofs.Forms.{CheckFound-form, DalesFound-form, DemoFound-form, RunFound-form, option_and_then-some}

both_true : (a b : Bool) → (a && b) ≡ true → (a ≡ true) × (b ≡ true)
both_true true b e = (refl, e)
both_true false b e = absurd (cc)

at_most : (a b : ℕ) → nat_le a b ≡ true → a ≤ b
at_most a b test = grind (arith, nat_tests)

-- the side of a tile
tile_within : (tiles : List (List ℕ)) (side : ℕ) → tile_of tiles ≡ Some side → (least_tile ≤ side) × (side ≤ greatest_tile)
tile_within [] side is =
    let e : usual_tile ≡ side = cc in
    (omega (arith, e), omega (arith, e))
tile_within (value ∷ []) side is = go _ refl is
  where
    go : (test : Bool) → (is_numeral value && nat_le (length value) 3 && nat_le least_tile (digits_value 10 value) && nat_le (digits_value 10 value) greatest_tile) ≡ test
        → (if test then Some (digits_value 10 value) else None) ≡ Some side → (least_tile ≤ side) × (side ≤ greatest_tile)
    go false e found = absurd (cc)
    go true e found =
        let same : digits_value 10 value ≡ side = cc in
        let (front, most) = both_true _ _ e in
        let (_, least) = both_true _ _ front in
        (subst (λ (k : ℕ). least_tile ≤ k) same (at_most _ _ least), subst (λ (k : ℕ). k ≤ greatest_tile) same (at_most _ _ most))
tile_within (value ∷ (other ∷ more)) side is = absurd (cc)

-- a demo whose numbers pass the tests
numbers_within : (d demo : Demo) → (least_tile ≤ d.tile) × (d.tile ≤ greatest_tile) → demo_within d ≡ Some demo → IsDemo demo
numbers_within d demo (least, most) is = go _ refl is
  where
    go : (test : Bool) → (is_size d.size && nat_le d.edits most_edits) ≡ test → (if test then Some d else None) ≡ Some demo → IsDemo demo
    go false e found = absurd (cc)
    go true e found =
        let same : d ≡ demo = cc in
        let (sized, few) = both_true _ _ e in
        let (sides, cells) = both_true _ _ sized in
        let (points, profiles) = both_true (is_demo_side d.size.points) _ sides in
        let (some_points, all_points) = both_true _ _ points in
        let (some_profiles, all_profiles) = both_true _ _ profiles in
        subst IsDemo same (record {
          size = record {
            some_points = at_most _ _ some_points;
            points = at_most _ _ all_points;
            some_profiles = at_most _ _ some_profiles;
            profiles = at_most _ _ all_profiles;
            cells = at_most _ _ cells;
          };
          edits = at_most _ _ few;
          least = least;
          greatest = most;
        })

demo_of_within : (points profiles number edits : List ℕ) (tile : ℕ) (demo : Demo) → (least_tile ≤ tile) × (tile ≤ greatest_tile) → demo_of points profiles number edits tile ≡ Some demo → IsDemo demo
demo_of_within points profiles number edits tile demo bounds is =
    let (w, _, after_points) = option_and_then-some (count_of points) _ demo is in
    let (h, _, after_profiles) = option_and_then-some (count_of profiles) _ demo after_points in
    let (n, _, after_number) = option_and_then-some (count_of number) _ demo after_profiles in
    let (k, _, found) = option_and_then-some (count_of edits) _ demo after_number in
    numbers_within (record { size = record { points = w; profiles = h }; number = n; edits = k; tile = tile }) demo bounds found

-- what words ask for
pub IsWithinLimits-request : (words : List (List ℕ)) (request : Request) → form_of words ≡ Some request → IsWithinLimits request
IsWithinLimits-request [] request is = absurd (cc)
IsWithinLimits-request (name ∷ rest) request is =
    let (given, _, asks) = option_and_then-some (given_of Options rest) (form_named name) request is in
    go given (bytes_eq name (codes "dales")) (bytes_eq name (codes "run")) (bytes_eq name (codes "check")) (bytes_eq name (codes "demo")) asks
  where
    go : (given : Given) (dales run check demo : Bool)
        → (if dales then dales_form given else if run then run_form given else if check then check_form given else if demo then demo_form given else None) ≡ Some request → IsWithinLimits request
    go given true run check demo asks =
        let found = DalesFound-form given.names given.tiles given.saves request asks in
        subst IsWithinLimits (sym found.request_is) (omega arith, omega arith)
    go given false true check demo asks =
        let found = RunFound-form given.names given.tiles given.saves request asks in
        subst IsWithinLimits (sym found.request_is) (tile_within given.tiles found.side found.tile_is)
    go given false false true demo asks =
        let found = CheckFound-form given.names given.tiles given.saves request asks in
        subst IsWithinLimits (sym found.request_is) tt
    go given false false false true asks =
        let found = DemoFound-form given.names given.tiles given.saves request asks in
        subst IsWithinLimits (sym found.request_is) (demo_of_within found.points found.profiles found.number found.edits found.side found.demo
        (tile_within given.tiles found.side found.tile_is) found.demo_is)
    go given false false false false asks = absurd (cc)
