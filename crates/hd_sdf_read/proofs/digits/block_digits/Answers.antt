use Rattle.std.proofs.Common.{◌≡◌, ◌+◌, ◌-◌, ◌%◌, ◌^◌, ◌≤◌, ◌<◌, ℕ, leb, List, length, map, take, refl, ap, arith, ◌∙◌, w8}
use lib.Count.{count_trailing_zeros}
use Rattle.std.specs.Prelude.{replicate}
use Rattle.std.specs.Simd.Lanes.{Each1, mask_l, number_l, zip2}
use Rattle.std.proofs.lemmas.List.{length-map, length-take-le}
use Rattle.std.proofs.lemmas.Simd.{chunk-fits, get_or_wider, length-chunk, zip2_splat}
use Rattle.hd_sdf_read.proofs.BlockDigits.{AreDigits-block, count_trailing_zeros-digits, AllBelowBase-each, AllBelowBase-first, AllBelowBase-first_digits, AllBelowBase-over_zero, over_zero}
use Rattle.hd_sdf_read.proofs.digits.block_digits.Goals as goal

pub no_digits-others-requires : goal.no_digits-others-requires
no_digits-others-requires c =
    let block : List ℕ = take 16 c.args.text.now in
    let long : length block ≡ 16 = length-chunk 0 16 c.args.text.now c.requires in
    ap length (zip2_splat (λ (a b : ℕ). (a + (256 - b)) % 256) block 16 48 long) ∙ length-map block over_zero ∙ long

pub returns : goal.returns
returns c =
    let text : List ℕ = c.args.text.now in
    let block : List ℕ = take 16 text in
    let long : length block ≡ 16 = length-chunk 0 16 text c.requires in
    let lanes : List ℕ = zip2 (λ (a b : ℕ). (a + (256 - b)) % 256) block (replicate 16 48) in
    let lanes_are : lanes ≡ map over_zero block = zip2_splat (λ (a b : ℕ). (a + (256 - b)) % 256) block 16 48 long in
    let small : Each1 (λ x. x < 256) lanes = rw lanes_are (AllBelowBase-each (map over_zero block) (AllBelowBase-over_zero block)) in
    let word = get_or_wider 256 8 (2 ^ 64) 2 lanes 0 refl small (omega arith) ∙ ap (λ (xs : List ℕ). number_l 256 (take 8 xs)) lanes_are in
    let fits = chunk-fits w8 0 16 text c.type_inv.text in
    let mask : ℕ = c.no_digits-others.result in
    let mask_is : mask ≡ mask_l (map (leb 10) (map over_zero block)) = c.no_digits-others.ensures ∙ ap (λ (xs : List ℕ). mask_l (map (leb 10) xs)) lanes_are in
    let count : ℕ = count_trailing_zeros 64 mask in
    let few : count ≤ 8 = c.if-count-gt8.false in
    let front = count_trailing_zeros-digits block mask long mask_is few in
    let eight = length-take-le 8 (map over_zero block) (omega (arith, long, length-map block over_zero)) in
    AreDigits-block text count c.requires fits few front c.value_of_first.result
    (c.value_of_first.ensures (take 8 (map over_zero block)) eight (AllBelowBase-first 8 (map over_zero block) (AllBelowBase-over_zero block))
    (AllBelowBase-first_digits text count c.requires fits few front) word)
