-- Tiles along a row or a column: parts of one side along a line of places.
use Rattle.std.proofs.Common.{ℕ, ◌≡◌, ◌<◌, ◌≤◌, ◌+◌, ◌-◌, ◌*◌, ◌/◌, ◌%◌, ◌⊎◌, inl, inr, sym, ◌∙◌, ap, arith}
use Rattle.std.specs.Prelude.{min}
use Rattle.std.proofs.Math.Nat.{mul-le-mul_left}
use Rattle.std.proofs.lemmas.Bool.{cases_lt, cases_eq}
use Rattle.std.proofs.lemmas.Nat.{div-mul-add, div-add-mod', mod_below}
use Rattle.hd_map.specs.Neighbour.{IsNear}
use Rattle.hd_tiles.specs.Tile.{tiles_along}

-- a quotient from a product and a rest below the divisor
pub part-is : (n q t r : ℕ) → r < t → n ≡ q * t + r → n / t ≡ q
part-is n q t r below e = rw e (div-mul-add q t r below)

-- a later place of a part comes after one of the same part
pub part-before : (n t : ℕ) → 1 ≤ t → 1 ≤ n % t → n / t ≡ (n - 1) / t
part-before n t some later =
    let split = div-add-mod' n t in
    let below = mod_below n t (omega arith) in
    sym (part-is (n - 1) (n / t) t (n % t - 1) (omega arith) (omega (arith, split, later)))

-- an earlier place of a part comes before one of the same part
pub part-after : (n t : ℕ) → 1 ≤ t → n % t + 1 < t → n / t ≡ (n + 1) / t
part-after n t some earlier =
    let split = div-add-mod' n t in
    sym (part-is (n + 1) (n / t) t (n % t + 1) earlier (omega (arith, split)))

-- a place near another is in the part of the one before, or of the one after that other
pub part-near : (x q n t : ℕ) → 8 ≤ t → x < n → q < n → IsNear q x → (q / t ≡ (x - 1) / t) ⊎ (q / t ≡ min (x + 1) (n - 1) / t)
part-near x q n t wide inside there near = elim (cases_eq q (x - 1)) [
  | inl first ↦ inl (ap (λ (k : ℕ). k / t) first)
  | inr not_first ↦ elim (cases_eq q (min (x + 1) (n - 1))) [
    | inl last ↦ inr (ap (λ (k : ℕ). k / t) last)
    | inr not_last ↦ (
        let same : q ≡ x = omega (arith, near.0, near.1, not_first, not_last, inside, there) in
        let onward : min (x + 1) (n - 1) ≡ x + 1 = omega (arith, near.0, near.1, not_first, not_last, inside, there) in
        elim (cases_lt 0 (x % t)) [
          | inl later ↦ inl (ap (λ (k : ℕ). k / t) same ∙ part-before x t (omega arith) (omega (arith, later)))
          | inr begins ↦ inr (ap (λ (k : ℕ). k / t) same ∙ part-after x t (omega arith) (omega (arith, begins, wide)) ∙ ap (λ (k : ℕ). k / t) (sym onward))
        ])
  ]
]

-- a place of a line is in one of its parts
pub tiles_along-part : (x n t : ℕ) → 1 ≤ t → x < n → x / t < tiles_along n t
tiles_along-part x n t some below = elim (cases_lt (x / t) ((n + t - 1) / t)) [
  | inl less ↦ less
  | inr more ↦ absurd (omega (arith, some, below, mul-le-mul_left t more))
]
