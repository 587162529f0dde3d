-- Searching in a list of positions that rises.
use Rattle.std.proofs.Common.{◌≡◌, ◌<◌, ◌≤◌, ◌+◌, ◌-◌, ℕ, zero, suc, List, length, inl, inr, ap, ◌∙◌, subst, arith}
use Rattle.std.specs.List.{Contains}
use Rattle.std.proofs.lemmas.Bool.{cases_lt}
use Rattle.std.proofs.lemmas.List.{get_or_default}
use Rattle.std.proofs.lemmas.List.Elements.{Contains-get_or}
use Rattle.hd_map.specs.declared.types.Pos.{Pos}
use Rattle.hd_map.specs.declared.types.Size.{Size}
use Rattle.hd_map.specs.Map.{InGrid, place_of}
use Rattle.hd_map.proofs.Points.{same_place}
use Rattle.hd_check.specs.Rules.{point_of}

-- the index of the point at a place of the list
abbrev pub place_at : Size → List Pos → ℕ → ℕ
place_at s cut k = place_of s (point_of cut k)

-- each two consecutive positions rise
abbrev pub Rises : Size → List Pos → Type 0
Rises s cut = (k : ℕ) → k < length cut - 1 → place_at s cut k < place_at s cut (k + 1)

rises_by : (s : Size) (cut : List Pos) → Rises s cut → (i n : ℕ) → i + n < length cut → place_at s cut i ≤ place_at s cut (i + n)
rises_by s cut up i zero h = let e : i ≡ i + zero = omega arith in subst (λ (k : ℕ). place_at s cut i ≤ place_at s cut k) e (omega arith)
rises_by s cut up i (suc n) h =
    let before = rises_by s cut up i n (omega arith) in
    let next = up (i + n) (omega arith) in
    let e : i + n + 1 ≡ i + suc n = omega arith in
    subst (λ (k : ℕ). place_at s cut i ≤ place_at s cut k) e (omega (arith, before, next))

-- what is not before another is not less
pub Rises-far : (s : Size) (cut : List Pos) → Rises s cut → (i j : ℕ) → i ≤ j → j < length cut → place_at s cut i ≤ place_at s cut j
Rises-far s cut up i j le h =
    let e : i + (j - i) ≡ j = omega arith in
    subst (λ (k : ℕ). place_at s cut i ≤ place_at s cut k) e (rises_by s cut up i (j - i) (omega arith))

-- the positions before low are before the place that is sought, and those from high on after it
pub record IsBetween (s : Size) (cut : List Pos) (place low high : ℕ) : Type 0 where
  pub ordered : low ≤ high
  pub inside : high ≤ length cut
  pub left : (i : ℕ) → i < low → place_at s cut i < place
  pub right : (i : ℕ) → high ≤ i → i < length cut → place < place_at s cut i

pub IsBetween-right : (s : Size) (cut : List Pos) (place low high middle : ℕ) → Rises s cut → middle < high → place_at s cut middle < place → IsBetween s cut place low high
    → IsBetween s cut place (middle + 1) high
IsBetween-right s cut place low high middle up below less b = record {
  ordered = omega arith;
  inside = b.inside;
  left = λ i h. let far = Rises-far s cut up i middle (omega arith) (omega (arith, b.inside)) in omega (arith, far, less);
  right = b.right;
}

pub IsBetween-left : (s : Size) (cut : List Pos) (place low high middle : ℕ) → Rises s cut → low ≤ middle → middle < high → place < place_at s cut middle → IsBetween s cut place low high
    → IsBetween s cut place low middle
IsBetween-left s cut place low high middle up above below more b = record {
  ordered = above;
  inside = omega (arith, b.inside);
  left = b.left;
  right = λ i h k. let far = Rises-far s cut up middle i h k in omega (arith, far, more);
}

pub Contains-found : (s : Size) (cut : List Pos) (at : Pos) (k : ℕ) → k < length cut → InGrid s (point_of cut k) → InGrid s at → place_at s cut k ≡ place_of s at → Contains cut at
Contains-found s cut at k inside here there e = subst (Contains cut) (same_place s (point_of cut k) at here there e) (Contains-get_or cut k (record { x = 0; y = 0 }) inside)

-- an element stands at a place
pub Contains-place : (cut : List Pos) (at : Pos) → Contains cut at → (k : ℕ) × (k < length cut) × (point_of cut k ≡ at)
Contains-place cut at c = (c.0, c.1, get_or_default cut c.0 (record { x = 0; y = 0 }) at c.1 ∙ c.2)

pub IsBetween-absent : (s : Size) (cut : List Pos) (at : Pos) (low high : ℕ) → high ≤ low → IsBetween s cut (place_of s at) low high → Contains cut at → ⊥
IsBetween-absent s cut at low high done b c =
    let f = Contains-place cut at c in
    let e : place_at s cut f.0 ≡ place_of s at = ap (place_of s) f.2 in
    elim (cases_lt f.0 low) [
      | inl before ↦ let less = b.left f.0 before in omega (arith, less, e)
      | inr after ↦ let more = b.right f.0 (omega arith) f.1 in omega (arith, more, e)
    ]
