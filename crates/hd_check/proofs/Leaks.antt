-- Leaks of a cut.
use Rattle.std.proofs.Common.{◌≡◌, ◌∙◌, ◌<◌, ◌≤◌, ◌+◌, ◌*◌, ◌-◌, ℕ, List, length, inl, inr, ap, sym, subst, arith, Option, Some, None, true, false, is_some}
use Rattle.std.specs.List.{Contains}
use Rattle.std.proofs.Math.Nat.{mul-le-mul_right}
use Rattle.std.proofs.lemmas.Bool.{cases_lt, false≢true}
use Rattle.hd_map.specs.Neighbour.{AreBesideUnder}
use Rattle.hd_map.specs.declared.types.Pos.{Pos}
use Rattle.hd_map.specs.declared.types.SideName.{SideName}
use Rattle.hd_map.specs.declared.types.Size.{Size}
use Rattle.hd_map.specs.Map.{Map, InGrid, Present, place_of}
use Rattle.hd_map.proofs.Gather.{same_pos}
use Rattle.hd_map.proofs.Points.{same_place}
use Rattle.hd_check.specs.Profiles.{ArePlaces, FirstLeakIn, IsBehind, IsFirstFrom, IsPlaceOf, left_index}
use Rattle.hd_check.specs.Rules.{point_of, IsBelowLevel, IsLeak, FirstLeak}
use Rattle.hd_check.proofs.Searching.{Rises, place_at, Contains-place, Rises-far}

-- what is behind an index is behind a greater one
pub IsBehind-more : (s : Size) (cut : List Pos) (index more place : ℕ) → index ≤ more → IsBehind s cut index place → IsBehind s cut more place
IsBehind-more s cut index more place le b = record { within = b.within; before = λ i h. let less = b.before i h in omega (arith, less, le) }

-- the indexes to the left rise with the points
left_rises : (s : Size) (at more : Pos) (step : ℕ) → place_of s at + 1 ≤ place_of s more → 1 ≤ at.y + step → 1 ≤ more.y + step → left_index s at step ≤ left_index s more step
left_rises s at more step le one other =
    let row : at.y + step - 1 + 1 ≡ at.y + step = omega arith in
    let row' : more.y + step - 1 + 1 ≡ more.y + step = omega arith in
    let e = ap (λ (n : ℕ). n * s.points) row in
    let e' = ap (λ (n : ℕ). n * s.points) row' in
    omega (arith, e, e', le)

-- the place of a point is one for those after it
pub IsPlaceOf-goes_on : (s : Size) (cut : List Pos) (at : Pos) (step place : ℕ) → 1 ≤ at.y + step → IsBehind s cut (left_index s at step) place → IsPlaceOf s cut (place_of s at + 1) step place
IsPlaceOf-goes_on s cut at step place one b = λ more le other. IsBehind-more s cut (left_index s at step) (left_index s more step) place (left_rises s at more step le one other) b

pub IsPlaceOf-later : (s : Size) (cut : List Pos) (index more step place : ℕ) → index ≤ more → IsPlaceOf s cut index step place → IsPlaceOf s cut more step place
IsPlaceOf-later s cut index more step place le p = λ at le' one. p at (omega (arith, le, le')) one

pub ArePlaces-later : (s : Size) (cut : List Pos) (index more : ℕ) (places : _) → index ≤ more → ArePlaces s cut index places → ArePlaces s cut more places
ArePlaces-later s cut index more places le p = record {
  above = IsPlaceOf-later s cut index more 0 places.above le p.above;
  beside = IsPlaceOf-later s cut index more 1 places.beside le p.beside;
  below = IsPlaceOf-later s cut index more 2 places.below le p.below;
}

-- the first place from the index on of the position to the left is behind it
pub IsBehind-left : (s t : Size) (cut : List Pos) (at : Pos) (step left index place : ℕ) → s ≡ t → left ≡ at.x - 1 → index ≡ place_of s (record { x = left; y = at.y + step - 1 })
    → IsFirstFrom s cut index place
    → IsBehind t cut (left_index t at step) place
IsBehind-left s t cut at step left index place size is_left is f =
    subst (λ (z : Size). IsBehind z cut (left_index z at step) place) size (subst (λ i. IsBehind s cut i place) (is ∙ ap (λ l. place_of s (record { x = l; y = at.y + step - 1 })) is_left) f.behind)

-- after the point at the place comes the first from the next index on
pub IsFirstFrom-after : (s : Size) (cut : List Pos) (index more next : ℕ) → index + 1 ≡ more → Rises s cut → next < length cut → place_at s cut next ≡ index → IsFirstFrom s cut more (next + 1)
IsFirstFrom-after s cut index more next step up inside e = record {
  behind = record {
    within = omega (arith, inside);
    before = λ i h. let far = Rises-far s cut up i next (omega arith) inside in omega (arith, far, e, step);
  };
  reached = λ h. let further = up next (omega (arith, h)) in omega (arith, further, e, step);
}

-- where the point at the place is another, the place is the first from the next index on
pub IsFirstFrom-stays : (s : Size) (cut : List Pos) (index more next : ℕ) → index + 1 ≡ more → (next < length cut → place_at s cut next ≡ index → ⊥) → IsFirstFrom s cut index next
    → IsFirstFrom s cut more next
IsFirstFrom-stays s cut index more next step other f = record {
  behind = IsBehind-more s cut index more next (omega (arith, step)) f.behind;
  reached = λ h. let le = f.reached h in let ne = other h in elim (cases_lt index (place_at s cut next)) [
    | inl less ↦ omega (arith, less, step)
    | inr not ↦ absurd (ne (omega (arith, not, le)))
  ];
}

-- a position that does not stand at the first place from its index on is not in the cut
pub IsFirstFrom-absent : (s : Size) (cut : List Pos) (q : Pos) (next : ℕ) → Rises s cut → (next < length cut → point_of cut next ≡ q → ⊥) → IsFirstFrom s cut (place_of s q) next → Contains cut q → ⊥
IsFirstFrom-absent s cut q next up other f c =
    let found = Contains-place cut q c in
    let e : place_at s cut found.0 ≡ place_of s q = ap (place_of s) found.2 in
    elim (cases_lt found.0 next) [
      | inl before ↦ let less = f.behind.before found.0 before in omega (arith, less, e)
      | inr after ↦ elim (cases_lt next found.0) [
        | inl less ↦
            let next_inside : next < length cut = omega (arith, found.1) in
            let le = f.reached next_inside in
            let step = up next (omega (arith, found.1)) in
            let far = Rises-far s cut up (next + 1) found.0 (omega arith) found.1 in
            omega (arith, le, step, far, e)
        | inr not ↦ let same : found.0 ≡ next = omega arith in
            other (subst (λ (k : ℕ). k < length cut) same found.1) (subst (λ (k : ℕ). point_of cut k ≡ q) same found.2)
      ]
    ]

-- the point at a place with this index is this position
pub place_at-apart : (s : Size) (cut : List Pos) (q : Pos) (k : ℕ) → InGrid s (point_of cut k) → InGrid s q → (point_of cut k ≡ q → ⊥) → place_at s cut k ≡ place_of s q → ⊥
place_at-apart s cut q k here there other e = other (same_place s (point_of cut k) q here there e)

module _ (m : Map) (side : SideName) (level : Option Pos) (cut : List Pos) (at : Pos) where
  -- a leak in the first of the three profiles that has one is the first of all
  first_of_rows : (q : Pos) (step : ℕ) → FirstLeakIn m side level cut at step (Some q) → ((r : Pos) → r.y + 1 < at.y + step → IsLeak m side level cut at r → ⊥) → FirstLeak m side level cut at (Some q)
  first_of_rows q step first none = (
    first.1,
    λ r leak. elim (cases_lt (r.y + 1) (at.y + step)) [
      | inl less ↦ absurd (none r less leak)
      | inr not ↦ elim (cases_lt (at.y + step) (r.y + 1)) [
        | inl past ↦
            let row = first.0 in
            let le : q.y + 1 ≤ r.y = omega (arith, row, past) in
            let column = first.1.neighbour.to.in_grid.column in
            omega (arith, mul-le-mul_right m.size.points le, column)
        | inr not' ↦
            let row : r.y + 1 ≡ at.y + step = omega arith in
            let le = first.2 r row leak in
            let same : q.y ≡ r.y = omega (arith, first.0, row) in
            let e = ap (λ (n : ℕ). n * m.size.points) same in
            omega (arith, le, e)
      ]
    ],
  )

  none_found : (step : ℕ) (o : Option Pos) → FirstLeakIn m side level cut at step o → is_some o ≡ false → FirstLeakIn m side level cut at step None
  none_found step None first none = first
  none_found step (Some q) first none = absurd (false≢true (sym none))

  pub FirstLeak-above : (o : Option Pos) → FirstLeakIn m side level cut at 0 o → is_some o ≡ true → FirstLeak m side level cut at o
  FirstLeak-above None first some = absurd (false≢true some)
  FirstLeak-above (Some q) first some = first_of_rows q 0 first (λ r less leak. let near = leak.neighbour.rows in omega (arith, less, near))

  pub FirstLeak-beside : (a o : Option Pos) → FirstLeakIn m side level cut at 0 a → is_some a ≡ false → FirstLeakIn m side level cut at 1 o → is_some o ≡ true → FirstLeak m side level cut at o
  FirstLeak-beside a None above clear first some = absurd (false≢true some)
  FirstLeak-beside a (Some q) above clear first some =
      first_of_rows q 1 first (λ r less leak. let near = leak.neighbour.rows in none_found 0 a above clear r (omega (arith, less, near)) leak)

  pub FirstLeak-below : (a b o : Option Pos) → FirstLeakIn m side level cut at 0 a → is_some a ≡ false → FirstLeakIn m side level cut at 1 b → is_some b ≡ false
      → FirstLeakIn m side level cut at 2 o → FirstLeak m side level cut at o
  FirstLeak-below a b None above clear beside clear' first = λ r leak. let near = leak.neighbour.rows in elim (cases_lt (r.y + 1) (at.y + 1)) [
    | inl less ↦ none_found 0 a above clear r (omega (arith, less, near)) leak
    | inr not ↦ elim (cases_lt (at.y + 1) (r.y + 1)) [
      | inl past ↦ first r (omega (arith, past, near)) leak
      | inr not' ↦ none_found 1 b beside clear' r (omega (arith, not, not')) leak
    ]
  ]
  FirstLeak-below a b (Some q) above clear beside clear' first = first_of_rows q 2 first (λ r less leak. let near = leak.neighbour.rows in elim (cases_lt (r.y + 1) (at.y + 1)) [
    | inl less' ↦ none_found 0 a above clear r (omega (arith, less', near)) leak
    | inr not ↦ none_found 1 b beside clear' r (omega (arith, less, not)) leak
  ])

  -- a position that is open and not in the cut is a leak
  pub IsLeak-open : (q : Pos) → Contains cut at → Present m at → AreBesideUnder m.adjacency at q × Present m q × IsBelowLevel m side level q → at.x ≤ q.x + 1 → q.x ≤ at.x + 1
      → at.y ≤ q.y + 1 → q.y ≤ at.y + 1
      → (Contains cut q → ⊥) → IsLeak m side level cut at q
  IsLeak-open q inside here there c c' r r' out = record {
    neighbour = record { from = here; to = there.1; columns = (c, c'); rows = (r, r'); different = λ e. out (subst (Contains cut) e inside); beside = there.0 };
    below = there.2;
    outside = out;
  }

  -- where the next position of a profile is no leak, none up to it is
  pub IsLeak-none_more : (row x : ℕ) → (IsLeak m side level cut at (record { x = x; y = row }) → ⊥) → ((r : Pos) → r.y ≡ row → r.x < x → IsLeak m side level cut at r → ⊥)
      → (r : Pos) → r.y ≡ row → r.x < x + 1 → IsLeak m side level cut at r → ⊥
  IsLeak-none_more row x not none r e less leak = elim (cases_lt r.x x) [
    | inl before ↦ none r e before leak
    | inr here ↦ not (subst (λ (p : Pos). IsLeak m side level cut at p) (same_pos r (record { x = x; y = row }) (omega arith) e) leak)
  ]
