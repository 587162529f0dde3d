-- Edge points, by their definition and by the test of the eight positions beside them.
use Rattle.std.proofs.Common.{◌≡◌, ◌<◌, ◌+◌, ◌-◌, ◌/◌, ◌%◌, ◌∙◌, ◌⊎◌, ℕ, zero, suc, Bool, true, false, None, inl, inr, refl, sym, ap, subst, arith}
use Rattle.std.specs.Prelude.{◌||◌, ◌==◌, nat_lt, not}
use Rattle.std.specs.Cmp.{unsigned_Decides}
use Rattle.std.specs.List.{list_any}
use Rattle.std.specs.Option.{is_some}
use Rattle.std.proofs.lemmas.Bool.{and_from, and_parts, not-false, not-true, or_cases, or_parts}
use Rattle.std.proofs.lemmas.Bool.Decides.{nat_tests}
use Rattle.hd_map.specs.declared.types.Pos.{Pos}
use Rattle.hd_map.specs.declared.types.Size.{Size}
use Rattle.hd_map.specs.Map.{Map, InGrid, Present, cell_at, height_at, in_grid, mask_at}
use Rattle.hd_map.specs.Neighbour.{IsNear}
use Rattle.hd_map.specs.Rank.{rank}
use Rattle.hd_map.proofs.Gather.{same_pos}
use Rattle.hd_map.proofs.Points.{present_or_not, shown_of}
use Rattle.hd_map.specs.EdgePoint.{HasAbsentBeside, IsEdge, OnBorder}
use Rattle.hd_map.proofs.EdgePoint.{edge-absent_beside, edge-on, no_edge, none_absent_beside}
use Rattle.hd_survey.specs.Edges.{at as place_at, beside, is_border, is_edge, is_here}
use Rattle.hd_survey.proofs.RootedPoints.{inside_test, unshown}

-- what the test of a position tells
test-inside : (s : Size) (p : Pos) → in_grid s p ≡ true → InGrid s p
test-inside s p e =
    let parts = and_parts (nat_lt p.x s.points) (nat_lt p.y s.profiles) e in
    let column : nat_lt p.x s.points ≡ true = parts.0 in
    let profile : nat_lt p.y s.profiles ≡ true = parts.1 in
    record { column = grind (arith, nat_tests); profile = grind (arith, nat_tests) }

here-present : (m : Map) (p : Pos) → is_here m p ≡ true → Present m p
here-present m p e =
    let parts = and_parts (in_grid m.size p) (is_some (height_at m p)) e in
    let inside = test-inside m.size p parts.0 in
    elim (present_or_not m p inside) [
      | inl here ↦ here
      | inr not ↦ (
          let gone : height_at m p ≡ None = unshown (cell_at m p) (mask_at m p) (λ measured shown. not (record { in_grid = inside; measured = measured; shown = shown })) in
          let some = sym (ap is_some gone) ∙ parts.1 in
          absurd (cc some))
    ]

present-here : (m : Map) (p : Pos) → Present m p → is_here m p ≡ true
present-here m p here = and_from (in_grid m.size p) (is_some (height_at m p)) (inside_test m.size p here.in_grid)
    (ap is_some (shown_of (cell_at m p) (mask_at m p) here.measured here.shown))

absent-here : (m : Map) (p : Pos) → is_here m p ≡ false → Present m p → ⊥
absent-here m p e here = (let both = sym e ∙ present-here m p here in cc)

-- one of four, and none of them
or_four : (a b c d : Bool) → (a || b || c || d) ≡ true → (a ≡ true) ⊎ (b ≡ true) ⊎ (c ≡ true) ⊎ (d ≡ true)
or_four true b c d e = inl refl
or_four false true c d e = inr (inl refl)
or_four false false true d e = inr (inr (inl refl))
or_four false false false true e = inr (inr (inr refl))
or_four false false false false e = absurd (cc e)

none_of_four : (a b c d : Bool) → (a || b || c || d) ≡ false → (a ≡ false) × (b ≡ false) × (c ≡ false) × (d ≡ false)
none_of_four false false false false e = (refl, refl, refl, refl)
none_of_four true b c d e = absurd (cc e)
none_of_four false true c d e = absurd (cc e)
none_of_four false false true d e = absurd (cc e)
none_of_four false false false true e = absurd (cc e)

apart : (x y : ℕ) → (x == y) ≡ false → x ≡ y → ⊥
apart x y e same = (let yes = (unsigned_Decides x y).1 same in cc)

some-number : (x : ℕ) → (x ≡ 0 → ⊥) → 0 < x
some-number zero none = absurd (none refl)
some-number (suc x) none = omega arith

-- the border, by its test
border-on : (s : Size) (p : Pos) → is_border s p ≡ true → OnBorder s p
border-on s p e = elim (or_four (p.x == 0) (p.y == 0) (p.x + 1 == s.points) (p.y + 1 == s.profiles) e) [
  | inl left ↦ inl ((unsigned_Decides p.x 0).0 left)
  | inr e2 ↦ elim e2 [
    | inl top ↦ inr (inl ((unsigned_Decides p.y 0).0 top))
    | inr e3 ↦ elim e3 [
      | inl right ↦ inr (inr (inl ((unsigned_Decides (p.x + 1) s.points).0 right)))
      | inr bottom ↦ inr (inr (inr ((unsigned_Decides (p.y + 1) s.profiles).0 bottom)))
    ]
  ]
]

-- a position that is not on the border
record IsInner (s : Size) (p : Pos) : Type 0 where
  pub left : p.x ≡ 0 → ⊥
  pub top : p.y ≡ 0 → ⊥
  pub right : p.x + 1 ≡ s.points → ⊥
  pub bottom : p.y + 1 ≡ s.profiles → ⊥

border-off : (s : Size) (p : Pos) → is_border s p ≡ false → IsInner s p
border-off s p e =
    let parts = none_of_four (p.x == 0) (p.y == 0) (p.x + 1 == s.points) (p.y + 1 == s.profiles) e in
    record { left = apart p.x 0 parts.0; top = apart p.y 0 parts.1; right = apart (p.x + 1) s.points parts.2; bottom = apart (p.y + 1) s.profiles parts.3 }

inner-off : (s : Size) (p : Pos) → IsInner s p → OnBorder s p → ⊥
inner-off s p inner (inl left) = inner.left left
inner-off s p inner (inr (inl top)) = inner.top top
inner-off s p inner (inr (inr (inl right))) = inner.right right
inner-off s p inner (inr (inr (inr bottom))) = inner.bottom bottom

-- what holds of nine numbers holds of each below nine
nine : (P : ℕ → Type 0) → P 0 → P 1 → P 2 → P 3 → P 4 → P 5 → P 6 → P 7 → P 8 → (k : ℕ) → k < 9 → P k
nine P a b c d e f g h i zero below = a
nine P a b c d e f g h i (suc zero) below = b
nine P a b c d e f g h i (suc (suc zero)) below = c
nine P a b c d e f g h i (suc (suc (suc zero))) below = d
nine P a b c d e f g h i (suc (suc (suc (suc zero)))) below = e
nine P a b c d e f g h i (suc (suc (suc (suc (suc zero))))) below = f
nine P a b c d e f g h i (suc (suc (suc (suc (suc (suc zero)))))) below = g
nine P a b c d e f g h i (suc (suc (suc (suc (suc (suc (suc zero))))))) below = h
nine P a b c d e f g h i (suc (suc (suc (suc (suc (suc (suc (suc zero)))))))) below = i
nine P a b c d e f g h i (suc (suc (suc (suc (suc (suc (suc (suc (suc k))))))))) below = absurd (omega (arith, below))

-- one of the positions beside the point has no present point
module _ (m : Map) (p : Pos) (here : Present m p) (inner : IsInner m.size p) where
  gap_at : (x y : ℕ) → IsNear p.x x → IsNear p.y y → is_here m (place_at x y) ≡ false → HasAbsentBeside m p
  gap_at x y columns rows gone =
      let column = here.in_grid.column in
      let profile = here.in_grid.profile in
      let right = inner.right in
      let bottom = inner.bottom in
      record {
        at = place_at x y;
        in_grid = record { column = omega (arith, column, right, columns.1); profile = omega (arith, profile, bottom, rows.1) };
        columns = columns;
        rows = rows;
        absent = absent-here m (place_at x y) gone;
      }

  some-gap : list_any (λ q. not (is_here m q)) (beside p) ≡ true → HasAbsentBeside m p
  some-gap e0 =
      let left : 0 < p.x = some-number p.x inner.left in
      let top : 0 < p.y = some-number p.y inner.top in
      elim (or_cases _ _ e0) [
        | inl h ↦ gap_at (p.x - 1) (p.y - 1) (omega (arith, left), omega (arith, left)) (omega (arith, top), omega (arith, top)) (not-true _ h)
        | inr e1 ↦ elim (or_cases _ _ e1) [
          | inl h ↦ gap_at p.x (p.y - 1) (omega arith, omega arith) (omega (arith, top), omega (arith, top)) (not-true _ h)
          | inr e2 ↦ elim (or_cases _ _ e2) [
            | inl h ↦ gap_at (p.x + 1) (p.y - 1) (omega arith, omega arith) (omega (arith, top), omega (arith, top)) (not-true _ h)
            | inr e3 ↦ elim (or_cases _ _ e3) [
              | inl h ↦ gap_at (p.x - 1) p.y (omega (arith, left), omega (arith, left)) (omega arith, omega arith) (not-true _ h)
              | inr e4 ↦ elim (or_cases _ _ e4) [
                | inl h ↦ gap_at (p.x + 1) p.y (omega arith, omega arith) (omega arith, omega arith) (not-true _ h)
                | inr e5 ↦ elim (or_cases _ _ e5) [
                  | inl h ↦ gap_at (p.x - 1) (p.y + 1) (omega (arith, left), omega (arith, left)) (omega arith, omega arith) (not-true _ h)
                  | inr e6 ↦ elim (or_cases _ _ e6) [
                    | inl h ↦ gap_at p.x (p.y + 1) (omega arith, omega arith) (omega arith, omega arith) (not-true _ h)
                    | inr e7 ↦ elim (or_cases _ _ e7) [
                      | inl h ↦ gap_at (p.x + 1) (p.y + 1) (omega arith, omega arith) (omega arith, omega arith) (not-true _ h)
                      | inr none ↦ absurd (cc none)
                    ]
                  ]
                ]
              ]
            ]
          ]
        ]
      ]

  -- the position of a step, where all eight are present
  abbrev at_step : ℕ → Pos
  at_step k = record { x = p.x + k % 3 - 1; y = p.y + k / 3 - 1 }

  moved : (x y k : ℕ) → is_here m (place_at x y) ≡ true → x ≡ p.x + k % 3 - 1 → y ≡ p.y + k / 3 - 1 → Present m (at_step k)
  moved x y k h column row = subst (Present m) (same_pos (place_at x y) (at_step k) column row) (here-present m (place_at x y) h)

  all-round : list_any (λ q. not (is_here m q)) (beside p) ≡ false → (k : ℕ) → k < 9 → Present m (at_step k)
  all-round e0 k below =
      let left : 0 < p.x = some-number p.x inner.left in
      let top : 0 < p.y = some-number p.y inner.top in
      let a = or_parts _ _ e0 in
      let b = or_parts _ _ a.1 in
      let c = or_parts _ _ b.1 in
      let d = or_parts _ _ c.1 in
      let e = or_parts _ _ d.1 in
      let f = or_parts _ _ e.1 in
      let g = or_parts _ _ f.1 in
      let h = or_parts _ _ g.1 in
      nine (λ j. Present m (at_step j))
      (moved (p.x - 1) (p.y - 1) 0 (not-false _ a.0) (omega arith) (omega arith))
      (moved p.x (p.y - 1) 1 (not-false _ b.0) (omega arith) (omega arith))
      (moved (p.x + 1) (p.y - 1) 2 (not-false _ c.0) (omega arith) (omega arith))
      (moved (p.x - 1) p.y 3 (not-false _ d.0) (omega arith) (omega arith))
      (subst (Present m) (same_pos p (at_step 4) (omega arith) (omega arith)) here)
      (moved (p.x + 1) p.y 5 (not-false _ e.0) (omega arith) (omega arith))
      (moved (p.x - 1) (p.y + 1) 6 (not-false _ f.0) (omega arith) (omega arith))
      (moved p.x (p.y + 1) 7 (not-false _ g.0) (omega arith) (omega arith))
      (moved (p.x + 1) (p.y + 1) 8 (not-false _ h.0) (omega arith) (omega arith))
      k below

-- a present point is an edge point exactly where the test says so
pub tested-edge : (m : Map) (p : Pos) → Present m p → is_edge m p ≡ true → IsEdge m (rank m p)
tested-edge m p here e = elim (is_border m.size p) as (λ b. is_border m.size p ≡ b → IsEdge m (rank m p)) [
  | true ↦ λ on. edge-on m p here (border-on m.size p on)
  | false ↦ λ off. elim (or_cases _ _ e) [
    | inl on ↦ absurd (let both = sym off ∙ on in cc)
    | inr gap ↦ edge-absent_beside m p here (some-gap m p here (border-off m.size p off) gap)
  ]
] refl

pub tested-inner : (m : Map) (p : Pos) → Present m p → is_edge m p ≡ false → IsEdge m (rank m p) → ⊥
tested-inner m p here e =
    let parts = or_parts _ _ e in
    let inner = border-off m.size p parts.0 in
    no_edge m p here (inner-off m.size p inner) (none_absent_beside m p (some-number p.x inner.left) (some-number p.y inner.top) (all-round m p here inner parts.1))
