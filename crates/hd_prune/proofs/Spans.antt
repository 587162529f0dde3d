-- The range of the heights of a map, and how far they span.
use Rattle.std.proofs.Common.{◌≡◌, ◌<◌, ◌≤◌, ◌++◌, ◌∙◌, ℕ, ℤ, zero, suc, List, [], ◌∷◌, Option, Some, None, ◌⊎◌, inl, inr, refl, ap, sym, subst, arith, add-one, SFits, w64}
use Rattle.std.specs.Prelude.{Contains, fold, pos, ◌-ℤ◌, ◌≤ℤ◌}
use Rattle.std.specs.Int.{int_min, int_max}
use Rattle.std.specs.List.{cons_option}
use Rattle.std.proofs.lemmas.Bool.{cases_lt}
use Rattle.std.proofs.lemmas.Int.{ints, fold-int_min_bounds, fold-int_min_reached, fold-int_max_bounds, fold-int_max_reached}
use Rattle.std.proofs.lemmas.List.Elements.{Contains-push, Contains-append_left, Contains-append_cases, All-contains}
use Rattle.std.proofs.lemmas.Option.{same_Some}
use Rattle.hd_map.specs.declared.types.Pos.{Pos}
use Rattle.hd_map.specs.declared.types.Rank.{Rank}
use Rattle.hd_map.specs.Map.{Map, IsMap, Present, cell_at, mask_at, cell_count, place_of, position_at, height_or_zero, height_at}
use Rattle.hd_map.specs.Pruning.{SzIs}
use Rattle.hd_map.specs.Rank.{IsPoint, rank}
use Rattle.hd_map.proofs.Depth.{point_limits}
use Rattle.hd_map.proofs.Levels.{Contains-cases, Contains-none, Contains-head, Contains-tail}
use Rattle.hd_map.proofs.Points.{of_shown, point_at, point_inside, position_at-of, position_at-inside, shown_of}
use Rattle.hd_map.specs.declared.height_range.HeightRange.{HeightRange}
use Rattle.hd_map.specs.Presence.{heights_below, present_heights}
use Rattle.hd_map.specs.HeightRange.{range_of}
use Rattle.hd_map.proofs.Presences.{heights_more}
use Rattle.hd_prune.specs.Span.{IsHeight, IsHeightRange, farthest_apart}

one_option : (o : Option ℤ) (h : ℤ) → Contains (cons_option o []) h → o ≡ Some h
one_option None h there = absurd (Contains-none h there)
one_option (Some z) h there = elim (Contains-cases z h [] there) [
  | inl same ↦ ap Some (sym same)
  | inr none ↦ absurd (Contains-none h none)
]

-- the height of a point of index below n is among these
pub height_in : (m : Map) (n : ℕ) (r : Rank) → IsPoint m r → r.index < n → Contains (heights_below m n) r.height
height_in m zero r point below = absurd (omega arith)
height_in m (suc n) r point below =
    let at : Pos = point.at in
    let more = heights_more m n in
    subst (λ k. Contains (heights_below m k) r.height) (add-one n) (subst (λ xs. Contains xs r.height) (sym more) (elim (cases_lt r.index n) [
      | inl old ↦ Contains-append_left (heights_below m n) _ r.height (height_in m n r point old)
      | inr not ↦
          let index : r.index ≡ place_of m.size at = ap (λ (x : Rank). x.index) point.rank_is in
          let here : n ≡ place_of m.size at = omega (arith, below, not, index) in
          let position : position_at m.size n ≡ at = ap (position_at m.size) here ∙ position_at-of m.size at point.present.in_grid in
          let height : r.height ≡ height_or_zero (cell_at m at) = ap (λ (x : Rank). x.height) point.rank_is in
          let shown : height_at m (position_at m.size n) ≡ Some r.height = ap (height_at m) position
          ∙ shown_of (cell_at m at) (mask_at m at) point.present.measured point.present.shown ∙ ap Some (sym height) in
          subst (λ o. Contains (heights_below m n ++ cons_option o []) r.height) (sym shown) (Contains-push (heights_below m n) r.height)
    ]))

-- each of these is the height of a point
pub point_of : (m : Map) (n : ℕ) (h : ℤ) → IsMap m → n ≤ cell_count m.size → Contains (heights_below m n) h → (r : Rank) × IsPoint m r × (r.height ≡ h)
point_of m zero h whole within there = absurd (Contains-none h there)
point_of m (suc n) h whole within there =
    let more = heights_more m n in
    let split = subst (λ xs. Contains xs h) more (subst (λ k. Contains (heights_below m k) h) (sym (add-one n)) there) in
    elim (Contains-append_cases (heights_below m n) (cons_option (height_at m (position_at m.size n)) []) h split) [
      | inl old ↦ point_of m n h whole (omega (arith, within)) old
      | inr new ↦
          let at : Pos = position_at m.size n in
          let is = of_shown (cell_at m at) (mask_at m at) h (one_option (height_at m at) h new) in
          let here : Present m at = record { in_grid = position_at-inside m.size n whole.size.some_points (omega (arith, within)); measured = is.0; shown = is.1 } in
          (rank m at, point_at m at here, is.2)
    ]

none_some : (a : HeightRange) → ◌≡◌ {A = Option HeightRange} (Some a) None → ⊥
none_some a e = cc

-- what a range of heights is
pub record IsRange (heights : List ℤ) (range : HeightRange) : Type 0 where
  pub least_in : Contains heights range.least
  pub greatest_in : Contains heights range.greatest
  pub bounds : (h : ℤ) → Contains heights h → (range.least ≤ℤ h) × (h ≤ℤ range.greatest)

reached : (h : ℤ) (heights : List ℤ) (r : ℤ) → (r ≡ h) ⊎ Contains heights r → Contains (h ∷ heights) r
reached h heights r (inl same) = subst (Contains (h ∷ heights)) (sym same) (Contains-head h heights)
reached h heights r (inr later) = Contains-tail h r heights later

pub range_is : (heights : List ℤ) (range : HeightRange) → range_of heights ≡ Some range → IsRange heights range
range_is [] range is = absurd (none_some range (sym is))
range_is (first ∷ heights) range is =
    let e : record { least = fold int_min first heights; greatest = fold int_max first heights } ≡ range = same_Some _ range is in
    let least : range.least ≡ fold int_min first heights = ap (λ (x : HeightRange). x.least) (sym e) in
    let greatest : range.greatest ≡ fold int_max first heights = ap (λ (x : HeightRange). x.greatest) (sym e) in
    let low = fold-int_min_bounds first heights range.least least in
    let high = fold-int_max_bounds first heights range.greatest greatest in
    record {
      least_in = reached first heights range.least (fold-int_min_reached first heights range.least least);
      greatest_in = reached first heights range.greatest (fold-int_max_reached first heights range.greatest greatest);
      bounds = λ h there. elim (Contains-cases first h heights there) [
        | inl same ↦ subst (λ z. (range.least ≤ℤ z) × (z ≤ℤ range.greatest)) (sym same) (low.0, high.0)
        | inr later ↦ (All-contains (λ z. range.least ≤ℤ z) heights h low.1 later, All-contains (λ z. z ≤ℤ range.greatest) heights h high.1 later)
      ];
    }

no_height : (heights : List ℤ) (h : ℤ) → range_of heights ≡ None → Contains heights h → ⊥
no_height [] h none there = Contains-none h there
no_height (first ∷ heights) h none there = none_some _ none

-- the greatest less the least
pub span_some : (m : Map) (range : HeightRange) (sz : ℤ) → IsMap m → range_of (present_heights m) ≡ Some range → sz ≡ range.greatest -ℤ range.least → SzIs m sz
span_some m range sz whole is span =
    let of = range_is (present_heights m) range is in
    let low = point_of m (cell_count m.size) range.least whole (omega arith) of.least_in in
    let high = point_of m (cell_count m.size) range.greatest whole (omega arith) of.greatest_in in
    let bounded : (r : Rank) → IsPoint m r → (range.least ≤ℤ r.height) × (r.height ≤ℤ range.greatest) = λ r point. of.bounds r.height
    (height_in m (cell_count m.size) r point (point_inside m r point)) in
    inl (
      low.0,
      high.0,
      low.1,
      high.1,
      λ r point. subst (λ z. (z ≤ℤ r.height) × (r.height ≤ℤ (high.0).height)) (sym low.2) (subst (λ z. (range.least ≤ℤ r.height) × (r.height ≤ℤ z)) (sym high.2) (bounded r point)),
      span ∙ ap (λ z. z -ℤ range.least) (sym high.2) ∙ ap (λ z. (high.0).height -ℤ z) (sym low.2),
    )

pub span_none : (m : Map) → range_of (present_heights m) ≡ None → SzIs m (pos 0)
span_none m none = inr (λ r point. no_height (present_heights m) r.height none (height_in m (cell_count m.size) r point (point_inside m r point)), refl)

-- the height of a point is one of some type
pub point_height : (m : Map) (r : Rank) → IsMap m → IsPoint m r → IsHeight r.height
point_height m r whole point = let limits = point_limits m r whole point in record { least = limits.low; greatest = limits.high }

-- and so are the least and the greatest
pub range_heights : (m : Map) (range : HeightRange) → IsMap m → range_of (present_heights m) ≡ Some range → IsHeightRange range
range_heights m range whole is =
    let of = range_is (present_heights m) range is in
    let low = point_of m (cell_count m.size) range.least whole (omega arith) of.least_in in
    let high = point_of m (cell_count m.size) range.greatest whole (omega arith) of.greatest_in in
    record { least = subst IsHeight low.2 (point_height m low.0 whole low.1); greatest = subst IsHeight high.2 (point_height m high.0 whole high.1) }

-- how far they are apart
pub span_within : (m : Map) (range : HeightRange) → IsMap m → range_of (present_heights m) ≡ Some range → (pos 0 ≤ℤ (range.greatest -ℤ range.least))
    × ((range.greatest -ℤ range.least) ≤ℤ pos farthest_apart)
span_within m range whole is =
    let ends = range_heights m range whole is in
    let of = range_is (present_heights m) range is in
    let least = ends.least.least in
    let greatest = ends.greatest.greatest in
    let up = (of.bounds range.greatest of.greatest_in).0 in
    (omega (arith, ints, up), omega (arith, ints, least, greatest))

pub span_fits : (m : Map) (range : HeightRange) → IsMap m → range_of (present_heights m) ≡ Some range → SFits w64 (range.greatest -ℤ range.least)
span_fits m range whole is =
    let bounds = span_within m range whole is in
    let low = bounds.0 in
    let high = bounds.1 in
    omega (arith, ints)
