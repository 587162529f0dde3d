-- A map whose cells before a profile are new.
use Rattle.std.proofs.Common.{◌≡◌, ◌<◌, ◌≤◌, ◌+◌, ◌-◌, ◌*◌, ℕ, ℤ, Option, None, List, [], All, map, length, get_or, take, drop, inl, inr, sym, ap, subst, ◌∙◌, arith}
use Rattle.std.specs.List.{range_with_len}
use Rattle.std.proofs.Math.Nat.{mul-le-mul_right}
use Rattle.std.proofs.lemmas.Bool.{cases_lt, cases_eq}
use Rattle.std.proofs.lemmas.List.Elements.{All-nil}
use Rattle.std.proofs.lemmas.List.FromFn.{get_or-map-range_with_len, fill_by_all}
use Rattle.std.proofs.lemmas.List.{get_or-take, get_or-drop, get_or_past, length-take}
use Rattle.hd_map.specs.declared.types.Pos.{Pos}
use Rattle.hd_map.specs.declared.types.Cell.{Cell}
use Rattle.hd_map.specs.declared.types.Cell.TheVariants.{Height, Bad}
use Rattle.hd_map.specs.declared.types.Size.{Size}
use Rattle.hd_map.specs.Encoding.{Encoding, values_of}
use Rattle.hd_morph.proofs.Encodings.{values_of-part}
use Rattle.hd_map.specs.Map.{Map, IsMap, IsCellOf, AreCellsOf, cell_at, cell_count, place_of, position_at}
use Rattle.hd_map.proofs.Points.{position_at-place, position_at-inside}
use Rattle.hd_map.specs.Sets.{AreHeightsIn, cell_with, cell_with_heights, with_heights}
use Rattle.hd_map.proofs.Sets.{cell_in_profile, cell_off_profile}
use Rattle.hd_morph.specs.Answer.{with_cells}
use Rattle.hd_morph.specs.NewHeights.{cell_after, cells_after}
use Rattle.hd_morph.proofs.Listed.{cells_after-get_or, cells_after-length}
use Rattle.hd_edit.specs.declared.change.Change.{Change}
use Rattle.hd_edit.specs.Change.{IsChange, before_changes}
use Rattle.hd_edit.specs.Profile.{AreNotedChanges}
use Rattle.hd_edit.proofs.Strokes.{mix, mix-before, mix-from, map_range-same}

module _ (m : Map) (heights : List (Option ℤ)) where
  -- the cells, and by index what they become
  abbrev pub old_cell : ℕ → Cell
  old_cell k = get_or m.cells k Bad

  -- the cells before an index are new
  abbrev pub partly_new : ℕ → Map
  partly_new n = record m { cells = map (mix n (cell_after m heights) old_cell) (range_with_len 0 (cell_count m.size)) }

  pub partly_new-none : (n : ℕ) → n ≡ 0 → length m.cells ≡ cell_count m.size → m ≡ partly_new n
  partly_new-none n none whole = ap (λ (cs : List Cell). record m { cells = cs })
      (fill_by_all (mix n (cell_after m heights) old_cell) m.cells (cell_count m.size) Bad whole (λ k h. sym (mix-from n (cell_after m heights) old_cell k (omega (arith, none)))))

  pub partly_new-all : (n : ℕ) → cell_count m.size ≤ n → partly_new n ≡ with_cells m (cells_after m heights)
  partly_new-all n past = ap (λ (cs : List Cell). record m { cells = cs }) (map_range-same (mix n (cell_after m heights) old_cell) (cell_after m heights) (cell_count m.size) Bad
      (λ k h. mix-before n (cell_after m heights) old_cell k (omega (arith, h, past))))

  -- the heights of a profile
  abbrev pub profile_of : ℕ → List (Option ℤ)
  profile_of y = take m.size.points (drop (y * m.size.points) heights)

  -- the heights for which a part of the numbers stands
  pub profile_of-numbers : {L : Type 0} (code : Encoding L) (s : Size) (numbers : List L) (y : ℕ) → s ≡ m.size → heights ≡ values_of code numbers
      → values_of code (take (y * s.points + s.points - y * s.points) (drop (y * s.points) numbers)) ≡ profile_of y
  profile_of-numbers code s numbers y same are =
      let n : ℕ = s.points in
      let long : y * n + n - y * n ≡ n = omega arith in
      ap (λ (k : ℕ). values_of code (take k (drop (y * n) numbers))) long ∙ values_of-part code (y * n) n numbers
      ∙ ap (λ (t : Size). take t.points (drop (y * t.points) (values_of code numbers))) same ∙ ap (λ (hs : List (Option ℤ)). take m.size.points (drop (y * m.size.points) hs)) (sym are)

  profile_at : (y x : ℕ) → x < m.size.points → get_or (profile_of y) x None ≡ get_or heights (y * m.size.points + x) None
  profile_at y x inside = get_or-take m.size.points (drop (y * m.size.points) heights) x None inside ∙ get_or-drop (y * m.size.points) heights x None

  module _ (y : ℕ) (some : 1 ≤ m.size.points) (inside : y < m.size.profiles) where
    -- each of them is of the type
    pub AreHeightsIn-profile_of : AreCellsOf m.data_type (cells_after m heights) → AreHeightsIn m.data_type (profile_of y)
    AreHeightsIn-profile_of are x z is = elim (cases_lt x m.size.points) [
      | inl column ↦
          let k : ℕ = y * m.size.points + x in
          let rows : y * m.size.points + m.size.points ≤ m.size.profiles * m.size.points = omega (arith, mul-le-mul_right m.size.points inside) in
          let below : k < cell_count m.size = omega (arith, rows, column) in
          let new : get_or (cells_after m heights) k Bad ≡ Height z = cells_after-get_or m heights k Bad below ∙ ap (λ (v : Option ℤ). cell_with v (old_cell k)) (sym (profile_at y x column) ∙ is) in
          subst (λ (c : Cell). IsCellOf m.data_type c) new (are k (omega (arith, cells_after-length m heights, below)))
      | inr past ↦
          let none : get_or (profile_of y) x None ≡ None = get_or_past (profile_of y) x None (omega (arith, length-take m.size.points (drop (y * m.size.points) heights), past)) in
          absurd (cc (none, is))
    ]

    -- with them the cells before the next profile are new
    cell_next : (k : ℕ) → k < cell_count m.size → cell_with_heights (partly_new (y * m.size.points)) y (profile_of y) (position_at m.size k)
        ≡ mix ((y + 1) * m.size.points) (cell_after m heights) old_cell k
    cell_next k below =
        let p : Pos = position_at m.size k in
        let place : place_of m.size p ≡ k = position_at-place m.size k some in
        let column = (position_at-inside m.size k some below).column in
        let first : ℕ = y * m.size.points in
        let next : (y + 1) * m.size.points ≡ first + m.size.points = omega arith in
        let was : cell_at (partly_new first) p ≡ mix first (cell_after m heights) old_cell k =
        ap (λ (i : ℕ). get_or (partly_new first).cells i Bad) place ∙ get_or-map-range_with_len (mix first (cell_after m heights) old_cell) 0 (cell_count m.size) k k Bad below (omega arith) in
        elim (cases_eq p.y y) [
          | inl same ↦
              let here : k ≡ first + p.x = sym place ∙ ap (λ (r : ℕ). r * m.size.points + p.x) same in
              cell_in_profile (partly_new first) y (profile_of y) p same
              ∙ ap (λ (v : Option ℤ). cell_with v (cell_at (partly_new first) p)) (profile_at y p.x column ∙ ap (λ (i : ℕ). get_or heights i None) (sym here))
              ∙ ap (cell_with (get_or heights k None)) (was ∙ mix-from first (cell_after m heights) old_cell k (omega (arith, here)))
              ∙ sym (mix-before ((y + 1) * m.size.points) (cell_after m heights) old_cell k (omega (arith, here, next, column)))
          | inr apart ↦ cell_off_profile (partly_new first) y (profile_of y) p apart ∙ was ∙ elim (cases_lt p.y y) [
            | inl above ↦
                let rows : p.y * m.size.points + m.size.points ≤ first = omega (arith, mul-le-mul_right m.size.points above) in
                mix-before first (cell_after m heights) old_cell k (omega (arith, rows, place, column))
                ∙ sym (mix-before ((y + 1) * m.size.points) (cell_after m heights) old_cell k (omega (arith, rows, place, column, next)))
            | inr not ↦
                let under : y < p.y = omega (arith, not, apart) in
                let rows : first + m.size.points ≤ p.y * m.size.points = omega (arith, mul-le-mul_right m.size.points under) in
                mix-from first (cell_after m heights) old_cell k (omega (arith, rows, place))
                ∙ sym (mix-from ((y + 1) * m.size.points) (cell_after m heights) old_cell k (omega (arith, rows, place, next)))
          ]
        ]

    pub partly_new-profile : with_heights (partly_new (y * m.size.points)) y (profile_of y) ≡ partly_new ((y + 1) * m.size.points)
    partly_new-profile = ap (λ (cs : List Cell). record m { cells = cs })
        (map_range-same (λ k. cell_with_heights (partly_new (y * m.size.points)) y (profile_of y) (position_at m.size k))
        (mix ((y + 1) * m.size.points) (cell_after m heights) old_cell) (cell_count m.size) Bad cell_next)

  -- the cells of the profiles before one are new, and what those were that became others is noted
  pub record Noted (y : ℕ) (now : Map) (notes : List Change) : Type 0 where
    pub map : now ≡ partly_new (y * m.size.points)
    pub before : before_changes notes now ≡ m
    pub notes_are : All (IsChange m) notes
    pub few : length notes ≤ y * m.size.points

  -- at first nothing is
  pub Noted-first : (notes : List Change) → IsMap m → notes ≡ [] → Noted 0 m notes
  Noted-first notes whole none = record {
    map = partly_new-none (0 * m.size.points) (omega arith) whole.cells;
    before = ap (λ (cs : List Change). before_changes cs m) none;
    notes_are = rw none (All-nil (IsChange m));
    few = rw none (omega arith);
  }

  module _ (y : ℕ) (now : Map) (notes : List Change) (so : Noted y now notes) where
    pub Noted-size : now.size ≡ m.size
    Noted-size = ap (λ (s : Map). s.size) so.map

    pub Noted-type : now.data_type ≡ m.data_type
    Noted-type = ap (λ (s : Map). s.data_type) so.map

    -- one profile further
    pub Noted-next : (now' : Map) (most : ℕ) (notes' : List Change) → 1 ≤ m.size.points → y < m.size.profiles → most ≤ m.size.points
        → AreNotedChanges now (with_heights now y (profile_of y)) most notes notes' → now' ≡ with_heights now y (profile_of y) → Noted (y + 1) now' notes'
    Noted-next now' most notes' some inside columns changes sets = record {
      map = sets ∙ ap (λ (s : Map). with_heights s y (profile_of y)) so.map ∙ partly_new-profile y some inside;
      before = ap (before_changes notes') sets ∙ changes.undone ∙ so.before;
      notes_are = subst (λ (s : Map). All (IsChange s) notes') so.map changes.each;
      few = omega (arith, changes.few, so.few, columns);
    }

    -- past the last profile all cells are new
    pub Noted-last : m.size.profiles ≤ y → now ≡ with_cells m (cells_after m heights)
    Noted-last past = so.map ∙ partly_new-all (y * m.size.points) (omega (arith, mul-le-mul_right m.size.points past))
