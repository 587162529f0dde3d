-- Heights of a map, listed one after another, and the cells that new heights make.
use Rattle.std.proofs.Common.{◌≡◌, ◌<◌, ◌≤◌, ◌+◌, ◌*◌, ℕ, ℤ, List, [], ◌∷◌, ◌++◌, length, map, get_or, Option, Some, None, inl, inr, refl, ap, subst, sym, ◌∙◌, arith}
use Rattle.std.specs.Prelude.{slice_index_or}
use Rattle.std.proofs.lemmas.Bool.{cases_lt}
use Rattle.std.proofs.lemmas.List.{get_or_past}
use Rattle.std.proofs.Math.Nat.{mul-le-mul_right}
use borrow.Rule.Slice.PartMut.{put_mid}
use Rattle.std.proofs.lemmas.List.FromFn.{length-map-range_with_len, get_or-map-range_with_len, map-range_with_len_more}
use Rattle.std.specs.List.{range_with_len}
use Rattle.hd_map.specs.declared.types.Pos.{Pos}
use Rattle.hd_map.specs.declared.types.Cell.{Cell}
use Rattle.hd_map.specs.declared.types.Cell.TheVariants.{Height, Bad}
use Rattle.hd_map.specs.declared.types.DataType.{DataType}
use Rattle.hd_map.specs.Map.{Map, IsMap, InGrid, IsCellOf, place_of, position_at, cell_count, cell_at}
use Rattle.hd_map.specs.Sets.{cell_with}
use Rattle.hd_map.specs.Encoding.{Encoding, values_of, number_in, wide}
use Rattle.hd_map.specs.Lanes.{IsPlainNumber, IsPlainHeight, IsRowOfHeights, IsFarProfile}
use Rattle.hd_map.proofs.Lanes.{height_near}
use Rattle.hd_map.proofs.Points.{position_at-place, position_at-inside, place_inside}
use Rattle.hd_morph.specs.Element.{ElementTable}
use Rattle.hd_morph.specs.declared.filter.Filter.{Filter}
use Rattle.hd_morph.specs.Filter.{relief_of}
use Rattle.hd_morph.specs.Answer.{AreCellsWith, IsFirstOutside, IsOutOfRange}
use Rattle.hd_morph.specs.Lists.{AreFilteredFrom}
use Rattle.hd_morph.specs.Plain.{HasNumbersWithin, relief}
use Rattle.hd_morph.specs.Raised.{ArePlainlyFiltered}
use Rattle.hd_morph.specs.Listed.{AreHeightsOf, AreOfType, IsBeyond}
use Rattle.hd_morph.specs.NewHeights.{cell_after, cells_after, AreNewHeights}
use Rattle.hd_morph.proofs.Encodings.{value_at-number_in, values_of-length}
use Rattle.hd_morph.proofs.PlainNumbers.{put_mid-inside, put_mid-before, put_mid-length}
use Rattle.hd_morph.proofs.Determined.{IsFiltered-of_same}
use Rattle.hd_morph.proofs.Settling.{ArePlain-filtered}

-- each cell of a map is of its type
cell_of_type : (m : Map) (p : Pos) → IsMap m → InGrid m.size p → IsCellOf m.data_type (cell_at m p)
cell_of_type m p is inside = is.heights (place_of m.size p) (omega (arith, is.cells, place_inside m.size p inside))

-- each height of a map is within the limits of numbers of 64 bits
pub IsBeyond-never_wide : (m : Map) → IsMap m → IsBeyond wide m → ⊥
IsBeyond-never_wide m is far = far.beyond (height_near m far.at is)

module _ {L : Type 0} (code : Encoding L) where
  -- what stands for none is plain
  pub IsPlainNumber-missing : (n : ℕ) → IsPlainNumber code n code.missing
  IsPlainNumber-missing n = record {
    bounded = record { least = λ z e. let e' : None ≡ Some z = sym code.missing_none ∙ e in cc; greatest = λ z e. let e' : None ≡ Some z = sym code.missing_none ∙ e in cc };
    absent = λ none. refl;
  }

  -- the heights of the profiles before one are listed
  pub record HeightsBefore (m : Map) (y : ℕ) (numbers : List L) : Type 0 where
    pub whole : length numbers ≡ cell_count m.size
    pub each : (p : Pos) → InGrid m.size p → p.y < y → IsPlainHeight code (relief_of m p) (number_in code numbers (place_of m.size p))

  pub HeightsBefore-none : (m : Map) (numbers : List L) → length numbers ≡ cell_count m.size → HeightsBefore m 0 numbers
  HeightsBefore-none m numbers whole = record { whole = whole; each = λ p inside below. absurd (omega arith) }

  pub HeightsBefore-more : (m : Map) (y : ℕ) (numbers row : List L) → y < m.size.profiles → IsRowOfHeights code m y row → HeightsBefore m y numbers
      → HeightsBefore m (y + 1) (put_mid (y * m.size.points) m.size.points numbers row)
  HeightsBefore-more m y numbers row inside are was =
      let k : ℕ = m.size.points in
      let room : y * k + k ≤ length numbers = omega (arith, was.whole, mul-le-mul_right k inside) in
      record {
        whole = put_mid-length (y * k) k numbers row room are.whole ∙ was.whole;
        each = λ p within below. elim (cases_lt p.y y) [
          | inl before ↦
              let earlier : p.y * k + k ≤ y * k = omega (arith, mul-le-mul_right k before) in
              rw (put_mid-before code.missing (y * k) k (place_of m.size p) numbers row room are.whole (omega (arith, earlier, within.column))) (was.each p within before)
          | inr not ↦
              let here : p.y ≡ y = omega arith in
              let place : place_of m.size p ≡ y * k + p.x = ap (λ t. t * k + p.x) here in
              let there : number_in code (put_mid (y * k) k numbers row) (place_of m.size p) ≡ number_in code row p.x =
              ap (number_in code (put_mid (y * k) k numbers row)) place ∙ put_mid-inside code.missing (y * k) k p.x numbers row room are.whole within.column in
              rw there (subst (λ t. IsPlainHeight code (relief_of m (record { x = p.x; y = t })) (number_in code row p.x)) (sym here) (are.each p.x within.column))
        ];
      }

  pub AreHeightsOf-all : (m : Map) (y : ℕ) (numbers : List L) → 1 ≤ m.size.points → m.size.profiles ≤ y → HeightsBefore m y numbers → AreHeightsOf code m numbers
  AreHeightsOf-all m y numbers some all was = record {
    plain = record {
      whole = was.whole;
      plain = record {
        each = λ k. elim (cases_lt k (cell_count m.size)) [
          | inl below ↦
              let place : place_of m.size (position_at m.size k) ≡ k = position_at-place m.size k some in
              let inside : InGrid m.size (position_at m.size k) = position_at-inside m.size k some below in
              rw place at ((was.each (position_at m.size k) inside (omega (arith, inside.profile))).plain)
          | inr past ↦ rw (get_or_past numbers k code.missing (omega (arith, was.whole))) (IsPlainNumber-missing code.most_height)
        ];
      };
    };
    each = λ p inside. value_at-number_in code numbers (place_of m.size p) ∙ (was.each p inside (omega (arith, inside.profile))).is;
  }

  -- a height of a profile that is too far from zero is one of the map
  pub IsBeyond-far : (m : Map) (y : ℕ) → y < m.size.profiles → IsFarProfile code m y → IsBeyond code m
  IsBeyond-far m y inside far = record { at = record { x = far.column; y = y }; in_grid = record { column = far.in_grid; profile = inside }; beyond = far.beyond }

-- how many cells there are
pub cells_after-length : (m : Map) (heights : List (Option ℤ)) → length (cells_after m heights) ≡ cell_count m.size
cells_after-length m heights = length-map-range_with_len (cell_after m heights) 0 (cell_count m.size)

-- the cell at an index
pub cells_after-get_or : (m : Map) (heights : List (Option ℤ)) (k : ℕ) (d : Cell) → k < cell_count m.size → get_or (cells_after m heights) k d ≡ cell_after m heights k
cells_after-get_or m heights k d below = get_or-map-range_with_len (cell_after m heights) 0 (cell_count m.size) k k d below (omega arith)

-- the cells before an index are listed
pub record CellsBefore (m : Map) (heights : List (Option ℤ)) (index : ℕ) (at : Pos) (cells : List Cell) : Type 0 where
  pub column : at.x < m.size.points
  pub place : place_of m.size at ≡ index
  pub are : cells ≡ map (cell_after m heights) (range_with_len 0 index)

pub CellsBefore-none : (m : Map) (heights : List (Option ℤ)) (at : Pos) (cells : List Cell) → at.x ≡ 0 → at.y ≡ 0 → 1 ≤ m.size.points → cells ≡ [] → CellsBefore m heights 0 at cells
CellsBefore-none m heights at cells x y some empty = record { column = omega arith; place = rw (y, x) (omega arith); are = empty }

pub CellsBefore-more : (m : Map) (heights : List (Option ℤ)) (index : ℕ) (at next : Pos) (cells cells' : List Cell)
    → next.x < m.size.points → place_of m.size next ≡ place_of m.size at + 1 → cells' ≡ cells ++ cell_with (slice_index_or heights index None) (cell_at m at) ∷ []
    → CellsBefore m heights index at cells → CellsBefore m heights (index + 1) next cells'
CellsBefore-more m heights index at next cells cells' column onward pushed was = record {
  column = column;
  place = omega (arith, was.place);
  are =
      let same : cell_with (slice_index_or heights index None) (cell_at m at) ≡ cell_after m heights index = ap
      (λ k. cell_with (slice_index_or heights index None) (slice_index_or m.cells k Bad)) was.place in
      pushed ∙ ap (λ (c : Cell). cells ++ c ∷ []) same ∙ ap (λ (cs : List Cell). cs ++ cell_after m heights index ∷ []) was.are
      ∙ sym (map-range_with_len_more (cell_after m heights) 0 index index (omega arith));
}

-- a new height or an old cell of the type
cell_with_of_type : (t : DataType) (height : Option ℤ) (old : Cell) → ((z : ℤ) → height ≡ Some z → IsCellOf t (Height z)) → IsCellOf t old → IsCellOf t (cell_with height old)
cell_with_of_type t (Some z) old new is = new z refl
cell_with_of_type t None old new is = is

-- the cells with new heights
pub AreCellsWith-cells_after : (m : Map) (heights : List (Option ℤ)) → IsMap m → AreOfType m (relief m.size heights) → AreCellsWith m (relief m.size heights) (cells_after m heights)
AreCellsWith-cells_after m heights is of_type =
    let new : (p : Pos) → InGrid m.size p → get_or (cells_after m heights) (place_of m.size p) Bad ≡ cell_with (relief m.size heights p) (cell_at m p) = λ p inside.
    cells_after-get_or m heights (place_of m.size p) Bad (place_inside m.size p inside) in
    record {
      whole = cells_after-length m heights;
      present = λ p inside z there. new p inside ∙ ap (λ (v : Option ℤ). cell_with v (cell_at m p)) there;
      absent = λ p inside none. new p inside ∙ ap (λ (v : Option ℤ). cell_with v (cell_at m p)) none;
      of_type = λ k below.
          let p : Pos = position_at m.size k in
          let some = is.size.some_points in
          let place : place_of m.size p ≡ k = position_at-place m.size k some in
          let inside : InGrid m.size p = position_at-inside m.size k some (omega (arith, cells_after-length m heights)) in
          let typed : IsCellOf m.data_type (get_or (cells_after m heights) (place_of m.size p) Bad) =
          rw (new p inside) (cell_with_of_type m.data_type (relief m.size heights p) (cell_at m p) (of_type p inside) (cell_of_type m p is inside)) in
          rw place at typed;
    }

module _ {L : Type 0} (code : Encoding L) (filter : Filter) (m : Map) (e : ElementTable) (old new : List L) where
  -- what is made of the heights of the map
  pub AreFilteredFrom-plainly : IsMap m → HasNumbersWithin code.most_number e → AreHeightsOf code m old → ArePlainlyFiltered code filter m.size e old new → AreFilteredFrom code filter m e new
  AreFilteredFrom-plainly is numbers are made = record {
    filtered = IsFiltered-of_same filter m.size e (relief m.size (values_of code old)) (relief_of m) (relief m.size (values_of code new)) are.each made.filtered;
    plain = ArePlain-filtered code filter m.size e old new is.size.some_points numbers are.plain made;
  }

module _ {L : Type 0} (code : Encoding L) (filter : Filter) (m : Map) (e : ElementTable) (new : List L) (made : AreFilteredFrom code filter m e new) where
  -- new heights that are those of the filtered map
  pub AreNewHeights-filtered : IsMap m → AreOfType m (relief m.size (values_of code new)) → AreNewHeights filter m e (values_of code new)
  AreNewHeights-filtered is of_type = record {
    whole = values_of-length code new ∙ made.plain.whole;
    filtered = record { heights = relief m.size (values_of code new); filtered = made.filtered; are_cells = AreCellsWith-cells_after m (values_of code new) is of_type };
  }

  -- and a first one that is out of range
  pub IsOutOfRange-first_outside : (p : Pos) → IsFirstOutside m (relief m.size (values_of code new)) p → IsOutOfRange filter m e p
  IsOutOfRange-first_outside p outside = record { heights = relief m.size (values_of code new); filtered = made.filtered; first_outside = outside }
