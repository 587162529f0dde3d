-- A filter has one result, and looks at the heights of the grid alone.
use Rattle.std.proofs.Common.{◌≡◌, ◌≤◌, ℤ, List, length, get_or, inl, inr, sym, ◌∙◌, arith}
use Rattle.std.proofs.lemmas.Bool.{cases_lt}
use Rattle.std.proofs.lemmas.List.{ext_get_or}
use Rattle.hd_map.specs.declared.types.Pos.{Pos}
use Rattle.hd_map.specs.declared.types.Size.{Size}
use Rattle.hd_map.specs.declared.types.Cell.{Cell}
use Rattle.hd_map.specs.declared.types.Cell.TheVariants.{Height, Bad}
use Rattle.hd_map.specs.Map.{Map, IsMap, InGrid, IsCellOf, place_of, position_at, cell_count, cell_at}
use Rattle.hd_map.proofs.Points.{place_inside, same_place, position_at-place, position_at-inside}
use Rattle.hd_morph.specs.Element.{ElementTable}
use Rattle.hd_morph.specs.declared.filter.Filter.{Filter}
use Rattle.hd_morph.specs.declared.filter.Filter.TheVariants.{Dilation, Erosion, Opening, Closing}
use Rattle.hd_morph.specs.Filter.{Relief, IsRaised, IsLowered, IsDilation, IsErosion, IsFiltered}
use Rattle.hd_morph.specs.Compare.{AreSame}
use Rattle.hd_morph.specs.Answer.{AreFilteredCells, IsFirstOutside, IsOutOfRange, with_cells}
use Rattle.hd_morph.proofs.Greatest.{IsGreatest-unique, IsLeast-unique, IsGreatest-same_values, IsLeast-same_values}
use Rattle.hd_morph.proofs.PlainNumbers.{Option-some_or_none}

same_back : (s : Size) (f g : Relief) → AreSame s f g → AreSame s g f
same_back s f g same = λ p inside. sym (same p inside)

raised_same : (s : Size) (e : ElementTable) (f g : Relief) (p : Pos) (z : ℤ) → AreSame s f g → IsRaised s e f p z → IsRaised s e g p z
raised_same s e f g p z same r = record { from = r.from; height = r.height; number = r.number; links = r.links; is_height = sym (same r.from r.links.from) ∙ r.is_height; sum = r.sum }

lowered_same : (s : Size) (e : ElementTable) (f g : Relief) (p : Pos) (z : ℤ) → AreSame s f g → IsLowered s e f p z → IsLowered s e g p z
lowered_same s e f g p z same r = record { to = r.to; height = r.height; number = r.number; links = r.links; is_height = sym (same r.to r.links.to) ∙ r.is_height; difference = r.difference }

-- reliefs that agree on the grid have the same dilations
dilation_of_same : (s : Size) (e : ElementTable) (f f' g : Relief) → AreSame s f f' → IsDilation s e f g → IsDilation s e f' g
dilation_of_same s e f f' g same was = record {
  present = λ p inside z is. IsGreatest-same_values (IsRaised s e f p) (IsRaised s e f' p) (g p) (λ y r. raised_same s e f f' p y same r) (λ y r. raised_same s e f' f p y (same_back s f f' same) r)
      (was.present p inside z (same p inside ∙ is));
  absent = λ p inside none. was.absent p inside (same p inside ∙ none);
}

-- and the same erosions
erosion_of_same : (s : Size) (e : ElementTable) (f f' g : Relief) → AreSame s f f' → IsErosion s e f g → IsErosion s e f' g
erosion_of_same s e f f' g same was = record {
  present = λ p inside z is. IsLeast-same_values (IsLowered s e f p) (IsLowered s e f' p) (g p) (λ y r. lowered_same s e f f' p y same r) (λ y r. lowered_same s e f' f p y (same_back s f f' same) r)
      (was.present p inside z (same p inside ∙ is));
  absent = λ p inside none. was.absent p inside (same p inside ∙ none);
}

-- a relief has one dilation
dilation_same : (s : Size) (e : ElementTable) (f g h : Relief) → IsDilation s e f g → IsDilation s e f h → AreSame s g h
dilation_same s e f g h one other p inside = elim (Option-some_or_none (f p)) [
  | inl z ↦ IsGreatest-unique (IsRaised s e f p) (g p) (h p) (one.present p inside z.0 z.1) (other.present p inside z.0 z.1)
  | inr none ↦ one.absent p inside none ∙ sym (other.absent p inside none)
]

-- and one erosion
erosion_same : (s : Size) (e : ElementTable) (f g h : Relief) → IsErosion s e f g → IsErosion s e f h → AreSame s g h
erosion_same s e f g h one other p inside = elim (Option-some_or_none (f p)) [
  | inl z ↦ IsLeast-unique (IsLowered s e f p) (g p) (h p) (one.present p inside z.0 z.1) (other.present p inside z.0 z.1)
  | inr none ↦ one.absent p inside none ∙ sym (other.absent p inside none)
]

-- reliefs that agree on the grid are filtered to the same
pub IsFiltered-of_same : (filter : Filter) (s : Size) (e : ElementTable) (f f' g : Relief) → AreSame s f f' → IsFiltered filter s e f g → IsFiltered filter s e f' g
IsFiltered-of_same Dilation s e f f' g same was = dilation_of_same s e f f' g same was
IsFiltered-of_same Erosion s e f f' g same was = erosion_of_same s e f f' g same was
IsFiltered-of_same Opening s e f f' g same was = record { between = was.between; first = erosion_of_same s e f f' was.between same was.first; second = was.second }
IsFiltered-of_same Closing s e f f' g same was = record { between = was.between; first = dilation_of_same s e f f' was.between same was.first; second = was.second }

-- a filter has one result
pub IsFiltered-unique : (filter : Filter) (s : Size) (e : ElementTable) (f g h : Relief) → IsFiltered filter s e f g → IsFiltered filter s e f h → AreSame s g h
IsFiltered-unique Dilation s e f g h one other = dilation_same s e f g h one other
IsFiltered-unique Erosion s e f g h one other = erosion_same s e f g h one other
IsFiltered-unique Opening s e f g h one other =
    let same = erosion_same s e f other.between one.between other.first one.first in
    dilation_same s e one.between g h one.second (dilation_of_same s e other.between one.between h same other.second)
IsFiltered-unique Closing s e f g h one other =
    let same = dilation_same s e f other.between one.between other.first one.first in
    erosion_same s e one.between g h one.second (erosion_of_same s e other.between one.between h same other.second)

-- lists of cells that agree at each position are one
same_cells : (s : Size) (a b : List Cell) → 1 ≤ s.points → length a ≡ cell_count s → length b ≡ cell_count s
    → ((p : Pos) → InGrid s p → get_or a (place_of s p) Bad ≡ get_or b (place_of s p) Bad) → a ≡ b
same_cells s a b some whole whole' same = ext_get_or Bad a b (whole ∙ sym whole') (λ k below.
    let place : place_of s (position_at s k) ≡ k = position_at-place s k some in
    rw place at (same (position_at s k) (position_at-inside s k some (omega arith))))

pub AreFilteredCells-unique : (filter : Filter) (m : Map) (e : ElementTable) (a b : List Cell) → IsMap m → AreFilteredCells filter m e a → AreFilteredCells filter m e b → a ≡ b
AreFilteredCells-unique filter m e a b is one other =
    let same = IsFiltered-unique filter m.size e _ one.heights other.heights one.filtered other.filtered in
    same_cells m.size a b is.size.some_points one.are_cells.whole other.are_cells.whole (λ p inside. elim (Option-some_or_none (one.heights p)) [
      | inl z ↦ one.are_cells.present p inside z.0 z.1 ∙ sym (other.are_cells.present p inside z.0 (sym (same p inside) ∙ z.1))
      | inr none ↦ one.are_cells.absent p inside none ∙ sym (other.are_cells.absent p inside (sym (same p inside) ∙ none))
    ])

-- a position that is out of range is not before the first one
not_before : (m : Map) (f g : Relief) (p q : Pos) → AreSame m.size f g → IsFirstOutside m f p → IsFirstOutside m g q → place_of m.size q ≤ place_of m.size p
not_before m f g p q same one other = elim (cases_lt (place_of m.size p) (place_of m.size q)) [
  | inl less ↦ absurd (one.outside (other.first p one.in_grid less one.height (sym (same p one.in_grid) ∙ one.is_height)))
  | inr fine ↦ fine
]

pub IsOutOfRange-unique : (filter : Filter) (m : Map) (e : ElementTable) (p q : Pos) → IsOutOfRange filter m e p → IsOutOfRange filter m e q → p ≡ q
IsOutOfRange-unique filter m e p q one other =
    let same = IsFiltered-unique filter m.size e _ one.heights other.heights one.filtered other.filtered in
    let le = not_before m one.heights other.heights p q same one.first_outside other.first_outside in
    let ge = not_before m other.heights one.heights q p (same_back m.size one.heights other.heights same) other.first_outside one.first_outside in
    same_place m.size p q one.first_outside.in_grid other.first_outside.in_grid (omega arith)

pub IsOutOfRange-not_filtered : (filter : Filter) (m : Map) (e : ElementTable) (cells : List Cell) (p : Pos) → IsMap m → AreFilteredCells filter m e cells → IsOutOfRange filter m e p → ⊥
IsOutOfRange-not_filtered filter m e cells p is accepted refused =
    let same = IsFiltered-unique filter m.size e _ accepted.heights refused.heights accepted.filtered refused.filtered in
    let out = refused.first_outside in
    let cell : cell_at (with_cells m cells) p ≡ Height out.height = accepted.are_cells.present p out.in_grid out.height (same p out.in_grid ∙ out.is_height) in
    let of_type : IsCellOf m.data_type (cell_at (with_cells m cells) p) = accepted.are_cells.of_type (place_of m.size p) (omega (arith, accepted.are_cells.whole, place_inside m.size p out.in_grid)) in
    out.outside (rw cell at of_type)
