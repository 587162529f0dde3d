-- An edit has one outcome.
use Rattle.std.proofs.Common.{◌≡◌, List, Option, Some, None, Result, Ok, Err, refl, sym, ap, ◌∙◌}
use Rattle.hd_map.specs.declared.types.Pos.{Pos}
use Rattle.hd_map.specs.declared.types.Cell.{Cell}
use Rattle.hd_map.specs.Map.{Map}
use Rattle.hd_morph.specs.Element.{ElementTable}
use Rattle.hd_morph.specs.declared.filter.Filter.{Filter}
use Rattle.hd_morph.specs.declared.filter.Filter.TheVariants.{Dilation, Erosion, Opening, Closing}
use Rattle.hd_morph.specs.Answer.{AreFilteredCells, IsOutOfRange, with_cells}
use Rattle.hd_edit.specs.declared.edit.Edit.{Edit}
use Rattle.hd_edit.specs.declared.edit.Edit.TheVariants as edit
use Rattle.hd_edit.specs.declared.edit.EditError.{EditError}
use Rattle.hd_edit.specs.declared.edit.EditError.TheVariants.{Memory, Outside, HeightRange, EmptyRect, NoElement}
use Rattle.hd_edit.specs.Elements.{first_named}
use Rattle.hd_edit.specs.Filter.{IsFilteredBy, IsFilterRefusal}
use Rattle.hd_edit.specs.Board.{IsEdited}

-- a refusal by a filter names a position out of range
in_range_of : (filter : Filter) (m : Map) (e : ElementTable) (error : EditError) → IsFilterRefusal filter m e error
    → (p : Pos) × (error ≡ HeightRange p) × IsOutOfRange filter m e p
in_range_of filter m e Memory is = absurd is
in_range_of filter m e (Outside p) is = absurd is
in_range_of filter m e (HeightRange p) is = (p, refl, is)
in_range_of filter m e EmptyRect is = absurd is
in_range_of filter m e NoElement is = absurd is

module _ (m : Map)
    (one_list : (filter : Filter) (e : ElementTable) (a b : List Cell) → AreFilteredCells filter m e a → AreFilteredCells filter m e b → a ≡ b)
    (one_position : (filter : Filter) (e : ElementTable) (p q : Pos) → IsOutOfRange filter m e p → IsOutOfRange filter m e q → p ≡ q)
    (never_both : (filter : Filter) (e : ElementTable) (cells : List Cell) (p : Pos) → AreFilteredCells filter m e cells → IsOutOfRange filter m e p → ⊥) where
  one_filtered : (filter : Filter) (found : Option ElementTable) (x y : Result Map EditError) → IsFilteredBy filter m found x → IsFilteredBy filter m found y → x ≡ y
  one_filtered filter None x y first second = first ∙ sym second
  one_filtered filter (Some e) (Ok a) (Ok b) first second = ap Ok (first.is_map ∙ ap (with_cells m)
      (one_list filter e first.cells second.cells first.are_filtered second.are_filtered) ∙ sym second.is_map)
  one_filtered filter (Some e) (Ok a) (Err b) first second = let other = in_range_of filter m e b second in absurd (never_both filter e first.cells other.0 first.are_filtered other.2)
  one_filtered filter (Some e) (Err a) (Ok b) first second = let other = in_range_of filter m e a first in absurd (never_both filter e second.cells other.0 second.are_filtered other.2)
  one_filtered filter (Some e) (Err a) (Err b) first second =
      let one = in_range_of filter m e a first in
      let other = in_range_of filter m e b second in
      ap Err (one.1 ∙ ap HeightRange (one_position filter e one.0 other.0 one.2 other.2) ∙ sym other.1)

  pub IsEdited-unique : (elements : List ElementTable) (e : Edit) (x y : Result Map EditError) → IsEdited elements m e x → IsEdited elements m e y → x ≡ y
  IsEdited-unique elements (edit.Set at z) x y first second = first ∙ sym second
  IsEdited-unique elements (edit.Bad at) x y first second = first ∙ sym second
  IsEdited-unique elements (edit.Add from to delta) x y first second = first ∙ sym second
  IsEdited-unique elements (edit.Mask from to) x y first second = first ∙ sym second
  IsEdited-unique elements (edit.Unmask from to) x y first second = first ∙ sym second
  IsEdited-unique elements (edit.Dilate name) x y first second = one_filtered Dilation (first_named elements name) x y first second
  IsEdited-unique elements (edit.Erode name) x y first second = one_filtered Erosion (first_named elements name) x y first second
  IsEdited-unique elements (edit.Open name) x y first second = one_filtered Opening (first_named elements name) x y first second
  IsEdited-unique elements (edit.Close name) x y first second = one_filtered Closing (first_named elements name) x y first second
