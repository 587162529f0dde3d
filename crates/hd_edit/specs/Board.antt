-- What a board is seen as, and what an edit and an undo make of it.
use Rattle.std.specs.Prelude.{◌≡◌, ◌<◌, ◌≤◌, ◌+◌, ◌-◌, ℕ, true, false, List, [], ◌∷◌, ◌++◌, length, take, drop, slice_index_or, Result, Ok, Err}
use Rattle.hd_map.specs.Map.{Map}
use Rattle.hd_morph.specs.Element.{ElementTable}
use Rattle.hd_morph.specs.declared.filter.Filter.TheVariants.{Dilation, Erosion, Opening, Closing}
use Rattle.hd_edit.specs.Edit.{height_set, height_taken, heights_raised, masks_set}
use Rattle.hd_edit.specs.Elements.{first_named}
use Rattle.hd_edit.specs.Filter.{IsFilteredBy}
use Rattle.hd_edit.specs.declared.edit.Edit.{Edit}
use Rattle.hd_edit.specs.declared.edit.Edit.TheVariants as edit
use Rattle.hd_edit.specs.declared.edit.EditError.{EditError}
use Rattle.hd_edit.specs.declared.edit.EditError.TheVariants.{Memory, Outside, HeightRange, EmptyRect, NoElement}
use Rattle.hd_edit.specs.declared.edit.LogEnds.{LogEnds}

-- this is the outcome of an edit of a map, on a board with these elements
abbrev pub IsEdited : List ElementTable → Map → Edit → Result Map EditError → Type 0
IsEdited elements m (edit.Set at z) outcome = outcome ≡ height_set m at z
IsEdited elements m (edit.Bad at) outcome = outcome ≡ height_taken m at
IsEdited elements m (edit.Add from to delta) outcome = outcome ≡ heights_raised m from to delta
IsEdited elements m (edit.Mask from to) outcome = outcome ≡ masks_set m from to true
IsEdited elements m (edit.Unmask from to) outcome = outcome ≡ masks_set m from to false
IsEdited elements m (edit.Dilate name) outcome = IsFilteredBy Dilation m (first_named elements name) outcome
IsEdited elements m (edit.Erode name) outcome = IsFilteredBy Erosion m (first_named elements name) outcome
IsEdited elements m (edit.Open name) outcome = IsFilteredBy Opening m (first_named elements name) outcome
IsEdited elements m (edit.Close name) outcome = IsFilteredBy Closing m (first_named elements name) outcome

-- the grid with the present map, the earlier maps with the newest last, and the elements
pub record BoardState (G : Type 0) : Type 0 where
  pub grid : G
  pub earlier : List Map
  pub elements : List ElementTable

-- an accepted edit makes the map that is defined; a refused one tells the refusal that is defined,
-- and leaves the map; so does want of memory
abbrev pub Applies : (Result Map EditError → Type 0) → Result (Unit {0}) EditError → Map → Map → Type 0
Applies IsOutcome (Ok done) old new = IsOutcome (Ok new)
Applies IsOutcome (Err Memory) old new = new ≡ old
Applies IsOutcome (Err (Outside at)) old new = IsOutcome (Err (Outside at)) × (new ≡ old)
Applies IsOutcome (Err (HeightRange at)) old new = IsOutcome (Err (HeightRange at)) × (new ≡ old)
Applies IsOutcome (Err EmptyRect) old new = IsOutcome (Err EmptyRect) × (new ≡ old)
Applies IsOutcome (Err NoElement) old new = IsOutcome (Err NoElement) × (new ≡ old)

-- want of memory, or the refusal that is defined
abbrev pub IsRefusalBy : (Result Map EditError → Type 0) → EditError → Type 0
IsRefusalBy IsOutcome Memory = Unit {0}
IsRefusalBy IsOutcome (Outside at) = IsOutcome (Err (Outside at))
IsRefusalBy IsOutcome (HeightRange at) = IsOutcome (Err (HeightRange at))
IsRefusalBy IsOutcome EmptyRect = IsOutcome (Err EmptyRect)
IsRefusalBy IsOutcome NoElement = IsOutcome (Err NoElement)

-- how many earlier maps are kept
abbrev pub log_places : ℕ
log_places = 32

-- the earlier maps once one more edit is accepted: the map before it goes last, and the first of
-- 33 is dropped
abbrev pub kept_after : List Map → Map → List Map
kept_after earlier m = let maps = earlier ++ m ∷ [] in drop (length maps - log_places) maps

-- the map n accepted edits ago, and the present one for 0
abbrev pub map_before : ℕ → List Map → Map → Map
map_before n earlier m = slice_index_or (earlier ++ m ∷ []) (length earlier - n) m

-- the earlier maps of that map
abbrev pub earlier_before : ℕ → List Map → List Map
earlier_before n earlier = take (length earlier - n) earlier

-- an undo of n edits goes back to the map before them; it is refused exactly where fewer are kept,
-- tells how many these are, and changes nothing
abbrev pub Undoes : ℕ → Result (Unit {0}) LogEnds → List Map → Map → List Map → Map → Type 0
Undoes n (Ok done) earlier m earlier' m' =
    (n ≤ length earlier) × (m' ≡ map_before n earlier m) × (earlier' ≡ earlier_before n earlier)
Undoes n (Err refusal) earlier m earlier' m' =
    (length earlier < n) × (refusal.kept ≡ length earlier) × (m' ≡ m) × (earlier' ≡ earlier)

-- a count of changes rises, by this at most
abbrev pub RisesUpTo : ℕ → ℕ → ℕ → Type 0
RisesUpTo most before now = (before ≤ now) × (now ≤ before + most)
