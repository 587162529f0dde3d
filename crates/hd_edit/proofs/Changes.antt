-- The map before changes.
use Rattle.std.proofs.Common.{◌≡◌, ℕ, Bool, false, List, [], ◌∷◌, ◌++◌, set, All, refl, sym, ap, subst, ◌∙◌}
use Rattle.std.proofs.lemmas.List.{set-set, set-get_or}
use Rattle.hd_map.specs.declared.types.Adjacency.{Adjacency}
use Rattle.hd_map.specs.declared.types.Pos.{Pos}
use Rattle.hd_map.specs.declared.types.Size.{Size}
use Rattle.hd_map.specs.declared.types.Cell.{Cell}
use Rattle.hd_map.specs.declared.types.Cell.TheVariants.{Bad}
use Rattle.hd_map.specs.declared.types.DataType.{DataType}
use Rattle.hd_map.specs.Map.{Map, IsMap, InGrid, IsCellOf, cell_at, mask_at, place_of}
use Rattle.hd_map.proofs.Points.{place_inside}
use Rattle.hd_map.specs.Sets.{with_cell, with_mask, under}
use Rattle.hd_edit.specs.declared.change.Change.{Change}
use Rattle.hd_edit.specs.declared.change.Was.{Was}
use Rattle.hd_edit.specs.declared.change.Was.TheVariants as was
use Rattle.hd_edit.specs.Change.{IsCellThatWas, with_was, before_changes, IsWasOf, IsChange}

-- the last change is undone first
pub before_changes-push : (cs : List Change) (c : Change) (m : Map) → before_changes (cs ++ c ∷ []) m ≡ before_changes cs (with_was c.was c.index m)
before_changes-push [] c m = refl
before_changes-push (e ∷ cs) c m = ap (with_was e.was e.index) (before_changes-push cs c m)

-- a cell put back
with_was-cell : (w : Was) (cell : Cell) (k : ℕ) (m : Map) → IsCellThatWas m.data_type w cell → with_was w k m ≡ record m { cells = set m.cells k cell }
with_was-cell (was.Height over) cell k m is = ap (λ (c : Cell). record m { cells = set m.cells k c }) (sym is)
with_was-cell was.Bad cell k m is = ap (λ (c : Cell). record m { cells = set m.cells k c }) (sym is)
with_was-cell (was.Mask masked) cell k m is = absurd is

-- a cell that was set and put back
cell_back : (m : Map) (at : Pos) (w : Was) (new : Cell) → IsCellThatWas m.data_type w (cell_at m at) → with_was w (place_of m.size at) (with_cell m at new) ≡ m
cell_back m at w new is =
    let k = place_of m.size at in
    with_was-cell w (cell_at m at) k (with_cell m at new) is ∙ ap (λ (cells : List Cell). record m { cells = cells }) (set-set m.cells k new (cell_at m at) ∙ set-get_or m.cells k Bad)

-- a mask that was set and put back
mask_back : (m : Map) (at : Pos) (new : Bool) → with_was (was.Mask (mask_at m at)) (place_of m.size at) (with_mask m at new) ≡ m
mask_back m at new =
    let k = place_of m.size at in
    ap (λ (masks : List Bool). record m { masks = masks }) (set-set m.masks k new (mask_at m at) ∙ set-get_or m.masks k false)

-- a noted change of a cell leaves the map before all changes
pub before_changes-cell : (m m' : Map) (notes notes' : List Change) (at : Pos) (index : ℕ) (cell new : Cell) (w : Was)
    → notes' ≡ notes ++ (record { index = index; was = w }) ∷ [] → index ≡ place_of m.size at → IsCellThatWas m.data_type w cell → cell ≡ cell_at m at → m' ≡ with_cell m at new
    → before_changes notes' m' ≡ before_changes notes m
before_changes-cell m m' notes notes' at index cell new w pushed place is here set =
    ap (λ ns. before_changes ns m') pushed ∙ before_changes-push notes (record { index = index; was = w }) m'
    ∙ ap (before_changes notes) (ap (λ i. with_was w i m') place ∙ ap (with_was w (place_of m.size at)) set ∙ cell_back m at w new (subst (λ (c : Cell). IsCellThatWas m.data_type w c) here is))

-- a noted change of a mask leaves the map before all changes
pub before_changes-mask : (m m' : Map) (notes notes' : List Change) (at : Pos) (index : ℕ) (masked new : Bool)
    → notes' ≡ notes ++ (record { index = index; was = was.Mask masked }) ∷ [] → index ≡ place_of m.size at → masked ≡ mask_at m at → m' ≡ with_mask m at new
    → before_changes notes' m' ≡ before_changes notes m
before_changes-mask m m' notes notes' at index masked new pushed place here set =
    ap (λ ns. before_changes ns m') pushed ∙ before_changes-push notes (record { index = index; was = was.Mask masked }) m'
    ∙ ap (before_changes notes) (ap (λ i. with_was (was.Mask masked) i m') place ∙ ap (λ v. with_was (was.Mask v) (place_of m.size at) m') here
    ∙ ap (with_was (was.Mask (mask_at m at)) (place_of m.size at)) set ∙ mask_back m at new)

-- a change is undone alike under each setting
under_was : (adjacency : Adjacency) (w : Was) (k : ℕ) (m : Map) → with_was w k (under adjacency m) ≡ under adjacency (with_was w k m)
under_was adjacency (was.Height over) k m = refl
under_was adjacency was.Bad k m = refl
under_was adjacency (was.Mask masked) k m = refl

pub before_changes-under : (adjacency : Adjacency) (cs : List Change) (m : Map) → before_changes cs (under adjacency m) ≡ under adjacency (before_changes cs m)
before_changes-under adjacency [] m = refl
before_changes-under adjacency (c ∷ cs) m = ap (with_was c.was c.index) (before_changes-under adjacency cs m) ∙ under_was adjacency c.was c.index (before_changes cs m)

-- what was a cell of the data type is one
pub IsWasOf-cell : (t : DataType) (w : Was) (cell : Cell) → IsCellThatWas t w cell → IsCellOf t cell → IsWasOf t w
IsWasOf-cell t (was.Height over) cell that is = subst (λ (c : Cell). IsCellOf t c) that is
IsWasOf-cell t was.Bad cell that is = tt
IsWasOf-cell t (was.Mask masked) cell that is = tt

-- a cell of a map is of the data type
pub IsCellOf-cell_at : (m : Map) → IsMap m → (p : Pos) → InGrid m.size p → IsCellOf m.data_type (cell_at m p)
IsCellOf-cell_at m whole p inside = whole.heights (place_of m.size p) (rw whole.cells (place_inside m.size p inside))

-- the size and the type stay
same_kind : (m : Map) (w : Was) (k : ℕ) (cs : List Change) → All (IsChange m) cs → All (IsChange (with_was w k m)) cs
same_kind m (was.Height over) k cs are = are
same_kind m was.Bad k cs are = are
same_kind m (was.Mask masked) k cs are = are

-- what is left to be put back is still to be put back
pub IsChange-still : (m m' : Map) (w : Was) (k : ℕ) (cs : List Change) → m' ≡ with_was w k m → All (IsChange m) cs → All (IsChange m') cs
IsChange-still m m' w k cs is are = subst (λ (n : Map). All (IsChange n) cs) (sym is) (same_kind m w k cs are)

-- the map before changes has the size and the type of the map after them
kind_of_was : (P : Size → DataType → Type 0) (w : Was) (k : ℕ) (m : Map) → P m.size m.data_type → P (with_was w k m).size (with_was w k m).data_type
kind_of_was P (was.Height over) k m p = p
kind_of_was P was.Bad k m p = p
kind_of_was P (was.Mask masked) k m p = p

pub before_changes-kind : (P : Size → DataType → Type 0) (cs : List Change) (m : Map) → P m.size m.data_type → P (before_changes cs m).size (before_changes cs m).data_type
before_changes-kind P [] m p = p
before_changes-kind P (c ∷ cs) m p = kind_of_was P c.was c.index (before_changes cs m) (before_changes-kind P cs m p)
