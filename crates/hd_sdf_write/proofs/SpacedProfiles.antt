-- The data of a profile, one after another.
use Rattle.std.proofs.Common.{◌≡◌, ◌+◌, ◌*◌, ◌-◌, ◌<◌, ◌≤◌, ℕ, suc, List, [], ◌∷◌, ◌++◌, length, take, drop, get_or, sym, ap, arith, ◌∙◌, append_assoc, append-nil, length-take, length-drop}
use Rattle.std.specs.List.{flat_map}
use Rattle.std.proofs.Math.Nat.{mul-le-mul_right}
use Rattle.std.proofs.lemmas.List.{get_or-drop, get_or-take, take_more}
use Rattle.std.proofs.lemmas.List.Concat.{flat_map-append}
use Rattle.hd_map.specs.declared.types.Cell.{Cell}
use Rattle.hd_map.specs.declared.types.Cell.TheVariants.{Bad}
use Rattle.hd_map.specs.declared.types.DataType.{DataType}
use Rattle.hd_map.specs.declared.types.Pos.{Pos}
use Rattle.hd_map.specs.Map.{IsMap, Map, cell_at}
use Rattle.hd_sdf_write.specs.Canonical.{cell_text, profile, spaced}

-- one more datum behind others
spaced_push : (data_type : DataType) (cells : List Cell) (cell : Cell) → 0 < length cells → spaced data_type (cells ++ cell ∷ []) ≡ (spaced data_type cells ++ 32 ∷ []) ++ cell_text data_type cell
spaced_push data_type [] cell some = absurd (omega arith)
spaced_push data_type (first ∷ cells) cell some =
    ap (λ t. cell_text data_type first ++ t) (flat_map-append (λ c. 32 ∷ cell_text data_type c) cells (cell ∷ [])
    ∙ ap (λ t. flat_map (λ c. 32 ∷ cell_text data_type c) cells ++ (32 ∷ t)) (append-nil (cell_text data_type cell)))
    ∙ sym (append_assoc (cell_text data_type first) (flat_map (λ c. 32 ∷ cell_text data_type c) cells) (32 ∷ cell_text data_type cell))
    ∙ sym (append_assoc (spaced data_type (first ∷ cells)) (32 ∷ []) (cell_text data_type cell))

-- a profile has as many cells as it has points
pub profile-length : (m : Map) (y : ℕ) → IsMap m → y < m.size.profiles → length (profile m y) ≡ m.size.points
profile-length m y whole inside =
    let rows : suc y * m.size.points ≤ m.size.profiles * m.size.points = mul-le-mul_right m.size.points inside in
    let cells = whole.cells in
    omega (arith, rows, cells, length-take (y * m.size.points + m.size.points - y * m.size.points) (drop (y * m.size.points) m.cells), length-drop (y * m.size.points) m.cells)

-- one more cell of a profile
pub spaced-more : (m : Map) (x y : ℕ) (p : Pos) (cell : Cell) → IsMap m → 0 < x → x < m.size.points → y < m.size.profiles → p ≡ record { x = x; y = y } → cell ≡ cell_at m p
    → spaced m.data_type (take (x + 1) (profile m y)) ≡ (spaced m.data_type (take x (profile m y)) ++ 32 ∷ []) ++ cell_text m.data_type cell
spaced-more m x y p cell whole some inside below at is =
    let size = profile-length m y whole below in
    let start : ℕ = y * m.size.points in
    let here : get_or (profile m y) x Bad ≡ cell =
    get_or-take (start + m.size.points - start) (drop start m.cells) x Bad (omega arith) ∙ get_or-drop start m.cells x Bad ∙ sym (is ∙ ap (cell_at m) at) in
    ap (spaced m.data_type) (take_more (profile m y) x Bad (omega arith) ∙ ap (λ c. take x (profile m y) ++ c ∷ []) here)
    ∙ spaced_push m.data_type (take x (profile m y)) cell (omega (arith, length-take x (profile m y)))

-- the first datum of a profile, as it is written
pub spaced-first : (m : Map) (y : ℕ) (cell : Cell) → IsMap m → y < m.size.profiles → cell ≡ cell_at m (record { x = 0; y = y })
    → (out after : List ℕ) → after ≡ out ++ cell_text m.data_type cell → after ≡ out ++ spaced m.data_type (take 1 (profile m y))
spaced-first m y cell whole below is out after more =
    let size = profile-length m y whole below in
    let some = whole.size.some_points in
    let start : ℕ = y * m.size.points in
    let here : get_or (profile m y) 0 Bad ≡ cell =
    get_or-take (start + m.size.points - start) (drop start m.cells) 0 Bad (omega (arith, some)) ∙ get_or-drop start m.cells 0 Bad ∙ sym is in
    let one : take 1 (profile m y) ≡ cell ∷ [] = take_more (profile m y) 0 Bad (omega (arith, size, some)) ∙ ap (λ c. c ∷ []) here in
    more ∙ ap (λ t. out ++ t) (sym (ap (spaced m.data_type) one ∙ append-nil (cell_text m.data_type cell)))
