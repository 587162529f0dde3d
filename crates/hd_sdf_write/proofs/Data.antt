-- The data of a map, one after another.
use Rattle.std.proofs.Common.{◌≡◌, ◌+◌, ◌*◌, ◌-◌, ◌%◌, ◌<◌, ◌≤◌, Bool, ℕ, zero, suc, List, [], ◌∷◌, ◌++◌, take, eqb, cond, inl, inr, refl, sym, ap, ap₂, arith, ◌∙◌, append_assoc, append-nil}
use Rattle.std.specs.Prelude.{slice_index_or}
use Rattle.std.proofs.lemmas.Bool.{cases_eq, eq-eqb, ne_eqb}
use Rattle.std.proofs.lemmas.List.{take_all}
use Rattle.std.proofs.lemmas.Nat.{mod-mul-add}
use Rattle.hd_map.specs.declared.types.Cell.{Cell}
use Rattle.hd_map.specs.declared.types.Cell.TheVariants.{Bad}
use Rattle.hd_map.specs.declared.types.DataType.{DataType}
use Rattle.hd_map.specs.declared.types.Pos.{Pos}
use Rattle.hd_map.specs.declared.types.Size.{Size}
use Rattle.hd_map.specs.Map.{IsMap, Map, cell_at, cell_count, place_of}
use Rattle.hd_sdf_write.specs.Canonical.{cell_text, line, profile, profile_lines, spaced}
use Rattle.hd_sdf_write.specs.Data.{data_from, data_text, datum_text, gap_after}
use Rattle.hd_sdf_write.proofs.SpacedProfiles.{profile-length, spaced-first, spaced-more}

-- no more data
pub data_from-none : (m : Map) → data_from m (cell_count m.size) ≡ []
unfolding data_text
data_from-none m = let none : cell_count m.size - cell_count m.size ≡ 0 = omega arith in rw none refl

-- data behind one another
data_append : (m : Map) (k a b : ℕ) → data_text m k (a + b) ≡ data_text m k a ++ data_text m (k + a) b
unfolding data_text
data_append m k zero b =
    let here : k ≡ k + 0 = omega arith in
    let none : 0 + b ≡ b = omega arith in
    ap₂ (data_text m) here none
data_append m k (suc a) b =
    let place : k + 1 + a ≡ k + suc a = omega arith in
    let next : suc a + b ≡ suc (a + b) = omega arith in
    ap (data_text m k) next ∙ ap (λ (t : List ℕ). datum_text m k ++ t) (data_append m (k + 1) a b ∙ ap (λ n. data_text m (k + 1) a ++ data_text m n b) place)
    ∙ sym (append_assoc (datum_text m k) (data_text m (k + 1) a) (data_text m (k + suc a) b))

-- the data from one on, parted at another
pub data_from-parts : (m : Map) (from to : ℕ) → from ≤ to → to ≤ cell_count m.size → data_from m from ≡ data_text m from (to - from) ++ data_from m to
data_from-parts m from to order inside =
    let count : cell_count m.size - from ≡ to - from + (cell_count m.size - to) = omega (arith, order, inside) in
    let place : from + (to - from) ≡ to = omega (arith, order) in
    ap (data_text m from) count ∙ data_append m from (to - from) (cell_count m.size - to) ∙ ap (λ k. data_text m from (to - from) ++ data_text m k (cell_count m.size - to)) place

-- one more datum before others
pub data_text-before : (m : Map) (index next to : ℕ) (cell : Cell) (gap : ℕ) (at : Pos) (old middle new : List ℕ) → next ≡ index + 1 → next ≤ to → place_of m.size at ≡ index
    → old ≡ data_text m next (to - next)
    → middle ≡ gap ∷ old → new ≡ cell_text m.data_type cell ++ middle → cell ≡ cell_at m at → gap ≡ gap_after m.size index → new ≡ data_text m index (to - index)
unfolding data_text
data_text-before m index next to cell gap at old middle new one below place old_is middle_is new_is cell_is gap_is =
    let count : suc (to - next) ≡ to - index = omega (arith, one, below) in
    let t : DataType = m.data_type in
    let here : cell ≡ slice_index_or m.cells index Bad = cell_is ∙ ap (λ k. slice_index_or m.cells k Bad) place in
    new_is ∙ ap (λ (r : List ℕ). cell_text t cell ++ r) (middle_is ∙ ap (λ (r : List ℕ). gap ∷ r) (old_is ∙ ap (λ k. data_text m k (to - next)) one))
    ∙ ap₂ (λ (c : Cell) (g : ℕ). cell_text t c ++ (g ∷ data_text m (index + 1) (to - next))) here gap_is
    ∙ sym (append_assoc (cell_text t (slice_index_or m.cells index Bad)) (gap_after m.size index ∷ []) (data_text m (index + 1) (to - next)))
    ∙ ap (data_text m index) count

-- none of them
pub data_text-empty : (m : Map) (k : ℕ) → data_text m k (k - k) ≡ []
unfolding data_text
data_text-empty m k = let none : k - k ≡ 0 = omega arith in ap (data_text m k) none

data_one : (m : Map) (k : ℕ) → data_text m k 1 ≡ datum_text m k
unfolding data_text
data_one m k = append-nil (datum_text m k)

-- what stands behind the datum of a position
last_rest : (p x y : ℕ) → x < p → x + 1 ≡ p → (y * p + x + 1) % p ≡ 0
last_rest p x y column last =
    let place : y * p + x + 1 ≡ (y + 1) * p + 0 = omega (arith, last) in
    ap (λ n. n % p) place ∙ mod-mul-add (y + 1) p 0 (omega arith)

other_rest : (p x y : ℕ) → x + 1 < p → (y * p + x + 1) % p ≡ x + 1
other_rest p x y before =
    let place : y * p + x + 1 ≡ y * p + (x + 1) = omega arith in
    ap (λ n. n % p) place ∙ mod-mul-add y p (x + 1) before

gap_test : (rest : ℕ) (test : Bool) → eqb rest 0 ≡ test → cond {A = ℕ} (eqb rest 0) 10 32 ≡ cond {A = ℕ} test 10 32
gap_test rest test is = ap (λ b. cond b 10 32) is

pub gap_after-at : (size : Size) (x y : ℕ) → x < size.points → gap_after size (y * size.points + x) ≡ cond (eqb (x + 1) size.points) 10 32
gap_after-at size x y column = elim (cases_eq (x + 1) size.points) [
  | inl last ↦ gap_test ((y * size.points + x + 1) % size.points) (eqb (x + 1) size.points) (rw (last_rest size.points x y column last, eq-eqb (x + 1) size.points last) refl)
  | inr before ↦ gap_test ((y * size.points + x + 1) % size.points) (eqb (x + 1) size.points) (rw (other_rest size.points x y (omega (arith, before, column)), ne_eqb (x + 1) size.points before)
      (ne_eqb (x + 1) 0 (λ none. omega (arith, none))))
]

-- the data of a profile are its line
module _ (m : Map) (y : ℕ) (whole : IsMap m) (below : y < m.size.profiles) where
  abbrev cell_of_row : ℕ → Cell
  cell_of_row x = cell_at m (record { x = x; y = y })

  abbrev gap_of_row : ℕ → ℕ
  gap_of_row x = cond (eqb (x + 1) m.size.points) 10 32

  datum_of_row : (x : ℕ) → x < m.size.points → datum_text m (y * m.size.points + x) ≡ cell_text m.data_type (cell_of_row x) ++ gap_of_row x ∷ []
  datum_of_row x column = ap (λ g. cell_text m.data_type (cell_of_row x) ++ g ∷ []) (gap_after-at m.size x y column)

  front_of_row : (x : ℕ) → x < m.size.points → data_text m (y * m.size.points) (suc x) ≡ spaced m.data_type (take (x + 1) (profile m y)) ++ gap_of_row x ∷ []
  front_of_row zero column =
      let here : y * m.size.points + 0 ≡ y * m.size.points = omega arith in
      data_one m (y * m.size.points) ∙ ap (datum_text m) (sym here) ∙ datum_of_row 0 column
      ∙ ap (λ (t : List ℕ). t ++ gap_of_row 0 ∷ []) (spaced-first m y (cell_of_row 0) whole below refl [] (cell_text m.data_type (cell_of_row 0)) refl)
  front_of_row (suc x) column =
      let start : ℕ = y * m.size.points in
      let t : DataType = m.data_type in
      let front : List ℕ = spaced t (take (suc x) (profile m y)) in
      let next : x + 1 ≡ suc x = omega arith in
      let more : suc x + 1 ≡ suc (suc x) = omega arith in
      let middle : gap_of_row x ≡ 32 = ap (λ b. cond b 10 32) (ne_eqb (x + 1) m.size.points (λ last. omega (arith, last, column))) in
      let before : data_text m start (suc x) ≡ front ++ 32 ∷ [] =
      front_of_row x (omega (arith, column)) ∙ ap₂ (λ (n g : ℕ). spaced t (take n (profile m y)) ++ g ∷ []) next middle in
      ap (data_text m start) (sym more) ∙ data_append m start (suc x) 1
      ∙ ap₂ (λ (a b : List ℕ). a ++ b) before (data_one m (start + suc x) ∙ datum_of_row (suc x) column)
      ∙ sym (append_assoc (front ++ 32 ∷ []) (cell_text t (cell_of_row (suc x))) (gap_of_row (suc x) ∷ []))
      ∙ ap (λ (a : List ℕ). a ++ gap_of_row (suc x) ∷ []) (sym (spaced-more m (suc x) y (record { x = suc x; y = y }) (cell_of_row (suc x)) whole (omega arith) column below refl refl))

  pub data_text-row : data_text m (y * m.size.points) m.size.points ≡ line (spaced m.data_type (profile m y))
  data_text-row =
      let some = whole.size.some_points in
      let t : DataType = m.data_type in
      let last : ℕ = m.size.points - 1 in
      let count : last + 1 ≡ m.size.points = omega (arith, some) in
      let next : suc last ≡ m.size.points = omega (arith, some) in
      let ends : gap_of_row last ≡ 10 = ap (λ b. cond b 10 32) (eq-eqb (last + 1) m.size.points count) in
      ap (data_text m (y * m.size.points)) (sym next) ∙ front_of_row last (omega (arith, some))
      ∙ ap₂ (λ (n g : ℕ). spaced t (take n (profile m y)) ++ g ∷ []) count ends
      ∙ ap (λ (row : List Cell). line (spaced t row)) (take_all m.size.points (profile m y) (omega (arith, profile-length m y whole below)))

-- the data of so many profiles are their lines
pub data_text-profiles : (m : Map) (y : ℕ) → IsMap m → y ≤ m.size.profiles → data_text m 0 (y * m.size.points) ≡ profile_lines m y
unfolding data_text profile_lines
data_text-profiles m zero whole below = let none : 0 * m.size.points ≡ 0 = omega arith in ap (data_text m 0) none
data_text-profiles m (suc y) whole below =
    let place : suc y * m.size.points ≡ y * m.size.points + m.size.points = omega arith in
    let start : 0 + y * m.size.points ≡ y * m.size.points = omega arith in
    ap (data_text m 0) place ∙ data_append m 0 (y * m.size.points) m.size.points ∙ ap (λ k. data_text m 0 (y * m.size.points) ++ data_text m k m.size.points) start
    ∙ ap₂ (λ (a b : List ℕ). a ++ b) (data_text-profiles m y whole (omega (arith, below))) (data_text-row m y whole (omega (arith, below)))

-- the data of a map are the lines of its profiles
pub data_from-profile_lines : (m : Map) → IsMap m → data_from m 0 ≡ profile_lines m m.size.profiles
data_from-profile_lines m whole = let all : cell_count m.size - 0 ≡ cell_count m.size = omega arith in ap (data_text m 0) all ∙ data_text-profiles m m.size.profiles whole (omega arith)
