-- The rows of a parse, found by their ids.
use Rattle.std.proofs.Common.{◌≡◌, ◌||◌, Bool, cond, true, false, refl, ap, List, [], ◌∷◌, ◌++◌, Option, Some, None}
use Rattle.std.specs.List.{find}
use Rattle.std.specs.Str.{bytes_eq}
use Rattle.clap.specs.Walk.{Row, Text, at_row, has_row}

-- the row of an id
abbrev pub row_at : Text → List Row → Option Row
row_at id rows = find (λ r. bytes_eq r.id id) rows

none≢some : {X : Type 0} {x : X} → Some x ≡ None → ⊥
none≢some e = cc

-- where an id has no row, its row joins at the end
pub at_row-joined : (id : Text) (change : Row → List Row) (missing rows : List Row) → row_at id rows ≡ None → at_row id change missing rows ≡ rows ++ missing
at_row-joined id change missing [] none = refl
at_row-joined id change missing (r ∷ rows) none = go (bytes_eq r.id id) none (at_row-joined id change missing rows)
  where
    go : (b : Bool) → cond b (Some r) (row_at id rows) ≡ None → (row_at id rows ≡ None → at_row id change missing rows ≡ rows ++ missing)
        → cond b (change r ++ rows) (r ∷ at_row id change missing rows) ≡ r ∷ (rows ++ missing)
    go true found rest = absurd (none≢some found)
    go false found rest = ap (λ more. r ∷ more) (rest found)

pub has_row-none : (id : Text) (rows : List Row) → row_at id rows ≡ None → has_row id rows ≡ false
has_row-none id [] none = refl
has_row-none id (r ∷ rows) none = go (bytes_eq r.id id) none (has_row-none id rows)
  where
    go : (b : Bool) → cond b (Some r) (row_at id rows) ≡ None → (row_at id rows ≡ None → has_row id rows ≡ false) → (b || has_row id rows) ≡ false
    go true found rest = absurd (none≢some found)
    go false found rest = rest found

-- the last row is found where the id has no other
pub row_at-last : (id : Text) (rows : List Row) (last : Row) → row_at id rows ≡ None → bytes_eq last.id id ≡ true → row_at id (rows ++ (last ∷ [])) ≡ Some last
row_at-last id [] last none is = rw is refl
row_at-last id (r ∷ rows) last none is = go (bytes_eq r.id id) none (λ h. row_at-last id rows last h is)
  where
    go : (b : Bool) → cond b (Some r) (row_at id rows) ≡ None → (row_at id rows ≡ None → row_at id (rows ++ (last ∷ [])) ≡ Some last)
        → cond b (Some r) (row_at id (rows ++ (last ∷ []))) ≡ Some last
    go true found rest = absurd (none≢some found)
    go false found rest = rest found

-- a row of another id changes nothing
pub row_at-before : (id : Text) (rows : List Row) (last : Row) → bytes_eq last.id id ≡ false → row_at id (rows ++ (last ∷ [])) ≡ row_at id rows
row_at-before id [] last is = rw is refl
row_at-before id (r ∷ rows) last is = go (bytes_eq r.id id) (row_at-before id rows last is)
  where
    go : (b : Bool) → row_at id (rows ++ (last ∷ [])) ≡ row_at id rows → cond b (Some r) (row_at id (rows ++ (last ∷ []))) ≡ cond b (Some r) (row_at id rows)
    go true rest = refl
    go false rest = rest
