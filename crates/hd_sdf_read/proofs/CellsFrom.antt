-- The cells of data, one after another.
use Rattle.std.proofs.Common.{◌≡◌, ◌+◌, ◌-◌, ◌<◌, ◌≤◌, ℕ, ℤ, suc, List, [], ◌∷◌, ◌++◌, Result, Ok, Err, refl, sym, ap, arith, append_assoc, append-nil}
use Rattle.hd_map.specs.declared.types.Cell.{Cell}
use Rattle.hd_sdf_read.specs.declared.error.SdfError.{SdfError}
use Rattle.hd_sdf_read.specs.Bodies.{with_front}
use Rattle.hd_sdf_read.specs.Grammar.{Cells, cells_from, datum_at, with_cell}
use Rattle.hd_sdf_read.specs.Tokens.{after_token}
use Rattle.hd_sdf_read.specs.Reads.{◌>>=◌}

-- one more cell in front
with_front-push : (front : List Cell) (cell : Cell) (read : Result Cells SdfError) → with_front front (read >>= with_cell cell) ≡ with_front (front ++ cell ∷ []) read
with_front-push front cell (Ok more) = ap (λ cells. Ok (record { cells = cells; rest = more.rest })) (sym (append_assoc front (cell ∷ []) more.cells))
with_front-push front cell (Err e) = refl

-- the next datum is read
pub cells_from-more : (least greatest : ℤ) (read count : ℕ) (text rest : List ℕ) (front : List Cell) (cell : Cell) → read < count → datum_at least greatest read text ≡ Ok cell
    → rest ≡ after_token text
    → with_front front (cells_from least greatest read (count - read) text) ≡ with_front (front ++ cell ∷ []) (cells_from least greatest (read + 1) (count - (read + 1)) rest)
unfolding cells_from
cells_from-more least greatest read count text rest front cell before found is =
    let step : count - read ≡ suc (count - (read + 1)) = omega arith in
    rw (step, found, ← is) (with_front-push front cell (cells_from least greatest (read + 1) (count - (read + 1)) rest))

-- the next datum is missing or wrong
pub cells_from-stop : (least greatest : ℤ) (read count : ℕ) (text : List ℕ) (front : List Cell) (e : SdfError) → read < count → datum_at least greatest read text ≡ Err e
    → with_front front (cells_from least greatest read (count - read) text) ≡ Err e
unfolding cells_from
cells_from-stop least greatest read count text front e before wrong =
    let step : count - read ≡ suc (count - (read + 1)) = omega arith in
    rw (step, wrong) refl

-- all data are read
pub cells_from-done : (least greatest : ℤ) (read count : ℕ) (text : List ℕ) (front : List Cell) → count ≤ read
    → with_front front (cells_from least greatest read (count - read) text) ≡ Ok (record { cells = front; rest = text })
unfolding cells_from
cells_from-done least greatest read count text front all =
    let none : count - read ≡ 0 = omega arith in
    rw (none, append-nil) refl
