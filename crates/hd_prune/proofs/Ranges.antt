-- The numbers below a bound, in a row.
use Rattle.std.proofs.Common.{ℕ, ◌<◌, arith}
use Rattle.std.specs.Prelude.{Contains, AllPairs}
use Rattle.std.specs.List.{range_with_len}
use Rattle.std.proofs.lemmas.List.FromFn.{length-range_with_len, get_or-range_with_len}

-- the first n numbers are those below n
pub Contains-range : (n k : ℕ) → Contains (range_with_len 0 n) k → k < n
Contains-range n k h = (let long = length-range_with_len 0 n in
    let at : h.0 < n = (let inside = h.1 in omega arith) in
    let is = get_or-range_with_len 0 n h.0 k at in
    let same = h.2 in
    omega arith)

pub range-Contains : (n k : ℕ) → k < n → Contains (range_with_len 0 n) k
range-Contains n k h = (let long = length-range_with_len 0 n in
    let is = get_or-range_with_len 0 n k k h in
    (k, omega arith, omega arith))

pub range-rises : (n : ℕ) → AllPairs (λ a b. a < b) (range_with_len 0 n)
range-rises n i j d lt len = (let long = length-range_with_len 0 n in
    let at : j < n = omega arith in
    let a = get_or-range_with_len 0 n i d (omega arith) in
    let b = get_or-range_with_len 0 n j d at in
    omega arith)
