-- An input that is fed to a reader piece by piece.
use Rattle.std.proofs.Common.{◌≡◌, ◌+◌, ◌≤◌, ℕ, List, ◌++◌, length, take, Option, Some, Result, Ok, Err, false, arith, length-append, length-take-le}
use Rattle.std.specs.Prelude.{OnOk}
use Rattle.std.specs.Result.{is_err}
use Rattle.std.specs.Io.KnownBytes.{Consumes}
use Rattle.std.proofs.KnownBytes.{Consumes-trans}
use Rattle.hd_base.specs.Told.{TakesFew}
use Rattle.hd_base.proofs.Pieces.{TakesFew-more}

module _ {R : Type 0} (StandsFor : R → List ℕ → Type 0) where
  -- so many bytes of what was left are fed
  pub record HasFed (before left : Option (List ℕ)) (reader : R) (count : ℕ) : Type 0 where
    pub got : List ℕ
    pub size : length got ≡ count
    pub taken : Consumes before left got
    pub stands : StandsFor reader got

  -- one more piece is fed
  pub HasFed-more : (before mid left : Option (List ℕ)) (old new : R) (count n : ℕ) (piece : List ℕ) → (fed : HasFed before mid old count) → Consumes mid left (take n piece) → n ≤ length piece
      → StandsFor new (fed.got ++ take n piece) → HasFed before left new (count + n)
  HasFed-more before mid left old new count n piece fed more fits stands = record {
    got = fed.got ++ take n piece;
    size = omega (arith, length-append fed.got (take n piece), length-take-le n piece fits, fed.size);
    taken = Consumes-trans before mid left fed.got (take n piece) fed.taken more;
    stands = stands;
  }

  -- few bytes are taken with one more piece
  pub TakesFew-fed : (bytes : List ℕ) (before mid left : Option (List ℕ)) (reader : R) (limit count n : ℕ) (piece : List ℕ) → before ≡ Some bytes → HasFed before mid reader count
      → Consumes mid left (take n piece)
      → count + length piece ≤ limit + 1 → TakesFew bytes limit left
  TakesFew-fed bytes before mid left reader limit count n piece told fed more fits =
      TakesFew-more bytes fed.got piece limit n before mid left told fed.taken more (omega (arith, fits, fed.size))

-- a call that is no error was accepted
pub OnOk-holds : {T E P : Type 0} (result : Result T E) → is_err result ≡ false → OnOk result P → P
OnOk-holds (Ok x) ok holds = holds
OnOk-holds (Err e) ok holds = cc
