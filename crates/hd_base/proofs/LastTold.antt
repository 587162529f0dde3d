-- The last of the bytes that a writer tells.
use Rattle.std.proofs.Common.{◌≡◌, ℕ, ◌+◌, ◌-◌, List, [], length, take, drop, Option, Some, None, Result, Ok, Err, MatchResult, ap, ◌∙◌, arith, length-append, length-take-le}
use Rattle.std.specs.Io.{WritesAtMost}
use Rattle.std.specs.Io.KnownBytes.{Keeps, WriteAppends}
use Rattle.std.specs.Option.{is_some, option_and_then}
use Rattle.std.proofs.lemmas.Bool.{true≢false}
use Rattle.std.proofs.lemmas.List.{drop-append-le}
use native.Mathlib.Numerals.{unary_clauses}
use Rattle.std.proofs.Math.Seq.{drop-length}
use Rattle.hd_base.specs.Told.{Told}
use Rattle.hd_base.specs.Adapters.{AreToldAlike, last_told}

-- a file in place of another one has got nothing yet, where both are told
pub last_told-none : {T : Type 0} (contents : T → Told) (old : Option T) (new : T) (taken : ℕ) (bytes : List ℕ) → AreToldAlike contents
    → last_told taken (option_and_then contents old) ≡ Some bytes → last_told 0 (contents new) ≡ Some []
last_told-none contents None new taken bytes alike told = cc
last_told-none contents (Some file) new taken bytes alike told = none_of (contents file) (contents new) (alike file new) told where
  none_of : (a b : Told) → is_some a ≡ is_some b → last_told taken a ≡ Some bytes → last_told 0 b ≡ Some []
  none_of None b same told = cc
  none_of (Some xs) None same told = absurd (true≢false same)
  none_of (Some xs) (Some ys) same told = simp unary_clauses (ap Some (drop-length ys))

-- what keeps all bytes keeps the last ones
pub last_told-kept : (old new : Told) (taken now : ℕ) → now ≡ taken → Keeps old new → Keeps (last_told taken old) (last_told now new)
last_told-kept None new taken now same kept = tt
last_told-kept (Some xs) None taken now same kept = absurd kept
last_told-kept (Some xs) (Some ys) taken now same kept = cc

-- a write adds to the last bytes what it adds to all of them
pub last_told-written : {E : Type 0} (old new : Told) (taken now : ℕ) (result : Result ℕ E) (piece : List ℕ) → WritesAtMost result piece
    → MatchResult result (λ n. now ≡ taken + n) (λ _. now ≡ taken) → WriteAppends old new result piece → WriteAppends (last_told taken old) (last_told now new) result piece
last_told-written None new taken now (Ok n) piece fits count more = tt
last_told-written (Some xs) None taken now (Ok n) piece fits count more = absurd more
last_told-written (Some xs) (Some ys) taken now (Ok n) piece fits count more =
    let len : length ys ≡ length xs + length (take n piece) = ap length more ∙ length-append xs (take n piece) in
    let at : length ys - now ≡ length xs - taken = omega (arith, length-take-le n piece fits) in
    ap (λ k. drop k ys) at ∙ ap (drop (length xs - taken)) more ∙ drop-append-le (length xs - taken) xs (take n piece) (omega arith)
last_told-written old new taken now (Err e) piece fits count kept = last_told-kept old new taken now count kept
