-- Bytes that a source or a sink may tell.
use Rattle.std.specs.Prelude.{◌≡◌, ◌≢◌, ◌<◌, ◌≤◌, ◌+◌, ◌⊎◌, [], ℕ, List, length, drop, Option, Some, Result, Err, IfOk, OnOk}
use Rattle.std.specs.Io.{StartsWith}
use Rattle.std.specs.Io.KnownBytes.{Appends, Keeps}
use Rattle.hd_base.specs.declared.source.ReadError.{ReadError}
use Rattle.hd_base.specs.declared.source.ReadError.TheVariants.{ReadFault, TooLong}
use Rattle.hd_base.specs.Causes.{Rose}

-- the bytes, where they are told
abbrev pub Told : Type 0
Told = Option (List ℕ)

-- a fact where the bytes are told
abbrev pub OnTold : Told → Type 0 → Type 0
OnTold told P = (bytes : List ℕ) → told ≡ Some bytes → P

-- some first bytes of a text are written
abbrev pub AppendsStart : Told → Told → List ℕ → Type 0
AppendsStart old new text = (got : List ℕ) × StartsWith text got × Appends old new got

-- some first bytes of a text are written, and not all of it
abbrev pub AppendsPart : Told → Told → List ℕ → Type 0
AppendsPart old new text = (got : List ℕ) × StartsWith text got × (length got < length text) × Appends old new got

-- a told file is read whole, or is too long for the limit; what is read never passes the limit
pub record ReadsFile (file : Told) (limit : ℕ) (result : Result (List ℕ) ReadError) :
    Type 0 where
  pub whole : (bytes : List ℕ) → file ≡ Some bytes → IfOk result (λ read. read ≡ bytes)
  pub within : IfOk result (λ read. length read ≤ limit)
  pub too_long : (bytes : List ℕ) → file ≡ Some bytes → (n : ℕ) → result ≡ Err (TooLong n)
      → limit < length bytes
  pub its_limit : (n : ℕ) → result ≡ Err (TooLong n) → n ≡ limit

-- the first few bytes of a file are taken: at most one more than the limit
abbrev pub TakesFew : List ℕ → ℕ → Told → Type 0
TakesFew bytes limit left = (n : ℕ) × (n ≤ limit + 1) × (left ≡ Some (drop n bytes))

-- how far a reading goes in the bytes of the file. Of one that could not be opened nothing is taken
pub record StopsInFile (bytes : List ℕ) (limit : ℕ) (before left : Told)
    (result : Result (List ℕ) ReadError) : Type 0 where
  pub whole : OnOk result (left ≡ Some [])
  pub too_long : (n : ℕ) → result ≡ Err (TooLong n) → left ≡ Some (drop (limit + 1) bytes)
  pub few : TakesFew bytes limit left ⊎ ((result ≡ Err ReadFault) × Keeps before left)

-- a read fault comes only where the count rose, and each other answer leaves the count
pub record HasReadCause (before now : ℕ) (result : Result (List ℕ) ReadError) : Type 0 where
  pub later : before ≤ now
  pub fault : result ≡ Err ReadFault → Rose before now
  pub no_fault : result ≢ Err ReadFault → now ≡ before
