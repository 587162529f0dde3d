-- What a call is for, and what it hands out.
use Rattle.std.specs.Prelude.{◌≡◌, ◌++◌, ◌⊎◌, ℕ, Bool, true, false, List, [], ◌∷◌, length, take, drop, codes, decimal}
use Rattle.std.specs.Option.{unwrap_or}
use Rattle.hd_program.specs.declared.status.Status.{Status}
use Rattle.hd_program.specs.declared.status.Status.TheVariants.{ReadFault, WriteFault, Memory}
use Rattle.hd_program.specs.Ending.{IsTheOutcome}
use Rattle.hd_program.specs.Outcome.{Outcome}
use Rattle.hd_program.specs.Status.{code_of}

-- the words of a run in tiles of this side
abbrev pub run_words : ℕ → List (List ℕ)
run_words tile = codes "run" ∷ (codes "SURFACE" ∷ (codes "SCRIPT" ∷ (codes "--tile" ∷ (decimal tile ∷ []))))

-- the words of such a run that saves the edited surface
abbrev pub save_words : ℕ → List (List ℕ)
save_words tile = run_words tile ++ codes "--save" ∷ (codes "OUT" ∷ [])

-- the words of a check
abbrev pub check_words : List (List ℕ)
check_words = codes "check" ∷ (codes "SURFACE" ∷ (codes "CERT" ∷ []))

-- the room of a caller for a text: its bytes before and now, and how many bytes the text is told to have
pub record Room : Type 0 where
  pub before : List ℕ
  pub now : List ℕ
  pub needed : ℕ

abbrev pub room : List ℕ → List ℕ → ℕ → Room
room before now needed = record { before = before; now = now; needed = needed }

-- the text's length is told, and the room begins with the text, as far as it goes; what is behind the text is as it was
pub record IsHanded (text : List ℕ) (r : Room) : Type 0 where
  pub length_is : r.needed ≡ length text
  pub bytes : r.now ≡ take (length r.before) text ++ drop (length text) r.before

-- whether a run stopped before its outcome was written
abbrev pub is_stopped : Status → Bool
is_stopped ReadFault = true
is_stopped WriteFault = true
is_stopped Memory = true
is_stopped status = false

-- the status and both texts are those of the one outcome of the words and of these bytes
abbrev pub IsOutcomeAs : List (List ℕ) → List ℕ → List ℕ → Status → List ℕ → List ℕ → Type 0
IsOutcomeAs words surface second status out saved = (o : Outcome) × IsTheOutcome words surface second o
    × (o.status ≡ status) × (out ≡ o.out) × (saved ≡ unwrap_or o.saved [])

-- want of memory, with which nothing is handed out; or the code and the text of the one outcome of the words and of
-- these bytes
abbrev pub Gives : List (List ℕ) → List ℕ → List ℕ → ℕ → Room → Type 0
Gives words surface second code out = ((code ≡ code_of Memory) × IsHanded [] out)
    ⊎ ((o : Outcome) × IsTheOutcome words surface second o × (code ≡ code_of o.status) × IsHanded o.out out)

-- the same with the text that is saved, which has no bytes where nothing is
abbrev pub GivesBoth : List (List ℕ) → List ℕ → List ℕ → ℕ → Room → Room → Type 0
GivesBoth words surface second code out saved = ((code ≡ code_of Memory) × IsHanded [] out × IsHanded [] saved)
    ⊎ ((o : Outcome) × IsTheOutcome words surface second o × (code ≡ code_of o.status) × IsHanded o.out out
    × IsHanded (unwrap_or o.saved []) saved)
