-- Sources and sinks over readers and writers of the library, as contracts see them.
use Rattle.std.specs.Prelude.{◌≡◌, ◌-◌, ◌&&◌, ◌||◌, ◌==◌, not, ℕ, List, length, drop, Bool, true, false, Option, Some, None, is_some}
use Rattle.std.specs.Option.{option_map, unwrap_or}
use Rattle.std.specs.Io.KnownBytes.{append_known, IsAtEnd}
use Rattle.std.proofs.lemmas.Bool.{true≢false}
use Rattle.hd_base.specs.Faults.{FaultState}
use Rattle.hd_base.specs.Told.{Told}

-- a source of files: the bytes that are left of the open one, and its faults
pub record FileSourceState : Type 0 where
  pub reading : Option Told
  pub faults : FaultState

-- a sink that gathers: the bytes that its writer got, those that are gathered after them, how many
-- of all these were written since the sink was opened, whether a flush came after the last of them,
-- and its faults
pub record StdoutState : Type 0 where
  pub got : Told
  pub gathered : List ℕ
  pub taken : ℕ
  pub has_flushed : Bool
  pub faults : FaultState

-- a sink of files: whether one is open, the bytes that it got, how many of them were written since
-- it was opened, whether a flush came after the last of them, whether it is a new file that waits for
-- its place, whether it was one and is removed, and the faults of the sink
pub record FileSinkState : Type 0 where
  pub has_file : Bool
  pub got : Told
  pub taken : ℕ
  pub has_flushed : Bool
  pub is_pending : Bool
  pub is_lost : Bool
  pub faults : FaultState

-- the bytes that the writer got, and then those that are gathered
abbrev pub in_all : StdoutState → Told
in_all s = append_known s.got s.gathered

-- no byte is gathered any longer, and a flush came after the last one
abbrev pub is_handed_on : StdoutState → Bool
is_handed_on s = s.has_flushed && length s.gathered == 0

-- a flush came after the last byte, and what was written stands in its place
abbrev pub is_in_place : FileSinkState → Bool
is_in_place s = s.has_flushed && not s.is_pending && not s.is_lost

-- a sink of files after an accepted open, over a file that got these bytes before, and that waits for
-- its place or has it
abbrev pub opened_sink : FileSinkState → Told → Bool → FileSinkState
opened_sink s got is_pending = record s {
  has_file = true;
  got = got;
  taken = 0;
  has_flushed = true;
  is_pending = is_pending;
  is_lost = false;
}

-- a sink of files after an accepted flush: nothing waits for its place
abbrev pub placed_sink : FileSinkState → Told → FileSinkState
placed_sink s got = record s { got = got; has_flushed = true; is_pending = false }

-- a sink of files after a write or a flush that failed: no later call puts anything in its place
abbrev pub lost_sink : FileSinkState → Told → FaultState → FileSinkState
lost_sink s got faults = record s {
  got = got;
  is_pending = false;
  is_lost = s.is_lost || s.is_pending;
  faults = faults;
}

-- the last of the bytes, by their count
abbrev pub last_told : ℕ → Told → Told
last_told count told = option_map (λ bytes. drop (length bytes - count) bytes) told

-- all values of a type tell their bytes, or none does
abbrev pub AreToldAlike : {T : Type 0} → (T → Told) → Type 0
AreToldAlike {T} bytes = (a b : T) → is_some (bytes a) ≡ is_some (bytes b)

-- nothing is told to be left where no file is open
pub left-untold : (source : FileSourceState) → is_some source.reading ≡ false → IsAtEnd (unwrap_or source.reading None)
left-untold source is_closed = none_left source.reading is_closed where
  none_left : (reading : Option Told) → is_some reading ≡ false → IsAtEnd (unwrap_or reading None)
  none_left None e = tt
  none_left (Some left) e = absurd (true≢false e)
