-- What a sink in memory holds.
use Rattle.std.specs.Prelude.{◌+◌, ◌-◌, ◌++◌, ◌&&◌, ◌==◌, ℕ, List, [], Bool, true, length, take}
use Rattle.hd_base.specs.Causes.{one_more}

-- a sink in memory as its callers see it: the bytes written since it was opened, the bytes for
-- which there is room left, whether all are flushed, the most bytes that a write takes, the numbers
-- of the calls that fail, and how many calls and faults there were
pub record SinkState : Type 0 where
  pub bytes : List ℕ
  pub room : ℕ
  pub is_flushed : Bool
  pub piece : ℕ
  pub fails : List ℕ
  pub calls : ℕ
  pub fault_count : ℕ

-- after a call that failed
abbrev pub failed_sink : SinkState → SinkState
failed_sink s = record s { calls = one_more s.calls; fault_count = one_more s.fault_count }

-- after an accepted open, which gives the room of the bytes back
abbrev pub emptied_sink : SinkState → SinkState
emptied_sink s = record s {
  bytes = [];
  room = s.room + length s.bytes;
  is_flushed = true;
  calls = one_more s.calls;
}

-- after an accepted write of the first n bytes of a piece
abbrev pub longer_sink : SinkState → ℕ → List ℕ → SinkState
longer_sink s n piece = record s {
  bytes = s.bytes ++ take n piece;
  room = s.room - n;
  is_flushed = s.is_flushed && n == 0;
  calls = one_more s.calls;
}

-- after an accepted flush
abbrev pub flushed_sink : SinkState → SinkState
flushed_sink s = record s { is_flushed = true; calls = one_more s.calls }
