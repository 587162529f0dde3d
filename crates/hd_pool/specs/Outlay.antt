-- What answers about a side went over by the map, and when that is worth a pool.
use Rattle.std.specs.Prelude.{ℕ, ◌+◌, ◌-◌, ◌*◌, ◌^◌, Bool, Some, None, List, length, min, nat_le, nat_lt, count_by, if◌then◌else◌}
use Rattle.std.specs.Option.{unwrap_or}
use Rattle.hd_pool.specs.declared.outlay.Outlay.{Outlay}

-- how many stamps are above a count of changes
abbrev pub touched_after : ℕ → List ℕ → ℕ
touched_after changes stamps = count_by (λ stamp. nat_lt changes stamp) stamps

-- whether changes after these touched more than a fourth of the tiles
abbrev pub are_most_touched : ℕ → List ℕ → Bool
are_most_touched changes stamps = nat_lt (length stamps) (touched_after changes stamps * 4)

-- nothing was asked yet
abbrev pub nothing_spent : Outlay
nothing_spent = record { first = None; last = 0; steps = 0 }

-- one more question after so many changes, whose answer took so many steps: they count where something changed since the first
-- question
abbrev pub counted : ℕ → ℕ → Outlay → Outlay
counted changes steps o = record {
  first = Some (unwrap_or o.first changes);
  last = o.last;
  steps = min (o.steps + (if nat_lt (unwrap_or o.first changes) changes then steps else 0)) (2 ^ 64 - 1);
}

-- a report that goes over the whole map counts two steps a point
abbrev pub reported : ℕ → ℕ → Outlay → Outlay
reported changes points o = record (counted changes (2 * points) o) { last = changes }

-- so much a pool takes that is brought up and takes in so many points
abbrev pub paid : ℕ → ℕ → Outlay → Outlay
paid changes points o = record { first = Some (unwrap_or o.first changes); last = changes; steps = o.steps - 2 * points }

-- and so much was counted
abbrev pub is_worth : ℕ → Outlay → Bool
is_worth points o = nat_le (2 * points) o.steps
