-- What a source in memory holds.
use Rattle.std.specs.Prelude.{◌≡◌, ℕ, List, [], ◌∷◌, Option, Some, None, false, is_some, refl, if◌then◌else◌, drop, slice_index_or}
use Rattle.std.specs.Option.{option_map, unwrap_or}
use Rattle.std.specs.Str.{bytes_eq}
use Rattle.std.proofs.lemmas.Bool.{true≢false}
use Rattle.hd_base.specs.Causes.{one_more}

-- a source in memory as its callers see it: the files by name, the bytes left of the open one, the
-- most bytes that a read gives, the numbers of the calls that fail, and how many calls and faults
-- there were
pub record SourceState : Type 0 where
  pub contents : List (List ℕ × List ℕ)
  pub unread : Option (List ℕ)
  pub piece : ℕ
  pub fails : List ℕ
  pub calls : ℕ
  pub fault_count : ℕ

-- the bytes of the first file of a name
abbrev pub file_named : List (List ℕ × List ℕ) → List ℕ → Option (List ℕ)
file_named [] name = None
file_named (file ∷ files) name = if bytes_eq file.0 name then Some file.1 else file_named files name

-- the bytes of a file by its index
abbrev pub file_at : List (List ℕ × List ℕ) → ℕ → List ℕ
file_at files index = (slice_index_or files index ([], [])).1

-- the bytes that are left of the open file, by its index and how many of its bytes are taken
abbrev pub unread_of : List (List ℕ × List ℕ) → Option (ℕ × ℕ) → Option (List ℕ)
unread_of files open_file = option_map (λ (index, taken). drop taken (file_at files index)) open_file

-- the bytes that are left
abbrev pub left_of : SourceState → List ℕ
left_of source = unwrap_or source.unread []

-- after a call that failed
abbrev pub failed_source : SourceState → SourceState
failed_source s = record s { calls = one_more s.calls; fault_count = one_more s.fault_count }

-- after an accepted call, with these bytes left
abbrev pub source_left_with : SourceState → Option (List ℕ) → SourceState
source_left_with s unread = record s { unread = unread; calls = one_more s.calls }

-- no byte is left where no file is open
pub left-closed : (source : SourceState) → is_some source.unread ≡ false → left_of source ≡ []
left-closed source is_closed = none_left source.unread is_closed where
  none_left : (unread : Option (List ℕ)) → is_some unread ≡ false → unwrap_or unread [] ≡ []
  none_left None e = refl
  none_left (Some bytes) e = absurd (true≢false e)
