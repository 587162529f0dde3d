-- The lines of a header: keys with their values.
use Rattle.std.specs.Prelude.{◌==◌, ◌||◌, ◌&&◌, ◌+◌, ◌++◌, ℕ, nat_lt, nat_le, Bool, List, [], ◌∷◌, length, slice_index, filter, Option, Some, None, is_none, Result, Ok, Err, unwrap_or, if◌then◌else◌, bytes_eq, codes}
use Rattle.std.specs.Int.{is_in_range}
use Rattle.std.specs.List.{after_first, before_first, list_all, list_any}
use Rattle.hd_num.specs.Lines.{trimmed}
use Rattle.hd_sdf_read.specs.declared.error.SdfError.{SdfError}
use Rattle.hd_sdf_read.specs.declared.error.SdfError.TheVariants.{BadHeaderLine, BadValue, HeaderEnds, KeyTwice, TooManyKeys}
use Rattle.hd_sdf_read.specs.declared.error.SdfError.TheVariants as refusals
use Rattle.hd_sdf_read.specs.declared.file.Extra.{Extra}
use Rattle.hd_sdf_read.specs.declared.keys.Form.{Form}
use Rattle.hd_sdf_read.specs.declared.keys.ValueVerdict.{ValueVerdict}
use Rattle.hd_sdf_read.specs.declared.keys.ValueVerdict.TheVariants.{Right, Wrong, Unsupported}
use Rattle.hd_sdf_read.specs.Keys.{form_of, judge, same_key}

-- a byte of a key: from 0x20 to 0x7E
abbrev pub is_printed : ℕ → Bool
is_printed byte = is_in_range 32 126 byte

-- a key has 1 to 64 such bytes
abbrev pub is_key : List ℕ → Bool
is_key key = is_in_range 1 64 (length key) && list_all is_printed key

-- a value has at most 896 bytes
abbrev pub is_value : List ℕ → Bool
is_value value = nat_le (length value) 896

-- a `=`, which parts a key from its value
abbrev pub is_equals : ℕ → Bool
is_equals byte = byte == 61

-- the first byte is a `;`
abbrev pub is_comment : List ℕ → Bool
is_comment text = nat_lt 0 (length text) && slice_index text 0 == 59

-- a key and its value, as a file keeps those that are not known
abbrev pub entry : List ℕ → List ℕ → Extra
entry key value = record { key = key; value = value }

-- the key before the first `=` and the value after it
abbrev pub entry_of : List ℕ → Extra
entry_of text = entry (trimmed (before_first is_equals text)) (trimmed (after_first is_equals text))

-- the kinds of lines
pub data Kind : Type 0 where
  Skipped : Kind
  Ends : Kind
  Keyed : Extra → Kind
  Unread : Kind

-- a key line, if its key and its value have their forms
abbrev pub keyed : Extra → Kind
keyed e = if is_key e.key && is_value e.value then Keyed e else Unread

-- a trimmed line is skipped where it is empty or begins with `;`, ends the header where it is `*`, and is a
-- key line where it has a `=`
abbrev pub kind_of_text : List ℕ → Kind
kind_of_text text =
    if length text == 0 || is_comment text then Skipped
    else if bytes_eq text (codes "*") then Ends
    else if list_any is_equals text then keyed (entry_of text)
    else Unread

-- a line has at most 1,024 bytes
unfoldable pub kind_of : List ℕ → Kind
kind_of line = if nat_lt 1024 (length line) then Unread else kind_of_text (trimmed line)

-- the key stands among the entries
abbrev pub has_key : List ℕ → List Extra → Bool
has_key key entries = list_any (λ e. same_key e.key key) entries

-- the entries whose keys are not known
abbrev pub extra_entries : List Extra → List Extra
extra_entries entries = filter (λ e. is_none (form_of e.key)) entries

-- what a verdict on a value means in this line
abbrev pub verdict_offence : ℕ → ValueVerdict → Option SdfError
verdict_offence line Right = None
verdict_offence line Wrong = Some (BadValue line)
verdict_offence line Unsupported = Some (refusals.Unsupported line)

-- the offence of a value in this line: of an extra key past the 240th, or of a known key
abbrev pub value_offence : ℕ → List Extra → Option Form → List ℕ → Option SdfError
value_offence line before None value =
    if nat_le 240 (length (extra_entries before)) then Some (TooManyKeys line) else None
value_offence line before (Some form) value = verdict_offence line (judge form value)

-- the first offence of a key line after these entries, if it has one
unfoldable pub offence : ℕ → List Extra → Extra → Option SdfError
offence line before e =
    if has_key e.key before then Some (KeyTwice line)
    else value_offence line before (form_of e.key) e.value

-- what a header holds: its entries in order, and the number of its last line
pub record Header : Type 0 where
  pub entries : List Extra
  pub last : ℕ

-- an offence, or what comes without one
abbrev pub unless : Option SdfError → Result Header SdfError → Result Header SdfError
unless (Some refusal) header = Err refusal
unless None header = header

-- the header from a line of this number and kind on, after these entries, where `onward` is the one that the
-- next lines end
abbrev pub header_by : ℕ → List Extra → Kind → (List Extra → Result Header SdfError) → Result Header SdfError
header_by line before Skipped onward = onward before
header_by line before Ends onward = Ok (record { entries = before; last = line })
header_by line before (Keyed e) onward = unless (offence line before e) (onward (before ++ e ∷ []))
header_by line before Unread onward = Err (BadHeaderLine line)

-- the header that these lines end, from the line of this number on, after these entries
unfoldable pub header_from : ℕ → List Extra → List (List ℕ) → Result Header SdfError
header_from line before [] = Err HeaderEnds
header_from line before (text ∷ texts) =
    header_by line before (kind_of text) (λ entries. header_from (line + 1) entries texts)

-- the value of a key, where it stands among the entries
abbrev pub value_of : List ℕ → List Extra → Option (List ℕ)
value_of key [] = None
value_of key (e ∷ entries) = if same_key e.key key then Some e.value else value_of key entries

-- the value of a key, or nothing
abbrev pub text_of : List ℕ → List Extra → List ℕ
text_of key entries = unwrap_or (value_of key entries) []
