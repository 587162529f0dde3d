-- How the refusal of an input is told.
use Rattle.std.specs.Prelude.{◌++◌, ℕ, List, codes, decimal, nat_eq, if◌then◌else◌}
use Rattle.hd_map.specs.declared.types.Pos.{Pos}
use Rattle.hd_sdf_read.specs.declared.error.SdfError.{SdfError}
use Rattle.hd_sdf_read.specs.declared.error.SdfError.TheVariants.{Memory, BadVersion, BadHeaderLine, KeyTwice, BadValue, HeaderEnds, MissingKey, Unsupported, TooLarge, BadDatum, BadDecimal, DatumRange, TooFewData, TooManyData, TrailerTooLong, TooManyKeys}
use Rattle.hd_run.specs.declared.stop.Refusal.{Refusal}
use Rattle.hd_run.specs.declared.stop.Refusal.TheVariants.{SurfaceTooLong, Surface, SecondTooLong, Unreadable, RuleFails}
use Rattle.hd_run.specs.Texts.{line, too_long_text, second_too_long_text}

-- which of the required keys is missing, from 1
abbrev pub missing_key : ℕ → List ℕ
missing_key n =
    if nat_eq n 1 then codes "key NumPoints is missing"
    else if nat_eq n 2 then codes "key NumProfiles is missing"
    else if nat_eq n 3 then codes "key Xscale is missing"
    else if nat_eq n 4 then codes "key Yscale is missing"
    else if nat_eq n 5 then codes "key Zscale is missing"
    else codes "key DataType is missing"

-- a cause at a line, with its number
abbrev pub at_line : ℕ → List ℕ → List ℕ
at_line number cause = codes "line " ++ decimal number ++ cause

-- a cause at a datum, with its number
abbrev pub at_datum : ℕ → List ℕ → List ℕ
at_datum number cause = codes "datum " ++ decimal number ++ cause

-- why a surface file is refused; want of memory has no text
abbrev pub surface_cause : SdfError → List ℕ
surface_cause Memory = codes ""
surface_cause BadVersion = codes "line 1: bad version"
surface_cause (BadHeaderLine number) = at_line number (codes ": bad header line")
surface_cause (KeyTwice number) = at_line number (codes ": key twice")
surface_cause (BadValue number) = at_line number (codes ": bad value")
surface_cause HeaderEnds = codes "the header does not end"
surface_cause (MissingKey key) = missing_key key
surface_cause (Unsupported number) = at_line number (codes ": not supported")
surface_cause TooLarge = codes "too many points"
surface_cause (BadDatum number) = at_datum number (codes " is not whole or BAD")
surface_cause (BadDecimal number) = at_datum number (codes " is not a decimal or BAD")
surface_cause (DatumRange number) = at_datum number (codes " is out of range")
surface_cause (TooFewData number) = codes "only " ++ decimal number ++ codes " data"
surface_cause (TooManyData number) = at_datum number (codes " is one too many")
surface_cause TrailerTooLong = codes "trailer too long"
surface_cause (TooManyKeys number) = at_line number (codes ": too many keys")

-- a rule that fails, and where
abbrev pub at_rule : ℕ → Pos → List ℕ
at_rule rule at = codes "rule " ++ decimal rule ++ codes " at " ++ decimal at.x ++ codes " " ++ decimal at.y

-- the line that tells it
abbrev pub refusal_text : Refusal → List ℕ
refusal_text SurfaceTooLong = too_long_text
refusal_text (Surface error) = line (codes "surface refused: " ++ surface_cause error)
refusal_text SecondTooLong = second_too_long_text
refusal_text (Unreadable number) = line (codes "certificate unreadable: line " ++ decimal number)
refusal_text (RuleFails rule at) = line (codes "certificate refused: " ++ at_rule rule at)
