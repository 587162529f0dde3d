-- The known keys of a header, and what their values say.
use Rattle.std.specs.Prelude.{◌==◌, ℕ, pos, negsuc, nat_lt, Bool, true, false, List, [], ◌∷◌, Option, Some, None, is_some, if◌then◌else◌, codes}
use Rattle.std.specs.Int.{is_in_range}
use Rattle.std.specs.List.{find}
use Rattle.std.specs.Str.{str_eq_ignore_ascii_case}
use Rattle.hd_map.specs.declared.types.DataType.{DataType}
use Rattle.hd_map.specs.declared.types.DataType.TheVariants.{U8, U16, U32, I8, I16, I32, Single, Double}
use Rattle.hd_map.specs.Map.{code_of}
use Rattle.hd_num.specs.Decimal.{is_decimal}
use Rattle.hd_num.specs.Whole.{whole_of}
use Rattle.hd_num.specs.declared.whole.Whole.{Whole}
use Rattle.hd_num.specs.declared.whole.Whole.TheVariants.{Not, Outside, Is}
use Rattle.hd_sdf_read.specs.declared.keys.Form.{Form}
use Rattle.hd_sdf_read.specs.declared.keys.Form.TheVariants.{AnyText, Extent, Number, Zero, TypeCode}
use Rattle.hd_sdf_read.specs.declared.keys.ValueVerdict.{ValueVerdict}
use Rattle.hd_sdf_read.specs.declared.keys.ValueVerdict.TheVariants.{Right, Wrong, Unsupported}

-- keys are compared without regard to the case of ASCII letters
abbrev pub same_key : List ℕ → List ℕ → Bool
same_key a b = str_eq_ignore_ascii_case a b

-- the twelve known keys, and the form of the value of each
abbrev pub known_keys : List (List ℕ × Form)
known_keys = (codes "ManufacID", AnyText)
    ∷ (codes "CreateDate", AnyText)
    ∷ (codes "ModDate", AnyText)
    ∷ (codes "NumPoints", Extent)
    ∷ (codes "NumProfiles", Extent)
    ∷ (codes "Xscale", Number)
    ∷ (codes "Yscale", Number)
    ∷ (codes "Zscale", Number)
    ∷ (codes "Zresolution", Number)
    ∷ (codes "Compression", Zero)
    ∷ (codes "DataType", TypeCode)
    ∷ (codes "CheckType", Zero)
    ∷ []

-- the form of a key in a table
abbrev pub form_in : List (List ℕ × Form) → List ℕ → Option Form
form_in [] key = None
form_in (known ∷ more) key = if same_key known.0 key then Some known.1 else form_in more key

-- the form of the value of a key, where the key is known
unfoldable pub form_of : List ℕ → Option Form
form_of key = form_in known_keys key

-- a whole number from 1 to 65,535
abbrev pub extent_in : Whole → Option ℕ
extent_in (Is (pos n)) = if is_in_range 1 65535 n then Some n else None
extent_in number = None

abbrev pub extent_of : List ℕ → Option ℕ
extent_of value = extent_in (whole_of value)

-- the data of the type are decimals
abbrev pub has_decimals : DataType → Bool
has_decimals (Single places) = true
has_decimals (Double places) = true
has_decimals type = false

-- the type with so many places, where its data are decimals
abbrev pub with_places : DataType → ℕ → DataType
with_places (Single before) places = Single places
with_places (Double before) places = Double places
with_places type places = type

-- the type of the heights, by its code; decimals have no places yet
abbrev pub type_by_code : ℕ → Option DataType
type_by_code code = find (λ t. code == code_of t) (U8 ∷ U16 ∷ U32 ∷ Single 0 ∷ I8 ∷ I16 ∷ I32 ∷ Double 0 ∷ [])

abbrev pub type_in : Whole → Option DataType
type_in (Is (pos n)) = type_by_code n
type_in number = None

abbrev pub type_of : List ℕ → Option DataType
type_of value = type_in (whole_of value)

-- a whole number: 0, or one that is not supported
abbrev pub judge_zero : Whole → ValueVerdict
judge_zero (Is (pos n)) = if n == 0 then Right else Unsupported
judge_zero (Is (negsuc n)) = Unsupported
judge_zero Outside = Unsupported
judge_zero Not = Wrong

-- a whole number from 0 to 7
abbrev pub judge_type : Whole → ValueVerdict
judge_type (Is (pos n)) = if nat_lt 7 n then Wrong else Right
judge_type number = Wrong

-- what a value is for a form
abbrev pub judge : Form → List ℕ → ValueVerdict
judge AnyText value = Right
judge Extent value = if is_some (extent_of value) then Right else Wrong
judge Number value = if is_decimal value then Right else Wrong
judge Zero value = judge_zero (whole_of value)
judge TypeCode value = judge_type (whole_of value)
