-- The known entries of a file, and what they say.
use Rattle.std.proofs.Common.{◌≡◌, ◌≤◌, ℕ, pos, true, List, [], ◌∷◌, ◌++◌, cond, leb, Some, None, Ok, refl, ap, arith, ◌∙◌}
use Rattle.std.specs.Prelude.{codes}
use Rattle.std.specs.Fmt.{decimal}
use Rattle.std.specs.Int.{is_in_range}
use Rattle.std.proofs.lemmas.Bool.{and_from, le-leb}
use Rattle.hd_map.specs.declared.types.DataType.{DataType}
use Rattle.hd_map.specs.declared.types.DataType.TheVariants.{U8, U16, U32, I8, I16, I32, Single, Double}
use Rattle.hd_map.specs.Map.{IsMap, cell_count, code_of}
use Rattle.hd_num.specs.Whole.{whole_of}
use Rattle.hd_num.specs.declared.whole.Whole.TheVariants.{Is}
use Rattle.hd_num.proofs.WholeReadsBack.{whole_of-signed_decimal}
use Rattle.hd_sdf_read.specs.declared.file.Extra.{Extra}
use Rattle.hd_sdf_read.specs.declared.keys.ValueVerdict.TheVariants.{Right}
use Rattle.hd_sdf_read.specs.Entries.{entry, extra_entries}
use Rattle.hd_sdf_read.specs.File.{File, HasForms}
use Rattle.hd_sdf_read.specs.Grammar.{resolution_of}
use Rattle.hd_sdf_read.specs.RequiredKeys.{RequiredKeys, required_keys_of}
use Rattle.hd_sdf_read.specs.Keys.{extent_in, extent_of, form_of, judge_type, type_by_code, type_in, type_of, with_places}
use Rattle.hd_sdf_read.proofs.AllFollow.{extra_entries-kept}

-- the entries of the known keys before the type
abbrev pub firsts : File → List Extra
firsts f = entry (codes "ManufacID") f.manufac_id
    ∷ entry (codes "CreateDate") f.create_date
    ∷ entry (codes "ModDate") f.mod_date
    ∷ entry (codes "NumPoints") (decimal f.map.size.points)
    ∷ entry (codes "NumProfiles") (decimal f.map.size.profiles)
    ∷ entry (codes "Xscale") f.x_scale.literal
    ∷ entry (codes "Yscale") f.y_scale.literal
    ∷ entry (codes "Zscale") f.z_scale.literal
    ∷ entry (codes "Zresolution") f.z_resolution.literal
    ∷ entry (codes "Compression") (codes "0")
    ∷ []

-- the entry of the type
abbrev pub type_entry : File → Extra
type_entry f = entry (codes "DataType") (decimal (code_of f.map.data_type))

-- the entry after it
abbrev pub last_entry : Extra
last_entry = entry (codes "CheckType") (codes "0")

-- the entries of the known keys
abbrev pub known : File → List Extra
known f = firsts f ++ (type_entry f ∷ last_entry ∷ [])

-- an extent
pub whole_of-decimal : (n : ℕ) → n ≤ 65535 → whole_of (decimal n) ≡ Is (pos n)
whole_of-decimal n few = whole_of-signed_decimal (pos n) (record { sfits = omega arith })

pub extent_of-decimal : (n : ℕ) → 1 ≤ n → n ≤ 65535 → extent_of (decimal n) ≡ Some n
extent_of-decimal n some few =
    let range : is_in_range 1 65535 n ≡ true = and_from _ _ (le-leb 1 n some) (le-leb n 65535 few) in
    ap extent_in (whole_of-decimal n few) ∙ ap (λ b. cond b (Some n) None) range

-- the code of a type
pub code_of-few : (t : DataType) → code_of t ≤ 65535
code_of-few U8 = omega arith
code_of-few U16 = omega arith
code_of-few U32 = omega arith
code_of-few I8 = omega arith
code_of-few I16 = omega arith
code_of-few I32 = omega arith
code_of-few (Single places) = omega arith
code_of-few (Double places) = omega arith

pub code_of-known : (t : DataType) → (judge_type (Is (pos (code_of t))) ≡ Right) × (type_by_code (code_of t) ≡ Some (with_places t 0))
code_of-known U8 = (refl, refl)
code_of-known U16 = (refl, refl)
code_of-known U32 = (refl, refl)
code_of-known I8 = (refl, refl)
code_of-known I16 = (refl, refl)
code_of-known I32 = (refl, refl)
code_of-known (Single places) = (refl, refl)
code_of-known (Double places) = (refl, refl)

type_is : (t : DataType) → type_of (decimal (code_of t)) ≡ Some (with_places t 0)
type_is t = ap type_in (whole_of-decimal (code_of t) (code_of-few t)) ∙ (code_of-known t).1

pub extra_entries-known : (f : File) (es : List Extra) → extra_entries (known f ++ es) ≡ extra_entries es
unfolding form_of
extra_entries-known f es = refl

-- all entries of a file
abbrev pub entries_of : File → List Extra
entries_of f = known f ++ f.extra

pub extra_entries-entries_of : (f : File) → HasForms f → extra_entries (entries_of f) ≡ f.extra
extra_entries-entries_of f forms = extra_entries-known f f.extra ∙ extra_entries-kept f.extra forms.extra

-- what the required keys say
abbrev pub required_keys_for : File → RequiredKeys
required_keys_for f = record { size = f.map.size; data_type = with_places f.map.data_type 0; x_scale = f.x_scale; y_scale = f.y_scale; z_scale = f.z_scale }

pub required_keys_of-entries_of : (f : File) → IsMap f.map → HasForms f → required_keys_of (entries_of f) ≡ Ok (required_keys_for f)
unfolding required_keys_of
required_keys_of-entries_of f whole forms =
    let size = whole.size in
    let few : leb (cell_count f.map.size) 4194304 ≡ true = le-leb (cell_count f.map.size) 4194304 size.cells in
    rw (
      extent_of-decimal f.map.size.points size.some_points size.points,
      extent_of-decimal f.map.size.profiles size.some_profiles size.profiles,
      forms.x_scale,
      forms.y_scale,
      forms.z_scale,
      type_is f.map.data_type,
      few,
    ) refl

pub resolution_of-entries_of : (f : File) → HasForms f → resolution_of (entries_of f) ≡ f.z_resolution
resolution_of-entries_of f forms = rw forms.z_resolution refl
