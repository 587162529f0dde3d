-- The entries of a file follow one another without an offence.
use Rattle.std.proofs.Common.{◌≡◌, ◌≤◌, ℕ, pos, true, not, List, [], ◌∷◌, ◌++◌, length, cond, Option, Some, None, refl, ap, arith, ◌∙◌}
use Rattle.std.specs.Prelude.{is_none, is_some}
use Rattle.std.specs.Fmt.{decimal}
use Rattle.std.specs.List.{list_all}
use Rattle.std.proofs.lemmas.Bool.{and_from, and_parts}
use Rattle.std.proofs.lemmas.Fmt.{length-decimal-le}
use Rattle.hd_map.specs.declared.types.DataType.{DataType}
use Rattle.hd_map.specs.Map.{IsMap, code_of}
use Rattle.hd_num.specs.Decimal.{decimal_of}
use Rattle.hd_num.specs.declared.decimal.Decimal.{Decimal}
use Rattle.hd_sdf_read.specs.declared.file.Extra.{Extra}
use Rattle.hd_sdf_read.specs.declared.keys.Form.TheVariants.{Extent, Number, TypeCode}
use Rattle.hd_sdf_read.specs.declared.keys.ValueVerdict.{ValueVerdict}
use Rattle.hd_sdf_read.specs.declared.keys.ValueVerdict.TheVariants.{Right, Wrong}
use Rattle.hd_sdf_read.specs.Entries.{offence, verdict_offence}
use Rattle.hd_sdf_read.specs.File.{File, HasForms, is_entry, is_extra, is_header_value}
use Rattle.hd_sdf_read.specs.Keys.{form_of, judge, judge_type, known_keys}
use Rattle.hd_sdf_read.proofs.Gapless.{is_decimal-form, is_header_value-decimal, is_header_value-gapless, is_gap-number}
use Rattle.hd_sdf_read.proofs.AllFollow.{AllFollow, AllFollow-new, AllFollow-append, AllFollow-extra, same_key-unknown}
use Rattle.hd_sdf_write.proofs.KnownEntries.{code_of-few, code_of-known, entries_of, extent_of-decimal, firsts, known, last_entry, extra_entries-known, type_entry, whole_of-decimal}

-- the known values have their forms
extent_value : (n : ℕ) → n ≤ 65535 → is_header_value (decimal n) ≡ true
extent_value n few =
    let short : length (decimal n) ≤ 5 = length-decimal-le 5 n (omega arith) (omega arith) (omega arith) in
    is_header_value-gapless (decimal n) (omega arith) (is_gap-number (decimal n) (pos n) (whole_of-decimal n few))

extent_right : (n : ℕ) → 1 ≤ n → n ≤ 65535 → judge Extent (decimal n) ≡ Right
extent_right n some few = ap (λ (o : Option ℕ). cond (is_some o) Right Wrong) (extent_of-decimal n some few)

number_right : (d : Decimal) → decimal_of d.literal ≡ Some d → judge Number d.literal ≡ Right
number_right d is = ap (λ b. cond b Right Wrong) (is_decimal-form d.literal d is)

type_right : (t : DataType) → judge TypeCode (decimal (code_of t)) ≡ Right
type_right t = ap judge_type (whole_of-decimal (code_of t) (code_of-few t)) ∙ (code_of-known t).0

type_value : (t : DataType) → is_header_value (decimal (code_of t)) ≡ true
type_value t = extent_value (code_of t) (code_of-few t)

-- the known entries before the type have no offence
firsts_follow : (f : File) → IsMap f.map → HasForms f → AllFollow [] (firsts f)
unfolding offence form_of
firsts_follow f whole forms =
    let size = whole.size in
    let points = size.points in
    let profiles = size.profiles in (
      forms.manufac_id,
      λ n. refl,
      (
        forms.create_date,
        λ n. refl,
        (
          forms.mod_date,
          λ n. refl,
          (
            extent_value f.map.size.points size.points,
            λ n. ap (verdict_offence n) (extent_right f.map.size.points size.some_points size.points),
            (
              extent_value f.map.size.profiles size.profiles,
              λ n. ap (verdict_offence n) (extent_right f.map.size.profiles size.some_profiles size.profiles),
              (
                is_header_value-decimal f.x_scale.literal f.x_scale forms.x_scale,
                λ n. ap (verdict_offence n) (number_right f.x_scale forms.x_scale),
                (
                  is_header_value-decimal f.y_scale.literal f.y_scale forms.y_scale,
                  λ n. ap (verdict_offence n) (number_right f.y_scale forms.y_scale),
                  (
                    is_header_value-decimal f.z_scale.literal f.z_scale forms.z_scale,
                    λ n. ap (verdict_offence n) (number_right f.z_scale forms.z_scale),
                    (
                      is_header_value-decimal f.z_resolution.literal f.z_resolution forms.z_resolution,
                      λ n. ap (verdict_offence n) (number_right f.z_resolution forms.z_resolution),
                      (refl, λ n. refl, tt),
                    ),
                  ),
                ),
              ),
            ),
          ),
        ),
      ),
    )

-- what the type of a file is judged as
type_judged : (f : File) (n : ℕ) (verdict : ValueVerdict) → judge TypeCode (decimal (code_of f.map.data_type)) ≡ verdict → offence n (firsts f) (type_entry f) ≡ verdict_offence n verdict
unfolding offence form_of
type_judged f n verdict is = ap (verdict_offence n) is

-- nor has the key after it
last_follows : (f : File) (n : ℕ) → offence n (firsts f ++ (type_entry f ∷ [])) last_entry ≡ None
unfolding offence form_of
last_follows f n = refl

-- nor have all known entries
known_follow : (f : File) → IsMap f.map → HasForms f → AllFollow [] (known f)
known_follow f whole forms = AllFollow-append [] (firsts f) (type_entry f ∷ last_entry ∷ []) (firsts_follow f whole forms)
    (type_value f.map.data_type, λ n. type_judged f n Right (type_right f.map.data_type), (refl, last_follows f, tt))

-- no known key is among the extra ones
known_new : (f : File) (es : List Extra) → list_all is_extra es ≡ true → AllFollow-new (known f) es ≡ true
unfolding form_of
known_new f [] good = refl
known_new f (e ∷ es) good =
    let goods = and_parts (is_extra e) (list_all is_extra es) good in
    let form = and_parts (is_entry e) (is_none (form_of e.key)) goods.0 in
    and_from _ _ (ap not (same_key-unknown known_keys e.key form.1)) (known_new f es goods.1)

-- nor have all entries of a file
pub AllFollow-entries_of : (f : File) → IsMap f.map → HasForms f → AllFollow [] (entries_of f)
AllFollow-entries_of f whole forms =
    let few = forms.few in
    AllFollow-append [] (known f) f.extra (known_follow f whole forms)
    (AllFollow-extra f.extra (known f) (omega (arith, few, ap length (extra_entries-known f []))) forms.extra forms.apart (known_new f f.extra forms.extra))
