-- Entries without an offence, one after another.
use Rattle.std.proofs.Common.{◌≡◌, ◌+◌, ◌≤◌, ℕ, Bool, true, false, not, List, [], ◌∷◌, ◌++◌, length, cond, leb, Option, Some, None, refl, sym, ap, subst}
use Rattle.std.proofs.Common.{arith, ◌∙◌, inl, inr, length-append, append_assoc, append-nil}
use Rattle.std.specs.Prelude.{is_none}
use Rattle.std.specs.List.{list_all, list_any}
use Rattle.std.proofs.lemmas.Bool.{and_from, and_parts, or_from, or_parts, cases_Bool, leb-true, not-true}
use Rattle.std.proofs.lemmas.List.Elements.{filter-append}
use Rattle.std.proofs.lemmas.List.Folds.{list_any-append}
use Rattle.hd_sdf_read.specs.declared.keys.Form.{Form}
use Rattle.hd_sdf_read.specs.declared.error.SdfError.TheVariants.{TooManyKeys, KeyTwice}
use Rattle.hd_sdf_read.specs.declared.file.Extra.{Extra}
use Rattle.hd_sdf_read.specs.Entries.{extra_entries, has_key, offence, value_offence}
use Rattle.hd_sdf_read.specs.File.{are_apart, is_entry, is_extra}
use Rattle.hd_sdf_read.specs.Keys.{form_in, form_of, same_key}
use Rattle.hd_sdf_read.proofs.GoodEntries.{same_key-turned}

-- each entry has its form, and no offence after those before it
abbrev pub AllFollow : List Extra → List Extra → Type 0
AllFollow before [] = Unit {0}
AllFollow before (e ∷ es) = (is_entry e ≡ true) × ((n : ℕ) → offence n before e ≡ None) × AllFollow (before ++ e ∷ []) es

-- some entries, and others after them
pub AllFollow-append : (before es fs : List Extra) → AllFollow before es → AllFollow (before ++ es) fs → AllFollow before (es ++ fs)
AllFollow-append before [] fs first more = subst (λ (b : List Extra). AllFollow b fs) (append-nil before) more
AllFollow-append before (e ∷ es) fs first more =
    (first.0, first.1, AllFollow-append (before ++ e ∷ []) es fs first.2 (subst (λ (b : List Extra). AllFollow b fs) (sym (append_assoc before (e ∷ []) es)) more))

-- none of the keys stands among the entries before
abbrev pub AllFollow-new : List Extra → List Extra → Bool
AllFollow-new before es = list_all (λ e. not (has_key e.key before)) es

-- one more entry before
new_push : (before : List Extra) (e : Extra) (es : List Extra) → AllFollow-new before es ≡ true → has_key e.key es ≡ false → AllFollow-new (before ++ e ∷ []) es ≡ true
new_push before e [] new other = refl
new_push before e (x ∷ xs) new other =
    let parts = and_parts (not (has_key x.key before)) (AllFollow-new before xs) new in
    let others = or_parts (same_key x.key e.key) (has_key e.key xs) other in
    let none : has_key x.key (before ++ e ∷ []) ≡ false =
    list_any-append (λ (y : Extra). same_key y.key x.key) before (e ∷ []) ∙ or_from _ _ (not-true (has_key x.key before) parts.0) (or_from _ _ (same_key-turned x.key e.key false others.0) refl) in
    and_from _ _ (ap not none) (new_push before e xs parts.1 others.1)

-- there is room for one more
ltb_room : (n : ℕ) → n + 1 ≤ 240 → leb 240 n ≡ false
ltb_room n few = elim (cases_Bool (leb 240 n)) [
  | inl full ↦ absurd (omega (arith, leb-true 240 n full))
  | inr room ↦ room
]

-- an extra key without an offence
unknown_offence : (n : ℕ) (before : List Extra) (value : List ℕ) (form : Option Form) → is_none form ≡ true → length (extra_entries before) + 1 ≤ 240 → value_offence n before form value ≡ None
unknown_offence n before value None unknown few = ap (λ b. cond b (Some (TooManyKeys n)) None) (ltb_room (length (extra_entries before)) few)
unknown_offence n before value (Some form) unknown few = let wrong : false ≡ true = unknown in cc

extra_offence : (n : ℕ) (before : List Extra) (e : Extra) → has_key e.key before ≡ false → is_none (form_of e.key) ≡ true → length (extra_entries before) + 1 ≤ 240 → offence n before e ≡ None
unfolding offence
extra_offence n before e new unknown few =
    ap (λ b. cond b (Some (KeyTwice n)) (value_offence n before (form_of e.key) e.value)) new ∙ unknown_offence n before e.value (form_of e.key) unknown few

-- extra keys without an offence
pub AllFollow-extra : (es before : List Extra) → length (extra_entries before) + length es ≤ 240 → list_all is_extra es ≡ true → are_apart es ≡ true
    → AllFollow-new before es ≡ true → AllFollow before es
AllFollow-extra [] before few good apart new = tt
AllFollow-extra (e ∷ es) before few good apart new =
    let goods = and_parts (is_extra e) (list_all is_extra es) good in
    let form = and_parts (is_entry e) (is_none (form_of e.key)) goods.0 in
    let aparts = and_parts (not (has_key e.key es)) (are_apart es) apart in
    let news = and_parts (not (has_key e.key before)) (AllFollow-new before es) new in
    let more : extra_entries (before ++ e ∷ []) ≡ extra_entries before ++ e ∷ [] =
    filter-append (λ (x : Extra). is_none (form_of x.key)) before (e ∷ []) ∙ ap (λ b. extra_entries before ++ cond b (e ∷ []) []) form.1 in
    let size : length (extra_entries (before ++ e ∷ [])) ≡ length (extra_entries before) + 1 = ap length more ∙ length-append (extra_entries before) (e ∷ []) in (
      form.0,
      λ n. extra_offence n before e (not-true _ news.0) form.1 (omega arith),
      AllFollow-extra es (before ++ e ∷ []) (omega (arith, size)) goods.1 aparts.1 (new_push before e es news.1 (not-true _ aparts.0)),
    )

-- a key that is not known is no key of the table
pub same_key-unknown : (table : List (List ℕ × Form)) (key : List ℕ) → is_none (form_in table key) ≡ true → list_any (λ known. same_key known.0 key) table ≡ false
same_key-unknown [] key unknown = refl
same_key-unknown (known ∷ more) key unknown = elim (cases_Bool (same_key known.0 key)) [
  | inl same ↦ let wrong : false ≡ true = rw same at unknown in cc
  | inr other ↦ or_from _ _ other (same_key-unknown more key (rw other at unknown))
]

-- extra keys alone are kept
pub extra_entries-kept : (es : List Extra) → list_all is_extra es ≡ true → extra_entries es ≡ es
extra_entries-kept [] good = refl
extra_entries-kept (e ∷ es) good =
    let goods = and_parts (is_extra e) (list_all is_extra es) good in
    let form = and_parts (is_entry e) (is_none (form_of e.key)) goods.0 in
    ap (λ b. cond b (e ∷ extra_entries es) (extra_entries es)) form.1 ∙ ap (λ (xs : List Extra). e ∷ xs) (extra_entries-kept es goods.1)
