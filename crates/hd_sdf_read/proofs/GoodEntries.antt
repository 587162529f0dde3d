-- What a header gives has the forms of a file.
use Rattle.std.proofs.Common.{◌≡◌, ◌+◌, ◌<◌, ◌≤◌, ◌||◌, ◌&&◌, ℕ, Bool, true, false, not, List, [], ◌∷◌, ◌++◌, length, get_or, eqb, ltb, leb, cond, map}
use Rattle.std.proofs.Common.{Option, Some, None, refl, sym, ap, subst, arith, ◌∙◌, inl, inr, length-append, length-take}
use Rattle.std.specs.Prelude.{bytes_eq, codes, is_none, unwrap_or}
use Rattle.std.specs.List.{after_first, before_first, list_all, list_any, position_or_len}
use Rattle.std.proofs.lemmas.Bool.{and_from, and_left, and_parts, and_right, cases_Bool, cases_lt, le-ltb, lt-ltb, not-true, or_parts}
use Rattle.std.proofs.lemmas.List.{get_or-take}
use Rattle.std.proofs.lemmas.List.Elements.{filter-append}
use Rattle.std.proofs.lemmas.List.Folds.{list_all-append, list_any-append}
use Rattle.std.specs.Char.{to_ascii_lowercase}
use Rattle.std.proofs.lemmas.Bool.Decides.{Decides-like, same_from_decides}
use borrow.Author.Tests.{leb-false}
use Rattle.hd_sdf_read.specs.declared.keys.Form.{Form}
use Rattle.hd_sdf_read.specs.declared.error.SdfError.TheVariants.{KeyTwice, TooManyKeys}
use Rattle.std.proofs.lemmas.Slice.Eq.{bytes_eq-Decides}
use Rattle.hd_num.specs.Lines.{is_blank, is_line_feed, trimmed}
use Rattle.hd_sdf_read.specs.declared.file.Extra.{Extra}
use Rattle.hd_sdf_read.specs.Entries.{Ends, Keyed, Skipped, Unread, entry_of, extra_entries, has_key, is_comment, is_equals, is_key, is_value, keyed}
use Rattle.hd_sdf_read.specs.Entries.{kind_of, kind_of_text, offence, text_of, value_offence, value_of}
use Rattle.hd_sdf_read.specs.File.{AreGood, are_apart, is_entry, is_extra, is_header_key, is_header_value, is_trimmed_line}
use Rattle.hd_sdf_read.specs.Keys.{form_of, same_key}
use Rattle.hd_sdf_read.proofs.Trims.{IsTrimmed, trimmed-length, list_any-drop, list_any-take, trimmed_by-any, before_first-none, trimmed_by-first, IsTrimmed-trimmed_by, IsTrimmed-same}

-- a trimmed text of one line
trimmed_line : (text : List ℕ) → list_any is_line_feed text ≡ false → is_trimmed_line (trimmed text) ≡ true
trimmed_line text one =
    and_from _ _ ((bytes_eq-Decides (trimmed (trimmed text)) (trimmed text)).1 (IsTrimmed-same is_blank (trimmed text) (IsTrimmed-trimmed_by is_blank text)))
    (ap not (trimmed_by-any is_blank is_line_feed text one))

-- the first byte of a key is that of the line
no_comment : (text : List ℕ) → IsTrimmed is_blank text → is_comment text ≡ false → is_comment (trimmed (before_first is_equals text)) ≡ false
no_comment text is plain =
    let before : List ℕ = before_first is_equals text in
    let key : List ℕ = trimmed before in
    let place : ℕ = position_or_len is_equals text in
    let size = length-take place text in
    elim (cases_lt 0 (length key)) [
      | inl some ↦
          let filled : 0 < length before = omega (arith, some, trimmed-length before) in
          let first : get_or before 0 0 ≡ get_or text 0 0 = get_or-take place text 0 0 (omega arith) in
          let whole : 0 < length text = omega arith in
          let same : get_or key 0 0 ≡ get_or text 0 0 = trimmed_by-first is_blank before (λ _. ap is_blank first ∙ is.first whole) some ∙ first in
          let other : eqb (get_or text 0 0) 59 ≡ false = sym (ap (λ b. b && eqb (get_or text 0 0) 59) (lt-ltb 0 (length text) whole)) ∙ plain in
          and_right (ltb 0 (length key)) (eqb (get_or key 0 0) 59) (ap (λ c. eqb c 59) same ∙ other)
      | inr none ↦ and_left (ltb 0 (length key)) (eqb (get_or key 0 0) 59) (le-ltb 0 (length key) none)
    ]

-- a key and a value of the right length have their forms
entry_good : (text : List ℕ) (e : Extra) → IsTrimmed is_blank text → list_any is_line_feed text ≡ false → is_comment text ≡ false → keyed (entry_of text) ≡ Keyed e → is_entry e ≡ true
entry_good text e is one plain found =
    let before : List ℕ = before_first is_equals text in
    let after : List ℕ = after_first is_equals text in
    elim (cases_Bool (is_key (trimmed before) && is_value (trimmed after))) [
      | inr broken ↦ let wrong : Unread ≡ Keyed e = sym (ap (λ b. cond b (Keyed (entry_of text)) Unread) broken) ∙ found in cc
      | inl right ↦
          let same : Keyed (entry_of text) ≡ Keyed e = sym (ap (λ b. cond b (Keyed (entry_of text)) Unread) right) ∙ found in
          let entry : entry_of text ≡ e = cc in
          let parts = and_parts (is_key (trimmed before)) (is_value (trimmed after)) right in
          let key : is_header_key (trimmed before) ≡ true =
          and_from _ _ (and_from _ _ (and_from _ _ parts.0 (trimmed_line before (list_any-take is_line_feed (position_or_len is_equals text) text one)))
          (ap not (trimmed_by-any is_blank is_equals before (before_first-none is_equals text)))) (ap not (no_comment text is plain)) in
          let value : is_header_value (trimmed after) ≡ true = and_from _ _ parts.1 (trimmed_line after (list_any-drop is_line_feed (position_or_len is_equals text + 1) text one)) in
          subst (λ (x : Extra). is_entry x ≡ true) entry (and_from _ _ key value)
    ]

-- a key line gives an entry of the right form
keyed_good : (text : List ℕ) (e : Extra) → IsTrimmed is_blank text → list_any is_line_feed text ≡ false → kind_of_text text ≡ Keyed e → is_entry e ≡ true
keyed_good text e is one kind = elim (cases_Bool (eqb (length text) 0 || is_comment text)) [
  | inl skipped ↦ let wrong : Skipped ≡ Keyed e = rw skipped at kind in cc
  | inr plain ↦ elim (cases_Bool (bytes_eq text (codes "*"))) [
    | inl star ↦ let wrong : Ends ≡ Keyed e = rw (plain, star) at kind in cc
    | inr other ↦ elim (cases_Bool (list_any is_equals text)) [
      | inr bare ↦ let wrong : Unread ≡ Keyed e = rw (plain, other, bare) at kind in cc
      | inl equals ↦ let found : keyed (entry_of text) ≡ Keyed e = rw (plain, other, equals) at kind in
          entry_good text e is one (or_parts (eqb (length text) 0) (is_comment text) plain).1 found
    ]
  ]
]

pub is_entry-kind : (line : List ℕ) (e : Extra) → list_any is_line_feed line ≡ false → Keyed e ≡ kind_of line → is_entry e ≡ true
unfolding kind_of
is_entry-kind line e one kind = elim (cases_Bool (ltb 1024 (length line))) [
  | inl long ↦ let wrong : Keyed e ≡ Unread = kind ∙ rw long refl in cc
  | inr short ↦ keyed_good (trimmed line) e (IsTrimmed-trimmed_by is_blank line) (trimmed_by-any is_blank is_line_feed line one) (sym (kind ∙ rw short refl))
]

-- keys are the same both ways
pub same_key-turned : (a b : List ℕ) (c : Bool) → same_key a b ≡ c → same_key b a ≡ c
same_key-turned a b c same =
    let low : List ℕ = map to_ascii_lowercase a in
    let high : List ℕ = map to_ascii_lowercase b in
    let turned : bytes_eq high low ≡ bytes_eq low high =
    same_from_decides {P = low ≡ high} (bytes_eq high low) (bytes_eq low high) (Decides-like {P = high ≡ low} (bytes_eq high low) (λ e. sym e) (λ e. sym e)
    (bytes_eq-Decides high low)) (bytes_eq-Decides low high) in
    turned ∙ same

-- one more key that is not there yet
apart_push : (before : List Extra) (e : Extra) → are_apart before ≡ true → has_key e.key before ≡ false → are_apart (before ++ e ∷ []) ≡ true
apart_push [] e apart new = refl
apart_push (first ∷ before) e apart new =
    let parts = and_parts (not (has_key first.key before)) (are_apart before) apart in
    let others = or_parts (same_key first.key e.key) (has_key e.key before) new in
    let none : has_key first.key (before ++ e ∷ []) ≡ false =
    list_any-append (λ x. same_key x.key first.key) before (e ∷ [])
    ∙ ap (λ b. b || (same_key e.key first.key || false)) (not-true (has_key first.key before) parts.0) ∙ ap (λ b. b || false) (same_key-turned first.key e.key false others.0) in
    and_from _ _ (ap not none) (apart_push before e parts.1 others.1)

-- how many keys are not known, with one more
few_push : (line : ℕ) (before : List Extra) (e : Extra) (form : Option Form) → form_of e.key ≡ form → length (extra_entries before) ≤ 240 → None ≡ value_offence line before form e.value
    → length (extra_entries (before ++ e ∷ [])) ≤ 240
few_push line before e (Some form) is few none =
    let same : extra_entries (before ++ e ∷ []) ≡ extra_entries before ++ [] =
    filter-append (λ x. is_none (form_of x.key)) before (e ∷ []) ∙ ap (λ o. extra_entries before ++ cond (is_none o) (e ∷ []) []) is in
    omega (arith, few, ap length same, length-append (extra_entries before) [])
few_push line before e None is few none = elim (cases_Bool (leb 240 (length (extra_entries before)))) [
  | inl full ↦ let wrong : None ≡ Some (TooManyKeys line) = none ∙ ap (λ b. cond b (Some (TooManyKeys line)) None) full in cc
  | inr room ↦
      let more : extra_entries (before ++ e ∷ []) ≡ extra_entries before ++ e ∷ [] =
      filter-append (λ x. is_none (form_of x.key)) before (e ∷ []) ∙ ap (λ o. extra_entries before ++ cond (is_none o) (e ∷ []) []) is in
      omega (arith, leb-false 240 (length (extra_entries before)) room, ap length more, length-append (extra_entries before) (e ∷ []))
]

-- one more entry without an offence
pub AreGood-push : (line : ℕ) (before : List Extra) (e : Extra) → AreGood before → is_entry e ≡ true → None ≡ offence line before e → AreGood (before ++ e ∷ [])
unfolding offence
AreGood-push line before e good right none = elim (cases_Bool (has_key e.key before)) [
  | inl twice ↦ let wrong : None ≡ Some (KeyTwice line) = none ∙ ap (λ b. cond b (Some (KeyTwice line)) (value_offence line before (form_of e.key) e.value)) twice in cc
  | inr new ↦ record {
    forms = list_all-append is_entry before (e ∷ []) ∙ and_from _ _ good.forms (and_from _ _ right refl);
    apart = apart_push before e good.apart new;
    few = few_push line before e (form_of e.key) refl good.few (none ∙ ap (λ b. cond b (Some (KeyTwice line)) (value_offence line before (form_of e.key) e.value)) new);
  }
]

-- the texts of known keys
pub text_of-good : (key : List ℕ) (entries : List Extra) → list_all is_entry entries ≡ true → is_header_value (text_of key entries) ≡ true
text_of-good key [] good = refl
text_of-good key (e ∷ entries) good =
    let parts = and_parts (is_entry e) (list_all is_entry entries) good in
    elim (cases_Bool (same_key e.key key)) [
      | inl same ↦
          let text : text_of key (e ∷ entries) ≡ e.value = ap (λ b. unwrap_or (cond b (Some e.value) (value_of key entries)) []) same in
          ap is_header_value text ∙ (and_parts (is_header_key e.key) (is_header_value e.value) parts.0).1
      | inr other ↦
          let text : text_of key (e ∷ entries) ≡ text_of key entries = ap (λ b. unwrap_or (cond b (Some e.value) (value_of key entries)) []) other in
          ap is_header_value text ∙ text_of-good key entries parts.1
    ]

-- the extra keys
pub is_extra-good : (entries : List Extra) → list_all is_entry entries ≡ true → list_all is_extra (extra_entries entries) ≡ true
is_extra-good [] good = refl
is_extra-good (e ∷ entries) good =
    let parts = and_parts (is_entry e) (list_all is_entry entries) good in
    elim (cases_Bool (is_none (form_of e.key))) [
      | inl unknown ↦ ap (λ b. list_all is_extra (cond b (e ∷ extra_entries entries) (extra_entries entries))) unknown ∙ and_from _ _ (and_from _ _ parts.0 unknown) (is_extra-good entries parts.1)
      | inr known ↦ ap (λ b. list_all is_extra (cond b (e ∷ extra_entries entries) (extra_entries entries))) known ∙ is_extra-good entries parts.1
    ]

-- a key that is not there is none of the extra keys
extra_new : (key : List ℕ) (entries : List Extra) → has_key key entries ≡ false → has_key key (extra_entries entries) ≡ false
extra_new key [] new = refl
extra_new key (e ∷ entries) new =
    let parts = or_parts (same_key e.key key) (has_key key entries) new in
    elim (cases_Bool (is_none (form_of e.key))) [
      | inl unknown ↦ ap (λ b. has_key key (cond b (e ∷ extra_entries entries) (extra_entries entries))) unknown ∙ ap (λ b. b || has_key key (extra_entries entries)) parts.0
          ∙ extra_new key entries parts.1
      | inr known ↦ ap (λ b. has_key key (cond b (e ∷ extra_entries entries) (extra_entries entries))) known ∙ extra_new key entries parts.1
    ]

pub are_apart-extra_entries : (entries : List Extra) → are_apart entries ≡ true → are_apart (extra_entries entries) ≡ true
are_apart-extra_entries [] apart = refl
are_apart-extra_entries (e ∷ entries) apart =
    let parts = and_parts (not (has_key e.key entries)) (are_apart entries) apart in
    elim (cases_Bool (is_none (form_of e.key))) [
      | inl unknown ↦ ap (λ b. are_apart (cond b (e ∷ extra_entries entries) (extra_entries entries))) unknown
          ∙ and_from _ _ (ap not (extra_new e.key entries (not-true (has_key e.key entries) parts.0))) (are_apart-extra_entries entries parts.1)
      | inr known ↦ ap (λ b. are_apart (cond b (e ∷ extra_entries entries) (extra_entries entries))) known ∙ are_apart-extra_entries entries parts.1
    ]
