-- Entries, one after another.
use Rattle.std.proofs.Common.{◌≡◌, ◌+◌, ◌<◌, ℕ, Bool, true, false, List, ◌∷◌, length, drop, get_or, ◌||◌, Some, sym, ap, arith, if◌then◌else◌, ◌∙◌}
use Rattle.std.specs.Prelude.{is_none}
use Rattle.std.proofs.lemmas.List.{drop_more}
use Rattle.hd_sdf_read.specs.declared.file.Extra.{Extra}
use Rattle.hd_sdf_read.specs.Entries.{extra_entries, has_key, value_of}
use Rattle.hd_sdf_read.specs.Keys.{form_of, same_key}

module _ (key : List ℕ) (entries : List Extra) (i : ℕ) (d : Extra) (inside : i < length entries) where
  -- the key of the entry at a place is the one that is looked for
  pub has_key-found : has_key key (drop i entries) ≡ has_key key entries → same_key (get_or entries i d).key key ≡ true → true ≡ has_key key entries
  has_key-found left found = sym (ap (λ b. b || has_key key (drop (i + 1) entries)) found) ∙ sym (ap (has_key key) (drop_more entries i d inside)) ∙ left

  -- it is another
  pub has_key-passed : has_key key (drop i entries) ≡ has_key key entries → same_key (get_or entries i d).key key ≡ false → has_key key (drop (i + 1) entries) ≡ has_key key entries
  has_key-passed left other = sym (ap (has_key key) (drop_more entries i d inside) ∙ ap (λ b. b || has_key key (drop (i + 1) entries)) other) ∙ left

  pub value_of-found : value_of key (drop i entries) ≡ value_of key entries → same_key (get_or entries i d).key key ≡ true → value_of key entries ≡ Some (get_or entries i d).value
  value_of-found left found = sym left ∙ ap (value_of key) (drop_more entries i d inside)
      ∙ ap (λ b. if b then Some (get_or entries i d).value else value_of key (drop (i + 1) entries)) found

  pub value_of-passed : value_of key (drop i entries) ≡ value_of key entries → same_key (get_or entries i d).key key ≡ false → value_of key (drop (i + 1) entries) ≡ value_of key entries
  value_of-passed left other = sym (ap (value_of key) (drop_more entries i d inside)
      ∙ ap (λ b. if b then Some (get_or entries i d).value else value_of key (drop (i + 1) entries)) other) ∙ left

-- how many entries from a place on have a key that is not known
pub extra_entries-step : (entries : List Extra) (i : ℕ) (d : Extra) → i < length entries → (unknown : Bool) → is_none (form_of (get_or entries i d).key) ≡ unknown
    → length (extra_entries (drop i entries)) ≡ (if unknown then 1 else 0) + length (extra_entries (drop (i + 1) entries))
extra_entries-step entries i d inside true unknown =
    ap (λ es. length (extra_entries es)) (drop_more entries i d inside)
    ∙ ap (λ b. length (if b then get_or entries i d ∷ extra_entries (drop (i + 1) entries) else extra_entries (drop (i + 1) entries))) unknown
    ∙ (omega arith)
extra_entries-step entries i d inside false known =
    ap (λ es. length (extra_entries es)) (drop_more entries i d inside)
    ∙ ap (λ b. length (if b then get_or entries i d ∷ extra_entries (drop (i + 1) entries) else extra_entries (drop (i + 1) entries))) known
    ∙ (omega arith)
