-- Elements that stand under the bytes of their names.
use Rattle.std.proofs.Common.{◌≡◌, ◌+◌, ◌++◌, ℕ, zero, suc, take, Bool, true, false, List, [], ◌∷◌, All, map, Option, Some, refl, sym, ap, ◌∙◌}
use Rattle.std.specs.Prelude.{nat_eq, slice_get, if◌then◌else◌}
use Rattle.std.specs.Cmp.Lexicographic.{pointwise, same_text}
use Rattle.std.specs.Option.{option_map}
use Rattle.std.specs.Map.{lookup}
use Rattle.std.proofs.lemmas.List.{take_more, map-append}
use Rattle.std.proofs.lemmas.Option.{slice_get_within, get_or_from_slice_get}
use Rattle.std.proofs.lemmas.List.Elements.{All-nil, All-cons, All-head, All-tail}
use Rattle.indexmap.specs.IndexMap.{insert_entry}
use Rattle.hd_morph.specs.Element.{ElementTable}
use Rattle.hd_edit.specs.Elements.{first_named, elements_with, line_of}
use Rattle.hd_edit.specs.declared.elements.ElementLine.{ElementLine}

module _ {K : Type 0} (items : K → List ℕ) where
  -- an entry stands under the name of its element
  abbrev pub IsNamed : K × ElementTable → Type 0
  IsNamed entry = items entry.0 ≡ entry.1.name

  abbrev pub tables : List (K × ElementTable) → List ElementTable
  tables es = map (λ entry. entry.1) es

  abbrev pub has_name : List ℕ → K → Bool
  has_name name k = pointwise nat_eq name (items k)

  abbrev pub same_key : K → K → Bool
  same_key a b = pointwise nat_eq (items a) (items b)

  pub first_named-found : (es : List (K × ElementTable)) (name : List ℕ) → All IsNamed es → first_named (tables es) name ≡ lookup (has_name name) es
  first_named-found [] name are = refl
  first_named-found ((k, e) ∷ es) name are =
      ap (λ (n : List ℕ). if pointwise nat_eq name n then Some e else first_named (tables es) name) (sym (All-head IsNamed (k, e) es are))
      ∙ ap (λ (rest : Option ElementTable). if pointwise nat_eq name (items k) then Some e else rest) (first_named-found es name (All-tail IsNamed (k, e) es are))

  read_table : (es : List (K × ElementTable)) (i : ℕ) → slice_get (tables es) i ≡ option_map (λ entry. entry.1) (slice_get es i)
  read_table [] i = refl
  read_table (e ∷ es) zero = refl
  read_table (e ∷ es) (suc i) = read_table es i

  -- the lines with that of one element more
  pub line_of-more : (es : List (K × ElementTable)) (i : ℕ) (entry : K × ElementTable) (lines : List ElementLine) → slice_get es i ≡ Some entry → lines ≡ map line_of (take i (tables es))
      → lines ++ line_of entry.1 ∷ [] ≡ map line_of (take (i + 1) (tables es))
  line_of-more es i entry lines is so =
      let here : slice_get (tables es) i ≡ Some entry.1 = read_table es i ∙ ap (option_map (λ entry. entry.1)) is in
      let more : take (i + 1) (tables es) ≡ take i (tables es) ++ entry.1 ∷ [] =
      take_more (tables es) i entry.1 (slice_get_within (tables es) i entry.1 here)
      ∙ ap (λ (e : ElementTable). take i (tables es) ++ e ∷ []) (get_or_from_slice_get (tables es) i entry.1 entry.1 here) in
      ap (λ (ls : List ElementLine). ls ++ line_of entry.1 ∷ []) so
      ∙ sym (map-append line_of (take i (tables es)) (entry.1 ∷ []))
      ∙ ap (map line_of) (sym more)

  chosen_tables : (b : Bool) (xs ys : List (K × ElementTable)) → tables (if b then xs else ys) ≡ (if b then tables xs else tables ys)
  chosen_tables true xs ys = refl
  chosen_tables false xs ys = refl

  module _ (key : K) (new : ElementTable) (named : items key ≡ new.name) where
    pub elements_with-tables : (es : List (K × ElementTable)) → All IsNamed es → tables (insert_entry same_key es key new) ≡ elements_with (tables es) new
    elements_with-tables [] are = refl
    elements_with-tables ((k, e) ∷ es) are =
        chosen_tables (same_key key k) ((k, new) ∷ es) ((k, e) ∷ insert_entry same_key es key new)
        ∙ ap (λ (rest : List ElementTable). if same_key key k then new ∷ tables es else e ∷ rest) (elements_with-tables es (All-tail IsNamed (k, e) es are))
        ∙ ap (λ (n : List ℕ). if pointwise nat_eq n (items k) then new ∷ tables es else e ∷ elements_with (tables es) new) named
        ∙ ap (λ (n : List ℕ). if pointwise nat_eq new.name n then new ∷ tables es else e ∷ elements_with (tables es) new) (All-head IsNamed (k, e) es are)

    chosen_named : (b : Bool) (xs ys : List (K × ElementTable)) → (b ≡ true → All IsNamed xs) → All IsNamed ys → All IsNamed (if b then xs else ys)
    chosen_named true xs ys first second = first refl
    chosen_named false xs ys first second = second

    pub IsNamed-with : (es : List (K × ElementTable)) → All IsNamed es → All IsNamed (insert_entry same_key es key new)
    IsNamed-with [] are = All-cons IsNamed (key, new) [] named (All-nil IsNamed)
    IsNamed-with ((k, e) ∷ es) are =
        let rest = All-tail IsNamed (k, e) es are in
        chosen_named (same_key key k) ((k, new) ∷ es) ((k, e) ∷ insert_entry same_key es key new)
        (λ same. All-cons IsNamed (k, new) es (sym (same_text (items key) (items k) (sym same)) ∙ named) rest)
        (All-cons IsNamed (k, e) (insert_entry same_key es key new) (All-head IsNamed (k, e) es are) (IsNamed-with es rest))
