-- Texts that are added one after the other, and prefixes of them.
use Rattle.std.proofs.Common.{◌≡◌, ◌<◌, ◌+◌, ℕ, zero, suc, List, [], ◌∷◌, ◌++◌, length, map, take, drop, refl, sym, ap, ◌∙◌, append_assoc, append-nil, arith}
use Rattle.std.specs.Prelude.{slice_index_or}
use Rattle.std.specs.List.{flat_map}
use Rattle.hd_num.specs.Text.{AppendsPrefix}
use Rattle.hd_num.proofs.AppendsPrefix.{prefix_first, prefix_then}
use Rattle.hd_check.specs.Text.{line_text}

-- the last text
pub append-last : (old mid new t u : List ℕ) → mid ≡ old ++ t → new ≡ mid ++ u → new ≡ old ++ (t ++ u)
append-last old mid new t u is a = a ∙ ap (λ (xs : List ℕ). xs ++ u) is ∙ append_assoc old t u

module _ {A : Type 0} (line : A → List ℕ) (d : A) where
  -- the lines before an item, its line, and those after it
  lines_at : (xs : List A) (k : ℕ) → k < length xs → flat_map line xs ≡ flat_map line (take k xs) ++ (line (slice_index_or xs k d) ++ flat_map line (drop (suc k) xs))
  lines_at [] k inside = absurd (omega (arith, inside))
  lines_at (x ∷ xs) zero inside = refl
  lines_at (x ∷ xs) (suc k) inside = ap (λ (t : List ℕ). line x ++ t) (lines_at xs k (omega (arith, inside)))
      ∙ sym (append_assoc (line x) (flat_map line (take k xs)) (line (slice_index_or xs k d) ++ flat_map line (drop (suc k) xs)))

  take_suc : (xs : List A) (k : ℕ) → k < length xs → flat_map line (take (suc k) xs) ≡ flat_map line (take k xs) ++ line (slice_index_or xs k d)
  take_suc [] k inside = absurd (omega (arith, inside))
  take_suc (x ∷ xs) zero inside = append-nil (line x)
  take_suc (x ∷ xs) (suc k) inside = ap (λ (t : List ℕ). line x ++ t) (take_suc xs k (omega (arith, inside)))
      ∙ sym (append_assoc (line x) (flat_map line (take k xs)) (line (slice_index_or xs k d)))

  take_next : (xs : List A) (k : ℕ) → k < length xs → flat_map line (take (k + 1) xs) ≡ flat_map line (take k xs) ++ line (slice_index_or xs k d)
  take_next xs k inside = (let e : k + 1 ≡ suc k = omega arith in ap (λ (n : ℕ). flat_map line (take n xs)) e) ∙ take_suc xs k inside

  -- one more line is added
  pub flat_map-more : (old out new : List ℕ) (xs : List A) (k : ℕ) → k < length xs → out ≡ old ++ flat_map line (take k xs)
      → new ≡ out ++ line (slice_index_or xs k d) → new ≡ old ++ flat_map line (take (k + 1) xs)
  flat_map-more old out new xs k inside so_far is =
      append-last old out new (flat_map line (take k xs)) (line (slice_index_or xs k d)) so_far is ∙ ap (λ (t : List ℕ). old ++ t) (sym (take_next xs k inside))

  -- a line is refused its memory
  pub AppendsPrefix-flat_map : (old out new : List ℕ) (xs : List A) (k : ℕ) → k < length xs → out ≡ old ++ flat_map line (take k xs)
      → AppendsPrefix out new (line (slice_index_or xs k d)) → AppendsPrefix old new (flat_map line xs)
  AppendsPrefix-flat_map old out new xs k inside so_far part =
      let here : List ℕ = line (slice_index_or xs k d) in
      let more : List ℕ = flat_map line (drop (suc k) xs) in
      rw (lines_at xs k inside) (prefix_then old out new (flat_map line (take k xs)) (here ++ more) so_far (prefix_first out new here more part))

module _ {A : Type 0} (words : A → List (List ℕ)) where
  -- the lines of items, by their words
  lines_map : (xs : List A) → flat_map line_text (map words xs) ≡ flat_map (λ (x : A). line_text (words x)) xs
  lines_map [] = refl
  lines_map (x ∷ xs) = ap (λ (t : List ℕ). line_text (words x) ++ t) (lines_map xs)

  -- after the line of a key and their number
  pub line_text-counted : (key number : List ℕ) (xs : List A) → (key ++ 32 ∷ (number ++ 10 ∷ [])) ++ flat_map line_text (map words xs) ≡ key ++ 32
      ∷ (number ++ 10 ∷ flat_map (λ (x : A). line_text (words x)) xs)
  line_text-counted key number xs = ap (λ (t : List ℕ). (key ++ 32 ∷ (number ++ 10 ∷ [])) ++ t) (lines_map xs)
      ∙ append_assoc key (32 ∷ (number ++ 10 ∷ [])) (flat_map (λ (x : A). line_text (words x)) xs)
      ∙ ap (λ (t : List ℕ). key ++ 32 ∷ t) (append_assoc number (10 ∷ []) (flat_map (λ (x : A). line_text (words x)) xs))
