-- Bytes that are read or written piece by piece.
use Rattle.std.proofs.Common.{◌≡◌, ◌<◌, ◌≤◌, ◌+◌, ℕ, List, [], ◌∷◌, ◌++◌, length, take, drop, min, Option, Some, None, refl, sym, ◌∙◌, ap, subst, arith}
use Rattle.std.proofs.Common.{append-nil, length-drop, length-append, length-take, length-take-le}
use Rattle.std.specs.Io.KnownBytes.{Appends, Consumes, IsAtEnd, Keeps}
use Rattle.std.proofs.KnownBytes.{Appends-trans, Consumes-kept, Consumes-trans}
use Rattle.std.proofs.Math.Seq.{take-add, drop-append_seam}
use Rattle.std.proofs.lemmas.List.{drop-drop, take-append-drop, take_at}
use Rattle.hd_base.specs.Told.{TakesFew}

-- the bytes before the rest are written
pub record AreWritten (old new : Option (List ℕ)) (bytes rest : List ℕ) : Type 0 where
  pub count : ℕ
  pub within : count ≤ length bytes
  pub rest_is : rest ≡ drop count bytes
  pub taken : Appends old new (take count bytes)

pub AreWritten-more : (old mid new : Option (List ℕ)) (bytes rest : List ℕ) (n : ℕ) → n ≤ length rest → Appends mid new (take n rest) → AreWritten old mid bytes rest
    → AreWritten old new bytes (drop n rest)
AreWritten-more old mid new bytes rest n fits p w =
    let len : length rest ≡ length (drop w.count bytes) = ap length w.rest_is in
    let within = w.within in
    record {
      count = w.count + n;
      within = omega (arith, len, length-drop w.count bytes);
      rest_is = ap (drop n) w.rest_is ∙ drop-drop n w.count bytes;
      taken = subst (λ (xs : List ℕ). Appends old new xs) (ap (λ xs. take w.count bytes ++ take n xs) w.rest_is ∙ sym (take-add w.count n bytes))
          (Appends-trans old mid new (take w.count bytes) (take n rest) w.taken p);
    }

-- a read gives the first of the bytes that are left, and none only at their end
pub piece-taken : (left file into copied rest : List ℕ) (at count piece : ℕ) → left ≡ drop at file → rest ≡ drop at file → copied ≡ take count rest
    → count ≡ min (min (length rest) (length into)) piece → 0 < piece
    → (left ≡ take count (copied ++ drop count into) ++ drop (at + count) file) × (count ≡ 0 → 0 < length (copied ++ drop count into) → drop (at + count) file ≡ [])
piece-taken left file into copied rest at count piece is_left is_rest is_copied is_count some =
    let few : count ≤ length rest = omega arith in
    let len : length copied ≡ count = ap length is_copied ∙ length-take-le count rest few in (
      is_left ∙ sym is_rest ∙ sym (take-append-drop count rest) ∙ ap (λ (xs : List ℕ). xs ++ drop count rest) (sym is_copied ∙ sym (take_at copied (drop count into) count len))
          ∙ ap (λ (xs : List ℕ). take count (copied ++ drop count into) ++ xs) (ap (drop count) is_rest ∙ drop-drop count at file),
      λ none room.
          let total : length (copied ++ drop count into) ≡ length copied + length (drop count into) = length-append copied (drop count into) in
          let all_gone : length rest ≡ 0 = omega (arith, total, length-drop {A = ℕ}) in
          let past : length rest ≡ length (drop at file) = ap length is_rest in
          no_items (drop (at + count) file) (omega (arith, past, length-drop at file, length-drop (at + count) file)),
    ) where
      no_items : (xs : List ℕ) → length xs ≡ 0 → xs ≡ []
      no_items [] h = refl
      no_items (x ∷ xs) h = absurd (omega (arith, h))

-- what is left of a file once these bytes of it are taken
left_after : (bytes got : List ℕ) (left : Option (List ℕ)) → Consumes (Some bytes) left got → left ≡ Some (drop (length got) bytes)
left_after bytes got None h = absurd h
left_after bytes got (Some rest) h = ap Some (sym (rw h (drop-append_seam got rest)))

-- one more piece is taken of a file, within the limit and one byte
pub TakesFew-more : (bytes got piece : List ℕ) (limit count : ℕ) (file mid left : Option (List ℕ)) → file ≡ Some bytes → Consumes file mid got → Consumes mid left (take count piece)
    → length got + length piece ≤ limit + 1 → TakesFew bytes limit left
TakesFew-more bytes got piece limit count file mid left told before more fits =
    let taken : Consumes (Some bytes) left (got ++ take count piece) = subst (λ (f : Option (List ℕ)). Consumes f left (got ++ take count piece)) told
    (Consumes-trans file mid left got (take count piece) before more) in (
      length (got ++ take count piece),
      omega (arith, length-append got (take count piece), length-take count piece),
      left_after bytes (got ++ take count piece) left taken,
    )

-- a file is read to its end
pub pieces-whole : (bytes got piece : List ℕ) (count : ℕ) (file mid left : Option (List ℕ)) → file ≡ Some bytes → Consumes file mid got → Consumes mid left (take count piece)
    → count ≡ 0 → IsAtEnd left → (got ≡ bytes) × (left ≡ Some [])
pieces-whole bytes got piece count file mid left told before more none end =
    let last : Consumes mid left [] = subst (λ n. Consumes mid left (take n piece)) none more in
    ended left (subst (λ (f : Option (List ℕ)). Consumes f left (got ++ [])) told (Consumes-trans file mid left got [] before last)) end where
      ended : (rest : Option (List ℕ)) → Consumes (Some bytes) rest (got ++ []) → IsAtEnd rest → (got ≡ bytes) × (rest ≡ Some [])
      ended None taken _ = absurd taken
      ended (Some rest) taken gone = (sym (taken ∙ ap (λ (xs : List ℕ). (got ++ []) ++ xs) gone ∙ append-nil (got ++ []) ∙ append-nil got), ap Some gone)

-- nothing more is taken of a file
pub TakesFew-kept : (bytes got : List ℕ) (limit : ℕ) (file mid left : Option (List ℕ)) → file ≡ Some bytes → Consumes file mid got → Keeps mid left → length got ≤ limit → TakesFew bytes limit left
TakesFew-kept bytes got limit file mid left told before kept fits =
    (length got, omega arith, left_after bytes got left (subst (λ (f : Option (List ℕ)). Consumes f left got) told (Consumes-kept file mid left got before kept)))

-- a file has more bytes than the limit, and one more than the limit is taken of it
pub pieces-past_limit : (bytes got piece all : List ℕ) (limit count : ℕ) (file mid left : Option (List ℕ)) → file ≡ Some bytes → Consumes file mid got → Consumes mid left (take count piece)
    → length got + length piece ≤ limit + 1 → all ≡ got ++ take count piece → limit < length all → (left ≡ Some (drop (limit + 1) bytes)) × (limit < length bytes)
pieces-past_limit bytes got piece all limit count file mid left told before more fits is past =
    let taken : Consumes (Some bytes) left all = rw is (subst (λ (f : Option (List ℕ)). Consumes f left (got ++ take count piece)) told
    (Consumes-trans file mid left got (take count piece) before more)) in
    let size : length all ≡ limit + 1 = omega (arith, ap length is, length-append got (take count piece), length-take count piece) in
    (subst (λ n. left ≡ Some (drop n bytes)) size (left_after bytes all left taken), omega (arith, starts left taken)) where
      starts : (rest : Option (List ℕ)) → Consumes (Some bytes) rest all → length all ≤ length bytes
      starts None taken = absurd taken
      starts (Some rest) taken = omega (arith, ap length taken, length-append all rest)
