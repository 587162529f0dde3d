-- Reading a certificate line by line: so many items, and lines without words.
use Rattle.std.proofs.Common.{◌≡◌, ◌<◌, ◌+◌, ◌-◌, ℕ, suc, List, [], ◌∷◌, ◌++◌, Option, Ok, Err, refl, sym, ap, ◌∙◌, append_assoc, arith}
use Rattle.hd_check.specs.declared.lines.LinePlace.{LinePlace}
use Rattle.hd_check.specs.declared.types.CertificateError.{CertificateError}
use Rattle.std.specs.Prelude.{ℤ, codes}
use Rattle.hd_map.specs.declared.types.Pos.{Pos}
use Rattle.hd_check.specs.declared.types.Certificate.{Certificate}
use Rattle.hd_check.specs.declared.words.CertificateHead.{CertificateHead}
use Rattle.hd_check.specs.Reading.{Lines, Read, and_then, counted_in, end_in, end_point_form, items_in, line_as, blank_lines_in, path_in, saddle_form}
use Rattle.hd_check.specs.Places.{IsPlace, lines_at}

-- the last lines of a certificate, after the others
abbrev pub after_cut : CertificateHead → Pos → Pos → Option (Pos × ℤ) → List Pos → List Pos → Lines → Read Certificate
after_cut head from to saddle path cut rest = and_then (end_in rest) (λ _ rest.
    Ok (record { side = head.side; adjacency = head.adjacency; from = from; to = to; saddle = saddle; path = path; cut = cut }, rest))

-- its cut and what follows
abbrev pub after_path : CertificateHead → Pos → Pos → Option (Pos × ℤ) → List Pos → Lines → Read Certificate
after_path head from to saddle path rest = and_then (counted_in (codes "cut") rest) (after_cut head from to saddle path)

-- its path and what follows
abbrev pub after_saddle : CertificateHead → Pos → Pos → Option (Pos × ℤ) → Lines → Read Certificate
after_saddle head from to saddle rest = and_then (path_in saddle rest) (after_path head from to saddle)

-- its saddle and what follows
abbrev pub after_to : CertificateHead → Pos → Pos → Lines → Read Certificate
after_to head from to rest = and_then (line_as saddle_form rest) (after_saddle head from to)

-- its second pit and what follows
abbrev pub after_from : CertificateHead → Pos → Lines → Read Certificate
after_from head from rest = and_then (line_as (end_point_form (codes "to")) rest) (after_to head from)

-- its first pit and what follows
abbrev pub after_head : CertificateHead → Lines → Read Certificate
after_head head rest = and_then (line_as (end_point_form (codes "from")) rest) (after_from head)

module _ {A : Type 0} (form : List (List ℕ) → Option A) where
  -- items, and then those that are read
  abbrev pub before : List A → Read (List A) → Read (List A)
  before xs (Ok r) = Ok (xs ++ r.0, r.1)
  before xs (Err e) = Err e

  -- the items that are read before a place, and how many are left
  pub record AreItemsBefore (bytes : List ℕ) (count : ℕ) (start : LinePlace) (items : List A) (place : LinePlace) (k : ℕ) : Type 0 where
    pub at : IsPlace bytes place
    pub whole : items_in form count (lines_at bytes start) ≡ before items (items_in form (count - k) (lines_at bytes place))

  one_more : (xs : List A) (x : A) (r : Read (List A)) → before xs (and_then r (λ ys rest. Ok (x ∷ ys, rest))) ≡ before (xs ++ x ∷ []) r
  one_more xs x (Ok r) = ap (λ (ys : List A). Ok (ys, r.1)) (sym (append_assoc xs (x ∷ []) r.0))
  one_more xs x (Err e) = refl

  -- what so many items give, when the first of them is read
  items_step : (n : ℕ) (rest next : Lines) (x : A) → line_as form rest ≡ Ok (x, next) → items_in form (suc n) rest ≡ and_then (items_in form n next) (λ xs rest. Ok (x ∷ xs, rest))
  items_step n rest next x read = ap (λ (r : Read A). and_then r (λ x rest. and_then (items_in form n rest) (λ xs rest. Ok (x ∷ xs, rest)))) read

  items_fail : (n : ℕ) (rest : Lines) (e : CertificateError) → line_as form rest ≡ Err e → items_in form (suc n) rest ≡ Err e
  items_fail n rest e read = ap (λ (r : Read A). and_then r (λ x rest. and_then (items_in form n rest) (λ xs rest. Ok (x ∷ xs, rest)))) read

  -- one more is read
  pub AreItemsBefore-more : (bytes : List ℕ) (count : ℕ) (start : LinePlace) (items : List A) (place next : LinePlace) (k : ℕ) (x : A) → k < count → AreItemsBefore bytes count start items place k
      → line_as form (lines_at bytes place) ≡ Ok (x, lines_at bytes next) → IsPlace bytes next → AreItemsBefore bytes count start (items ++ x ∷ []) next (k + 1)
  AreItemsBefore-more bytes count start items place next k x less so_far read at =
      let left : count - k ≡ suc (count - (k + 1)) = omega (arith, less) in
      record {
        at = at;
        whole = so_far.whole ∙ ap (λ (n : ℕ). before items (items_in form n (lines_at bytes place))) left
            ∙ ap (before items) (items_step (count - (k + 1)) (lines_at bytes place) (lines_at bytes next) x read)
            ∙ one_more items x (items_in form (count - (k + 1)) (lines_at bytes next));
      }

  -- one is not read
  pub items_in-bad : (bytes : List ℕ) (count : ℕ) (start : LinePlace) (items : List A) (place : LinePlace) (k : ℕ) (e : CertificateError) → k < count → AreItemsBefore bytes count start items place k
      → line_as form (lines_at bytes place) ≡ Err e → items_in form count (lines_at bytes start) ≡ Err e
  items_in-bad bytes count start items place k e less so_far read =
      let left : count - k ≡ suc (count - (k + 1)) = omega (arith, less) in
      so_far.whole ∙ ap (λ (n : ℕ). before items (items_in form n (lines_at bytes place))) left ∙ ap (before items) (items_fail (count - (k + 1)) (lines_at bytes place) e read)

-- the lines before a place have no words
pub record AreBlankBefore (bytes : List ℕ) (start place : LinePlace) : Type 0 where
  pub at : IsPlace bytes place
  pub whole : blank_lines_in start.number (lines_at bytes start).lines ≡ blank_lines_in place.number (lines_at bytes place).lines

module _ {A B : Type 0} (r : Read A) (next : A → Lines → Read B) where
  -- after what was read comes the next
  pub and_then-goes_on : (x : A) (rest : Lines) → r ≡ Ok (x, rest) → and_then r next ≡ next x rest
  and_then-goes_on x rest e = ap (λ (s : Read A). and_then s next) e

  -- after what was not read comes nothing
  pub and_then-stops : (e : CertificateError) → r ≡ Err e → and_then r next ≡ Err e
  and_then-stops e f = ap (λ (s : Read A). and_then s next) f
