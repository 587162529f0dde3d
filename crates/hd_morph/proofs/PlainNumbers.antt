-- Heights by index, and plain numbers that stand for them.
use Rattle.std.proofs.Common.{◌≡◌, ◌<◌, ◌≤◌, ◌+◌, ◌++◌, ℕ, ℤ, List, length, take, drop, get_or, slice_index_or, slice_set, length-set, get_or-set_other}
use Rattle.std.proofs.Common.{get_or-set_same, below_more, Option, Some, None, ◌⊎◌, inl, inr, refl, ap, subst, sym, ◌∙◌, arith, rules}
use Rattle.std.proofs.lemmas.Bool.{cases_lt}
use Rattle.std.proofs.lemmas.List.{places, get_or_past}
use Rattle.std.proofs.Math.Seq.{take-append_seam}
use borrow.Rule.Slice.PartMut.{put_mid}
use Rattle.hd_map.specs.declared.types.Pos.{Pos}
use Rattle.hd_map.specs.declared.types.Size.{Size}
use Rattle.hd_map.specs.Map.{InGrid, place_of}
use Rattle.hd_map.specs.Encoding.{Encoding, values_of, number_in}
use Rattle.hd_map.specs.Lanes.{IsNegated, minus, IsPlainNumber, IsBounded}
use Rattle.hd_map.proofs.Lanes.{IsPlainNumber-more}
use Rattle.hd_morph.specs.Element.{ElementTable}
use Rattle.hd_morph.specs.Raised.{IsNumberWithin, IsSettled, AreTopped}
use Rattle.hd_morph.specs.Turned.{AreNegated}
use Rattle.hd_morph.specs.Plain.{value_at, relief, ArePlain, HasNumbersWithin}
use Rattle.hd_morph.proofs.Encodings.{value_at-number_in, number_in-read}

-- a value is some number, or none
pub Option-some_or_none : (v : Option ℤ) → ((z : ℤ) × (v ≡ Some z)) ⊎ (v ≡ None)
Option-some_or_none (Some z) = inl (z, refl)
Option-some_or_none None = inr refl

-- a number is a value inside the list
pub value_at-inside : (xs : List (Option ℤ)) (i : ℕ) (z : ℤ) → value_at xs i ≡ Some z → i < length xs
value_at-inside xs i z is = elim (cases_lt i (length xs)) [
  | inl inside ↦ inside
  | inr past ↦ let none : value_at xs i ≡ None = get_or_past xs i None past in cc
]

module _ {X : Type 0} (none : X) where
  -- an item of a list of which a stretch was written anew
  pub put_mid-inside : (a k i : ℕ) (xs ys : List X) → a + k ≤ length xs → length ys ≡ k → i < k → get_or (put_mid a k xs ys) (a + i) none ≡ get_or ys i none
  put_mid-inside a k i xs ys room size below = search (rules, places)

  pub put_mid-before : (a k i : ℕ) (xs ys : List X) → a + k ≤ length xs → length ys ≡ k → i < a → get_or (put_mid a k xs ys) i none ≡ get_or xs i none
  put_mid-before a k i xs ys room size below = search (rules, places)

  pub put_mid-after : (a k i : ℕ) (xs ys : List X) → a + k ≤ length xs → length ys ≡ k → a + k ≤ i → get_or (put_mid a k xs ys) i none ≡ get_or xs i none
  put_mid-after a k i xs ys room size above = search (rules, places)

  -- an item of a stretch
  pub take_drop-at : (a k i : ℕ) (xs : List X) → i < k → get_or (take k (drop a xs)) i none ≡ get_or xs (a + i) none
  take_drop-at a k i xs below = search (rules, places)

-- how long they are
pub put_mid-length : {X : Type 0} (a k : ℕ) (xs ys : List X) → a + k ≤ length xs → length ys ≡ k → length (put_mid a k xs ys) ≡ length xs
put_mid-length a k xs ys room size = search (rules, places)

pub take_drop-length : {X : Type 0} (a k : ℕ) (xs : List X) → a + k ≤ length xs → length (take k (drop a xs)) ≡ k
take_drop-length a k xs room = search (rules, places)

module _ {L : Type 0} (code : Encoding L) where
  -- a number that stands for none, negated
  missing_negated : IsNegated code code.missing code.missing
  missing_negated = record { value = code.missing_none ∙ sym (ap minus code.missing_none); absent = λ _. refl }

  -- the numbers before a place are negated
  pub record NegatedBefore (old : List L) (place : ℕ) (now : List L) : Type 0 where
    pub whole : length now ≡ length old
    pub done : (k : ℕ) → k < place → IsNegated code (number_in code old k) (number_in code now k)
    pub left : (k : ℕ) → place ≤ k → number_in code now k ≡ number_in code old k

  pub NegatedBefore-more : (old now : List L) (place : ℕ) (number new : L) → place < length old → number ≡ get_or now place number → IsNegated code number new
      → NegatedBefore old place now → NegatedBefore old (place + 1) (slice_set now place new)
  NegatedBefore-more old now place number new inside read is was =
      let room : place < length now = omega (arith, was.whole) in
      let here : number ≡ number_in code old place = number_in-read code now place number room read ∙ was.left place (omega arith) in
      record {
        whole = length-set now place new ∙ was.whole;
        done = below_more _ _
            (λ k below. rw (get_or-set_other now place k new code.missing (omega arith)) (was.done k below))
            (rw (get_or-set_same now place new code.missing room) (subst (λ (z : L). IsNegated code z new) here is));
        left = λ k above. get_or-set_other now place k new code.missing (omega arith) ∙ was.left k (omega arith);
      }

  pub AreNegated-all : (old now : List L) (place : ℕ) → length old ≤ place → NegatedBefore old place now → AreNegated code old now
  AreNegated-all old now place all was = record {
    whole = was.whole;
    each = λ k. elim (cases_lt k place) [
      | inl below ↦ was.done k below
      | inr above ↦
          let past : number_in code old k ≡ code.missing = get_or_past old k code.missing (omega arith) in
          let past' : number_in code now k ≡ code.missing = get_or_past now k code.missing (omega (arith, was.whole)) in
          rw (past, past') missing_negated
    ];
  }

  -- the places before one are settled
  pub record SettledBefore (heights : List (Option ℤ)) (old : List L) (number : ℤ) (place : ℕ) (now : List L) : Type 0 where
    pub whole : length now ≡ length old
    pub done : (k : ℕ) → k < place → IsSettled code (value_at heights k) (value_at (values_of code old) k) number (number_in code now k)
    pub left : (k : ℕ) → place ≤ k → number_in code now k ≡ number_in code old k

  -- the top that is read at the next place
  top_read : (heights : List (Option ℤ)) (old now : List L) (number : ℤ) (place : ℕ) (top : L) → place < length old → top ≡ get_or now place top → SettledBefore heights old number place now
      → code.shown top ≡ value_at (values_of code old) place
  top_read heights old now number place top inside read was =
      ap code.shown (number_in-read code now place top (omega (arith, was.whole)) read ∙ was.left place (omega arith)) ∙ sym (value_at-number_in code old place)

  pub SettledBefore-more : (heights : List (Option ℤ)) (old now : List L) (number : ℤ) (place : ℕ) (top new : L) → place < length old → top ≡ get_or now place top
      → IsSettled code (value_at heights place) (code.shown top) number new
      → SettledBefore heights old number place now → SettledBefore heights old number (place + 1) (slice_set now place new)
  SettledBefore-more heights old now number place top new inside read is was =
      let room : place < length now = omega (arith, was.whole) in
      record {
        whole = length-set now place new ∙ was.whole;
        done = below_more _ _
            (λ k below. rw (get_or-set_other now place k new code.missing (omega arith)) (was.done k below))
            (rw (get_or-set_same now place new code.missing room) (rw (top_read heights old now number place top inside read was) at is));
        left = λ k above. get_or-set_other now place k new code.missing (omega arith) ∙ was.left k (omega arith);
      }

  -- what is read where a height stands
  pub SettledBefore-within : (n : ℕ) (heights : List (Option ℤ)) (old now : List L) (number : ℤ) (place : ℕ) (top : L) (z : ℤ) → place < length old → top ≡ get_or now place top
      → AreTopped n heights (values_of code old) → SettledBefore heights old number place now → value_at heights place ≡ Some z → IsNumberWithin n (code.shown top)
  SettledBefore-within n heights old now number place top z inside read topped was is = rw (top_read heights old now number place top inside read was) (topped.each place z is)

-- where a slice of a whole vector is written, the vector is written
pub take-joined : {X : Type 0} (n : ℕ) (ys zs : List X) → n ≡ length ys → take n (ys ++ zs) ≡ ys
take-joined n ys zs e = rw e (take-append_seam ys zs)

-- none is within each bound
pub IsBounded-none : (n : ℕ) → IsBounded n None
IsBounded-none n = record { least = λ z is. let e : None ≡ Some z = is in cc; greatest = λ z is. let e : None ≡ Some z = is in cc }

-- an element of which each number of the table is within a bound
pub HasNumbersWithin-before : (n : ℕ) (e : ElementTable) (index : ℕ) → length e.table ≤ index → ((k : ℕ) → k < index → IsBounded n (slice_index_or e.table k None)) → HasNumbersWithin n e
HasNumbersWithin-before n e index all before = record {
  each = λ k. elim (cases_lt k index) [
    | inl below ↦ before k below
    | inr past ↦ rw (get_or_past e.table k None (omega arith)) (IsBounded-none n)
  ];
}

module _ {L : Type 0} (code : Encoding L) where
  pub ArePlain-more : (s : Size) (m n : ℕ) (numbers : List L) → m ≤ n → ArePlain code s m numbers → ArePlain code s n numbers
  ArePlain-more s m n numbers more are = record {
    whole = are.whole;
    plain = record { each = λ k. IsPlainNumber-more code m n (number_in code numbers k) more (are.plain.each k) };
  }

  -- heights are bounded as the numbers are
  pub IsBounded-value : (s : Size) (n : ℕ) (numbers : List L) → ArePlain code s n numbers → (k : ℕ) → IsBounded n (value_at (values_of code numbers) k)
  IsBounded-value s n numbers are k = rw (value_at-number_in code numbers k) ((are.plain.each k).bounded)

  pub IsBounded-relief : (s : Size) (n : ℕ) (numbers : List L) → ArePlain code s n numbers → (p : Pos) → InGrid s p → IsBounded n (relief s (values_of code numbers) p)
  IsBounded-relief s n numbers are p inside = IsBounded-value s n numbers are (place_of s p)

  -- a number that is read inside a plain list is plain, within more
  pub IsPlainNumber-read : (m n : ℕ) → m ≤ n → (numbers : List L) → ((k : ℕ) → IsPlainNumber code m (number_in code numbers k)) → (k : ℕ) (x : L) → k < length numbers
      → x ≡ get_or numbers k x → IsPlainNumber code n x
  IsPlainNumber-read m n more numbers each k x inside read =
      let here : x ≡ number_in code numbers k = number_in-read code numbers k x inside read in
      rw here (IsPlainNumber-more code m n (number_in code numbers k) more (each k))
