-- Heights that are raised by the numbers of an element, and what the steps of a filter make of plain
-- numbers.
use Rattle.std.specs.Prelude.{◌≡◌, ◌<◌, ◌≤◌, ◌+◌, ◌*◌, ◌+ℤ◌, ◌≤ℤ◌, ℕ, ℤ, pos, neg_ℤ, List, length, Option, Some, None}
use Rattle.hd_map.specs.declared.types.Pos.{Pos}
use Rattle.hd_map.specs.declared.types.Size.{Size}
use Rattle.hd_map.specs.Map.{InGrid, cell_count}
use Rattle.hd_map.specs.Encoding.{Encoding, values_of, number_in}
use Rattle.hd_morph.specs.Element.{ElementTable, number_at}
use Rattle.hd_morph.specs.Greatest.{IsGreatest, larger}
use Rattle.hd_morph.specs.declared.filter.Filter.{Filter}
use Rattle.hd_morph.specs.declared.filter.Filter.TheVariants.{Dilation}
use Rattle.hd_morph.specs.Filter.{Relief, IsRaised, IsFiltered}
use Rattle.hd_morph.specs.Plain.{value_at, relief}

-- the plain numbers are what a filter makes of others, and each that stands for none is `missing`
pub record ArePlainlyFiltered {L : Type 0} (code : Encoding L) (filter : Filter) (s : Size) (e : ElementTable)
    (old new : List L) : Type 0 where
  pub whole : length new ≡ cell_count s
  pub filtered : IsFiltered filter s e (relief s (values_of code old)) (relief s (values_of code new))
  pub absent : (k : ℕ) → code.shown (number_in code new k) ≡ None → number_in code new k ≡ code.missing

-- one and the same number everywhere
pub record IsFlat (e : ElementTable) (across down : ℕ) (number : ℤ) : Type 0 where
  pub columns : e.width ≡ 2 * across + 1
  pub rows : e.height ≡ 2 * down + 1
  pub each : (u : Pos) → u.x < e.width → u.y < e.height → number_at e u ≡ Some number

-- the dilation by each element that is flat with this reach and number
pub record AreFlatlyDilated {L : Type 0} (code : Encoding L) (s : Size) (across down : ℕ) (number : ℤ)
    (old new : List L) : Type 0 where
  pub each : (e : ElementTable) → IsFlat e across down number → ArePlainlyFiltered code Dilation s e old new

-- the value is a number at most n from zero
pub record IsNumberWithin (n : ℕ) (value : Option ℤ) : Type 0 where
  pub number : ℤ
  pub is_number : value ≡ Some number
  pub least : neg_ℤ (pos n) ≤ℤ number
  pub greatest : number ≤ℤ pos n

-- where a height stands, a top at most n from zero stands too
pub record AreTopped (n : ℕ) (heights tops : List (Option ℤ)) : Type 0 where
  pub whole : length tops ≡ length heights
  pub each : (k : ℕ) (z : ℤ) → value_at heights k ≡ Some z → IsNumberWithin n (value_at tops k)

-- the value, if there is one, plus a number
abbrev pub plus : ℤ → Option ℤ → Option ℤ
plus number (Some z) = Some (z +ℤ number)
plus number None = None

-- what a place becomes: its top plus a number where a height stands, and else `missing`
pub record IsSettled {L : Type 0} (code : Encoding L) (height top : Option ℤ) (number : ℤ) (new : L) : Type 0 where
  pub present : (z : ℤ) → height ≡ Some z → code.shown new ≡ plus number top
  pub absent : height ≡ None → new ≡ code.missing

-- each place is settled
pub record AreSettled {L : Type 0} (code : Encoding L) (heights old : List (Option ℤ)) (number : ℤ) (new : List L)
    : Type 0 where
  pub whole : length new ≡ length old
  pub each : (k : ℕ) → k < length old
      → IsSettled code (value_at heights k) (value_at old k) number (number_in code new k)

-- each value of a stretch is the larger of itself and of a height of another stretch, raised
pub record AreRaisedTo (heights : List (Option ℤ)) (from count : ℕ) (number : ℤ) (to : ℕ) (old new : List (Option ℤ))
    : Type 0 where
  pub whole : length new ≡ length old
  pub inside : (k : ℕ) → k < count
      → value_at new (to + k) ≡ larger (value_at old (to + k)) (plus number (value_at heights (from + k)))
  pub below : (k : ℕ) → k < to → value_at new k ≡ value_at old k
  pub above : (k : ℕ) → to + count ≤ k → value_at new k ≡ value_at old k

-- z is a raised height that comes from a chosen offset of the element
pub record IsRaisedBy (s : Size) (e : ElementTable) (f : Relief) (p : Pos) (Chosen : Pos → Type 0) (z : ℤ)
    : Type 0 where
  pub is_raised : IsRaised s e f p z
  pub chosen : Chosen is_raised.links.offset

-- the value is the larger of an old one and of the greatest raised height from one offset
pub record IsRaisedOnce (s : Size) (e : ElementTable) (f : Relief) (p offset : Pos) (old new : Option ℤ)
    : Type 0 where
  pub raised : Option ℤ
  pub greatest : IsGreatest (IsRaisedBy s e f p (λ u. u ≡ offset)) raised
  pub is : new ≡ larger old raised

-- each value of a row is raised once
pub record IsRowRaisedOnce (s : Size) (e : ElementTable) (f : Relief) (y : ℕ) (offset : Pos) (old new : List (Option ℤ))
    : Type 0 where
  pub whole : length new ≡ length old
  pub each : (x : ℕ) → x < s.points
      → IsRaisedOnce s e f (record { x = x; y = y }) offset (value_at old x) (value_at new x)

-- each value of a row that an offset of this column of the element leads to is raised by the height
-- that it leads from, and the others stay
pub record AreRaisedAcross (heights : List (Option ℤ)) (reach column : ℕ) (number : ℤ) (old new : List (Option ℤ))
    : Type 0 where
  pub whole : length new ≡ length old
  pub reached : (x from : ℕ) → x < length old → from < length heights → from + column ≡ x + reach
      → value_at new x ≡ larger (value_at old x) (plus number (value_at heights from))
  pub others : (x : ℕ) → ((from : ℕ) → from < length heights → from + column ≡ x + reach → ⊥)
      → value_at new x ≡ value_at old x

-- no number stands for a height
pub record AreBlank (s : Size) (tops : List (Option ℤ)) : Type 0 where
  pub whole : length tops ≡ cell_count s
  pub each : (k : ℕ) → value_at tops k ≡ None

-- no number of a row stands for a height
pub record IsBlankRow (s : Size) (row : List (Option ℤ)) : Type 0 where
  pub whole : length row ≡ s.points
  pub each : (x : ℕ) → value_at row x ≡ None

-- each value of a row is the greatest of the raised heights at its position
pub record IsRowRaised (s : Size) (e : ElementTable) (f : Relief) (y : ℕ) (row : List (Option ℤ)) : Type 0 where
  pub whole : length row ≡ s.points
  pub each : (x : ℕ) → x < s.points → IsGreatest (IsRaised s e f (record { x = x; y = y })) (value_at row x)

-- each value is the greatest of the raised heights at its position
pub record AreRaised (s : Size) (e : ElementTable) (f : Relief) (tops : List (Option ℤ)) : Type 0 where
  pub whole : length tops ≡ cell_count s
  pub each : (p : Pos) → InGrid s p → IsGreatest (IsRaised s e f p) (relief s tops p)
