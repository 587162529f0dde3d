-- The table of an element, and why a table makes none.
use Rattle.std.specs.Prelude.{◌≡◌, ◌⊎◌, ◌<◌, ◌≤◌, ◌+◌, ◌*◌, ◌/◌, ◌%◌, ◌≤ℤ◌, ℕ, ℤ, pos, neg_ℤ, List, length, slice_index_or, All, Option, Some, None, IsSome, Result, MatchResult}
use Rattle.hd_map.specs.declared.types.Pos.{Pos}
use Rattle.hd_morph.specs.declared.errors.ElementError.{ElementError}
use Rattle.hd_morph.specs.declared.errors.ElementError.TheVariants.{EvenSize, TooWide, NoOrigin}

-- an element of the filters: a name, and a table of numbers or none, row by row
pub record ElementTable : Type 0 where
  pub name : List ℕ
  pub width : ℕ
  pub height : ℕ
  pub table : List (Option ℤ)

-- the number at a position of the table, if there is one
abbrev pub number_at : ElementTable → Pos → Option ℤ
number_at e u = slice_index_or e.table (u.y * e.width + u.x) None

-- the centre of the table
abbrev pub centre : ElementTable → Pos
centre e = record { x = e.width / 2; y = e.height / 2 }

-- the most that a number of an element is from zero
abbrev pub most_entry : ℕ
most_entry = 4294967295

-- an entry of a table is none, or a number from -4,294,967,295 to 4,294,967,295
abbrev pub IsEntry : Option ℤ → Type 0
IsEntry None = Unit {0}
IsEntry (Some z) = (neg_ℤ (pos most_entry) ≤ℤ z) × (z ≤ℤ pos most_entry)

-- a size is even
abbrev pub HasEvenSize : ElementTable → Type 0
HasEvenSize e = (e.width % 2 ≡ 0) ⊎ (e.height % 2 ≡ 0)

-- a size is over 15
abbrev pub IsOverWide : ElementTable → Type 0
IsOverWide e = (15 < e.width) ⊎ (15 < e.height)

-- both sizes are odd and at most 15, the entries are as many as the sizes say, and the centre, which
-- is the origin, has a number
pub record IsElement (e : ElementTable) : Type 0 where
  pub odd_width : e.width % 2 ≡ 1
  pub odd_height : e.height % 2 ≡ 1
  pub width : e.width ≤ 15
  pub height : e.height ≤ 15
  pub whole : length e.table ≡ e.width * e.height
  pub entries : All IsEntry e.table
  pub origin : IsSome (number_at e (centre e))

-- why a table makes no element: a size is even; else one is over 15; else the centre has no number
abbrev pub IsElementRefusal : ElementTable → ElementError → Type 0
IsElementRefusal e EvenSize = HasEvenSize e
IsElementRefusal e TooWide = (HasEvenSize e → ⊥) × IsOverWide e
IsElementRefusal e NoOrigin = (HasEvenSize e → ⊥) × (IsOverWide e → ⊥) × (number_at e (centre e) ≡ None)

-- the table makes an element, or is refused for its first cause
abbrev pub MakesElement : ElementTable → Result ElementTable ElementError → Type 0
MakesElement table result = MatchResult result (λ e. (e ≡ table) × IsElement e) (IsElementRefusal table)
