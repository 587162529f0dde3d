-- The four filters of morphology on a surface (the words are those of ISO 16610-40), in whole numbers
-- without a range. A point that is not present has no height, and is not read as one.
use Rattle.std.specs.Prelude.{◌≡◌, ◌<◌, ◌+◌, ◌+ℤ◌, ◌-ℤ◌, ℤ, Option, Some, None}
use Rattle.hd_map.specs.declared.types.Pos.{Pos}
use Rattle.hd_map.specs.declared.types.Size.{Size}
use Rattle.hd_map.specs.Map.{Map, InGrid, cell_at, mask_at, shown_height}
use Rattle.hd_morph.specs.declared.filter.Filter.{Filter}
use Rattle.hd_morph.specs.declared.filter.Filter.TheVariants.{Dilation, Erosion, Opening, Closing}
use Rattle.hd_morph.specs.Element.{ElementTable, number_at, centre}
use Rattle.hd_morph.specs.Greatest.{IsGreatest, IsLeast}

-- a whole-number height at each present point, and none elsewhere
abbrev pub Relief : Type 0
Relief = Pos → Option ℤ

-- the heights of a map
abbrev pub relief_of : Map → Relief
relief_of m p = shown_height (cell_at m p) (mask_at m p)

-- q lies from p as u lies from the centre of the element
pub record IsOffset (e : ElementTable) (u p q : Pos) : Type 0 where
  pub column : u.x < e.width
  pub row : u.y < e.height
  pub across : p.x + u.x ≡ q.x + (centre e).x
  pub down : p.y + u.y ≡ q.y + (centre e).y

-- an offset at which the element has this number leads from a position of the grid to another
pub record Links (s : Size) (e : ElementTable) (p q : Pos) (number : ℤ) : Type 0 where
  pub offset : Pos
  pub from : InGrid s p
  pub to : InGrid s q
  pub is_offset : IsOffset e offset p q
  pub is_number : number_at e offset ≡ Some number

-- z is f(p - u) + b(u) for an offset u at which the element has the number b(u)
pub record IsRaised (s : Size) (e : ElementTable) (f : Relief) (p : Pos) (z : ℤ) : Type 0 where
  pub from : Pos
  pub height : ℤ
  pub number : ℤ
  pub links : Links s e from p number
  pub is_height : f from ≡ Some height
  pub sum : z ≡ height +ℤ number

-- z is f(p + u) - b(u) for an offset u at which the element has the number b(u)
pub record IsLowered (s : Size) (e : ElementTable) (f : Relief) (p : Pos) (z : ℤ) : Type 0 where
  pub to : Pos
  pub height : ℤ
  pub number : ℤ
  pub links : Links s e p to number
  pub is_height : f to ≡ Some height
  pub difference : z ≡ height -ℤ number

-- g has at each point of f a value that fits the position, and nothing elsewhere
pub record IsPointwise (s : Size) (Fits : Pos → Option ℤ → Type 0) (f g : Relief) : Type 0 where
  pub present : (p : Pos) → InGrid s p → (z : ℤ) → f p ≡ Some z → Fits p (g p)
  pub absent : (p : Pos) → InGrid s p → f p ≡ None → g p ≡ None

-- at each present point the greatest of the raised heights
abbrev pub IsDilation : Size → ElementTable → Relief → Relief → Type 0
IsDilation s e f g = IsPointwise s (λ p. IsGreatest (IsRaised s e f p)) f g

-- at each present point the least of the lowered heights
abbrev pub IsErosion : Size → ElementTable → Relief → Relief → Type 0
IsErosion s e f g = IsPointwise s (λ p. IsLeast (IsLowered s e f p)) f g

-- an erosion, and then a dilation
pub record IsOpening (s : Size) (e : ElementTable) (f g : Relief) : Type 0 where
  pub between : Relief
  pub first : IsErosion s e f between
  pub second : IsDilation s e between g

-- a dilation, and then an erosion
pub record IsClosing (s : Size) (e : ElementTable) (f g : Relief) : Type 0 where
  pub between : Relief
  pub first : IsDilation s e f between
  pub second : IsErosion s e between g

-- g is what a filter makes of f
abbrev pub IsFiltered : Filter → Size → ElementTable → Relief → Relief → Type 0
IsFiltered Dilation s e f g = IsDilation s e f g
IsFiltered Erosion s e f g = IsErosion s e f g
IsFiltered Opening s e f g = IsOpening s e f g
IsFiltered Closing s e f g = IsClosing s e f g
