-- Heights of a map with a number added in a rectangle.
use Rattle.std.specs.Prelude.{◌≡◌, ◌≤◌, ℤ, List, length}
use Rattle.hd_map.specs.declared.types.Pos.{Pos}
use Rattle.hd_map.specs.declared.types.Size.{Size}
use Rattle.hd_map.specs.Map.{Map, InGrid, place_of}
use Rattle.hd_map.specs.Encoding.{Encoding, most_filtered, narrow, number_in, values_of}
use Rattle.hd_morph.specs.declared.errors.MorphError.{MorphError}
use Rattle.hd_morph.specs.declared.errors.MorphError.TheVariants.{Memory, HeightRange}
use Rattle.hd_morph.specs.Answer.{IsFirstOutside}
use Rattle.hd_morph.specs.Filter.{Relief, relief_of}
use Rattle.hd_morph.specs.Listed.{AreHeightsOf, AreOfType}
use Rattle.hd_morph.specs.Plain.{ArePlain, relief, value_at}
use Rattle.hd_morph.specs.Raised.{IsSettled, plus}

-- a position lies in the rectangle of two corners
pub record IsWithin (from to p : Pos) : Type 0 where
  pub left : from.x ≤ p.x
  pub right : p.x ≤ to.x
  pub top : from.y ≤ p.y
  pub bottom : p.y ≤ to.y

-- g has each height of f in a rectangle, this much greater, and all others as they are
pub record AreRaisedWithin (s : Size) (from to : Pos) (number : ℤ) (f g : Relief) : Type 0 where
  pub within : (p : Pos) → InGrid s p → IsWithin from to p → g p ≡ plus number (f p)
  pub others : (p : Pos) → InGrid s p → (IsWithin from to p → ⊥) → g p ≡ f p

-- the same of numbers that stand for heights
pub record AreNumbersRaised {L : Type 0} (code : Encoding L) (s : Size) (from to : Pos) (number : ℤ) (old new : List L) : Type 0 where
  pub whole : length new ≡ length old
  pub within : (p : Pos) → InGrid s p → IsWithin from to p
      → IsSettled code (value_at (values_of code old) (place_of s p)) (value_at (values_of code old) (place_of s p)) number (number_in code new (place_of s p))
  pub others : (p : Pos) → InGrid s p → (IsWithin from to p → ⊥) → number_in code new (place_of s p) ≡ number_in code old (place_of s p)

-- plain numbers stand for the heights of a map, and others for those of its type with a number added in a rectangle
pub record AreRaisedLists (m : Map) (from to : Pos) (number : ℤ) (olds news : List ℤ) : Type 0 where
  pub held : AreHeightsOf narrow m olds
  pub plain : ArePlain narrow m.size (most_filtered narrow) news
  pub raised : AreRaisedWithin m.size from to number (relief_of m) (relief m.size (values_of narrow news))
  pub of_type : AreOfType m (relief m.size (values_of narrow news))

-- p is the first position at which the raised heights are out of range
pub record IsRaisedOutside (m : Map) (from to : Pos) (number : ℤ) (p : Pos) : Type 0 where
  pub heights : Relief
  pub raised : AreRaisedWithin m.size from to number (relief_of m) heights
  pub first_outside : IsFirstOutside m heights p

-- memory may be refused; a height is out of range only where it is so first
abbrev pub IsRaiseRefusal : Map → Pos → Pos → ℤ → MorphError → Type 0
IsRaiseRefusal m from to number Memory = Unit {0}
IsRaiseRefusal m from to number (HeightRange p) = IsRaisedOutside m from to number p
