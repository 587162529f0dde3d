-- Heights turned upside down, and elements turned about their centres.
use Rattle.std.specs.Prelude.{◌≡◌, ℕ, List, [], length, reverse}
use Rattle.hd_map.specs.Encoding.{Encoding, number_in}
use Rattle.hd_map.specs.Lanes.{IsNegated}
use Rattle.hd_morph.specs.Element.{ElementTable}

-- each number is negated
pub record AreNegated {L : Type 0} (code : Encoding L) (old new : List L) : Type 0 where
  pub whole : length new ≡ length old
  pub each : (k : ℕ) → IsNegated code (number_in code old k) (number_in code new k)

-- the element with each number on the other side of its centre, and without a name
abbrev pub turned_table : ElementTable → ElementTable
turned_table e = record { name = []; width = e.width; height = e.height; table = reverse e.table }
