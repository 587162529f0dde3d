-- The lowest lows of the classes that saddles join.
use Rattle.std.specs.Prelude.{◌≡◌, ◌↔◌, ◌<◌, Bool, true, if◌then◌else◌, List, [], ◌∷◌, length, map, Contains, AllPairs}
use Rattle.hd_map.specs.declared.types.Rank.{Rank}
use Rattle.hd_map.specs.ChangeTree.{Joining}
use Rattle.hd_graph.specs.declared.graph.Low.{Low}
use Rattle.hd_graph.specs.declared.merges.Merge.{Merge}
use Rattle.hd_graph.specs.declared.parts.Part.{Part}
use Rattle.hd_graph.specs.declared.parts.Rise.{Rise}
use Rattle.hd_graph.specs.Links.{rank_at}

-- the parts on the two sides of a rise
abbrev pub left_of : Rise → Part
left_of x = record { saddle = x.saddle; low = x.left }

abbrev pub right_of : Rise → Part
right_of x = record { saddle = x.saddle; low = x.right }

-- the parts on the two sides of all rises
abbrev pub rise_parts : List Rise → List Part
rise_parts [] = []
rise_parts (x ∷ xs) = left_of x ∷ right_of x ∷ rise_parts xs

-- a merge as a rise between the classes of its two lows
abbrev pub rise_of : List Low → Merge → Rise
rise_of lows x = record { saddle = x.at; left = rank_at lows x.into; right = rank_at lows x.low }

-- the merges as rises
abbrev pub rises_of : List Low → List Merge → List Rise
rises_of lows merges = map (rise_of lows) merges

-- a merge is of two of the lows, and runs into the lower one
abbrev pub AreTwoLows : (Rank → Rank → Bool) → List Low → Merge → Type 0
AreTwoLows below lows x = (x.low < length lows) × (x.into < length lows) × (below (rank_at lows x.into) (rank_at lows x.low) ≡ true)

-- whether a rise is below another
abbrev pub comes_before : (Rank → Rank → Bool) → Rise → Rise → Bool
comes_before below a b = below a.saddle b.saddle

-- the lows with one more, in order and each once
abbrev pub with_low : (Rank → Rank → Bool) → Rank → List Rank → List Rank
with_low below r [] = r ∷ []
with_low below r (x ∷ xs) = if below x r then (x ∷ with_low below r xs) else (if below r x then (r ∷ x ∷ xs) else (x ∷ xs))

-- the join of one part
abbrev pub join_of : Part → Joining
join_of e = record { saddle = e.saddle; parts = e.low ∷ [] }

-- the join with one part more
abbrev pub grown : (Rank → Rank → Bool) → Joining → Part → Joining
grown below x e = record { saddle = x.saddle; parts = with_low below e.low x.parts }

-- the part goes to the last join, where that is not below its saddle, and else becomes a join of its own
abbrev pub with_part : (Rank → Rank → Bool) → Part → List Joining → List Joining
with_part below e [] = join_of e ∷ []
with_part below e (x ∷ []) = if below x.saddle e.saddle then (x ∷ join_of e ∷ []) else (grown below x e ∷ [])
with_part below e (x ∷ y ∷ ys) = x ∷ with_part below e (y ∷ ys)

-- whether a part at this saddle becomes a join of its own
abbrev pub opens_join : (Rank → Rank → Bool) → Rank → List Joining → Bool
opens_join below saddle [] = true
opens_join below saddle (x ∷ []) = below x.saddle saddle
opens_join below saddle (x ∷ y ∷ ys) = opens_join below saddle (y ∷ ys)

-- the part is in one of the joins
abbrev pub IsListed : List Joining → Part → Type 0
IsListed joins e = (x : Joining) × Contains joins x × (x.saddle ≡ e.saddle) × Contains x.parts e.low

-- the joins have exactly these parts, in order
pub record AreGrouped (below : Rank → Rank → Bool) (es : List Part) (joins : List Joining) : Type 0 where
  pub listed : (e : Part) → Contains es e ↔ IsListed joins e
  pub filled : (x : Joining) → Contains joins x → (r : Rank) × Contains x.parts r
  pub in_order : AllPairs (λ a b. below a.saddle b.saddle ≡ true) joins
  pub parts_in_order : (x : Joining) → Contains joins x → AllPairs (λ a b. below a b ≡ true) x.parts
