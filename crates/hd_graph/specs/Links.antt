-- Links: passes by the numbers of the lows that they join.
use Rattle.std.specs.Prelude.{◌≡◌, ◌<◌, ◌⊎◌, ℕ, List, Some, false, pos, get_or, slice_get}
use Rattle.hd_map.specs.declared.types.Pass.{Pass}
use Rattle.hd_map.specs.declared.types.Rank.{Rank}
use Rattle.hd_graph.specs.declared.graph.Low.{Low}
use Rattle.hd_map.specs.declared.types.Link.{Link}

-- the number of each of the first n lows stands at its index
abbrev pub IsNumbering : List Low → ℕ → List ℕ → Type 0
IsNumbering lows n numbers = (k : ℕ) (x : Low) → k < n → slice_get lows k ≡ Some x
    → slice_get numbers x.rank.index ≡ Some k

-- the rank of the low of this number
abbrev pub rank_at : List Low → ℕ → Rank
rank_at lows k = (get_or lows k (record { rank = record { height = pos 0; index = 0 }; pit = false })).rank

-- the pass of a link between the lows
abbrev pub pass_of : List Low → Link → Pass
pass_of lows l = record { a = rank_at lows l.a; b = rank_at lows l.b; at = l.at }

-- both ends are among the first n lows
abbrev pub HasEnds : ℕ → Link → Type 0
HasEnds n l = (l.a < n) × (l.b < n)

-- the link joins a and b, whichever of them it names first
abbrev pub IsBetween : Link → ℕ → ℕ → Type 0
IsBetween l a b = ((l.a ≡ a) × (l.b ≡ b)) ⊎ ((l.a ≡ b) × (l.b ≡ a))
