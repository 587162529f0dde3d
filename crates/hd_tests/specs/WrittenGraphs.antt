-- Tests of what lists of a graph have to be, for lists that are written down.
use Rattle.std.specs.Prelude.{Bool, true, not, ◌&&◌, ◌||◌, false, ℕ, List, [], ◌∷◌, length, nat_eq, nat_lt}
use Rattle.std.specs.Ordering.{int_eq}
use Rattle.hd_map.specs.declared.types.Pass.{Pass}
use Rattle.hd_map.specs.declared.types.Rank.{Rank}
use Rattle.hd_graph.specs.declared.graph.Low.{Low}
use Rattle.hd_map.specs.declared.types.Link.{Link}
use Rattle.hd_graph.specs.declared.merges.Merge.{Merge}

abbrev pub same_rank : Rank → Rank → Bool
same_rank a b = int_eq a.height b.height && nat_eq a.index b.index

-- one of the lows has this rank
abbrev pub has_low : List Low → Rank → Bool
has_low [] r = false
has_low (x ∷ xs) r = same_rank x.rank r || has_low xs r

-- none of the lows has this index
abbrev pub lacks_index : List Low → Low → Bool
lacks_index [] x = true
lacks_index (y ∷ ys) x = not (nat_eq x.rank.index y.rank.index) && lacks_index ys x

abbrev pub are_different : List Low → Bool
are_different [] = true
are_different (x ∷ xs) = lacks_index xs x && are_different xs

abbrev pub is_pass : (Rank → Rank → Bool) → List Low → Pass → Bool
is_pass below lows p = has_low lows p.a && has_low lows p.b && not (same_rank p.a p.b) && not (below p.at p.a) && not (below p.at p.b)

abbrev pub are_passes : (Rank → Rank → Bool) → List Low → List Pass → Bool
are_passes below lows [] = true
are_passes below lows (p ∷ ps) = is_pass below lows p && are_passes below lows ps

-- the lows are few and have different indexes, and each pass joins two of them
abbrev pub is_graph : (Rank → Rank → Bool) → List Low → List Pass → Bool
is_graph below lows passes = nat_lt (length lows) 2147483648 && are_different lows && are_passes below lows passes

-- the merges are between lows whose numbers are below this one
abbrev pub are_within : ℕ → List Merge → Bool
are_within count [] = true
are_within count (x ∷ xs) = (nat_lt x.low count && nat_lt x.into count) && are_within count xs

-- the links are between lows whose numbers are below this one
abbrev pub have_ends : ℕ → List Link → Bool
have_ends count [] = true
have_ends count (x ∷ xs) = (nat_lt x.a count && nat_lt x.b count) && have_ends count xs

-- the lows are few and have different indexes, and each link joins two of them
abbrev pub are_linked : List Low → List Link → Bool
are_linked lows links = (nat_lt (length lows) 2147483648 && are_different lows) && have_ends (length lows) links
