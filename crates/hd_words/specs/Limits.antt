-- The limits of the numbers among the words.
use Rattle.std.specs.Prelude.{ℕ}

-- the least side of a tile, in points
abbrev pub least_tile : ℕ
least_tile = 8

-- the greatest side of a tile, in points
abbrev pub greatest_tile : ℕ
greatest_tile = 256

-- the side of a tile, in points, where none is given
abbrev pub usual_tile : ℕ
usual_tile = 64

-- the most edits of a demo
abbrev pub most_edits : ℕ
most_edits = 100000
