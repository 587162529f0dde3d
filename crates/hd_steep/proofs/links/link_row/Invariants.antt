use Rattle.std.proofs.Common.{◌<◌, ◌+◌, ℕ, slice_index}
use Rattle.hd_map.specs.Encoding.{number_in}
use Rattle.hd_steep.specs.KeyRows.{ranks_of}
use Rattle.hd_steep.specs.Linked.{IsLinkTo, lowest_at}
use Rattle.hd_steep.proofs.links.link_row.Given as goal

-- the links so far
abbrev pub invariant-loop-x : goal.invariant-loop-x
invariant-loop-x g l = let code = g.L.Lane.code in let side = g.S.Side.NAME in
    (k : ℕ) → k < l.x → IsLinkTo code side (number_in code l.rows.level.keys.items (k + 1))
    (lowest_at l.adjacency side (ranks_of code side l.rows.above) (ranks_of code side l.rows.level) (ranks_of code side l.rows.below) k) (slice_index l.links k)
