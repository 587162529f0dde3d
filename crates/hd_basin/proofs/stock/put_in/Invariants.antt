use Rattle.std.proofs.Common.{◌≡◌, ◌≤◌, ◌+◌, length, take, vec_len, vec_capacity}
use Rattle.slab.specs.Slab.{slab_len}
use Rattle.hd_basin.specs.Stock.{ArePut}
use Rattle.hd_basin.proofs.stock.put_in.Given as goal

abbrev pub invariant-nodes : goal.invariant-nodes
invariant-nodes l = record {
  put : ArePut l.fn.slab l.slab l.keys.items (take l.node-index l.nodes);
  room : slab_len l.slab + length l.nodes ≤ l.slab.capacity + l.node-index;
  list : length l.nodes ≤ vec_capacity l.keys;
  count : vec_len l.keys ≡ l.node-index;
}
