use Rattle.std.proofs.Common.{List, ap, subst, arith}
use Rattle.std.proofs.lemmas.List.{take_all}
use Rattle.slab.specs.Slab.{Slab}
use Rattle.hd_basin.specs.declared.node.Node.{Node}
use Rattle.hd_basin.specs.Stock.{ArePut}
use Rattle.hd_basin.proofs.Stocked.{put-none, put-next}
use Rattle.hd_basin.proofs.stock.put_in.Goals as goal

pub nodes-init : goal.nodes-init
nodes-init c =
    let room = c.in_ok-reserve.ensures.room in
    record {
      put = put-none c.args.slab.now c.reserve.new.self c.in_ok-keys.keys.items (ap (λ (s : Slab Node). s.slots) c.in_ok-reserve.ensures.rest_kept) c.in_ok-keys.ensures.items;
      room = omega (arith, room);
      list = c.in_ok-keys.ensures.capacity;
      count = c.in_ok-keys.ensures.len;
    }

pub insert_reserved-key-requires : goal.insert_reserved-key-requires
insert_reserved-key-requires c = (let room = c.nodes.invariant.room in let more = c.nodes-test.true in omega (arith, room, more))

pub push_reserved-requires : goal.push_reserved-requires
push_reserved-requires c =
    let i = c.nodes.invariant in
    let list = i.list in
    let count = i.count in
    let more = c.nodes-test.true in
    omega (arith, list, count, more)

pub nodes-preserved : goal.nodes-preserved
nodes-preserved c =
    let i = c.nodes.invariant in
    let room = i.room in
    let list = i.list in
    let count = i.count in
    let len = c.insert_reserved-key.ensures.len in
    let capacity = c.insert_reserved-key.ensures.capacity in
    let long = c.push_reserved.ensures.len in
    let wide = c.push_reserved.ensures.capacity in
    record {
      put = put-next c.args.slab.now c.nodes.slab c.insert_reserved-key.new.self c.nodes.keys.items c.push_reserved.new.self.items c.args.nodes.now c.nodes.node-index _
          c.insert_reserved-key.result c.nodes-test.true i.put c.insert_reserved-key.ensures.was_vacant c.insert_reserved-key.ensures.updates c.push_reserved.ensures.items;
      room = omega (arith, room, len, capacity);
      list = omega (arith, list, wide);
      count = omega (arith, count, long);
    }

pub returns-clause-ok : goal.returns-clause-ok
returns-clause-ok c = subst (λ (ns : List Node). ArePut c.args.slab.now c.nodes.slab c.nodes.keys.items ns) (take_all c.nodes.node-index c.args.nodes.now c.nodes-test.false) c.nodes.invariant.put
