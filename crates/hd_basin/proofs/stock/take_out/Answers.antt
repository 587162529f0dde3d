use Rattle.std.proofs.Common.{List, ℕ, get_or, take, sym, subst}
use Rattle.std.proofs.lemmas.List.{take_all, take_more}
use Rattle.hd_basin.specs.Stock.{AreTakenOut}
use Rattle.hd_basin.proofs.Stocked.{out-none, out-more}
use Rattle.hd_basin.proofs.stock.take_out.Goals as goal

pub keys-init : goal.keys-init
keys-init c = out-none c.args.slab.now

pub keys-preserved : goal.keys-preserved
keys-preserved c =
    let keys : List ℕ = c.args.keys.now in
    let here : ℕ = get_or keys c.keys.key-index 0 in
    subst (λ (ks : List ℕ). AreTakenOut c.args.slab.now c.try_remove-node.new.self ks) (sym (take_more keys c.keys.key-index 0 c.keys-test.true))
    (out-more c.args.slab.now c.keys.slab c.try_remove-node.new.self (take c.keys.key-index keys) here c.keys.invariant c.try_remove-node.ensures.updates)

pub returns : goal.returns
returns c = subst (λ (ks : List ℕ). AreTakenOut c.args.slab.now c.keys.slab ks) (take_all c.keys.key-index c.args.keys.now c.keys-test.false) c.keys.invariant
