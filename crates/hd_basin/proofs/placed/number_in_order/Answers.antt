use Rattle.std.proofs.Common.{[], arith, refl}
use Rattle.std.specs.Prelude.{pos}
use Rattle.std.proofs.lemmas.List.Elements.{Contains-get_or}
use Rattle.hd_basin.specs.declared.placed.PlacedPit.{PlacedPit}
use Rattle.hd_basin.specs.Placed.{pit_of}
use Rattle.hd_basin.proofs.AreNumbered.{numbered-more}
use Rattle.hd_basin.proofs.FlatLists.{map-more}
use Rattle.hd_basin.proofs.placed.number_in_order.Goals as goal

pub index_mut-requires : goal.index_mut-requires
index_mut-requires c =
    let none : PlacedPit = record { pit = record { height = pos 0; index = 0 }; place = 0 } in
    let inside = c.requires.inside _ (Contains-get_or c.args.placed.now c.numbers.number none c.numbers-test.true) in
    let whole = c.numbers.invariant.1.whole in
    let long = c.numbers.numbers.ok.0 in
    omega (arith, inside, whole, long)

pub numbers-preserved : goal.numbers-preserved
numbers-preserved c = (
  map-more pit_of [] c.numbers.pits c.push.new.self c.args.placed.now c.numbers.number _ _ c.numbers-test.true refl c.numbers.invariant.0 c.in_ok-push.ensures.ok,
  numbered-more c.args.placed.now c.numbers.number _ c.args.numbers.now.items c.numbers.numbers.items c.numbers-test.true c.requires.apart
      (c.requires.inside _ (Contains-get_or c.args.placed.now c.numbers.number _ c.numbers-test.true)) c.numbers.invariant.1,
)
