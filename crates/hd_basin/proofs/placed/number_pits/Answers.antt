use Rattle.std.proofs.Common.{◌≡◌, ◌∙◌, ap, refl, rules, sym, subst, arith, List, length, map}
use Rattle.std.specs.Prelude.{AllPairs, Contains, ◌≢◌}
use Rattle.std.specs.List.Sorted.{IsSortedBy}
use Rattle.std.proofs.lemmas.List.Sorted.{answers_always}
use Rattle.hd_map.specs.declared.types.Rank.{Rank}
use Rattle.hd_basin.specs.declared.placed.PlacedPit.{PlacedPit}
use Rattle.hd_basin.specs.Placed.{AreNumbered, AreNumberedPits, comes_first, pit_of}
use Rattle.hd_basin.specs.Roots.{all_nodes}
use Rattle.hd_basin.proofs.AreNumbered.{pits-few, pits-numbered, places-apart, places-inside, position-order}
use Rattle.hd_basin.proofs.placed.number_pits.Goals as goal

pub number_in_order-requires-clause-inside : goal.number_in_order-requires-clause-inside
number_in_order-requires-clause-inside c = λ p at.
    places-inside (all_nodes c.args.stock.now) c.in_ok-firsts.field-0.pits.items c.sort_unstable_by.new.self.items c.in_ok-firsts.field-0.numbers.items c.in_ok-firsts.ensures.nodes
    c.sort_unstable_by.ensures.permutation
    c.requires.apart c.requires.few p (subst (λ (ps : List PlacedPit). Contains ps p) c.deref.ensures.value at)

pub number_in_order-requires-clause-few : goal.number_in_order-requires-clause-few
number_in_order-requires-clause-few c =
    let few = pits-few (all_nodes c.args.stock.now) c.in_ok-firsts.field-0.pits.items c.sort_unstable_by.new.self.items c.in_ok-firsts.field-0.numbers.items
    c.in_ok-firsts.ensures.nodes c.sort_unstable_by.ensures.permutation
    c.requires.apart c.requires.few in
    let here : length c.deref.result.now ≡ length c.sort_unstable_by.new.self.items = ap length c.deref.ensures.value in
    omega (arith, few, here)

pub number_in_order-requires-clause-apart : goal.number_in_order-requires-clause-apart
number_in_order-requires-clause-apart c =
    subst (AllPairs (λ (p : PlacedPit) (q : PlacedPit). p.place ≢ q.place)) (sym c.deref.ensures.value)
    (places-apart (all_nodes c.args.stock.now) c.in_ok-firsts.field-0.pits.items c.sort_unstable_by.new.self.items c.in_ok-firsts.field-0.numbers.items c.in_ok-firsts.ensures.nodes
    c.sort_unstable_by.ensures.permutation
    c.requires.apart c.requires.few)

pub returns : goal.returns
returns c =
    let placed : List PlacedPit = c.sort_unstable_by.new.self.items in
    let numbered : AreNumbered placed c.in_ok-firsts.field-0.numbers.items c.number_in_order.new.numbers.items =
    subst (λ (ps : List PlacedPit). AreNumbered ps c.in_ok-firsts.field-0.numbers.items c.number_in_order.new.numbers.items) c.deref.ensures.value c.in_ok-pits.ensures.numbers in
    let sorted : IsSortedBy comes_first placed = c.sort_unstable_by.ensures.sorted comes_first position-order (answers_always _ _ _ (λ f a r h k. search rules)) in
    let pits : c.in_ok-pits.pits ≡ map pit_of placed = c.in_ok-pits.ensures.pits ∙ ap (map pit_of) c.deref.ensures.value in
    subst (λ (rs : List Rank). AreNumberedPits c.args.stock.now (record { pits = rs; firsts = c.in_ok-firsts.field-0.firsts.items; numbers = c.number_in_order.new.numbers.items })) (sym pits)
    (pits-numbered (all_nodes c.args.stock.now) c.in_ok-firsts.field-0.pits.items placed c.in_ok-firsts.field-0.numbers.items c.in_ok-firsts.ensures.nodes c.sort_unstable_by.ensures.permutation
    c.requires.apart c.requires.few c.args.stock.now c.in_ok-firsts.field-0.firsts.items refl c.in_ok-firsts.ensures.firsts sorted c.number_in_order.new.numbers.items numbered)
