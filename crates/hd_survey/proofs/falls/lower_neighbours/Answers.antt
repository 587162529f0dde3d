use Rattle.std.proofs.Common.{◌≡◌, Bool, true, length, rules, sym, subst, ◌∙◌, ap}
use Rattle.std.specs.Prelude.{AllPairs, Contains, ◌↔◌}
use Rattle.std.proofs.lemmas.List.Sorted.{answers_always}
use Rattle.hd_map.specs.declared.types.Rank.{Rank}
use Rattle.hd_map.specs.Rank.{below_by}
use Rattle.hd_map.specs.Region.{LowerNeighbour}
use Rattle.hd_map.specs.SideLaws.{below_by-order}
use Rattle.hd_survey.specs.declared.falls.Lower.{Lower}
use Rattle.hd_survey.specs.Falls.{ranks_of}
use Rattle.hd_survey.proofs.LowerRanks.{lower_order, refill_all, sorted_in_place}
use Rattle.hd_survey.proofs.falls.lower_neighbours.Goals as goal

pub returns-clause-each : goal.returns-clause-each
returns-clause-each g c =
    let m = g.G.Heights.map c.args.grid.now in
    let side = g.S.Side.NAME in
    let raw = c.gather_lower-lower.result.items in
    let ys = c.sort_unstable_by.new.self in
    let less : Lower → Lower → Bool = λ a b. below_by side a.rank b.rank in
    let sorted = c.sort_unstable_by.ensures.sorted less (lower_order (below_by side) (below_by-order side)) (answers_always _ _ _ (λ f a r h k. search rules)) in
    let both = sorted_in_place m side c.args.point raw c.deref_mut.result.now ys c.deref_mut.ensures.value c.sort_unstable_by.ensures.permutation sorted
    c.gather_lower-lower.ensures.each c.gather_lower-lower.ensures.rise in
    subst (λ xs. (q : Rank) → Contains (ranks_of xs) q ↔ LowerNeighbour m side c.args.point q) (sym (refill_all raw ys (c.sort_unstable_by.ensures.len ∙ ap length c.deref_mut.ensures.value))) both.0

pub returns-clause-in_order : goal.returns-clause-in_order
returns-clause-in_order g c =
    let m = g.G.Heights.map c.args.grid.now in
    let side = g.S.Side.NAME in
    let raw = c.gather_lower-lower.result.items in
    let ys = c.sort_unstable_by.new.self in
    let less : Lower → Lower → Bool = λ a b. below_by side a.rank b.rank in
    let sorted = c.sort_unstable_by.ensures.sorted less (lower_order (below_by side) (below_by-order side)) (answers_always _ _ _ (λ f a r h k. search rules)) in
    let both = sorted_in_place m side c.args.point raw c.deref_mut.result.now ys c.deref_mut.ensures.value c.sort_unstable_by.ensures.permutation sorted
    c.gather_lower-lower.ensures.each c.gather_lower-lower.ensures.rise in
    subst (λ xs. AllPairs (λ a b. below_by side a b ≡ true) (ranks_of xs)) (sym (refill_all raw ys (c.sort_unstable_by.ensures.len ∙ ap length c.deref_mut.ensures.value))) both.1
