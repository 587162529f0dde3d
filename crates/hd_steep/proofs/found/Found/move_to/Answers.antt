use Rattle.std.proofs.Common.{rules, ◌∙◌, ◌++◌, List, ap}
use Rattle.std.proofs.lemmas.List.Sorted.{IsNonDecreasingBy-from_sort_by_key}
use Rattle.hd_steep.specs.declared.border.Border.{Border}
use Rattle.hd_steep.proofs.found.Found.move_to.Goals as goal

pub returns-clause-moved : goal.returns-clause-moved
returns-clause-moved c = (
  c.sort_unstable_by_key.new.self.items,
  c.sort_unstable_by_key.ensures.permutation,
  IsNonDecreasingBy-from_sort_by_key (λ (l : Border). l.b) _ c.sort_unstable_by_key.ensures.sorted (λ a r q k. search rules),
  c.in_ok-extend_from_slice.ensures.items ∙ ap (λ (ls : List Border). c.args.list.now.items ++ ls) c.deref.ensures.value,
)
