use Rattle.std.proofs.Common.{◌≡◌, reverse, ap, ◌∙◌}
use Rattle.hd_morph.specs.Turned.{turned_table}
use Rattle.hd_morph.proofs.Turned.{IsElement-turned, IsElement-renamed}
use Rattle.hd_morph.proofs.element.turned.Goals as goal

pub invariant_of-result : goal.invariant_of-result
invariant_of-result c =
    let copy : c.extend_from_slice.new.self.items ≡ c.element.inside.table = rw (c.in_ok-extend_from_slice.ensures.items, c.new-table.ensures.items) c.as_slice.ensures in
    let table : c.from_vec.result ≡ reverse c.element.inside.table = c.from_vec.ensures ∙ c.reverse.ensures.items ∙ ap reverse copy in
    IsElement-renamed _ c.new.result c.from_vec.result table (IsElement-turned _ c.element.invariant)

pub returns-clause-turned : goal.returns-clause-turned
returns-clause-turned c =
    let copy : c.extend_from_slice.new.self.items ≡ c.element.inside.table = rw (c.in_ok-extend_from_slice.ensures.items, c.new-table.ensures.items) c.as_slice.ensures in
    let table : c.from_vec.result ≡ reverse c.element.inside.table = c.from_vec.ensures ∙ c.reverse.ensures.items ∙ ap reverse copy in
    rw (c.new.ensures, table) (ap turned_table c.element.view_is)
