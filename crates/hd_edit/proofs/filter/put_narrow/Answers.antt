use Rattle.std.proofs.Common.{◌≡◌, ℤ, List, length, subst, sym, arith}
use Rattle.hd_map.specs.Encoding.{most_filtered, narrow, values_of}
use Rattle.hd_map.specs.Map.{AreCellsOf}
use Rattle.hd_morph.specs.Answer.{with_cells}
use Rattle.hd_morph.specs.NewHeights.{cells_after}
use Rattle.hd_morph.proofs.PlainNumbers.{ArePlain-more}
use Rattle.hd_edit.specs.Exchange.{AreExchanged, different}
use Rattle.hd_edit.proofs.Entries.{LeavesOthers-back, AreHeightsFor-exchange, with_cells-stay}
use Rattle.hd_edit.proofs.filter.put_narrow.Goals as goal

pub way_for-requires-clause-olds : goal.way_for-requires-clause-olds
way_for-requires-clause-olds g c =
    let m = g.G.Heights.map c.args.grid.now in
    rw c.deref.ensures.value (ArePlain-more narrow m.size narrow.most_height (most_filtered narrow) c.args.lists.before.items (omega arith) c.requires.lists.held.plain).plain

pub set_profiles-requires-clause-of_type : goal.set_profiles-requires-clause-of_type
set_profiles-requires-clause-of_type g c =
    let m = g.G.Heights.map c.args.grid.now in
    subst (λ (ns : List ℤ). AreCellsOf m.data_type (cells_after m (values_of narrow ns))) (sym c.deref-in-Exchange.ensures.value) c.requires.lists.of_type

pub put_and_note-requires-clause-of_type : goal.put_and_note-requires-clause-of_type
put_and_note-requires-clause-of_type g c =
    let m = g.G.Heights.map c.args.grid.now in
    subst (λ (ns : List ℤ). AreCellsOf m.data_type (cells_after m (values_of narrow ns))) (sym c.deref-in-Note.ensures.value) c.requires.lists.of_type

pub returns-in_ok-nothing-in-Leave-clause-map : goal.returns-in_ok-nothing-in-Leave-clause-map
returns-in_ok-nothing-in-Leave-clause-map g c =
    let m = g.G.Heights.map c.args.grid.now in
    let olds = values_of narrow c.args.lists.before.items in
    let news = values_of narrow c.args.lists.after.items in
    let none : different olds news (length c.args.lists.after.items) ≡ 0 = rw (c.deref.ensures.value, c.deref-2.ensures.value) at c.in-Leave.ensures in
    let held = c.requires.lists.held in
    sym (with_cells-stay m (g.met.G.Heights.whole c.args.grid.now) olds held.each news (rw (← c.requires.lists.plain.whole) none))

pub returns-in-Exchange-clause-before : goal.returns-in-Exchange-clause-before
returns-in-Exchange-clause-before g c =
    let m = g.G.Heights.map c.args.grid.now in
    let new = g.G.Heights.map c.set_profiles.new.grid in
    let lists = c.args.lists in
    let sets : new ≡ with_cells m (cells_after m (values_of narrow lists.after.items)) = rw c.deref-in-Exchange.ensures.value at c.set_profiles.ensures.map in
    let are : AreExchanged narrow m new lists.after.items lists.before.items = record { sets = sets; held = c.requires.lists.held } in
    LeavesOthers-back narrow m new lists.after.items lists.before.items (g.met.G.Heights.whole c.args.grid.now) are c.requires.lists.others

pub returns-in-Exchange-clause-entry : goal.returns-in-Exchange-clause-entry
returns-in-Exchange-clause-entry g c =
    let m = g.G.Heights.map c.args.grid.now in
    let new = g.G.Heights.map c.set_profiles.new.grid in
    let lists = c.args.lists in
    let sets : new ≡ with_cells m (cells_after m (values_of narrow lists.after.items)) = rw c.deref-in-Exchange.ensures.value at c.set_profiles.ensures.map in
    let are : AreExchanged narrow m new lists.after.items lists.before.items = record { sets = sets; held = c.requires.lists.held } in
    AreHeightsFor-exchange narrow m new lists.after.items lists.before.items (g.met.G.Heights.whole c.args.grid.now) are
