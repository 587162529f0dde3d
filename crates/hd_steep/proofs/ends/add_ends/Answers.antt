use Rattle.std.proofs.Common.{◌≡◌, ◌+◌, ◌∙◌, ℕ, List, length, subst, arith}
use Rattle.std.proofs.lemmas.List.{with_items_is}
use Rattle.std.specs.Vec.{with_items}
use Rattle.hd_map.specs.Map.{cell_count}
use Rattle.hd_steep.specs.Ends.{AreToLast, HasEnds}
use Rattle.hd_steep.specs.Numbering.{AreWrittenAtPits}
use Rattle.hd_steep.proofs.EndLinks.{ends_added}
use Rattle.hd_steep.proofs.Pits.{pits_few}
use Rattle.hd_steep.proofs.ends.add_ends.Goals as goal

pub overflow_cast-last : goal.overflow_cast-last
overflow_cast-last g c =
    let few = pits_few (g.G.Heights.map c.args.grid.now) g.S.Side.NAME c.args.pits.now c.requires.pits in
    let cells = (g.met.G.Heights.whole c.args.grid.now).size.cells in
    omega (arith, few, cells)

pub overflow_add-last : goal.overflow_add-last
overflow_add-last g c =
    let few = pits_few (g.G.Heights.map c.args.grid.now) g.S.Side.NAME c.args.pits.now c.requires.pits in
    let cells = (g.met.G.Heights.whole c.args.grid.now).size.cells in
    let long = c.requires.links.whole in
    omega (arith, few, cells, long)

pub push_ends-requires-clause-room : goal.push_ends-requires-clause-room
push_ends-requires-clause-room g c =
    let few = pits_few (g.G.Heights.map c.args.grid.now) g.S.Side.NAME c.args.pits.now c.requires.pits in
    let cells = (g.met.G.Heights.whole c.args.grid.now).size.cells in
    let long = c.requires.links.whole in
    omega (arith, few, cells, long)

pub returns : goal.returns
returns g c =
    let m = g.G.Heights.map c.args.grid.now in
    let side = g.S.Side.NAME in
    let pits = c.args.pits.now in
    let old = c.args.links.now.items in
    let written = c.write_at_pits.new.numbers in
    let to_last = c.lead_absent.new.links in
    let new = c.push_ends.new.links.items in
    let count : c.len-count.result ≡ cell_count m.size = (let long = c.requires.links.whole in omega (arith, long)) in
    let at_pits : AreWrittenAtPits m side pits (cell_count m.size) old written = subst (λ n. AreWrittenAtPits m side pits n old written) count
    (subst (λ (xs : List ℕ). AreWrittenAtPits m side pits c.len-count.result xs written) c.deref_mut.ensures.value c.write_at_pits.ensures) in
    let first : c.deref_mut-2.result.now ≡ written = c.deref_mut-2.ensures.value ∙ with_items_is c.args.links.now written (omega arith) in
    let to : AreToLast (cell_count m.size + length pits) written to_last = subst (λ n. AreToLast (n + length pits) written to_last) count
    (subst (λ (xs : List ℕ). AreToLast (c.len-count.result + length pits) xs to_last) first c.lead_absent.ensures) in
    let second : c.reserve.new.self.items ≡ to_last = c.reserve.ensures.items ∙ with_items_is (with_items c.args.links.now written) to_last (omega arith) in
    let has : HasEnds (cell_count m.size + length pits) to_last new = subst (λ n. HasEnds (n + length pits) to_last new) count
    (subst (λ (xs : List ℕ). HasEnds (c.len-count.result + length pits) xs new) second c.in_ok-push_ends.ensures) in
    ends_added m side pits c.requires.pits (g.met.G.Heights.whole c.args.grid.now) old written to_last new c.requires.links at_pits to has
