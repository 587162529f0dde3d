use Rattle.std.proofs.Common.{List, subst}
use Rattle.hd_map.specs.declared.types.Rank.{Rank}
use Rattle.hd_steep.specs.Numbering.{AreNumbers}
use Rattle.hd_steep.proofs.FirstLink.{first-links}
use Rattle.hd_steep.proofs.Numbered.{numbered_all}
use Rattle.hd_steep.proofs.numbering.number_by_links.Goals as goal

pub list_pits-requires : goal.list_pits-requires
list_pits-requires g c = rw c.deref.ensures.value (first-links (g.G.Heights.map c.args.grid.now) g.S.Side.NAME c.args.links.items c.requires)

pub add_ends-requires-clause-links : goal.add_ends-requires-clause-links
add_ends-requires-clause-links g c = first-links (g.G.Heights.map c.args.grid.now) g.S.Side.NAME c.args.links.items c.requires

pub returns : goal.returns
returns g c =
    let m = g.G.Heights.map c.args.grid.now in
    let side = g.S.Side.NAME in
    let pits = c.in_ok-pits.pits.items in
    let numbers = c.number_by_ends.new.links.items in
    let are : AreNumbers m side pits numbers = subst (λ (ranks : List Rank). AreNumbers m side ranks numbers) c.deref-5.ensures.value c.number_by_ends.ensures in
    numbered_all m side (record { pits = pits; numbers = numbers }) c.in_ok-pits.ensures are
