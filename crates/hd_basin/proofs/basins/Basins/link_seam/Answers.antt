use Rattle.std.proofs.Common.{◌≡◌, ◌∷◌, [], ◌∙◌, Bool, true, List, ap, slice_get, subst, sym}
use Rattle.std.specs.Prelude.{if◌then◌else◌}
use Rattle.hd_map.specs.declared.types.Link.{Link}
use Rattle.hd_basin.specs.Between.{AddsLinks}
use Rattle.hd_basin.specs.Graph.{in_order, was_seen_with}
use Rattle.hd_basin.specs.Parts.{Pool}
use Rattle.hd_basin.proofs.BetweenRoots.{adds-one}
use Rattle.hd_basin.proofs.basins.Basins.link_seam.Goals as goal

pub returns-in_ok-push_link : goal.returns-in_ok-push_link
returns-in_ok-push_link g c =
    let side = g.S.Side.NAME in
    let pool = c.args.self.now in
    let pits = c.args.roots.now.pits in
    let has = c.requires.map in
    let seam = c.args.seam in
    let old : List Link = c.args.links.now.items in
    let seen : was_seen_with (slice_get pool.parts seam.with) seam.stamp ≡ true =
    ap (λ (p : Pool). was_seen_with (slice_get p.parts seam.with) seam.stamp) (sym c.self.view_is) ∙ sym c.was_seen_with.ensures ∙ c.if-was_seen_with.true in
    subst (λ (v : Bool). AddsLinks side pool pits (if v then (in_order side seam.pass ∷ []) else []) old c.push_link.new.links.items) (sym seen)
    (subst (AddsLinks side pool pits (in_order side seam.pass ∷ []) old) (sym c.in_ok-push_link.ensures)
    (adds-one side pool pits (c.requires.roots.pits has.map has.whole has.pool_of).in_order has seam.pass c.pit_number-a.result c.pit_number-b.result old c.pit_number-a.ensures
    c.pit_number-b.ensures))
