use Rattle.std.proofs.Common.{◌^◌, ◌<◌, ◌∙◌, List, ap, subst, sym}
use Rattle.std.specs.Prelude.{All}
use Rattle.hd_basin.specs.declared.extent.Extent.{Extent}
use Rattle.hd_map.specs.declared.presence.Presence.{Presence}
use Rattle.hd_map.specs.Presence.{IsPresence, present_heights}
use Rattle.hd_pool.specs.Told.{presence_told}
use Rattle.hd_pool.proofs.Extents.{points-few}
use Rattle.hd_pool.proofs.Presences.{presence-told}
use Rattle.hd_pool.proofs.pool_view.PoolView.presence.Goals as goal

pub presence_told-requires : goal.presence_told-requires
presence_told-requires g c =
    let m = g.G.Heights.map c.self.inside.grid.now in
    let whole = g.met.G.Heights.whole c.self.inside.grid.now in
    subst (λ (es : List Extent). All (λ (e : Extent). e.points < 2 ^ 32) es) (sym c.as_slice.ensures)
    (points-few m whole g.S.Side.NAME c.in-Some.extents (c.self.invariant.are_extents c.in-Some.extents c.in-Some.is))

pub returns-in-Some : goal.returns-in-Some
returns-in-Some g c =
    let m = g.G.Heights.map c.self.inside.grid.now in
    let whole = g.met.G.Heights.whole c.self.inside.grid.now in
    subst (λ grid. IsPresence (present_heights (g.G.Heights.map grid)) c.presence_told.result) c.self.view_is
    (subst (λ (p : Presence). IsPresence (present_heights m) p) (sym (c.presence_told.ensures ∙ ap presence_told c.as_slice.ensures))
    (presence-told m whole g.S.Side.NAME c.in-Some.extents (c.self.invariant.are_extents c.in-Some.extents c.in-Some.is)))

pub presence_told-requires-2 : goal.presence_told-requires-2
presence_told-requires-2 g c =
    let m = g.G.Heights.map c.self.inside.grid.now in
    let whole = g.met.G.Heights.whole c.self.inside.grid.now in
    subst (λ (es : List Extent). All (λ (e : Extent). e.points < 2 ^ 32) es) (sym c.as_slice-2.ensures)
    (points-few m whole g.S.Side.NAME c.in_ok-extents.extents (c.in_ok-extents.ensures m whole c.self.invariant.is_pool))

pub returns : goal.returns
returns g c =
    let m = g.G.Heights.map c.self.inside.grid.now in
    let whole = g.met.G.Heights.whole c.self.inside.grid.now in
    subst (λ grid. IsPresence (present_heights (g.G.Heights.map grid)) c.presence_told-2.result) c.self.view_is
    (subst (λ (p : Presence). IsPresence (present_heights m) p) (sym (c.presence_told-2.ensures ∙ ap presence_told c.as_slice-2.ensures))
    (presence-told m whole g.S.Side.NAME c.in_ok-extents.extents (c.in_ok-extents.ensures m whole c.self.invariant.is_pool)))
