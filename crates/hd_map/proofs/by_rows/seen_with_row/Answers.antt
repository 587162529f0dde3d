use mir.Syntax.{w32}
use mir.Val.{of_z, to_z}
use Rattle.std.proofs.Common.{pos, refl, ◌≡◌, ◌+◌, ◌*◌, ◌∙◌, ◌++◌, ℕ, [], ap, subst, arith, get_or}
use Rattle.std.specs.List.{cons_option}
use Rattle.std.proofs.lemmas.Int.{ints, to_z-of_z}
use Rattle.std.proofs.lemmas.List.{get_or_default}
use Rattle.hd_map.specs.declared.types.Pos.{Pos}
use Rattle.hd_map.specs.Encoding.{most_filtered, narrow, narrow_floor, number_in}
use Rattle.hd_map.specs.Lanes.{IsPlainHeight}
use Rattle.hd_map.specs.Map.{InGrid, height_at, place_of}
use Rattle.hd_map.specs.Presence.{heights_below}
use Rattle.hd_map.specs.Seen.{AreSeen}
use Rattle.hd_map.proofs.Lanes.{IsPlainNumber-more, plain_bounds}
use Rattle.hd_map.proofs.Points.{place_inside, position_at-of}
use Rattle.hd_map.proofs.Presences.{heights_below-few, heights_more}
use Rattle.hd_map.proofs.by_rows.seen_with_row.Goals as goal

pub seen_with-all-requires : goal.seen_with-all-requires
seen_with-all-requires g c =
    let m = g.G.Heights.map c.args._grid.now in
    let at : Pos = record { x = c.columns.x; y = c.args.y } in
    let inside : InGrid m.size at = record { column = omega (arith, c.columns-test.true, c.requires.row.whole); profile = c.requires.profile } in
    let few = heights_below-few m (place_of m.size at) in
    let place = place_inside m.size at inside in
    let most = (g.met.G.Heights.whole c.args._grid.now).size.cells in
    omega (arith, c.columns.invariant.count, few, place, most)

pub columns-preserved : goal.columns-preserved
columns-preserved g c =
    let m = g.G.Heights.map c.args._grid.now in
    let at : Pos = record { x = c.columns.x; y = c.args.y } in
    let inside : InGrid m.size at = record { column = omega (arith, c.columns-test.true, c.requires.row.whole); profile = c.requires.profile } in
    let k : ℕ = place_of m.size at in
    let before : AreSeen (heights_below m k) c.columns.all = c.columns.invariant in
    let one : heights_below m (k + 1) ≡ heights_below m k ++ cons_option (height_at m at) [] =
    heights_more m k ∙ ap (λ (p : Pos). heights_below m k ++ cons_option (height_at m p) []) (position_at-of m.size at inside) in
    let number = get_or c.args.row.now c.columns.x (pos 0) in
    let same : number_in narrow c.args.row.now c.columns.x ≡ number = get_or_default c.args.row.now c.columns.x narrow.missing (pos 0) c.columns-test.true in
    let stands : IsPlainHeight narrow (height_at m at) number = subst (IsPlainHeight narrow (height_at m at)) same (c.requires.row.each c.columns.x inside.column) in
    let within = plain_bounds narrow narrow_floor (λ z. refl) number (omega (arith, ints)) (omega (arith, ints))
    (IsPlainNumber-more narrow narrow.most_height (most_filtered narrow) number (omega arith) stands.plain) in
    let least = within.0 in
    let greatest = within.1 in
    let read : to_z w32 (of_z w32 number) ≡ number = to_z-of_z w32 number (omega (arith, ints, least, greatest)) in
    let after = c.seen_with-all.ensures (heights_below m k) (height_at m at) before (rw read stands) in
    let further : c.args.y * m.size.points + (c.columns.x + 1) ≡ k + 1 = omega arith in
    rw (further, one) after
