use Rattle.std.proofs.Common.{◌<◌, ◌≤◌, length, set, slice_index, inl, inr, get_or-set_same, subst, arith}
use Rattle.hd_map.specs.Map.{cell_count}
use Rattle.hd_steep.proofs.EndLinks.{end_on, led_set, past_set, way_falls}
use Rattle.hd_steep.proofs.leading.lead_to.Goals as goal

pub walk-smaller : goal.walk-smaller
walk-smaller g c =
    way_falls (g.G.Heights.map c.args._grid.now) g.S.Side.NAME c.args._pits.now c.walk.links c.walk.invariant.links c.walk.here (g.met.G.Heights.whole c.args._grid.now)
    (omega (arith, c.walk-test.true, c.requires.count))

pub walk-preserved : goal.walk-preserved
walk-preserved g c =
    let m = g.G.Heights.map c.args._grid.now in
    let side = g.S.Side.NAME in
    let pits = c.args._pits.now in
    let links = c.walk.links in
    let here = c.walk.here in
    let end = c.args.«end» in
    let before = c.walk.invariant in
    let long = before.links.whole in
    let old = c.requires.links.whole in
    let point : here < cell_count m.size = omega (arith, c.walk-test.true, c.requires.count) in
    let within : here < length links = omega (arith, point, long) in
    let past : cell_count m.size ≤ end = omega (arith, c.requires.past, c.requires.count) in
    let there : cell_count m.size ≤ slice_index (set links here end) here = rw (get_or-set_same links here end 0 within) past in
    record {
      links = led_set m side pits links before.links here end point (omega (arith, c.requires.inside, long, old)) (inl (before.end point));
      end = λ less. end_on m side pits links before.links here end point (before.end point) less;
      kept = λ k h. past_set m side links here end k within past (before.kept k h);
      led = inr (elim before.led [
        | inl same ↦ subst (λ i. cell_count m.size ≤ slice_index (set links here end) i) same there
        | inr led ↦ past_set m side links here end c.args.start within past led
      ]);
    }
