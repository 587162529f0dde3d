use Rattle.std.proofs.Common.{◌≡◌, ◌∙◌, length, ap, arith}
use Rattle.std.proofs.lemmas.List.{take_at}
use Rattle.hd_steep.proofs.LowerPlaces.{all_told}
use Rattle.hd_steep.proofs.lower_places.LowerPlaces.tell.Goals as goal

pub returns : goal.returns
returns g c =
    let had = c.requires.columns in
    let above = c.as_slice-above.ensures.value in
    let level = c.as_slice-level.ensures.value in
    let below = c.as_slice-below.ensures.value in
    let n_len : length c.tell_earlier.new.lower ≡ c.args.self.now.north.len = omega arith in
    let ne_len : length c.tell_earlier-2.new.lower ≡ c.args.self.now.north_east.len = omega arith in
    let e_len : length c.tell_later.new.lower ≡ c.args.self.now.east.len = omega arith in
    let se_len : length c.tell_later-2.new.lower ≡ c.args.self.now.south_east.len = omega arith in
    let s_len : length c.tell_later-3.new.lower ≡ c.args.self.now.south.len = omega arith in
    let sw_len : length c.tell_later-4.new.lower ≡ c.args.self.now.south_west.len = omega arith in
    let w_len : length c.tell_earlier-3.new.lower ≡ c.args.self.now.west.len = omega arith in
    let nw_len : length c.tell_earlier-4.new.lower ≡ c.args.self.now.north_west.len = omega arith in
    let n = take_at c.tell_earlier.new.lower _ c.args.self.now.north.len n_len in
    let ne = take_at c.tell_earlier-2.new.lower _ c.args.self.now.north_east.len ne_len in
    let e = take_at c.tell_later.new.lower _ c.args.self.now.east.len e_len in
    let se = take_at c.tell_later-2.new.lower _ c.args.self.now.south_east.len se_len in
    let s = take_at c.tell_later-3.new.lower _ c.args.self.now.south.len s_len in
    let sw = take_at c.tell_later-4.new.lower _ c.args.self.now.south_west.len sw_len in
    let w = take_at c.tell_earlier-3.new.lower _ c.args.self.now.west.len w_len in
    let nw = take_at c.tell_earlier-4.new.lower _ c.args.self.now.north_west.len nw_len in
    all_told _ _ _ _ _ c.requires.rows
    (record {
      north = ap length n ∙ (let h = had.north in omega (arith, h, n_len));
      north_east = ap length ne ∙ (let h = had.north_east in omega (arith, h, ne_len));
      east = ap length e ∙ (let h = had.east in omega (arith, h, e_len));
      south_east = ap length se ∙ (let h = had.south_east in omega (arith, h, se_len));
      south = ap length s ∙ (let h = had.south in omega (arith, h, s_len));
      south_west = ap length sw ∙ (let h = had.south_west in omega (arith, h, sw_len));
      west = ap length w ∙ (let h = had.west in omega (arith, h, w_len));
      north_west = ap length nw ∙ (let h = had.north_west in omega (arith, h, nw_len));
    })
    (record {
      north = rw n (rw (above, level) at c.tell_earlier.ensures);
      north_east = rw ne (rw (above, level) at c.tell_earlier-2.ensures);
      east = rw e (rw level at c.tell_later.ensures);
      south_east = rw se (rw (below, level) at c.tell_later-2.ensures);
      south = rw s (rw (below, level) at c.tell_later-3.ensures);
      south_west = rw sw (rw (below, level) at c.tell_later-4.ensures);
      west = rw w (rw level at c.tell_earlier-3.ensures);
      north_west = rw nw (rw (above, level) at c.tell_earlier-4.ensures);
    })
