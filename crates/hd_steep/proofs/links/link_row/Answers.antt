use Rattle.std.proofs.Common.{◌≡◌, ◌+◌, ◌∙◌, ap, subst, arith}
use Rattle.std.specs.Prelude.{slice_index_or}
use Rattle.hd_map.specs.Encoding.{number_in}
use Rattle.hd_steep.specs.KeyRows.{ranks_of}
use Rattle.hd_steep.specs.Keys.{ranks_in}
use Rattle.hd_steep.specs.Linked.{IsLinkTo, IsLowOf, lowest_above, lowest_at, lowest_below, lowest_of_three}
use Rattle.hd_steep.specs.Lowest.{lower_of}
use Rattle.hd_steep.proofs.Keys.{number_read}
use Rattle.hd_steep.proofs.Linked.{links_more}
use Rattle.hd_steep.proofs.links.link_row.Goals as goal

pub lower_key-lowest-requires-clause-first : goal.lower_key-lowest-requires-clause-first
lower_key-lowest-requires-clause-first g c = (c.lower_key-two.ensures _ _ c.low_above-earlier.ensures c.low_of_three-beside.ensures).key

pub loop-x-preserved : goal.loop-x-preserved
loop-x-preserved g c =
    let code = g.L.Lane.code in
    let side = g.S.Side.NAME in
    let rows = c.args.rows.now in
    let adjacency = c.args.adjacency in
    let x = c.loop-x.x in
    let above = ranks_of code side rows.above in
    let level = ranks_of code side rows.level in
    let below = ranks_of code side rows.below in
    let keys = rows.level.keys.items in
    let earlier : IsLowOf code side (lowest_above adjacency side above x) c.low_above-earlier.result =
    subst (λ ks. IsLowOf code side (lowest_above adjacency side (ranks_in code side rows.above.first ks) x) c.low_above-earlier.result) c.deref-above.ensures.value c.low_above-earlier.ensures in
    let beside : IsLowOf code side (lowest_of_three side level x) c.low_of_three-beside.result =
    subst (λ ks. IsLowOf code side (lowest_of_three side (ranks_in code side rows.level.first ks) x) c.low_of_three-beside.result) c.deref-level.ensures.value c.low_of_three-beside.ensures in
    let later : IsLowOf code side (lowest_below adjacency side below x) c.low_below-later.result =
    subst (λ ks. IsLowOf code side (lowest_below adjacency side (ranks_in code side rows.below.first ks) x) c.low_below-later.result) c.deref-below.ensures.value c.low_below-later.ensures in
    let two = c.lower_key-two.ensures (lowest_above adjacency side above x) (lowest_of_three side level x) earlier beside in
    let lowest : IsLowOf code side (lowest_at adjacency side above level below x) c.lower_key-lowest.result =
    c.lower_key-lowest.ensures (lower_of side (lowest_above adjacency side above x) (lowest_of_three side level x)) (lowest_below adjacency side below x) two later in
    let wide = c.requires.level_wide in
    let read : c.index-level-x.result ≡ number_in code keys (x + 1) =
    number_read code keys (x + 1) c.index-level-x.result (omega (arith, wide)) (c.index-level-x.is ∙ ap (λ ks. slice_index_or ks (x + 1) c.index-level-x.result) c.deref-level.ensures.value) in
    let right : IsLinkTo code side (number_in code keys (x + 1)) (lowest_at adjacency side above level below x) c.link_to.result =
    subst (λ own. IsLinkTo code side own (lowest_at adjacency side above level below x) c.link_to.result) read (c.link_to.ensures (lowest_at adjacency side above level below x) lowest) in
    links_more (λ k link. IsLinkTo code side (number_in code keys (k + 1)) (lowest_at adjacency side above level below k) link) c.loop-x.links x c.link_to.result (omega arith) right c.loop-x.invariant
