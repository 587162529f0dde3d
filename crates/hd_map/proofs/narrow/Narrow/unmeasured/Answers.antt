use Rattle.std.proofs.Common.{rules, sym, subst}
use Rattle.hd_map.specs.Map.{IsMap}
use Rattle.hd_map.specs.Packing.{over_least}
use Rattle.hd_map.proofs.DataTypes.{narrow_places}
use Rattle.hd_map.proofs.PackedPoints.{unmeasured_is, unmeasured_whole}
use Rattle.hd_map.proofs.narrow.Narrow.unmeasured.Goals as goal

pub invariant_of-result-clause-paired : goal.invariant_of-result-clause-paired
invariant_of-result-clause-paired c = search rules

pub invariant_of-result-clause-whole : goal.invariant_of-result-clause-whole
invariant_of-result-clause-whole c =
    let heights = c.in_ok-vec.field-0.items in
    let marks = c.in_ok-vec-2.field-0.items in
    subst IsMap (sym (unmeasured_is (over_least c.args.data_type) 0 c.args.size c.args.data_type heights marks (c.in_ok-vec.ensures.items_if_clones_equal (λ _ e. e))
    (c.in_ok-vec-2.ensures.items_if_clones_equal (λ _ e. e)))) (unmeasured_whole c.args.size c.args.data_type c.requires.limits
    (narrow_places c.args.data_type c.requires.narrow))

pub returns : goal.returns
returns c = unmeasured_is (over_least c.args.data_type) 0 c.args.size c.args.data_type c.in_ok-vec.field-0.items c.in_ok-vec-2.field-0.items
    (c.in_ok-vec.ensures.items_if_clones_equal (λ _ e. e)) (c.in_ok-vec-2.ensures.items_if_clones_equal (λ _ e. e))
