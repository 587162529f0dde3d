use Rattle.std.proofs.Common.{◌∙◌, ap, map, filter, sym, arith}
use Rattle.std.proofs.lemmas.List.{take_all}
use Rattle.std.proofs.lemmas.List.Elements.{filter_agree}
use Rattle.hd_feature.specs.Cut.{significant_by}
use Rattle.hd_feature.specs.Value.{attribute}
use Rattle.hd_feature.proofs.Values.{attributes-more}
use Rattle.hd_feature.proofs.value.attributes.Goals as goal

pub regions-preserved : goal.regions-preserved
regions-preserved c = record {
  cut = c.regions.invariant.cut;
  so_far = attributes-more (significant_by c.args.notation.now.kind c.args.notation.now.significance c.in_ok-cut.cut)
      (attribute c.args.notation.now.attribute) c.args.regions.now c.regions.region-index _ c.regions.values.items c.add_significant.new.values.items
      (omega arith) c.regions.invariant.so_far c.in_ok-add_significant.ensures;
}

pub returns : goal.returns
returns c =
    let n = c.args.notation.now in
    c.regions.invariant.so_far
    ∙ ap (λ rs. map (attribute n.attribute) (filter (significant_by n.kind n.significance c.in_ok-cut.cut) rs)) (take_all _ c.args.regions.now (omega arith))
    ∙ ap (map (attribute n.attribute)) (filter_agree _ _ (λ r. sym (c.regions.invariant.cut n.kind r)) c.args.regions.now)
