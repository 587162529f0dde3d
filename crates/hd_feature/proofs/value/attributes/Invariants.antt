use Rattle.std.proofs.Common.{◌≡◌, take, map, filter}
use Rattle.hd_feature.specs.Cut.{IsCut, significant_by}
use Rattle.hd_feature.specs.Value.{attribute}
use Rattle.hd_feature.proofs.value.attributes.Given as goal

abbrev pub invariant-regions : goal.invariant-regions
invariant-regions l = record {
  cut : IsCut l.notation.significance l.regions l.cut;
  so_far : l.values.items ≡ map (attribute l.notation.attribute) (filter (significant_by l.notation.kind l.notation.significance l.cut) (take l.region-index l.regions));
}
