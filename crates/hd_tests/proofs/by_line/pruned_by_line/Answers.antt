use Rattle.std.proofs.Common.{sym, subst, rules, SFits, w64}
use Rattle.std.proofs.lemmas.Int.{to_z-of_z}
use Rattle.hd_map.specs.Pruning.{SzIs}
use Rattle.hd_map.specs.Surface.{map_of}
use Rattle.hd_map.specs.SurfaceLaws.{surface-whole}
use Rattle.hd_tests.proofs.by_line.pruned_by_line.Goals as goal

pub new-falls-requires-clause-regions : goal.new-falls-requires-clause-regions
new-falls-requires-clause-regions g c = (c.args._labels.now, c.requires.labels)

pub height_span-sz-requires : goal.height_span-sz-requires
height_span-sz-requires g c = (map_of c.args.surface.now, surface-whole c.args.surface.now, c.presence_of.ensures.range)

pub prune-requires-clause-sz : goal.prune-requires-clause-sz
prune-requires-clause-sz g c =
    let fits : SFits w64 c.height_span-sz.result = search rules in
    rw (to_z-of_z w64 c.height_span-sz.result fits)
    (subst (λ x. SzIs (map_of x) c.height_span-sz.result) (sym c.new-falls.ensures)
    (c.height_span-sz.ensures (map_of c.args.surface.now) (surface-whole c.args.surface.now) c.presence_of.ensures.range))
