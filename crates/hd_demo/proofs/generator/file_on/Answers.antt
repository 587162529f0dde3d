use Rattle.hd_map.specs.Surface.{map_of}
use Rattle.hd_demo.proofs.Drawings.{HasForms-file}
use Rattle.hd_demo.proofs.generator.file_on.Goals as goal

pub invariant_of-result : goal.invariant_of-result
invariant_of-result c = record {
  forms = rw (
    c.in_ok-x_scale.ensures,
    c.in_ok-y_scale.ensures,
    c.in_ok-z_scale.ensures,
    c.in_ok-z_resolution.ensures,
    c.as_slice.ensures,
    c.as_slice-2.ensures,
    c.as_slice-3.ensures,
    c.as_slice-4.ensures,
    c.new.ensures,
    c.new-2.ensures,
    c.new-3.ensures,
    c.new-4.ensures,
    c.new-5.ensures,
  ) (HasForms-file (map_of c.args.surface));
}
