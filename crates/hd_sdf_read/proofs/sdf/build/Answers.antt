use Rattle.hd_map.specs.Surface.{map_of}
use Rattle.hd_sdf_read.specs.Views.{required_keys_view}
use Rattle.hd_sdf_read.proofs.HasForms.{HasForms-good}
use Rattle.hd_sdf_read.proofs.sdf.build.Goals as goal

pub invariant_of-result : goal.invariant_of-result
invariant_of-result c =
    let kept = c.in_ok-kept.ensures in
    record {
      forms = rw (kept.origin.manufac_id, kept.origin.create_date, kept.origin.mod_date, kept.z_resolution, kept.extra)
          (HasForms-good c.args.version c.args.entries.now (required_keys_view c.args.frame) (map_of c.args.surface) c.args.trailer c.requires.entries c.requires.decimals c.requires.trailer);
    }
