use Rattle.hd_sdf_read.specs.declared.error.SdfError.TheVariants.{MissingKey}
use Rattle.hd_sdf_read.proofs.HasForms.{IsRead-scale}
use Rattle.hd_sdf_read.proofs.required_keys.scale_at.Goals as goal

pub returns-clause-read : goal.returns-clause-read
returns-clause-read c =
    IsRead-scale c.args.key.now c.args.entries.now c.in_ok-decimal_at.field-0 (MissingKey c.args.number) c.ok_or.result c.in_ok-decimal_at.ensures c.ok_or.ensures.value
