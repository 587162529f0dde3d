use Rattle.std.proofs.Common.{◌<◌, subst, sym}
use Rattle.hd_map.specs.declared.types.Size.{Size}
use Rattle.hd_map.specs.Map.{cell_count}
use Rattle.hd_audit.proofs.listing.cut_of.Goals as goal

pub position_of-requires : goal.position_of-requires
position_of-requires g c = subst (λ (s : Size). c.in_ok-index.index < cell_count s) (sym c.size.ensures) (c.requires.cut c.in_ok-index.index c.in_ok-index.was).inside
