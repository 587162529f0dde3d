use Rattle.std.proofs.Common.{◌-◌, ◌≤◌, length}
use Rattle.hd_map.specs.Cells.{cells_in}
use Rattle.hd_map.specs.Map.{cell_count}
use Rattle.hd_sdf_read.proofs.WholeCuts.{HasOn}
use Rattle.hd_sdf_read.proofs.whole_data.read_on.Given as goal

abbrev pub invariant-data : goal.invariant-data
invariant-data l = HasOn l.fn.size l.fn.cells l.text l.cells l.rest (length (cells_in l.cells)) × (length (cells_in l.cells) ≤ cell_count l.fn.size)

abbrev pub decreases-data : goal.decreases-data
decreases-data l = cell_count l.fn.size - length (cells_in l.cells)
