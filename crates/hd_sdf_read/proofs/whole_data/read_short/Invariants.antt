use Rattle.std.proofs.Common.{◌≡◌, ◌<◌, ◌-◌, true, get_or, length}
use Rattle.hd_map.specs.Cells.{cells_in}
use Rattle.hd_map.specs.Map.{cell_count}
use Rattle.hd_sdf_read.specs.ShortWords.{ReadsShort}
use Rattle.hd_sdf_read.specs.Tokens.{is_gap}
use Rattle.hd_sdf_read.proofs.whole_data.read_short.Given as goal

abbrev pub invariant-short : goal.invariant-short
invariant-short l = record {
  reads : ReadsShort l.fn.size l.initial.cells l.text l.cells l.rest;
  some : 0 < length l.rest;
  begins : is_gap (get_or l.rest 0 0) ≡ true;
}

abbrev pub decreases-short : goal.decreases-short
decreases-short l = cell_count l.fn.size - length (cells_in l.cells)
