use Rattle.std.proofs.Common.{◌≡◌, ◌<◌, pos, false, true, get_or, length, map, replicate, take}
use Rattle.hd_map.specs.Packing.{kept_cells, masks}
use Rattle.hd_num.specs.Whole.{signed_number}
use Rattle.hd_sdf_read.specs.ShortWords.{AreData, height_over}
use Rattle.hd_sdf_read.specs.Tokens.{is_gap}
use Rattle.hd_sdf_read.proofs.short_words.fill.Given as goal

abbrev pub invariant-cells : goal.invariant-cells
invariant-cells l = record {
  overs : length l.overs ≡ length l.initial.overs;
  marks : length l.marks ≡ length l.initial.marks;
  unmasked : map masks (take l.place l.marks) ≡ replicate l.place false;
  reads : AreData (signed_number true l.fn.below) (pos l.fn.greatest) l.text l.rest (kept_cells (height_over l.fn.below) (take l.place l.overs) (take l.place l.marks));
  some : 0 < length l.rest;
  begins : is_gap (get_or l.rest 0 0) ≡ true;
}
