use Rattle.std.proofs.Common.{◌≡◌, length}
use Rattle.std.specs.Prelude.{All}
use Rattle.hd_basin.proofs.Stocked.{IsBlank}
use Rattle.hd_basin.proofs.stock.Stock.new.Given as goal

abbrev pub invariant-loop-tile : goal.invariant-loop-tile
invariant-loop-tile l = record {
  count : length l.tiles.items ≡ l._tile;
  blank : All IsBlank l.tiles.items;
}
