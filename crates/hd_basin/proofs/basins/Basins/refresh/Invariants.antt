use Rattle.std.proofs.Common.{◌≡◌, ◌<◌, ◌≤◌, ◌+◌, ◌*◌, ℕ, length}
use Rattle.hd_basin.specs.InStep.{IsInStep, KeepsSeen}
use Rattle.hd_basin.specs.Parts.{IsFresh, IsSound, stale_count}
use Rattle.hd_basin.proofs.basins.Basins.refresh.Given as goal

abbrev pub invariant-each : goal.invariant-each
invariant-each g l = record {
  sound : IsSound l.self;
  in_step : IsInStep (g.T.Looked.map l.tiles) g.S.Side.NAME (g.T.Looked.stamps l.tiles) l.self;
  kept : KeepsSeen (g.T.Looked.stamps l.tiles) l.fn.self l.self;
  fresh : (tile : ℕ) → tile < l.tile → IsFresh (g.T.Looked.stamps l.tiles) l.self.parts tile;
  side : l.self.side ≡ l.fn.self.side;
  whole : length l.self.parts ≡ length l.fn.self.parts;
  looks : l.looks + stale_count (g.T.Looked.stamps l.tiles) l.self.parts * ((l.fn.self.side + 2) * (l.fn.self.side + 2)) ≤ l.fn.looks
      + stale_count (g.T.Looked.stamps l.tiles) l.fn.self.parts * ((l.fn.self.side + 2) * (l.fn.self.side + 2));
}
