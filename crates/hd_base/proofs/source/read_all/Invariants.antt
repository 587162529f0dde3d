use Rattle.std.proofs.Common.{◌≡◌, ◌≤◌, ◌+◌, ◌-◌, length, IsTrue}
use Rattle.std.specs.Io.KnownBytes.{Consumes}
use Rattle.hd_base.proofs.source.read_all.Given as goal

abbrev pub invariant-pieces : goal.invariant-pieces
invariant-pieces g l = record {
  open_still : IsTrue (g.S.Source.is_open l.source);
  within : length l.bytes.items ≤ l.limit;
  read : Consumes (g.S.Source.files l.fn.source l.name) (g.S.Source.left l.source) l.bytes.items;
  faults : g.S.Source.faults l.source ≡ g.S.Source.faults l.fn.source;
}

abbrev pub decreases-pieces : goal.decreases-pieces
decreases-pieces g l = l.limit + 1 - length l.bytes.items
