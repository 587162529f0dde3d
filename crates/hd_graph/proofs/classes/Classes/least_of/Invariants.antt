use Rattle.std.proofs.Common.{◌≡◌, ◌<◌, ℕ, length, slice_get, Some}
use Rattle.std.specs.Prelude.{◌↔◌}
use Rattle.hd_graph.specs.Classes.{AreFalling, AreOneClass}
use Rattle.hd_graph.proofs.AreOneClass.{Refines}
use Rattle.hd_graph.proofs.classes.Classes.least_of.Given as goal

abbrev pub invariant-loop-least : goal.invariant-loop-least
invariant-loop-least l = record {
  inside : l.least < length l.self.parents.items;
  long : length l.self.parents.items ≡ length l.fn.self.parents.items;
  falling : AreFalling l.self.parents.items;
  one : AreOneClass l.fn.self.parents.items l.number l.least;
  so : Refines l.fn.self.parents.items l.self.parents.items;
  back : Refines l.self.parents.items l.fn.self.parents.items;
  leasts : (x : ℕ) → slice_get l.self.parents.items x ≡ Some x ↔ slice_get l.fn.self.parents.items x ≡ Some x;
}

abbrev pub decreases-loop-least : goal.decreases-loop-least
decreases-loop-least l = l.least
