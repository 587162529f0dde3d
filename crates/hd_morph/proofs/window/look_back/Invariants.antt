use Rattle.hd_map.specs.Encoding.{values_of}
use Rattle.hd_morph.proofs.Windows.{LookedBackFrom}
use Rattle.hd_morph.proofs.window.look_back.Given as goal

abbrev pub invariant-loop-place : goal.invariant-loop-place
invariant-loop-place g l = LookedBackFrom (values_of g.L.Lane.code l.fn.tops) l.stride l.reach l.place (values_of g.L.Lane.code l.tops)
