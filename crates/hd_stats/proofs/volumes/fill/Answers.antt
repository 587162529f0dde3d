use Rattle.std.proofs.Common.{ℕ, List, Option, length, sym, subst}
use Rattle.hd_prune.specs.declared.step.Kept.{Kept}
use Rattle.hd_stats.specs.Fill.{AreFills}
use Rattle.hd_stats.specs.Volumes.{AreReached, AreVolumes}
use Rattle.hd_stats.proofs.ReachedByKept.{AreNearest, AreNearest-kept}
use Rattle.hd_stats.proofs.Filled.{AreFills-listed, numbers-few}
use Rattle.hd_stats.proofs.volumes.fill.Goals as goal

pub add_up-requires-clause-numbers : goal.add_up-requires-clause-numbers
add_up-requires-clause-numbers g c = λ k n e.
    let m = g.G.Heights.map c.args.grid.now in
    let side = g.S.Side.NAME in
    let kept : List Kept = c.as_slice-kept.result.now in
    let reached : List (Option ℕ) = c.deref.result.now in
    let are : AreReached m side kept (length kept) reached = subst (λ (rs : List (Option ℕ)). AreReached m side kept (length kept) rs) (sym c.deref.ensures.value) c.in_ok-reached.ensures in
    let nearest : AreNearest m side kept = subst (λ (ks : List Kept). AreNearest m side ks) (sym c.as_slice-kept.ensures) (AreNearest-kept m side c.requires.0 c.args.kept.now c.requires.1) in
    numbers-few m side (g.met.G.Heights.whole c.args.grid.now) kept nearest reached are k n e

pub returns : goal.returns
returns g c =
    let m = g.G.Heights.map c.args.grid.now in
    let side = g.S.Side.NAME in
    let kept : List Kept = c.as_slice-kept.result.now in
    let reached : List (Option ℕ) = c.deref.result.now in
    let volumes : List ℕ = c.deref-2.result.now in
    let are : AreReached m side kept (length kept) reached = subst (λ (rs : List (Option ℕ)). AreReached m side kept (length kept) rs) (sym c.deref.ensures.value) c.in_ok-reached.ensures in
    let nearest : AreNearest m side kept = subst (λ (ks : List Kept). AreNearest m side ks) (sym c.as_slice-kept.ensures) (AreNearest-kept m side c.requires.0 c.args.kept.now c.requires.1) in
    let sums : AreVolumes m kept reached (length reached) volumes = subst (λ (vs : List ℕ). AreVolumes m kept reached (length reached) vs) (sym c.deref-2.ensures.value) c.in_ok-volumes.ensures in
    subst (λ (ks : List Kept). AreFills m side ks c.in_ok-values.values) c.as_slice-kept.ensures
    (AreFills-listed m side (g.met.G.Heights.whole c.args.grid.now) kept nearest reached are volumes c.in_ok-values.values sums c.in_ok-values.ensures)
