use Rattle.std.proofs.Common.{◌≡◌, ℤ, List, sym, subst, w64}
use Rattle.std.proofs.lemmas.Int.{to_z-of_z}
use Rattle.hd_map.specs.declared.types.Rank.{Rank}
use Rattle.hd_map.specs.Map.{Map}
use Rattle.hd_map.specs.Pruning.{SzIs}
use Rattle.hd_map.specs.Rank.{below_by}
use Rattle.hd_graph.specs.declared.graph.Low.{Low}
use Rattle.hd_graph.specs.declared.merges.Merge.{Merge}
use Rattle.hd_num.specs.declared.percent.Percent.{Percent}
use Rattle.hd_prune.specs.declared.leaving.Leaver.{Leaver}
use Rattle.hd_prune.specs.declared.leaving.Limit.{Limit}
use Rattle.hd_prune.specs.Answer.{IsPruned}
use Rattle.hd_prune.specs.Heights.{local_on}
use Rattle.hd_prune.specs.Leaving.{IsLeavingIn, AreLeaving, goes_at}
use Rattle.hd_prune.specs.Taken.{owner_after}
use Rattle.hd_prune.proofs.Answer.{leaving-in, pruned-in}
use Rattle.hd_prune.proofs.MergesLeaving.{merged-once}
use Rattle.hd_prune.proofs.Nested.{pruned-undercut}
use Rattle.hd_prune.proofs.pruning.prune_by_merges.Given.{Over}
use Rattle.hd_prune.proofs.pruning.prune_by_merges.Goals as goal

pub steps-requires-clause-each_once : goal.steps-requires-clause-each_once
steps-requires-clause-each_once g c = merged-once (g.A.Around.map c.args.around.now) g.S.Side.NAME c.args.lows.now c.args.merges.now c.requires.pits c.requires.merges

-- the leavers as they are read off the merges
found : (g : Over) (lows : List Low) (merges : List Merge) (percent : Percent) (a b : ℤ) (xs ys : List Leaver) → a ≡ b → ys ≡ xs →
    AreLeaving (below_by g.S.Side.NAME) (IsLeavingIn (local_on g.S.Side.NAME) (goes_at (record { percent = percent; sz = a })) lows merges) xs →
    AreLeaving (below_by g.S.Side.NAME) (IsLeavingIn (local_on g.S.Side.NAME) (goes_at (record { percent = percent; sz = b })) lows merges) ys
found g lows merges percent a b xs ys same is h =
    let limit : ℤ → Limit = λ sz. record { percent = percent; sz = sz } in
    subst (λ (zs : List Leaver). AreLeaving (below_by g.S.Side.NAME) (IsLeavingIn (local_on g.S.Side.NAME) (goes_at (limit b)) lows merges) zs) (sym is)
    (subst (λ (sz : ℤ). AreLeaving (below_by g.S.Side.NAME) (IsLeavingIn (local_on g.S.Side.NAME) (goes_at (limit sz)) lows merges) xs) same h)

pub take_over-requires-clause-leaving : goal.take_over-requires-clause-leaving
take_over-requires-clause-leaving g c =
    let leaving = found g c.args.lows.now c.args.merges.now c.args.percent _ c.args.sz _ c.deref.result.now (to_z-of_z w64 c.args.sz c.ranges.sz) c.deref.ensures.value c.in_ok-leavers.ensures in (
      record { percent = c.args.percent; sz = c.args.sz },
      leaving-in (g.A.Around.map c.args.around.now) (g.met.A.Around.whole c.args.around.now) g.S.Side.NAME c.args.lows.now c.args.merges.now c.requires.pits c.requires.merges
          (record { percent = c.args.percent; sz = c.args.sz }) c.deref.result.now leaving,
    )

pub owners-requires-clause-pits : goal.owners-requires-clause-pits
owners-requires-clause-pits g c p h = (c.requires.pits.exactly p).0 h

pub owners-requires-clause-linked : goal.owners-requires-clause-linked
owners-requires-clause-linked g c = (owner_after g.S.Side.NAME (λ p. p) c.in_ok-taken.taken.steps, c.in_ok-taken.ensures.linked)

is_pruned : (g : Over) (c : goal.After-drop-leavers-2 g) → IsPruned (g.A.Around.map c.args.around.now) g.S.Side.NAME c.args.percent.thousandths c.in_ok-taken.taken.steps
    c.in_ok-kept.kept c.in_ok-owners.owners
is_pruned g c =
    let m : Map = g.A.Around.map c.args.around.now in
    let whole = g.met.A.Around.whole c.args.around.now in
    let owner : Rank → Rank = owner_after g.S.Side.NAME (λ p. p) c.in_ok-taken.taken.steps in
    let leaving = found g c.args.lows.now c.args.merges.now c.args.percent _ c.args.sz _ c.deref.result.now (to_z-of_z w64 c.args.sz c.ranges.sz) c.deref.ensures.value c.in_ok-leavers.ensures in
    pruned-in m whole g.S.Side.NAME c.args.lows.now c.args.merges.now c.requires.pits c.requires.merges (record { percent = c.args.percent; sz = c.args.sz }) c.deref.result.now leaving c.requires.sz
    c.in_ok-taken.taken.steps c.in_ok-taken.ensures.taken c.in_ok-kept.kept (c.in_ok-kept.ensures m whole c.requires.pits
    (subst (SzIs m) (sym (to_z-of_z w64 c.args.sz c.ranges.sz)) c.requires.sz) c.requires.merges)
    c.in_ok-owners.owners (c.in_ok-owners.ensures owner c.in_ok-taken.ensures.linked)

pub returns-clause-pruned : goal.returns-clause-pruned
returns-clause-pruned g c = is_pruned g c

pub returns-clause-undercut : goal.returns-clause-undercut
returns-clause-undercut g c = pruned-undercut (g.A.Around.map c.args.around.now) g.S.Side.NAME c.args.percent.thousandths c.args.sz c.in_ok-taken.taken.steps c.in_ok-kept.kept c.in_ok-owners.owners
    (g.met.A.Around.whole c.args.around.now) c.requires.sz (is_pruned g c)
