use Rattle.std.proofs.Common.{◌≡◌, ◌∙◌, ℕ, ℤ, None, ap, length, sym, subst}
use Rattle.std.specs.Prelude.{pos}
use Rattle.std.proofs.lemmas.List.{length-replicate}
use Rattle.hd_map.specs.declared.types.Rank.{Rank}
use Rattle.hd_map.specs.declared.types.SideName.{SideName}
use Rattle.hd_map.specs.Map.{Map, position_at}
use Rattle.hd_map.specs.Region.{IsPit}
use Rattle.hd_audit.specs.declared.types.AuditLine.{AuditLine}
use Rattle.hd_audit.specs.Lines.{line_at, rank_at}
use Rattle.hd_audit.specs.Rules.{IsWithin}
use Rattle.hd_audit.proofs.ChainTops.{AreChainsTo-more, AreChainsTo-none, IsChainWithin-not, IsRightAt-where, IsTopHeight-fits, IsChainTop-point}
use Rattle.hd_audit.proofs.HeightDifferences.{IsHeight-kept}
use Rattle.hd_audit.proofs.FailedTests.{test-fails, test-holds}
use Rattle.hd_audit.proofs.chains.first_far.Goals as goal

-- what `is_far` tells of a line
abbrev IsFar : Map → SideName → ℕ → ℤ → Rank → AuditLine → Type 0
IsFar m side thousandths sz top x = (x.parent ≡ None → ⊥) × IsPit m side (rank_at m x.index) × (IsWithin side thousandths sz (rank_at m x.index) top → ⊥)

pub loop-k-init : goal.loop-k-init
loop-k-init g c =
    let l = c.args.limit.now in
    AreChainsTo-none (g.G.Heights.map c.args.surface.now) l.side l.percent.thousandths l.sz c.args.lines.now c.in_ok-tops.tops.items
    (ap length (c.in_ok-tops.ensures.items_if_clones_equal (λ _ e. e)) ∙ length-replicate {A = ℤ} c.cells_of.result (pos 0) ∙ c.cells_of.ensures)

pub is_far-requires-clause-top : goal.is_far-requires-clause-top
is_far-requires-clause-top g c =
    let m = g.G.Heights.map c.args.surface.now in
    let side = c.args.limit.now.side in
    let lines = c.args.lines.now in
    let i : ℕ = (line_at lines c.loop-k.k).index in
    let up = c.top_of-top.ensures in (
      up.top,
      IsChainTop-point m side lines c.requires.new i up.top up.is_top,
      up.height_is
          ∙ sym (IsHeight-kept c.top_of-top.result (IsTopHeight-fits m side lines c.requires.new (g.met.G.Heights.whole c.args.surface.now) i c.top_of-top.result up)),
    )

pub returns-then-is_far : goal.returns-then-is_far
returns-then-is_far g c =
    let m = g.G.Heights.map c.args.surface.now in
    let l = c.args.limit.now in
    let lines = c.args.lines.now in
    let i : ℕ = (line_at lines c.loop-k.k).index in
    let up = c.top_of-top.ensures in
    let same = up.height_is ∙ sym (IsHeight-kept c.top_of-top.result (IsTopHeight-fits m l.side lines c.requires.new (g.met.G.Heights.whole c.args.surface.now) i c.top_of-top.result up)) in
    let far = subst (λ (x : AuditLine). IsFar m l.side l.percent.thousandths l.sz up.top x) c.at-line.ensures (test-holds c.is_far.result c.if-is_far.true (c.is_far.ensures up.top same)) in (
      c.loop-k.k,
      rw c.len-k-end.ensures at c.loop-k-test.true,
      c.loop-k.invariant.right,
      λ right. IsChainWithin-not m l.side lines c.requires.new l.percent.thousandths l.sz i up.top up.is_top far.2 (right far.0 far.1),
      c.position_in.ensures ∙ ap (λ (x : AuditLine). position_at m.size x.index) c.at-line.ensures,
    )

pub loop-k-preserved : goal.loop-k-preserved
loop-k-preserved g c =
    let m = g.G.Heights.map c.args.surface.now in
    let l = c.args.limit.now in
    let lines = c.args.lines.now in
    let k = c.loop-k.k in
    let i : ℕ = (line_at lines k).index in
    let up = c.top_of-top.ensures in
    let kept = IsHeight-kept c.top_of-top.result (IsTopHeight-fits m l.side lines c.requires.new (g.met.G.Heights.whole c.args.surface.now) i c.top_of-top.result up) in
    let near = subst (λ (x : AuditLine). IsFar m l.side l.percent.thousandths l.sz up.top x → ⊥) c.at-line.ensures
    (test-fails c.is_far.result c.if-is_far.false (c.is_far.ensures up.top (up.height_is ∙ sym kept))) in
    let new = c.requires.new k (rw c.len-k-end.ensures at c.loop-k-test.true) in
    rw (kept, c.at-line.ensures) (AreChainsTo-more m l.side l.percent.thousandths l.sz lines c.loop-k.tops.items k c.top_of-top.result new.new new.inside c.loop-k.invariant up
    (IsRightAt-where m l.side l.percent.thousandths l.sz lines k up.top up.is_top near))
