use Rattle.std.proofs.Common.{◌≡◌, ◌∙◌, ℕ, None, refl, sym, subst, ap, ap₂, get_or}
use Rattle.std.specs.Prelude.{pos}
use Rattle.std.proofs.lemmas.List.Elements.{Contains-get_or}
use Rattle.hd_map.specs.declared.types.Rank.{Rank}
use Rattle.hd_map.specs.Map.{position_at}
use Rattle.hd_map.specs.Rank.{rank}
use Rattle.hd_prune.specs.Span.{IsHeight}
use Rattle.hd_audit.specs.declared.types.AuditLine.{AuditLine}
use Rattle.hd_audit.specs.Chains.{IsTopHeight, higher_height}
use Rattle.hd_audit.specs.Lines.{IsLineOf, line_at, rank_at}
use Rattle.hd_audit.proofs.ChainTops.{IsTopHeight-alone, IsTopHeight-higher, IsTopHeight-fits}
use Rattle.hd_audit.proofs.HeightDifferences.{IsHeight-kept}
use Rattle.hd_audit.proofs.Lines.{IsEarlierNeighbour-parent, line_at-fits}
use Rattle.hd_audit.proofs.chains.top_of.Goals as goal

pub returns-in-Some : goal.returns-in-Some
returns-in-Some g c =
    let m = g.G.Heights.map c.args.surface.now in
    let side = c.args.side in
    let lines = c.args.lines.now in
    let k = c.args.k in
    let i : ℕ = (line_at lines k).index in
    let p = c.in-Some.parent in
    let whole = g.met.G.Heights.whole c.args.surface.now in
    let is : IsLineOf lines i (line_at lines k) = record { listed = Contains-get_or lines k (record { index = 0; parent = None; cut = None }) c.requires.line; index = refl } in
    let own : c.rank_of-own.result.height ≡ (rank_at m i).height = ap (λ (r : Rank). r.height)
    (c.rank_of-own.ensures ∙ ap (rank m) (c.position_in.ensures ∙ ap (λ (x : AuditLine). position_at m.size x.index) c.at-line.ensures)) in
    let parent = ap (λ (x : AuditLine). x.parent) (sym c.at-line.ensures) ∙ c.in-Some.is in
    let earlier = IsEarlierNeighbour-parent m lines k p c.requires.line parent c.requires.parents in
    let up : IsTopHeight m side lines p (get_or c.args.tops.now p (pos 0)) = subst (λ (j : ℕ). IsTopHeight m side lines j (get_or c.args.tops.now j (pos 0))) earlier.index
    (c.requires.tops earlier.earlier earlier.before) in
    let top : IsTopHeight m side lines i (higher_height side (rank_at m i).height (get_or c.args.tops.now p (pos 0))) = IsTopHeight-higher m side lines i p (line_at lines k)
    (get_or c.args.tops.now p (pos 0)) is parent up in
    let alone_fits : IsHeight c.rank_of-own.result.height = subst IsHeight (sym own) (line_at-fits m lines c.requires.new whole k c.requires.line) in
    let result : c.higher.result ≡ higher_height side (rank_at m i).height (get_or c.args.tops.now p (pos 0)) =
    c.higher.ensures ∙ ap₂ (higher_height side) (IsHeight-kept c.rank_of-own.result.height alone_fits ∙ own)
    (IsHeight-kept (get_or c.args.tops.now p (pos 0)) (IsTopHeight-fits m side lines c.requires.new whole p (get_or c.args.tops.now p (pos 0)) up)) in
    let fits : IsHeight c.higher.result = subst IsHeight (sym result) (IsTopHeight-fits m side lines c.requires.new whole i
    (higher_height side (rank_at m i).height (get_or c.args.tops.now p (pos 0))) top) in
    subst (IsTopHeight m side lines i) (sym (IsHeight-kept c.higher.result fits ∙ result)) top

pub returns-in-None : goal.returns-in-None
returns-in-None g c =
    let m = g.G.Heights.map c.args.surface.now in
    let side = c.args.side in
    let lines = c.args.lines.now in
    let k = c.args.k in
    let i : ℕ = (line_at lines k).index in
    let is : IsLineOf lines i (line_at lines k) = record { listed = Contains-get_or lines k (record { index = 0; parent = None; cut = None }) c.requires.line; index = refl } in
    let own : c.rank_of-own.result.height ≡ (rank_at m i).height = ap (λ (r : Rank). r.height)
    (c.rank_of-own.ensures ∙ ap (rank m) (c.position_in.ensures ∙ ap (λ (x : AuditLine). position_at m.size x.index) c.at-line.ensures)) in
    let top : IsTopHeight m side lines i (rank_at m i).height = IsTopHeight-alone m side lines i (line_at lines k, is, ap (λ (x : AuditLine). x.parent) (sym c.at-line.ensures) ∙ c.in-None.is) in
    let fits : IsHeight c.rank_of-own.result.height = subst IsHeight (sym own) (IsTopHeight-fits m side lines c.requires.new (g.met.G.Heights.whole c.args.surface.now) i (rank_at m i).height top) in
    subst (IsTopHeight m side lines i) (sym (IsHeight-kept c.rank_of-own.result.height fits ∙ own)) top
