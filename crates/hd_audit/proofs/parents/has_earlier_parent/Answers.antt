use Rattle.std.proofs.Common.{ℕ, Option, ap, ◌∙◌, sym, subst}
use Rattle.std.specs.Prelude.{◌↔◌, IsTrue, MatchOption}
use Rattle.hd_map.specs.declared.types.Pos.{Pos}
use Rattle.hd_map.specs.Map.{Present, position_at}
use Rattle.hd_map.specs.Neighbour.{Neighbour}
use Rattle.hd_audit.specs.declared.types.AuditLine.{AuditLine}
use Rattle.hd_audit.specs.Lines.{point_at}
use Rattle.hd_audit.specs.Rules.{IsEarlierNeighbour}
use Rattle.hd_audit.proofs.NotedLines.{Present-at}
use Rattle.hd_audit.proofs.FailedTests.{test-turned, test-holds}
use Rattle.hd_audit.proofs.parents.has_earlier_parent.Goals as goal

pub are_neighbours-requires-clause-b : goal.are_neighbours-requires-clause-b
are_neighbours-requires-clause-b g c =
    let m = g.G.Heights.map c.args.surface.now in
    subst (Present m) (sym c.position_in-to.ensures) (Present-at m c.args.lines.now c.args.places.now c.requires.places c.requires.new c.in-Some.parent c.in-Some-place_at.place
    (sym c.in-Some-place_at.ensures))

pub returns : goal.returns
returns g c =
    let m = g.G.Heights.map c.args.surface.now in
    let lines = c.args.lines.now in
    let p = c.in-Some.parent in
    let found = c.requires.places.noted.only p c.in-Some-place_at.place (sym c.in-Some-place_at.ensures) in
    let near : IsTrue c.are_neighbours.result ↔ Neighbour m (point_at m lines c.args.k) (position_at m.size p) =
    subst (λ (q : Pos). IsTrue c.are_neighbours.result ↔ Neighbour m (point_at m lines c.args.k) q) c.position_in-to.ensures
    (subst (λ (q : Pos). IsTrue c.are_neighbours.result ↔ Neighbour m q c.position_in-to.result)
    (c.position_in-from.ensures ∙ ap (λ (x : AuditLine). position_at m.size x.index) c.at-line.ensures) c.are_neighbours.ensures) in
    subst (λ (o : Option ℕ). IsTrue c.are_neighbours.result ↔ MatchOption o (Unit {0}) (IsEarlierNeighbour m lines c.args.k))
    (sym (ap (λ (x : AuditLine). x.parent) (sym c.at-line.ensures) ∙ c.in-Some.is))
    (test-turned c.are_neighbours.result near (λ n. record {
      earlier = c.in-Some-place_at.place;
      before =
          test-holds c.stands_before.result c.if-not-stands_before.false c.stands_before.ensures;
      index = found.1;
      near = n;
    }) (λ e. e.near))
