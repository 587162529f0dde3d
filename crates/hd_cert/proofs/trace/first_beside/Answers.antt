use Rattle.std.proofs.Common.{◌≡◌, ◌∙◌, rules, ap, sym, subst, arith, get_or}
use Rattle.std.specs.Prelude.{◌↔◌}
use Rattle.std.specs.List.{Contains}
use Rattle.hd_map.specs.declared.types.Pos.{Pos}
use Rattle.hd_map.specs.declared.types.Size.{Size}
use Rattle.hd_map.specs.Map.{place_of}
use Rattle.hd_map.specs.Neighbour.{Neighbour}
use Rattle.hd_check.specs.Rules.{point_of}
use Rattle.hd_check.proofs.Searching.{Contains-place}
use Rattle.hd_check.proofs.Pits.{Neighbour-listed}
use Rattle.hd_cert.specs.declared.residue.Residue.TheVariants.{Unreached}
use Rattle.hd_cert.specs.FirstNearer.{IsBesideWith}
use Rattle.hd_cert.proofs.FirstNearer.{place_of-first}
use Rattle.hd_cert.proofs.trace.first_beside.Goals as goal

pub index_of-requires-clause-in_grid : goal.index_of-requires-clause-in_grid
index_of-requires-clause-in_grid g c =
    let m = g.G.Heights.map c.args.grid.now in
    let all : (q : Pos) → Contains c.as_slice-round.result.now q ↔ Neighbour m c.args.at q = rw c.as_slice-round.ensures c.neighbours-near.ensures.all in
    rw c.size-size.ensures (Neighbour-listed m c.args.at c.as_slice-round.result.now all c.loop-k.k c.loop-k-test.true).to.in_grid

pub returns-then-eq-clause-first : goal.returns-then-eq-clause-first
returns-then-eq-clause-first g c q found =
    let m = g.G.Heights.map c.args.grid.now in
    let round = c.as_slice-round.result.now in
    let k = c.loop-k.k in
    let Kind = IsBesideWith m c.args.residues.now c.args.residue c.args.at in
    let all : (p : Pos) → Contains round p ↔ Neighbour m c.args.at p = rw c.as_slice-round.ensures c.neighbours-near.ensures.all in
    let place : c.index_of.result ≡ place_of m.size (point_of round k) = c.index_of.ensures.value ∙ ap (λ (s : Size). place_of s (point_of round k)) c.size-size.ensures in
    let read : get_or c.args.residues.now c.index_of.result Unreached ≡ c.args.residue = search rules in
    record {
      kind = record { neighbour = Neighbour-listed m c.args.at round all k c.loop-k-test.true; noted = rw (← place) read };
      first = λ r h. place_of-first m Kind round (rw c.as_slice-round.ensures c.neighbours-near.ensures.ordered) k c.loop-k.invariant r ((all r).1 h.neighbour) h;
    }

pub returns-clause-first : goal.returns-clause-first
returns-clause-first g c q found =
    let m = g.G.Heights.map c.args.grid.now in
    let round = c.as_slice-round.result.now in
    let Kind = IsBesideWith m c.args.residues.now c.args.residue c.args.at in
    let all : (p : Pos) → Contains round p ↔ Neighbour m c.args.at p = rw c.as_slice-round.ensures c.neighbours-near.ensures.all in
    let at = Contains-place round q ((all q).1 found.neighbour) in
    let inside = at.1 in
    let done = c.loop-k-test.false in
    absurd (c.loop-k.invariant at.0 (omega (arith, inside, done)) (subst Kind (sym at.2) found))
