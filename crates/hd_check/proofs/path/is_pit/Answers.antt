use Rattle.std.proofs.Common.{◌≡◌, ◌↔◌, ℕ, inl, inr, refl, sym, subst, ◌∙◌, false, arith}
use Rattle.std.specs.List.{Contains}
use Rattle.std.proofs.lemmas.Bool.{cases_lt, false≢true}
use Rattle.hd_map.specs.declared.types.Pos.{Pos}
use Rattle.hd_map.specs.Neighbour.{Neighbour}
use Rattle.hd_map.specs.Rank.{rank, below_by}
use Rattle.hd_check.specs.Rules.{point_of}
use Rattle.hd_check.proofs.Pits.{Neighbour-listed, IsPit-none_lower, IsPit-found}
use Rattle.hd_check.proofs.path.is_pit.Goals as goal

pub is_lower-requires-clause-a : goal.is_lower-requires-clause-a
is_lower-requires-clause-a g c =
    let m = g.G.Heights.map c.args.surface.now in
    let all : (q : Pos) → Contains c.as_slice-round.result.now q ↔ Neighbour m c.args.at q = rw c.as_slice-round.ensures c.neighbours-near.ensures.all in
    (Neighbour-listed m c.args.at c.as_slice-round.result.now all c.loop-k.k c.loop-k-test.true).to

pub loop-k-preserved : goal.loop-k-preserved
loop-k-preserved g c = λ i below.
    let m = g.G.Heights.map c.args.surface.now in
    let round = c.as_slice-round.result.now in
    elim (cases_lt i c.loop-k.k) [
      | inl before ↦ c.loop-k.invariant i before
      | inr last ↦
          let here : c.loop-k.k ≡ i = omega (arith, below, last) in
          subst (λ (j : ℕ). below_by c.args.side (rank m (point_of round j)) (rank m c.args.at) ≡ false) here (sym c.is_lower.ensures ∙ c.if-is_lower.false)
    ]

pub returns-then-is_lower : goal.returns-then-is_lower
returns-then-is_lower g c =
    let m = g.G.Heights.map c.args.surface.now in
    let all : (q : Pos) → Contains c.as_slice-round.result.now q ↔ Neighbour m c.args.at q = rw c.as_slice-round.ensures c.neighbours-near.ensures.all in
    let near = Neighbour-listed m c.args.at c.as_slice-round.result.now all c.loop-k.k c.loop-k-test.true in
    (λ h. absurd (false≢true h), λ pit. absurd (IsPit-none_lower m c.args.side c.args.at (point_of c.as_slice-round.result.now c.loop-k.k) near (rw (← c.is_lower.ensures) c.if-is_lower.true) pit))

pub returns : goal.returns
returns g c =
    let m = g.G.Heights.map c.args.surface.now in
    let all : (q : Pos) → Contains c.as_slice-round.result.now q ↔ Neighbour m c.args.at q = rw c.as_slice-round.ensures c.neighbours-near.ensures.all in
    (λ _. IsPit-found m c.args.side c.args.at c.as_slice-round.result.now c.loop-k.k c.requires (λ q. (all q).1) c.loop-k-test.false c.loop-k.invariant, λ _. refl)
