use Rattle.std.proofs.Common.{◌≡◌, ◌++◌, ◌∷◌, [], Vec, Global, ap, ◌∙◌, arith}
use Rattle.hd_map.specs.declared.types.Rank.{Rank}
use Rattle.hd_steep.proofs.Pits.{pits_push, pits_pass, pits_all}
use Rattle.hd_steep.proofs.PitNumbers.{own_link, own_stays, pit_own}
use Rattle.hd_steep.proofs.pit_list.list_pits.Goals as goal
use Rattle.hd_steep.proofs.pit_list.list_pits.Goals.{then-links-index+in_ok-push, else-links-index}

pub pit_at-requires : goal.pit_at-requires
pit_at-requires g c =
    own_link (g.G.Heights.map c.args.grid.now) g.S.Side.NAME c.args.links.now c.requires (g.met.G.Heights.whole c.args.grid.now) c.loop-index.index c.loop-index-test.true c.if-links-index.true

pub loop-index-preserved : goal.loop-index-preserved
loop-index-preserved g c =
    let m = g.G.Heights.map c.args.grid.now in
    let side = g.S.Side.NAME in
    let i = c.loop-index.index in
    let pits = c.loop-index.pits.items in
    elim c.if-links-index.branch [
      | then-links-index+in_ok-push w ↦
          let r = w.pit_at.result in
          let is : c.if-links-index.pits.items ≡ pits ++ r ∷ [] = ap (λ (v : Vec Rank Global). v.items) w.pits-is ∙ w.in_ok-push.ensures.items in
          rw is (pits_push m side i pits r w.pit_at.ensures.pit w.pit_at.ensures.index c.loop-index.invariant)
      | else-links-index w ↦
          rw w.pits-is (pits_pass m side i pits (λ p pit e. w.if-links-index.false (own_stays m side c.args.links.now c.requires i (pit_own m side i p pit e))) c.loop-index.invariant)
    ]

pub returns : goal.returns
returns g c =
    pits_all (g.G.Heights.map c.args.grid.now) g.S.Side.NAME c.loop-index.index c.loop-index.pits.items
    (let long = c.requires.whole in omega (arith, long, c.loop-index-test.false)) c.loop-index.invariant
