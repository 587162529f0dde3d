use Rattle.std.proofs.Common.{◌≡◌, ◌<◌, ◌≤◌, ℕ, length, inl, inr, refl, sym, ◌∙◌, subst, arith}
use Rattle.std.proofs.lemmas.Bool.{false≢true}
use Rattle.hd_map.specs.declared.types.Adjacency.{Adjacency}
use Rattle.hd_map.specs.Map.{Map}
use Rattle.hd_map.specs.Neighbour.{AreBesideUnder}
use Rattle.hd_basin.specs.Inside.{IsPairAt, label_at}
use Rattle.hd_basin.proofs.AreMet.{pair-equal, pair-few, pair-up}
use Rattle.hd_basin.proofs.inside.pair_at.Goals as goal

pub returns-then-a-b : goal.returns-then-a-b
returns-then-a-b g c = λ a b w is. (
    let m : Map = g.G.Heights.map c.args.grid.now in
    let least = c.args.plot.tiling.tile_side.least in
    let same : label_at c.args.plot.area c.args.labels.now c.args.at ≡ label_at c.args.plot.area c.args.labels.now c.args.near = sym c.label_in-a.ensures ∙ c.if-a-b.true ∙ c.label_in-b.ensures in
    pair-equal m g.S.Side.NAME c.args.plot.tiling.side c.args.plot.tile c.args.plot.area
    (omega (arith, least)) c.requires.area c.args._nodes.now c.args.labels.now c.requires.named c.args.at c.args.near c.requires.at c.requires.near same a b w
    (subst (λ (n : ℕ). IsPairAt m g.S.Side.NAME c.args.plot.area c.args.labels.now n c.args.at c.args.near a b w) c.requires.count is))

pub returns-then-a-count : goal.returns-then-a-count
returns-then-a-count g c = λ a b w is. (
    let m : Map = g.G.Heights.map c.args.grid.now in
    let least = c.args.plot.tiling.tile_side.least in
    let past : length c.args._nodes.now ≤ label_at c.args.plot.area c.args.labels.now c.args.at =
    (let e = c.label_in-a.ensures in let t = c.if-a-count.true in let n = c.requires.count in omega (arith, e, t, n)) in
    pair-few m g.S.Side.NAME c.args.plot.tiling.side c.args.plot.tile c.args.plot.area
    (omega (arith, least)) c.requires.area c.args._nodes.now c.args.labels.now c.requires.named c.args.at c.args.near c.requires.at c.requires.near (inl past) a b w
    (subst (λ (n : ℕ). IsPairAt m g.S.Side.NAME c.args.plot.area c.args.labels.now n c.args.at c.args.near a b w) c.requires.count is))

pub returns-then-b-count : goal.returns-then-b-count
returns-then-b-count g c = λ a b w is. (
    let m : Map = g.G.Heights.map c.args.grid.now in
    let least = c.args.plot.tiling.tile_side.least in
    let past : length c.args._nodes.now ≤ label_at c.args.plot.area c.args.labels.now c.args.near =
    (let e = c.label_in-b.ensures in let t = c.if-b-count.true in let n = c.requires.count in omega (arith, e, t, n)) in
    pair-few m g.S.Side.NAME c.args.plot.tiling.side c.args.plot.tile c.args.plot.area
    (omega (arith, least)) c.requires.area c.args._nodes.now c.args.labels.now c.requires.named c.args.at c.args.near c.requires.at c.requires.near (inr past) a b w
    (subst (λ (n : ℕ). IsPairAt m g.S.Side.NAME c.args.plot.area c.args.labels.now n c.args.at c.args.near a b w) c.requires.count is))

pub returns-then-not-are_beside : goal.returns-then-not-are_beside
returns-then-not-are_beside g c = λ a b w is. (
    let m : Map = g.G.Heights.map c.args.grid.now in
    false≢true (c.if-not-are_beside.ensures.1 (subst (λ (s : Adjacency). AreBesideUnder s c.args.at c.args.near) (sym c.adjacency.ensures) is.near.beside)))

pub returns-then-a-b-2 : goal.returns-then-a-b-2
returns-then-a-b-2 g c =
    let m : Map = g.G.Heights.map c.args.grid.now in
    let least = c.args.plot.tiling.tile_side.least in
    let a : ℕ = c.label_in-a.result in
    let b : ℕ = c.label_in-b.result in
    let step = c.requires.step in
    let n = c.requires.count in
    let one : label_at c.args.plot.area c.args.labels.now c.args.at < length c.args._nodes.now = (let e = c.label_in-a.ensures in let t = c.if-a-count.false in omega (arith, e, t, n)) in
    let other : label_at c.args.plot.area c.args.labels.now c.args.near < length c.args._nodes.now = (let e = c.label_in-b.ensures in let t = c.if-b-count.false in omega (arith, e, t, n)) in
    let beside : AreBesideUnder m.adjacency c.args.at c.args.near = subst (λ (s : Adjacency). AreBesideUnder s c.args.at c.args.near) c.adjacency.ensures (c.if-not-are_beside.ensures.0 refl) in
    let pair = pair-up m g.S.Side.NAME c.args.plot.tiling.side c.args.plot.tile c.args.plot.area
    (omega (arith, least)) c.requires.area c.args._nodes.now c.args.labels.now c.requires.named c.args.at c.args.near c.requires.at c.requires.near
    (g.met.G.Heights.whole c.args.grid.now)
    step.0 step.1 step.2 one other beside c.rank_in-here.result c.rank_in-there.result c.higher_of-higher.result c.rank_in-here.ensures c.rank_in-there.ensures c.higher_of-higher.ensures in
    record {
      near = pair.0;
      labels = inl (sym c.label_in-a.ensures, sym c.label_in-b.ensures);
      less = c.if-a-b-2.true;
      few = c.if-b-count.false;
      at = pair.1;
    }

pub returns-else-a-b-2 : goal.returns-else-a-b-2
returns-else-a-b-2 g c =
    let m : Map = g.G.Heights.map c.args.grid.now in
    let least = c.args.plot.tiling.tile_side.least in
    let a : ℕ = c.label_in-a.result in
    let b : ℕ = c.label_in-b.result in
    let step = c.requires.step in
    let n = c.requires.count in
    let one : label_at c.args.plot.area c.args.labels.now c.args.at < length c.args._nodes.now = (let e = c.label_in-a.ensures in let t = c.if-a-count.false in omega (arith, e, t, n)) in
    let other : label_at c.args.plot.area c.args.labels.now c.args.near < length c.args._nodes.now = (let e = c.label_in-b.ensures in let t = c.if-b-count.false in omega (arith, e, t, n)) in
    let beside : AreBesideUnder m.adjacency c.args.at c.args.near = subst (λ (s : Adjacency). AreBesideUnder s c.args.at c.args.near) c.adjacency.ensures (c.if-not-are_beside.ensures.0 refl) in
    let pair = pair-up m g.S.Side.NAME c.args.plot.tiling.side c.args.plot.tile c.args.plot.area
    (omega (arith, least)) c.requires.area c.args._nodes.now c.args.labels.now c.requires.named c.args.at c.args.near c.requires.at c.requires.near
    (g.met.G.Heights.whole c.args.grid.now)
    step.0 step.1 step.2 one other beside c.rank_in-here.result c.rank_in-there.result c.higher_of-higher.result c.rank_in-here.ensures c.rank_in-there.ensures c.higher_of-higher.ensures in
    record {
      near = pair.0;
      labels = inr (sym c.label_in-a.ensures, sym c.label_in-b.ensures);
      less = (let apart = c.if-a-b.false in let not = c.if-a-b-2.false in omega (arith, apart, not));
      few = c.if-a-count.false;
      at = pair.1;
    }
