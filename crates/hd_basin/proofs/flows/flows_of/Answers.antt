use Rattle.std.proofs.Common.{◌≡◌, ◌<◌, ◌≤◌, ◌+◌, ◌-◌, ◌*◌, ℕ, sym, ◌∙◌, ap, subst, arith}
use Rattle.std.proofs.Math.Nat.{mul-le-mul_right}
use Rattle.hd_map.specs.declared.types.Adjacency.{Adjacency}
use Rattle.hd_map.specs.declared.types.Pos.{Pos}
use Rattle.hd_map.specs.declared.types.Rank.{Rank}
use Rattle.hd_map.specs.declared.types.Size.{Size}
use Rattle.hd_map.specs.Map.{Map, cell_count, place_of}
use Rattle.hd_map.specs.Rank.{rank}
use Rattle.hd_map.proofs.Points.{position_at-of}
use Rattle.hd_steep.specs.Lowest.{IsLow, IsRound}
use Rattle.hd_steep.proofs.Round.{found_inside, pit_found, next_at}
use Rattle.hd_basin.specs.declared.frame.Frame.{Frame}
use Rattle.hd_basin.specs.Round.{low_round}
use Rattle.hd_basin.proofs.LowRound.{lowest-at}
use Rattle.hd_basin.proofs.flows.flows_of.Goals as goal

pub lowest_round-lowest-requires-clause-inside : goal.lowest_round-lowest-requires-clause-inside
lowest_round-lowest-requires-clause-inside g c =
    let f : Frame = c.args.area in
    let p : Pos = c.args.at in
    let w : ℕ = f.columns + 2 in
    let whole = c.requires.ranks.whole in
    let at = c.requires.at in
    let a = at.right in
    let b = at.bottom in
    let x = at.left in
    let y = at.top in
    let rows = mul-le-mul_right w (let h : p.y - f.top + 3 ≤ f.rows + 2 = omega (arith, b, y) in h) in
    omega (arith, rows, whole, a, x)

pub position_of-requires : goal.position_of-requires
position_of-requires g c =
    let m : Map = g.G.Heights.map c.args.grid.now in
    let side = g.S.Side.NAME in
    let whole = g.met.G.Heights.whole c.args.grid.now in
    let f : Frame = c.args.area in
    let p : Pos = c.args.at in
    let first : ℕ = (p.y - f.top) * (f.columns + 2) + (p.x - f.left) in
    let low : Rank = c.lowest_round-lowest.result in
    let low_is : low ≡ low_round side m.adjacency c.args.ranks.now (f.columns + 2) first = c.lowest_round-lowest.ensures
    ∙ ap (λ (s : Adjacency). low_round side s c.args.ranks.now (f.columns + 2) first) c.adjacency.ensures in
    let of : IsLow m side (IsRound m.adjacency p) low = subst (IsLow m side (IsRound m.adjacency p)) (sym low_is) (lowest-at m side whole f c.args.ranks.now c.requires.ranks p c.requires.at) in
    subst (λ (s : Size). low.index < cell_count s) (sym c.size-size.ensures) (found_inside m side whole p c.requires.present low of)

pub returns-then-lowest-index_of : goal.returns-then-lowest-index_of
returns-then-lowest-index_of g c =
    let m : Map = g.G.Heights.map c.args.grid.now in
    let side = g.S.Side.NAME in
    let whole = g.met.G.Heights.whole c.args.grid.now in
    let f : Frame = c.args.area in
    let p : Pos = c.args.at in
    let first : ℕ = (p.y - f.top) * (f.columns + 2) + (p.x - f.left) in
    let low : Rank = c.lowest_round-lowest.result in
    let low_is : low ≡ low_round side m.adjacency c.args.ranks.now (f.columns + 2) first = c.lowest_round-lowest.ensures
    ∙ ap (λ (s : Adjacency). low_round side s c.args.ranks.now (f.columns + 2) first) c.adjacency.ensures in
    let of : IsLow m side (IsRound m.adjacency p) low = subst (IsLow m side (IsRound m.adjacency p)) (sym low_is) (lowest-at m side whole f c.args.ranks.now c.requires.ranks p c.requires.at) in
    let same : low.index ≡ place_of m.size p = c.if-lowest-index_of.true ∙ c.index_of.ensures.value ∙ ap (λ (s : Size). place_of s p) c.size-size.ensures in
    (pit_found m side whole p c.requires.present low of same).1

pub returns-else-lowest-index_of : goal.returns-else-lowest-index_of
returns-else-lowest-index_of g c =
    let m : Map = g.G.Heights.map c.args.grid.now in
    let side = g.S.Side.NAME in
    let whole = g.met.G.Heights.whole c.args.grid.now in
    let f : Frame = c.args.area in
    let p : Pos = c.args.at in
    let first : ℕ = (p.y - f.top) * (f.columns + 2) + (p.x - f.left) in
    let low : Rank = c.lowest_round-lowest.result in
    let low_is : low ≡ low_round side m.adjacency c.args.ranks.now (f.columns + 2) first = c.lowest_round-lowest.ensures
    ∙ ap (λ (s : Adjacency). low_round side s c.args.ranks.now (f.columns + 2) first) c.adjacency.ensures in
    let of : IsLow m side (IsRound m.adjacency p) low = subst (IsLow m side (IsRound m.adjacency p)) (sym low_is) (lowest-at m side whole f c.args.ranks.now c.requires.ranks p c.requires.at) in
    let other : low.index ≡ place_of m.size p → ⊥ = λ e. c.if-lowest-index_of.false (e ∙ ap (λ (s : Size). place_of s p) (sym c.size-size.ensures) ∙ sym c.index_of.ensures.value) in
    let q : Pos = c.position_of.result in
    let next = next_at m side whole p c.requires.present low of q c.size-size.result c.size-size.ensures other c.position_of.ensures.in_grid c.position_of.ensures.place in
    record { to = rank m q; is_next = next.1; at = sym (position_at-of m.size q next.0.in_grid) }
