-- The pairs that are seen: one place each, of points, and a neighbour of the first.
use Rattle.std.proofs.Common.{◌≡◌, ◌<◌, ◌∙◌, ℕ, List, slice_get, Some, sym, ap, subst, arith}
use Rattle.hd_map.specs.declared.types.Pos.{Pos}
use Rattle.hd_map.specs.declared.types.Rank.{Rank}
use Rattle.hd_map.specs.Map.{InGrid, Map, Present, place_of, position_at}
use Rattle.hd_map.specs.Neighbour.{IsNear, Neighbour}
use Rattle.hd_map.specs.Rank.{IsPoint, Near, rank}
use Rattle.hd_map.proofs.Points.{position_at-of, same_place}
use Rattle.std.proofs.lemmas.Option.{same_Some}
use Rattle.hd_steep.specs.Found.{HasPlace, IsSeen}
use Rattle.hd_steep.specs.Pairs.{IsAcross, Pair}
use Rattle.hd_steep.proofs.Counted.{same_pair}

-- a pair of positions as one of points
abbrev pub pair_of : Map → Pos → Pos → Pair
pair_of m from to = record { from = rank m from; to = rank m to }

module _ (m : Map) (places : List ℕ) where
  -- a point has one place
  pub place-one : (x : Rank) (i j : ℕ) → HasPlace m places x i → HasPlace m places x j → i ≡ j
  place-one x i j h k = same_Some i j (sym h.place ∙ k.place)

  -- the pairs that are seen are pairs of points
  pub seen-points : (Seen : Pair → Type 0) (i j : ℕ) (p : Pair) → IsSeen m places Seen i j p → IsPoint m p.from × IsPoint m p.to
  seen-points Seen i j p s = (s.across.from_in.point, s.across.to_in.point)

-- a pair of neighbours whose first has the index of a position
pub record IsPairFrom (m : Map) (at : Pos) (p : Pair) : Type 0 where
  pub to : Pos
  pub near : Neighbour m at to
  pub is : p ≡ pair_of m at to
  pub position : position_at m.size p.to.index ≡ to

pub pair-from : (m : Map) (at : Pos) → InGrid m.size at → (p : Pair) → Near m p.from p.to → p.from.index ≡ place_of m.size at → IsPairFrom m at p
pair-from m at inside p n e =
    let from : n.from ≡ at = same_place m.size n.from at n.neighbour.from.in_grid inside (ap (λ (r : Rank). r.index) (sym n.from_rank) ∙ e) in
    record {
      to = n.to;
      near = subst (λ (q : Pos). Neighbour m q n.to) from n.neighbour;
      is = same_pair p (pair_of m at n.to) (n.from_rank ∙ ap (rank m) from) n.to_rank;
      position = ap (λ (r : Rank). position_at m.size r.index) n.to_rank ∙ position_at-of m.size n.to n.neighbour.to.in_grid;
    }

-- where one place alone stands round an index, no pair from there leads to another
pub surrounded-apart : (m : Map) (places : List ℕ) (a index : ℕ) → ((p q : Pos) → InGrid m.size p → InGrid m.size q → place_of m.size p ≡ index → IsNear p.x q.x → IsNear p.y q.y
    → slice_get places (place_of m.size q) ≡ Some a)
    → (j : ℕ) (p : Pair) → a < j → IsAcross m (HasPlace m places) a j p → p.from.index ≡ index → ⊥
surrounded-apart m places a index round j p less across e =
    let n = across.near in
    let there = round n.from n.to n.neighbour.from.in_grid n.neighbour.to.in_grid (ap (λ (r : Rank). r.index) (sym n.from_rank) ∙ e) n.neighbour.columns n.neighbour.rows in
    let same : a ≡ j = same_Some a j (sym there ∙ ap (λ (r : Rank). slice_get places r.index) (sym n.to_rank) ∙ across.to_in.place) in
    omega arith

-- where no point is present at a position, no pair comes from there
pub absent-apart : (m : Map) (places : List ℕ) (a : ℕ) (at : Pos) → InGrid m.size at → (Present m at → ⊥) → (j : ℕ) (p : Pair) → a < j → IsAcross m (HasPlace m places) a j p
    → p.from.index ≡ place_of m.size at → ⊥
absent-apart m places a at inside gone j p less across e = (let of = pair-from m at inside p across.near e in gone of.near.from)
