-- Pits, as they show in a list of neighbours.
use Rattle.std.proofs.Common.{◌≡◌, ◌<◌, ◌≤◌, ◌∙◌, ℕ, List, length, true, false, sym, subst, ap, arith}
use Rattle.std.specs.Prelude.{◌↔◌}
use Rattle.std.specs.List.{Contains}
use Rattle.std.proofs.lemmas.Bool.{false≢true}
use Rattle.std.proofs.lemmas.List.Elements.{Contains-get_or}
use Rattle.hd_map.specs.declared.types.Pos.{Pos}
use Rattle.hd_map.specs.declared.types.SideName.{SideName}
use Rattle.hd_map.specs.Map.{Map, Present}
use Rattle.hd_map.specs.Neighbour.{Neighbour}
use Rattle.hd_map.specs.Rank.{rank, below_by}
use Rattle.hd_map.specs.Region.{IsPit}
use Rattle.hd_map.proofs.Points.{point_at, same_point, Near-at}
use Rattle.hd_check.specs.Rules.{point_of}
use Rattle.hd_check.proofs.Searching.{Contains-place}

-- an item of the list of neighbours is a neighbour
pub Neighbour-listed : (m : Map) (at : Pos) (round : List Pos) → ((q : Pos) → Contains round q ↔ Neighbour m at q) → (k : ℕ) → k < length round → Neighbour m at (point_of round k)
Neighbour-listed m at round all k inside = (all (point_of round k)).0 (Contains-get_or round k (record { x = 0; y = 0 }) inside)

-- a point with a lower neighbour is no pit
pub IsPit-none_lower : (m : Map) (side : SideName) (at q : Pos) → Neighbour m at q → below_by side (rank m q) (rank m at) ≡ true → IsPit m side (rank m at) → ⊥
IsPit-none_lower m side at q near low pit = pit.alone (rank m q) (record { near = Near-at m at q near; below = low })

-- a point none of whose neighbours is below it is a pit
pub IsPit-found : (m : Map) (side : SideName) (at : Pos) (round : List Pos) (k : ℕ) → Present m at → ((q : Pos) → Neighbour m at q → Contains round q) → length round ≤ k
    → ((i : ℕ) → i < k → below_by side (rank m (point_of round i)) (rank m at) ≡ false) → IsPit m side (rank m at)
IsPit-found m side at round k here all done none = record {
  point = point_at m at here;
  alone = λ q lower.
      (let n = lower.near in
      let same : n.from ≡ at = same_point m n.from at n.neighbour.from here (sym n.from_rank) in
      let f = Contains-place round n.to (all n.to (subst (λ (p : Pos). Neighbour m p n.to) same n.neighbour)) in
      let inside = f.1 in
      let high = none f.0 (omega (arith, inside, done)) in
      let is : rank m (point_of round f.0) ≡ q = ap (rank m) f.2 ∙ sym n.to_rank in
      false≢true (sym high ∙ ap (λ r. below_by side r (rank m at)) is ∙ lower.below));
}
