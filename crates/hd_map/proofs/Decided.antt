-- Whether two positions are neighbours, and whether two ranks are near, is decided.
use Rattle.std.proofs.Common.{◌≡◌, ℕ, ◌<◌, ◌≤◌, ◌+◌, ◌⊎◌, inl, inr, ap, ◌∙◌, sym, subst, arith}
use Rattle.std.proofs.lemmas.Bool.{cases_lt, cases_eq}
use Rattle.hd_map.specs.declared.types.Adjacency.{Adjacency}
use Rattle.hd_map.specs.declared.types.Adjacency.TheVariants.{Four, Six, Eight}
use Rattle.hd_map.specs.declared.types.Pos.{Pos}
use Rattle.hd_map.specs.declared.types.Size.{Size}
use Rattle.hd_map.specs.declared.types.Rank.{Rank}
use Rattle.hd_map.specs.declared.types.SideName.TheVariants.{Dales}
use Rattle.hd_map.specs.Map.{Map, InGrid, Present, position_at}
use Rattle.hd_map.specs.Neighbour.{IsNear, AreRising, AreBesideUnder, Neighbour}
use Rattle.hd_map.specs.Rank.{Near, below_by, rank}
use Rattle.hd_map.specs.SideLaws.{below_by-order}
use Rattle.hd_map.proofs.Gather.{same_pos}
use Rattle.hd_map.proofs.Levels.{same_or_not}
use Rattle.hd_map.proofs.Points.{present_or_not, rank_position}

-- what holds or does not
abbrev pub IsDecided : Type 0 → Type 0
IsDecided P = P ⊎ (P → ⊥)

-- two things hold both, or not
both_or_not : (P Q : Type 0) → IsDecided P → IsDecided Q → IsDecided (P × Q)
both_or_not P Q (inl p) (inl q) = inl (p, q)
both_or_not P Q (inl p) (inr not) = inr (λ h. not h.1)
both_or_not P Q (inr not) q = inr (λ h. not h.0)

-- a position is in the grid, or outside
pub in_grid_or_not : (s : Size) (p : Pos) → IsDecided (InGrid s p)
in_grid_or_not s p = elim (cases_lt p.x s.points) [
  | inl column ↦ elim (cases_lt p.y s.profiles) [
    | inl profile ↦ inl (record { column = column; profile = profile })
    | inr past ↦ inr (λ h. omega (arith, h.profile))
  ]
  | inr past ↦ inr (λ h. omega (arith, h.column))
]

-- each position has a present point, or none
present_at_or_not : (m : Map) (p : Pos) → IsDecided (Present m p)
present_at_or_not m p = elim (in_grid_or_not m.size p) [
  | inl inside ↦ present_or_not m p inside
  | inr outside ↦ inr (λ here. outside here.in_grid)
]

less_or_not : (a b : ℕ) → IsDecided (a ≤ b + 1)
less_or_not a b = elim (cases_lt (b + 1) a) [ inl more ↦ inr (λ h. omega arith) | inr less ↦ inl less ]

near_numbers_or_not : (a b : ℕ) → IsDecided (IsNear a b)
near_numbers_or_not a b = both_or_not (a ≤ b + 1) (b ≤ a + 1) (less_or_not a b) (less_or_not b a)

different_or_not : (p q : Pos) → IsDecided (p ≡ q → ⊥)
different_or_not p q = elim (cases_eq p.x q.x) [
  | inl column ↦ elim (cases_eq p.y q.y) [
    | inl profile ↦ inr (λ apart. apart (same_pos p q column profile))
    | inr apart ↦ inl (λ e. apart (ap (λ (r : Pos). r.y) e))
  ]
  | inr apart ↦ inl (λ e. apart (ap (λ (r : Pos). r.x) e))
]

either_or_not : (P Q : Type 0) → IsDecided P → IsDecided Q → IsDecided (P ⊎ Q)
either_or_not P Q (inl p) q = inl (inl p)
either_or_not P Q (inr neither) (inl q) = inl (inr q)
either_or_not P Q (inr neither) (inr not) = inr (λ h. elim h [ inl p ↦ neither p | inr q ↦ not q ])

lower_or_not : (a b : ℕ) → IsDecided (a < b)
lower_or_not a b = elim (cases_lt a b) [ inl less ↦ inl less | inr more ↦ inr (λ h. omega (arith, h, more)) ]

same_line_or_not : (p q : Pos) → IsDecided ((p.x ≡ q.x) ⊎ (p.y ≡ q.y))
same_line_or_not p q = either_or_not (p.x ≡ q.x) (p.y ≡ q.y) (cases_eq p.x q.x) (cases_eq p.y q.y)

-- two positions are beside each other under a setting, or not
pub beside_or_not : (adjacency : Adjacency) (p q : Pos) → IsDecided (AreBesideUnder adjacency p q)
beside_or_not Four p q = same_line_or_not p q
beside_or_not Six p q = either_or_not ((p.x ≡ q.x) ⊎ (p.y ≡ q.y)) (AreRising p q) (same_line_or_not p q)
    (either_or_not ((p.x < q.x) × (p.y < q.y)) ((q.x < p.x) × (q.y < p.y))
    (both_or_not (p.x < q.x) (p.y < q.y) (lower_or_not p.x q.x) (lower_or_not p.y q.y))
    (both_or_not (q.x < p.x) (q.y < p.y) (lower_or_not q.x p.x) (lower_or_not q.y p.y)))
beside_or_not Eight p q = inl tt

neighbour_or_not : (m : Map) (p q : Pos) → IsDecided (Neighbour m p q)
neighbour_or_not m p q = elim (both_or_not ((Present m p × Present m q) × AreBesideUnder m.adjacency p q) ((IsNear p.x q.x × IsNear p.y q.y) × (p ≡ q → ⊥))
    (both_or_not (Present m p × Present m q) (AreBesideUnder m.adjacency p q)
    (both_or_not (Present m p) (Present m q) (present_at_or_not m p) (present_at_or_not m q)) (beside_or_not m.adjacency p q))
    (both_or_not (IsNear p.x q.x × IsNear p.y q.y) (p ≡ q → ⊥)
    (both_or_not (IsNear p.x q.x) (IsNear p.y q.y) (near_numbers_or_not p.x q.x) (near_numbers_or_not p.y q.y)) (different_or_not p q))) [
      | inl h ↦ inl (record { from = h.0.0.0; to = h.0.0.1; columns = h.1.0.0; rows = h.1.0.1; different = h.1.1; beside = h.0.1 })
      | inr not ↦ inr (λ n. not (((n.from, n.to), n.beside), ((n.columns, n.rows), n.different)))
    ]

same_rank_or_not : (a b : Rank) → IsDecided (a ≡ b)
same_rank_or_not = same_or_not (below_by Dales) (below_by-order Dales)

-- whether two ranks are near
pub near_or_not : (m : Map) (a b : Rank) → IsDecided (Near m a b)
near_or_not m a b =
    let p : Pos = position_at m.size a.index in
    let q : Pos = position_at m.size b.index in
    elim (both_or_not (Neighbour m p q) ((a ≡ rank m p) × (b ≡ rank m q)) (neighbour_or_not m p q)
    (both_or_not (a ≡ rank m p) (b ≡ rank m q) (same_rank_or_not a (rank m p)) (same_rank_or_not b (rank m q)))) [
      | inl h ↦ inl (record { from = p; to = q; neighbour = h.0; from_rank = h.1.0; to_rank = h.1.1 })
      | inr not ↦ inr (λ n.
          let from : n.from ≡ p = sym (rank_position m a n.from n.neighbour.from n.from_rank) in
          let to : n.to ≡ q = sym (rank_position m b n.to n.neighbour.to n.to_rank) in
          not (subst (λ (r : Pos). Neighbour m p r) to (subst (λ (r : Pos). Neighbour m r n.to) from n.neighbour), (n.from_rank ∙ ap (rank m) from, n.to_rank ∙ ap (rank m) to)))
    ]
