-- What there is on every map: roots, pits that take over, all pits in a list, saddles or none, and its Sz.
use Rattle.std.proofs.Common.{◌≡◌, ◌≢◌, ℕ, ℤ, zero, suc, ◌<◌, ◌≤◌, ◌⊎◌, inl, inr, Bool, List, [], ◌∷◌, get_or, Option, Some, None, refl, sym, ◌∙◌, ap, subst, arith}
use Rattle.std.specs.Prelude.{AllPairs, Contains, ◌↔◌, ◌-ℤ◌, pos}
use Rattle.std.specs.List.{range_with_len}
use Rattle.std.proofs.lemmas.List.Elements.{Contains-get_or}
use Rattle.std.proofs.lemmas.List.Kept.{AllPairs-cons}
use Rattle.hd_map.specs.declared.height_range.HeightRange.{HeightRange}
use Rattle.hd_map.specs.declared.types.Pos.{Pos}
use Rattle.hd_map.specs.declared.types.Rank.{Rank}
use Rattle.hd_map.specs.declared.types.SideName.{SideName}
use Rattle.hd_map.specs.declared.types.SideName.TheVariants.{Dales}
use Rattle.hd_map.specs.HeightRange.{range_of}
use Rattle.hd_map.specs.Map.{Map, IsMap, InGrid, Present, cell_count, place_of, position_at}
use Rattle.hd_map.specs.Order.{IsNotAbove, IsStrictOrder}
use Rattle.hd_map.specs.Path.{Leads}
use Rattle.hd_map.specs.Presence.{present_heights}
use Rattle.hd_map.specs.Pruning.{ArePits, IsBeyond, IsTakenOver, SzIs}
use Rattle.hd_map.specs.Rank.{below_by, IsPoint, Near, rank}
use Rattle.hd_map.specs.Region.{LowerNeighbour, IsNext, IsPit, IsRoot}
use Rattle.hd_map.specs.SideLaws.{below_by-order}
use Rattle.hd_map.proofs.Decided.{IsDecided, in_grid_or_not, near_or_not}
use Rattle.hd_map.proofs.Depth.{depth_by}
use Rattle.hd_map.proofs.Levels.{Reach, here, step, Contains-head, Contains-tail, Contains-cases, Contains-none, same_or_not}
use Rattle.hd_map.proofs.Nexts.{next-falls, root-pit, root-step, root-unique}
use Rattle.hd_map.proofs.Points.{Near-from, Near-to, position_at-place, present_or_not, rank_position, ranks_of, point-listed}
use Rattle.hd_map.proofs.Saddles.{saddle-exists}
use Rattle.hd_map.proofs.Order.{not_above-total, not_above-trans}
use Rattle.hd_prune.proofs.Levels.{SaddleIs as LevelIs}
use Rattle.hd_prune.specs.Taken.{HasBeyond}
use Rattle.hd_prune.proofs.Firsts.{first_of}
use Rattle.hd_prune.proofs.Lists.{AllPairs-first, AllPairs-map, AllPairs-tail}
use Rattle.hd_prune.proofs.LowerNeighbours.{lower_neighbours}
use Rattle.hd_prune.proofs.Ranges.{range-rises}
use Rattle.hd_prune.proofs.Spans.{span_none, span_some}
use Rattle.hd_prune.proofs.JoinedByPaths.{JoinedBy, by_levels}
use Rattle.hd_prune.proofs.Reachable.{reach_or_not}

-- of the items of a list for which something holds, one is the lowest, or it holds for none
lowest_of : {V : Type 0} (below : V → V → Bool) → IsStrictOrder below → (P : V → Type 0) (xs : List V) → ((x : V) → Contains xs x → P x ⊎ (P x → ⊥)) →
    ((x : V) × P x × ((y : V) → Contains xs y → P y → IsNotAbove below x y)) ⊎ ((y : V) → Contains xs y → P y → ⊥)
lowest_of {V} below laws P xs decided = elim (first_of {A = V} {B = Unit {0}} (λ x u. P x) (λ x u y v. IsNotAbove below x y)
    (λ x u v h k. refl) (λ x y u v. not_above-total below laws x y) (λ x y z u v w h k. not_above-trans below laws x y z h k)
    xs (λ x at. elim (decided x at) [ inl h ↦ inl (tt, h) | inr fails ↦ inr (λ u h. fails h) ])) [
      | inl r ↦ inl (r.0, r.2.value, λ y at h. r.2.first y tt at h)
      | inr none ↦ inr (λ y at h. none y tt at h)
    ]

module _ (m : Map) (whole : IsMap m) (side : SideName) where
  -- a point has a next, or is a pit
  next_or_pit : (s : Rank) → IsPoint m s → ((q : Rank) × IsNext m side s q) ⊎ IsPit m side s
  next_or_pit s point =
      let lower = lower_neighbours m side s point in
      elim (lowest_of (below_by side) (below_by-order side) (LowerNeighbour m side s) lower.0 (λ q at. inl ((lower.1 q).0 at))) [
        | inl r ↦ inl (r.0, record { lower = r.1; lowest = λ q h. r.2 q ((lower.1 q).1 h) h })
        | inr none ↦ inr (record { point = point; alone = λ q h. none q ((lower.1 q).1 h) h })
      ]

  root_within : (n : ℕ) (b : Rank) → depth_by side b < n → IsPoint m b → (r : Rank) × IsRoot m side b r
  root_within zero b small point = absurd (omega arith)
  root_within (suc n) b small point = elim (next_or_pit b point) [
    | inl next ↦
        let falls = next-falls m side b next.0 whole next.1 in
        let root = root_within n next.0 (omega arith) (Near-to m b next.0 next.1.lower.near) in
        (root.0, root-step m side b next.0 root.0 next.1 root.1)
    | inr pit ↦ (b, root-pit m side b pit)
  ]

  -- a point has a root
  pub root_of : (b : Rank) → IsPoint m b → (r : Rank) × IsRoot m side b r
  root_of b point = root_within (suc (depth_by side b)) b (omega arith) point

  -- whether a neighbour below is beyond
  beyond_or_not : (owner : Rank → Rank) (p s b : Rank) → LowerNeighbour m side s b → ((r : Rank) × IsBeyond m side owner p s b r) ⊎ (((r : Rank) × IsBeyond m side owner p s b r) → ⊥)
  beyond_or_not owner p s b low =
      let root = root_of b (Near-to m s b low.near) in
      elim (same_or_not (below_by side) (below_by-order side) (owner root.0) p) [
        | inl own ↦ inr (λ k. k.1.not_own (ap owner (root-unique m side b k.0 root.0 k.1.root root.1) ∙ own))
        | inr apart ↦ inl (root.0, record { lower = low; root = root.1; not_own = apart })
      ]

  -- where there is a neighbour beyond, the owner of the lowest one takes over
  pub taken_over : (owner : Rank → Rank) (p s : Rank) → HasBeyond m side owner p s → (o : Rank) × IsTakenOver m side owner p s o
  taken_over owner p s has =
      let lower = lower_neighbours m side s (Near-from m s has.0 has.1.near) in
      elim (lowest_of (below_by side) (below_by-order side) (λ b. (r : Rank) × IsBeyond m side owner p s b r) lower.0 (λ b at. beyond_or_not owner p s b ((lower.1 b).0 at))) [
        | inl h ↦
            let found = h.1 in (
              owner found.0,
              record {
                neighbour = h.0;
                root = found.0;
                across = record { beyond = found.1; lowest = λ c t k. h.2 c ((lower.1 c).1 k.lower) (t, k) };
                into = refl;
              },
            )
        | inr none ↦
            let root = root_of has.0 (Near-to m s has.0 has.1.near) in
            absurd (none has.0 ((lower.1 has.0).1 has.1) (root.0, record { lower = has.1; root = root.1; not_own = has.2 root.0 root.1 }))
      ]

module _ (m : Map) (side : SideName) where
  leads-from_reach : {p q : Rank} → Reach (Near m) p q → (xs : List Rank) × Leads (Near m) p xs q
  leads-from_reach here = ([], refl)
  leads-from_reach (step {a} {b} {c} n r) = (let rest = leads-from_reach r in (b ∷ rest.0, (n, rest.1)))

  reach-from_joined : (t : Rank) {p q : Rank} → JoinedBy m side t p q → Reach (Near m) p q
  reach-from_joined t here = here
  reach-from_joined t (step s r) = step s.0 (reach-from_joined t r)

  -- two points have a saddle, or are joined at no level
  pub saddle_of_two : (p q : Rank) → IsPoint m p → q ≢ p → (o : Option Rank) × LevelIs (below_by side) (JoinedBy m side) p q o
  saddle_of_two p q point ne = elim (reach_or_not (Near m) (same_or_not (below_by side) (below_by-order side)) (near_or_not m) (ranks_of m) (λ a b n. point-listed m b (Near-to m a b n)) p q) [
    | inl r ↦
        let path = leads-from_reach r in
        let s = saddle-exists m side p q path.0 (record { point = point; leads = path.1 }) in
        (Some s.0, by_levels m side p q s.0 ne s.1)
    | inr not ↦ (None, λ t j. not (reach-from_joined t j))
  ]

-- whether a rank is one of a point
point_or_not : (m : Map) (r : Rank) → IsDecided (IsPoint m r)
point_or_not m r =
    let p : Pos = position_at m.size r.index in
    elim (in_grid_or_not m.size p) [
      | inl inside ↦ elim (present_or_not m p inside) [
        | inl there ↦ elim (same_or_not (below_by Dales) (below_by-order Dales) r (rank m p)) [
          | inl e ↦ inl (record { at = p; present = there; rank_is = e })
          | inr apart ↦ inr (λ h. apart (h.rank_is ∙ ap (rank m) (sym (rank_position m r h.at h.present h.rank_is))))
        ]
        | inr absent ↦ inr (λ h. absent (subst (Present m) (sym (rank_position m r h.at h.present h.rank_is)) h.present))
      ]
      | inr outside ↦ inr (λ h. outside (subst (InGrid m.size) (sym (rank_position m r h.at h.present h.rank_is)) h.present.in_grid))
    ]

-- those of a list for which something holds, in the order of the list
those_of : {V : Type 0} (R : V → V → Type 0) (P : V → Type 0) (xs : List V) → AllPairs R xs → ((x : V) → IsDecided (P x)) →
    (ys : List V) × ((y : V) → Contains ys y ↔ (Contains xs y × P y)) × AllPairs R ys
those_of R P [] pairs decided = ([], λ y. (λ h. absurd (Contains-none y h), λ h. h.0), pairs)
those_of R P (x ∷ xs) pairs decided =
    let rest = those_of R P xs (AllPairs-tail R x xs pairs) decided in
    elim (decided x) [
      | inl holds ↦ (
        x ∷ rest.0,
        λ y. (
          λ h. elim (Contains-cases x y rest.0 h) [
            | inl e ↦ subst (λ z. Contains (x ∷ xs) z × P z) (sym e) (Contains-head x xs, holds)
            | inr later ↦ (let k = (rest.1 y).0 later in (Contains-tail x y xs k.0, k.1))
          ],
          λ h. elim (Contains-cases x y xs h.0) [
            | inl e ↦ subst (λ z. Contains (x ∷ rest.0) z) (sym e) (Contains-head x rest.0)
            | inr later ↦ Contains-tail x y rest.0 ((rest.1 y).1 (later, h.1))
          ],
        ),
        AllPairs-cons R x rest.0 (λ k d inside. AllPairs-first R x (get_or rest.0 k d) xs pairs ((rest.1 (get_or rest.0 k d)).0 (Contains-get_or rest.0 k d inside)).0) rest.2,
      )
      | inr fails ↦ (
        rest.0,
        λ y. (
          λ h. (let k = (rest.1 y).0 h in (Contains-tail x y xs k.0, k.1)),
          λ h. elim (Contains-cases x y xs h.0) [
            | inl e ↦ absurd (fails (subst P e h.1))
            | inr later ↦ (rest.1 y).1 (later, h.1)
          ],
        ),
        rest.2,
      )
    ]

-- the points that are listed stand in position order
points-rise : (m : Map) → 1 ≤ m.size.points → AllPairs (λ (a b : Rank). a.index < b.index) (ranks_of m)
points-rise m some = AllPairs-map (λ (a b : Rank). a.index < b.index) (λ k. rank m (position_at m.size k)) (range_with_len 0 (cell_count m.size)) (λ i j d less inside.
    let rises = range-rises (cell_count m.size) i j d less inside in
    let at : (k : ℕ) → place_of m.size (position_at m.size k) ≡ k = λ k. position_at-place m.size k some in
    omega (arith, rises, at (get_or (range_with_len 0 (cell_count m.size)) i d), at (get_or (range_with_len 0 (cell_count m.size)) j d)))

module _ (m : Map) (whole : IsMap m) (side : SideName) where
  pit_or_not : (r : Rank) → IsDecided (IsPit m side r)
  pit_or_not r = elim (point_or_not m r) [
    | inl point ↦ elim (next_or_pit m whole side r point) [
      | inl next ↦ inr (λ pit. pit.alone next.0 next.1.lower)
      | inr pit ↦ inl pit
    ]
    | inr not ↦ inr (λ pit. not pit.point)
  ]

  -- all pits in a list, in position order
  pub list_of_pits : (pits : List Rank) × ArePits m side pits
  list_of_pits =
      let found = those_of (λ (a b : Rank). a.index < b.index) (IsPit m side) (ranks_of m) (points-rise m whole.size.some_points) pit_or_not in
      (found.0, record { exactly = λ p. (λ h. ((found.1 p).0 h).1, λ pit. (found.1 p).1 (point-listed m p pit.point, pit)); in_order = found.2 })

-- each map has its Sz
pub sz_of : (m : Map) → IsMap m → (sz : ℤ) × SzIs m sz
sz_of m whole = elim (range_of (present_heights m)) as (λ (o : Option HeightRange). range_of (present_heights m) ≡ o → (sz : ℤ) × SzIs m sz) [
  | Some range ↦ λ is. (range.greatest -ℤ range.least, span_some m range (range.greatest -ℤ range.least) whole is refl)
  | None ↦ λ none. (pos 0, span_none m none)
] refl
