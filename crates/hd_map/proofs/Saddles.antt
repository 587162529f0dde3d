-- A saddle is the least level at which its two points are joined; so it is unique, and the same both ways.
use Rattle.std.proofs.Common.{◌≡◌, ◌≢◌, ◌⊎◌, inl, inr, true, sym, subst, List, [], ◌∷◌}
use Rattle.std.specs.Prelude.{Contains}
use Rattle.std.proofs.lemmas.List.Elements.{All-head, All-tail}
use Rattle.hd_map.specs.declared.types.Rank.{Rank}
use Rattle.hd_map.specs.declared.types.SideName.{SideName}
use Rattle.hd_map.specs.Map.{Map}
use Rattle.hd_map.specs.Order.{IsNotAbove}
use Rattle.hd_map.specs.Path.{Leads, IsTop, IsPath}
use Rattle.hd_map.specs.Rank.{IsPoint, Near, below_by}
use Rattle.hd_map.specs.Region.{IsPit}
use Rattle.hd_map.specs.Saddle.{IsSaddle}
use Rattle.hd_map.proofs.Items.{Contains-cases, Contains-none}
use Rattle.hd_map.proofs.Levels.{Reach, PointStep, NoneAbove, IsLevel, here, step, reach-from_path, path-from_reach, top_of, top-not_above, level-unique, level-sym, level-ultrametric}
use Rattle.hd_map.proofs.Decided.{near_or_not}
use Rattle.hd_map.proofs.Points.{Near-to, Near-apart, neighbour-sym, ranks_of, point-listed}
use Rattle.hd_map.specs.SideLaws.{below_by-order}
use Rattle.hd_map.proofs.Order.{not_above-trans, compare, below-along}
use Rattle.hd_map.proofs.Through.{level_exists}

-- near is near both ways
pub near-sym : (m : Map) (a b : Rank) → Near m a b → Near m b a
near-sym m a b n = record { from = n.to; to = n.from; neighbour = neighbour-sym m n.from n.to n.neighbour; from_rank = n.to_rank; to_rank = n.from_rank }

-- what is reached from a point is a point
pub reach-point : (m : Map) (side : SideName) (t : Rank) {a b : Rank} → IsPoint m a → Reach (PointStep (Near m) (below_by side) t) a b → IsPoint m b
reach-point m side t point here = point
reach-point m side t point (step {a} {b} {c} s r) = reach-point m side t (Near-to m a b s.0) r

-- each item of a path is a point
pub path-point : (m : Map) (a b s : Rank) (xs : List Rank) → IsPoint m a → Leads (Near m) a xs b → Contains (a ∷ xs) s → IsPoint m s
path-point m a b s [] point l at = elim (Contains-cases a s [] at) [ inl same ↦ subst (IsPoint m) (sym same) point | inr later ↦ absurd (Contains-none s later) ]
path-point m a b s (x ∷ xs) point l at = elim (Contains-cases a s (x ∷ xs) at) [
  | inl same ↦ subst (IsPoint m) (sym same) point
  | inr later ↦ path-point m x b s xs (Near-to m a x l.0) l.1 later
]

module _ (m : Map) (side : SideName) where
  -- s is the least level at which the two ranks are joined
  abbrev pub IsLevelOf : Rank → Rank → Rank → Type 0
  IsLevelOf = IsLevel (Near m) (below_by side) (below_by-order side)

  -- the first point is not above the top
  pub top-head : (a : Rank) (xs : List Rank) (t : Rank) → IsTop (below_by side) t (a ∷ xs) → IsNotAbove (below_by side) a t
  top-head a xs t top = All-head (λ x. IsNotAbove (below_by side) x t) a xs top.none_above

  pub level-from_saddle : (a b s : Rank) → IsSaddle m side a b s → IsLevelOf a b s
  level-from_saddle a b s h =
      let top = h.reached.2 in
      let point = h.reached.1.point in
      record {
        from_low = top-head a h.reached.0 s top;
        joined = reach-from_path (Near m) (below_by side) (below_by-order side) s a b h.reached.0 h.reached.1.leads top.none_above;
        least = λ t low r. (
            let p = path-from_reach (Near m) (below_by side) (below_by-order side) t low r in
            let u = top_of (below_by side) (below_by-order side) a p.0 in
            not_above-trans (below_by side) (below_by-order side) s u.0 t (h.least p.0 u.0 (record { point = point; leads = p.1 }) u.1)
            (top-not_above (below_by side) (below_by-order side) u.0 t (a ∷ p.0) u.1 p.2));
      }

  pub saddle-from_level : (a b s : Rank) → IsPoint m a → IsLevelOf a b s → IsSaddle m side a b s
  saddle-from_level a b s point h =
      let p = path-from_reach (Near m) (below_by side) (below_by-order side) s h.from_low h.joined in
      let u = top_of (below_by side) (below_by-order side) a p.0 in
      let low : IsNotAbove (below_by side) u.0 s = top-not_above (below_by side) (below_by-order side) u.0 s (a ∷ p.0) u.1 p.2 in
      let high : IsNotAbove (below_by side) s u.0 = h.least u.0 (top-head a p.0 u.0 u.1) (reach-from_path (Near m) (below_by side) (below_by-order side) u.0 a b p.0 p.1 u.1.none_above) in
      let same : u.0 ≡ s = (below_by-order side).total u.0 s high low in
      record {
        reached = (p.0, record { point = point; leads = p.1 }, subst (λ (x : Rank). IsTop (below_by side) x (a ∷ p.0)) same u.1);
        least = λ xs t path top. h.least t (top-head a xs t top) (reach-from_path (Near m) (below_by side) (below_by-order side) t a b xs path.leads top.none_above);
      }

  -- a saddle is a point
  pub saddle-point : (a b s : Rank) → IsSaddle m side a b s → IsPoint m s
  saddle-point a b s h = let reached = h.reached in path-point m a b s reached.0 reached.1.point reached.1.leads reached.2.one_of

  -- there is one saddle at most
  pub saddle-unique : (a b s u : Rank) → IsSaddle m side a b s → IsSaddle m side a b u → s ≡ u
  saddle-unique a b s u h k = level-unique (Near m) (below_by side) (below_by-order side) a b s u (level-from_saddle a b s h) (level-from_saddle a b u k)

  -- it is the same both ways
  pub saddle-sym : (a b s : Rank) → IsSaddle m side a b s → IsSaddle m side b a s
  saddle-sym a b s h =
      let l = level-from_saddle a b s h in
      saddle-from_level b a s (reach-point m side s h.reached.1.point l.joined) (level-sym (Near m) (below_by side) (below_by-order side) (near-sym m) a b s l)

  -- that of a and c is not above the higher of those by way of b
  pub saddle-ultrametric : (a b c s t u : Rank) → IsSaddle m side a b s → IsSaddle m side b c t → IsSaddle m side a c u → IsNotAbove (below_by side) u s ⊎ IsNotAbove (below_by side) u t
  saddle-ultrametric a b c s t u h k n =
      level-ultrametric (Near m) (below_by side) (below_by-order side) a b c s t u (level-from_saddle a b s h) (level-from_saddle b c t k) (level-from_saddle a c u n)

  -- where a path joins two there is a saddle
  pub saddle-exists : (a b : Rank) (xs : List Rank) → IsPath m a xs b → (s : Rank) × IsSaddle m side a b s
  saddle-exists a b xs path =
      let top = top_of (below_by side) (below_by-order side) a xs in
      let level = level_exists (Near m) (below_by side) (below_by-order side) (near_or_not m) (ranks_of m) (λ x y near. point-listed m y (Near-to m x y near))
      top.0 a b (top-head a xs top.0 top.1) (reach-from_path (Near m) (below_by side) (below_by-order side) top.0 a b xs path.leads top.1.none_above) in
      (level.0, saddle-from_level a b level.0 path.point level.1)

  path-rises : (p q s : Rank) (xs : List Rank) → IsPit m side p → p ≢ q → Leads (Near m) p xs q → NoneAbove (below_by side) s (p ∷ xs) → below_by side p s ≡ true
  path-rises p q s [] pit apart l none = absurd (apart l)
  path-rises p q s (x ∷ xs) pit apart l none = elim (compare (below_by side) (below_by-order side) p x) [
    | inl up ↦
        let P : Rank → Type 0 = λ y. IsNotAbove (below_by side) y s in
        below-along (below_by side) (below_by-order side) p x s up (All-head P x xs (All-tail P p (x ∷ xs) none))
    | inr r ↦ elim r [
      | inl down ↦ absurd (pit.alone x (record { near = l.0; below = down }))
      | inr same ↦ absurd (Near-apart m p x l.0 same)
    ]
  ]

  -- the saddle of a pit and another point is above that pit
  pub saddle-above_pit : (p q s : Rank) → IsPit m side p → p ≢ q → IsSaddle m side p q s → below_by side p s ≡ true
  saddle-above_pit p q s pit apart h = let reached = h.reached in path-rises p q s reached.0 pit apart reached.1.leads reached.2.none_above

  -- the saddle of two different pits is above both
  pub saddle-above_pits : (p q s : Rank) → IsPit m side p → IsPit m side q → p ≢ q → IsSaddle m side p q s → (below_by side p s ≡ true) × (below_by side q s ≡ true)
  saddle-above_pits p q s pit pit' apart h = (saddle-above_pit p q s pit apart h, saddle-above_pit q p s pit' (λ e. apart (sym e)) (saddle-sym p q s h))
