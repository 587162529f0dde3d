-- Where the lower neighbours of all points are served, the passes join regions wherever they meet, no higher.
use Rattle.std.proofs.Common.{◌≡◌, ◌<◌, ℕ, zero, suc, true, false, cond, List, [], ◌∷◌, inl, inr, ◌∙◌, sym, subst, refl, arith}
use Rattle.std.proofs.lemmas.List.Elements.{All-nil, All-cons}
use Rattle.hd_map.specs.declared.types.Pass.{Pass}
use Rattle.hd_map.specs.declared.types.Rank.{Rank}
use Rattle.hd_map.specs.declared.types.SideName.{SideName}
use Rattle.hd_map.specs.Map.{Map, IsMap}
use Rattle.hd_map.specs.Order.{IsNotAbove}
use Rattle.hd_map.specs.Passes.{higher_by}
use Rattle.hd_map.specs.Path.{Leads}
use Rattle.hd_map.specs.Rank.{below_by, IsPoint, Near}
use Rattle.hd_map.specs.Region.{LowerNeighbour, IsRoot, AreRegions}
use Rattle.hd_map.specs.SideLaws.{below_by-order}
use Rattle.hd_map.specs.Walks.{HasPass, passes_of, AreJoinedWithin}
use Rattle.hd_map.proofs.Depth.{depth_by, depth_falls}
use Rattle.hd_map.proofs.Levels.{Reach, here, step, reach-trans, reach-sym}
use Rattle.hd_map.proofs.Nexts.{root-unique}
use Rattle.hd_map.proofs.Points.{Near-from, Near-to}
use Rattle.hd_map.proofs.Saddles.{near-sym}
use Rattle.hd_map.proofs.Order.{not_above-refl, not_above-trans, below-not_above}
use Rattle.hd_steep.specs.Crossed.{AreBeside, IsServed, IsCrossed}

-- the root of a point
root_of : (m : Map) (side : SideName) (labels : List _) → AreRegions m side labels → (x : Rank) → IsPoint m x → (r : Rank) × IsRoot m side x r
root_of m side labels regions x point = let found = regions.present point.at point.present in (found.0, subst (λ (p : Rank). IsRoot m side p found.0) (sym point.rank_is) found.1)

module _ (m : Map) (side : SideName) (passes : List Pass) where
  -- a pass that is not above t
  abbrev PassStep : Rank → Rank → Rank → Type 0
  PassStep t a b = (w : Rank) × HasPass passes a b w × IsNotAbove (below_by side) w t

  -- passes not above t lead from one to the other
  abbrev Joined : Rank → Rank → Rank → Type 0
  Joined t a b = Reach (PassStep t) a b

  joined_higher : (t u : Rank) → IsNotAbove (below_by side) t u → {a b : Rank} → Joined t a b → Joined u a b
  joined_higher t u low here = here
  joined_higher t u low (step s r) = step (s.0, s.1, not_above-trans (below_by side) (below_by-order side) s.0 t u s.2 low) (joined_higher t u low r)

  swap_pass : (a b w : Rank) → HasPass passes a b w → HasPass passes b a w
  swap_pass a b w (inl h) = inr h
  swap_pass a b w (inr h) = inl h

  joined_back : (t : Rank) {a b : Rank} → Joined t a b → Joined t b a
  joined_back t r = reach-sym (PassStep t) (λ a b s. (s.0, swap_pass a b s.0 s.1, s.2)) r

  -- such passes are a walk
  walk_of : (t : Rank) {a b : Rank} → Joined t a b → AreJoinedWithin (below_by side) passes t a b
  walk_of t here = ([], refl, All-nil (λ y. IsNotAbove (below_by side) y t))
  walk_of t (step {a} {b} {c} s r) =
      let rest = walk_of t r in
      (record { to = b; at = s.0 } ∷ rest.0, (s.1, rest.1), All-cons (λ y. IsNotAbove (below_by side) y t) s.0 (passes_of rest.0) s.2 rest.2)

  module _ (whole : IsMap m) (labels : List _) (regions : AreRegions m side labels)
      (served : (x y : Rank) → LowerNeighbour m side x y → IsServed m side passes x y) where
    -- at a point, its region and those of its lower neighbours are joined
    abbrev AreJoinedAt : Rank → Type 0
    AreJoinedAt x = (y a b : Rank) → LowerNeighbour m side x y → IsRoot m side x a → IsRoot m side y b → Joined x a b

    -- two lower neighbours beside each other are joined below
    beside_joined : (x : Rank) → ((z : Rank) → IsPoint m z → below_by side z x ≡ true → AreJoinedAt z)
        → (y z a b : Rank) → AreBeside m side x y z → IsRoot m side y a → IsRoot m side z b → Joined x a b
    beside_joined x joined y z a b beside from to = elim (below_by side y z) as (λ v. below_by side y z ≡ v → Joined x a b) [
      | true ↦ λ e.
          let low = beside.to.below in
          joined_higher z x (below-not_above (below_by side) (below_by-order side) z x low)
          (joined_back z (joined z (Near-to m y z beside.near) low y b a (record { near = near-sym m y z beside.near; below = e }) to from))
      | false ↦ λ e. elim (below_by side z y) as (λ v. below_by side z y ≡ v → Joined x a b) [
        | true ↦ λ f.
            let low = beside.from.below in
            joined_higher y x (below-not_above (below_by side) (below_by-order side) y x low)
            (joined y (Near-from m y z beside.near) low z a b (record { near = beside.near; below = f }) from to)
        | false ↦ λ f.
            let same : y ≡ z = (below_by-order side).total y z e f in
            let one : a ≡ b = root-unique m side z a b (subst (λ (r : Rank). IsRoot m side r a) same from) to in
            subst (λ (r : Rank). Joined x a r) one here
      ] refl
    ] refl

    -- and so is each that a way leads to
    way_joined : (x : Rank) → ((z : Rank) → IsPoint m z → below_by side z x ≡ true → AreJoinedAt z)
        → (y z a b : Rank) (way : List Rank) → Leads (AreBeside m side x) y way z → IsRoot m side y a → IsRoot m side z b → Joined x a b
    way_joined x joined y z a b [] leads from to = subst (λ (r : Rank). Joined x a r) (root-unique m side z a b (subst (λ (r : Rank). IsRoot m side r a) leads from) to) here
    way_joined x joined y z a b (w ∷ way) leads from to =
        let mid = root_of m side labels regions w (Near-to m y w leads.0.near) in
        reach-trans (PassStep x) (beside_joined x joined y w a mid.0 leads.0 from mid.1) (way_joined x joined w z mid.0 b way leads.1 mid.1 to)

    -- what is crossed is joined
    crossed_joined : (x y a b : Rank) → IsCrossed m side passes x y → IsRoot m side x a → IsRoot m side y b → Joined x a b
    crossed_joined x y a b crossed from to =
        let ea : crossed.a ≡ a = root-unique m side x crossed.a a crossed.from from in
        let eb : crossed.b ≡ b = root-unique m side y crossed.b b crossed.to to in
        elim crossed.by [
          | inl same ↦ subst (λ (r : Rank). Joined x a r) (sym ea ∙ same ∙ eb) here
          | inr pass ↦
              let there : HasPass passes a b x = subst (λ (r : Rank). HasPass passes r b x) ea (subst (λ (r : Rank). HasPass passes crossed.a r x) eb pass) in
              step (x, there, not_above-refl (below_by side) (below_by-order side) x) here
        ]

    -- at each point of less depth than n
    joined_below : (n : ℕ) (x : Rank) → IsPoint m x → depth_by side x < n → AreJoinedAt x
    joined_below zero x point less y a b low from to = absurd (omega (arith, less))
    joined_below (suc n) x point less y a b low from to =
        let deeper : (z : Rank) → IsPoint m z → below_by side z x ≡ true → AreJoinedAt z = λ z there under.
        joined_below n z there (let falls = depth_falls m side z x whole there point under in omega (arith, falls, less)) in
        let s = served x y low in
        let end = s.crossed in
        reach-trans (PassStep x) (crossed_joined x s.last a end.b end from end.to) (joined_back x (way_joined x deeper y s.last b end.b s.way s.along to end.to))

    joined_at : (x : Rank) → AreJoinedAt x
    joined_at x y a b low = joined_below (suc (depth_by side x)) x (Near-from m x y low.near) (omega arith) y a b low

    -- where two regions meet, they are joined no higher
    pub meeting_joined : (x y a b : Rank) → Near m x y → IsRoot m side x a → IsRoot m side y b → AreJoinedWithin (below_by side) passes (higher_by side x y) a b
    meeting_joined x y a b near from to = walk_of (higher_by side x y) (elim (below_by side x y) as (λ v. below_by side x y ≡ v → Joined (cond v y x) a b) [
      | true ↦ λ e. joined_back y (joined_at y x b a (record { near = near-sym m x y near; below = e }) to from)
      | false ↦ λ e. elim (below_by side y x) as (λ v. below_by side y x ≡ v → Joined x a b) [
        | true ↦ λ f. joined_at x y a b (record { near = near; below = f }) from to
        | false ↦ λ f.
            let same : x ≡ y = (below_by-order side).total x y e f in
            let one : a ≡ b = root-unique m side y a b (subst (λ (r : Rank). IsRoot m side r a) same from) to in
            subst (λ (r : Rank). Joined x a r) one here
      ] refl
    ] refl)
