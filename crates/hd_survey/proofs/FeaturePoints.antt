-- What pruning keeps are points of the map, in position order.
use Rattle.std.proofs.Common.{◌≡◌, ◌<◌, ℕ, ℤ, List, get_or, sym, subst}
use Rattle.std.specs.Prelude.{All, AllPairs, Contains}
use Rattle.std.proofs.lemmas.Bool.{cond_both}
use Rattle.std.proofs.lemmas.List.Elements.{All-filter, Contains-get_or}
use Rattle.std.proofs.lemmas.List.Kept.{AllPairs-filter}
use Rattle.hd_map.specs.declared.types.Rank.{Rank}
use Rattle.hd_map.specs.declared.types.SideName.{SideName}
use Rattle.hd_map.specs.Map.{Map, IsMap, cell_count}
use Rattle.hd_map.specs.NearestSaddle.{IsNearestSaddle, NearestSaddleIs}
use Rattle.hd_map.specs.Pruning.{Leaving, Prunes, IsPruning, differ, over, goes_on}
use Rattle.hd_map.specs.Rank.{IsPoint, below_by}
use Rattle.hd_map.specs.Region.{IsPit}
use Rattle.hd_map.proofs.Nexts.{root-is_pit}
use Rattle.hd_prune.specs.declared.step.Kept.{Kept}
use Rattle.hd_prune.specs.declared.step.Owned.{Owned}
use Rattle.hd_prune.specs.Kept.{AreKept}
use Rattle.hd_prune.specs.Pruned.{owned_by}
use Rattle.hd_survey.specs.Heights.{HasHeights}
use Rattle.hd_prune.proofs.Spans.{point_height}
use Rattle.hd_survey.proofs.Inside.{path_point}
use Rattle.hd_map.proofs.Points.{point_inside}
use Rattle.hd_survey.proofs.Lists.{All-map, All-unmap, AllPairs-unmap}

module _ (m : Map) (side : SideName) where
  -- a nearest saddle is a point
  pub nearest_point : (last : List Rank) (p s : Rank) → IsNearestSaddle m side last p s → IsPoint m s
  nearest_point last p s near =
      let way = near.reached.3.reached in
      path_point m p near.reached.0 s way.0 way.1.point way.1.leads way.2.one_of

  module _ (thousandths : ℕ) (sz : ℤ) where
    -- the last set keeps the order of the first
    last_in_order : {kept last : List Rank} {owner ends : Rank → Rank} {steps : List Leaving} → Prunes m side thousandths sz kept owner steps last ends
        → AllPairs (λ a b. a.index < b.index) kept → AllPairs (λ a b. a.index < b.index) last
    last_in_order (over none) h = h
    last_in_order {kept} (goes_on {x = x} step rest) h = last_in_order rest (AllPairs-filter (λ (a : Rank) (b : Rank). a.index < b.index) (λ q. differ (below_by side) x.pit q) kept h)

    -- what holds of each pit holds of each kept one
    last_each : (P : Rank → Type 0) {kept last : List Rank} {owner ends : Rank → Rank} {steps : List Leaving} → Prunes m side thousandths sz kept owner steps last ends
        → All P kept → All P last
    last_each P (over none) h = h
    last_each P {kept} (goes_on {x = x} step rest) h = last_each P rest (All-filter (λ q. differ (below_by side) x.pit q) P kept h)

    -- an owner is a point
    owner_point : {kept last : List Rank} {owner ends : Rank → Rank} {steps : List Leaving} → Prunes m side thousandths sz kept owner steps last ends
        → ((r : Rank) → IsPoint m r → IsPoint m (owner r)) → (r : Rank) → IsPoint m r → IsPoint m (ends r)
    owner_point (over none) h = h
    owner_point {owner = owner} (goes_on {x = x} step rest) h =
        let taken = step.taken_over in
        let into : IsPoint m x.into = subst (IsPoint m) (sym taken.into) (h taken.root (root-is_pit m side taken.neighbour taken.root taken.across.beyond.root).point) in
        owner_point rest (λ r point. cond_both (differ (below_by side) x.pit (owner r)) (owner r) x.into (IsPoint m) (λ _. h r point) (λ _. into))

-- each pit of a list that has the pits
pits_each : (m : Map) (side : SideName) (pits : List Rank) → ((p : Rank) → Contains pits p → IsPit m side p) → All (IsPit m side) pits
pits_each m side pits each k d below = each (get_or pits k d) (Contains-get_or pits k d below)

module _ (m : Map) (side : SideName) (thousandths : ℕ) (whole : IsMap m) (steps : List Leaving) (last : List Rank) (owner : Rank → Rank) (pruning : IsPruning m side thousandths steps last owner) where
  pits_points : All (IsPoint m) pruning.pits
  pits_points k d below = (pits_each m side pruning.pits (λ p. (pruning.are_pits.exactly p).0) k d below).point

  module _ (kept : List Kept) (are : AreKept m side last kept) where
    kept_points : All (λ k. IsPoint m k.pit) kept
    kept_points = All-unmap {X = Kept} {Y = Rank} (λ k. k.pit) (IsPoint m) kept (subst (λ (ps : List Rank). All (IsPoint m) ps) (sym are.pits)
        (last_each m side thousandths pruning.sz (IsPoint m) pruning.prunes pits_points))

    pub kept_ordered : AllPairs (λ a b. a.pit.index < b.pit.index) kept
    kept_ordered = AllPairs-unmap {X = Kept} {Y = Rank} (λ k. k.pit) (λ a b. a.index < b.index) kept
        (subst (λ (ps : List Rank). AllPairs (λ a b. a.index < b.index) ps) (sym are.pits) (last_in_order m side thousandths pruning.sz pruning.prunes pruning.are_pits.in_order))

    pub kept_inside : All (λ k. k.pit.index < cell_count m.size) kept
    kept_inside k d below = point_inside m (get_or kept k d).pit (kept_points k d below)

    pub kept_heights : All HasHeights kept
    kept_heights k d below =
        let one : Kept = get_or kept k d in
        record {
          pit = point_height m one.pit whole (kept_points k d below);
          nearest = λ s is. point_height m s whole (nearest_point m side last one.pit s
              (subst (NearestSaddleIs m side last one.pit) is (are.nearest one (Contains-get_or kept k d below))));
        }

  module _ (owners : List Owned) (are : owners ≡ owned_by owner pruning.pits) where
    abbrev make : Rank → Owned
    make p = record { pit = p; owner = owner p }

    pub owners_owned : All (λ o. o.owner.index < cell_count m.size) owners
    owners_owned = subst (λ (os : List Owned). All (λ o. o.owner.index < cell_count m.size) os) (sym are)
        (All-map make (λ o. o.owner.index < cell_count m.size) pruning.pits (λ k d below. point_inside m (owner (get_or pruning.pits k d))
        (owner_point m side thousandths pruning.sz pruning.prunes (λ r point. point) (get_or pruning.pits k d) (pits_points k d below))))
