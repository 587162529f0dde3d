-- The pits, saddles and owners of a pruning are points of the map.
use Rattle.std.proofs.Common.{ℕ, ℤ, Bool, true, false, List, [], ◌∷◌, get_or, cond, inl, inr, sym, subst}
use Rattle.std.specs.Prelude.{All, Contains, filter, if◌then◌else◌}
use Rattle.std.proofs.lemmas.List.Elements.{Contains-get_or}
use Rattle.hd_map.specs.declared.types.Rank.{Rank}
use Rattle.hd_map.specs.declared.types.SideName.{SideName}
use Rattle.hd_map.specs.Map.{Map}
use Rattle.hd_map.specs.Pruning.{Leaving, differ, without, handed, IsPruneStep, Prunes, over, goes_on, IsPruning}
use Rattle.hd_map.specs.Rank.{IsPoint, below_by}
use Rattle.hd_map.specs.Region.{IsPit}
use Rattle.hd_map.proofs.Levels.{Contains-cases, Contains-none, Contains-head, Contains-tail}
use Rattle.hd_map.proofs.Nexts.{root-is_pit}
use Rattle.hd_prune.specs.declared.step.Step.{Step}
use Rattle.hd_prune.specs.Pruned.{leaving_of, leavings_of}
use Rattle.hd_survey.specs.Inside.{IsStepOn}
use Rattle.hd_survey.proofs.Inside.{path_point}
use Rattle.hd_map.proofs.Points.{point_inside}

-- what passes a test was there before
filtered : {X : Type 0} (test : X → Bool) (xs : List X) (y : X) → Contains (filter test xs) y → Contains xs y
filtered test [] y h = absurd (Contains-none y h)
filtered test (x ∷ xs) y h = elim (test x) as (λ v. Contains (cond v (x ∷ filter test xs) (filter test xs)) y → Contains (x ∷ xs) y) [
  | true ↦ λ k. elim (Contains-cases x y (filter test xs) k) [
    | inl same ↦ subst (Contains (x ∷ xs)) (sym same) (Contains-head x xs)
    | inr later ↦ Contains-tail x y xs (filtered test xs y later)
  ]
  | false ↦ λ k. Contains-tail x y xs (filtered test xs y k)
] h

mapped : (xs : List Step) (x : Step) → Contains xs x → Contains (leavings_of xs) (leaving_of x)
mapped [] x there = absurd (Contains-none x there)
mapped (y ∷ ys) x there = elim (Contains-cases y x ys there) [
  | inl same ↦ subst (λ z. Contains (leavings_of (y ∷ ys)) (leaving_of z)) (sym same) (Contains-head (leaving_of y) (leavings_of ys))
  | inr later ↦ Contains-tail (leaving_of y) (leaving_of x) (leavings_of ys) (mapped ys x later)
]

module _ (m : Map) (side : SideName) where
  -- the kept are pits, and pits own pits
  pub record ArePitsStill (kept : List Rank) (owner : Rank → Rank) : Type 0 where
    pub are_kept : (p : Rank) → Contains kept p → IsPit m side p
    pub owners : (p : Rank) → IsPit m side p → IsPit m side (owner p)

  -- the three points of a step
  pub record IsStepOfPits (x : Leaving) : Type 0 where
    pub pit : IsPit m side x.pit
    pub saddle : IsPoint m x.saddle
    pub into : IsPit m side x.into

  chosen : (test : Bool) (p o : Rank) → IsPit m side p → IsPit m side o → IsPit m side (if test then p else o)
  chosen true p o a b = a
  chosen false p o a b = b

  module _ (thousandths : ℕ) (sz : ℤ) where
    step_pits : (kept : List Rank) (owner : Rank → Rank) (x : Leaving) → ArePitsStill kept owner → IsPruneStep m side thousandths sz kept owner x → IsStepOfPits x
    step_pits kept owner x still step =
        let pit : IsPit m side x.pit = still.are_kept x.pit step.smallest.is_kept in
        let reached = (step.smallest.nearest.reached.3).reached in
        let taken = step.taken_over in
        record {
          pit = pit;
          saddle = path_point m x.pit step.smallest.nearest.reached.0 x.saddle reached.0 reached.1.point reached.1.leads reached.2.one_of;
          into = subst (IsPit m side) (sym taken.into) (still.owners taken.root (root-is_pit m side taken.neighbour taken.root taken.across.beyond.root));
        }

    still_after : (kept : List Rank) (owner : Rank → Rank) (x : Leaving) → ArePitsStill kept owner → IsStepOfPits x
        → ArePitsStill (without (below_by side) x.pit kept) (handed (below_by side) x.pit x.into owner)
    still_after kept owner x still step = record {
      are_kept = λ p there. still.are_kept p (filtered (λ q. differ (below_by side) x.pit q) kept p there);
      owners = λ p pit. chosen (differ (below_by side) x.pit (owner p)) (owner p) x.into (still.owners p pit) step.into;
    }

    -- each step of a pruning, and its end
    pub prunes_pits : {kept last : List Rank} {owner ends : Rank → Rank} {steps : List Leaving} → ArePitsStill kept owner → Prunes m side thousandths sz kept owner steps last ends
        → ((x : Leaving) → Contains steps x → IsStepOfPits x) × ArePitsStill last ends
    prunes_pits still (over none) = (λ x there. absurd (Contains-none x there), still)
    prunes_pits {kept} {last} {owner} {ends} still (goes_on {x = x} {steps = steps} step rest) =
        let first : IsStepOfPits x = step_pits kept owner x still step in
        let later = prunes_pits (still_after kept owner x still first) rest in (
          λ y there. elim (Contains-cases x y steps there) [
            | inl same ↦ subst IsStepOfPits (sym same) first
            | inr more ↦ later.0 y more
          ],
          later.1,
        )

  -- the steps, the last set and the last owners of a pruning
  pub pruning_pits : (thousandths : ℕ) (steps : List Leaving) (last : List Rank) (owner : Rank → Rank) → IsPruning m side thousandths steps last owner
      → ((x : Leaving) → Contains steps x → IsStepOfPits x) × ArePitsStill last owner
  pruning_pits thousandths steps last owner is =
      prunes_pits thousandths is.sz (record { are_kept = λ p there. (is.are_pits.exactly p).0 there; owners = λ p pit. pit }) is.prunes

  pub steps_inside : (steps : List Step) → ((x : Leaving) → Contains (leavings_of steps) x → IsStepOfPits x) → All (IsStepOn m.size) steps
  steps_inside steps all k d below =
      let x : Step = get_or steps k d in
      let there : Contains (leavings_of steps) (leaving_of x) = mapped steps x (Contains-get_or steps k d below) in
      let pits : IsStepOfPits (leaving_of x) = all (leaving_of x) there in
      (point_inside m x.pit pits.pit.point, point_inside m x.saddle pits.saddle, point_inside m x.into pits.into.point)
