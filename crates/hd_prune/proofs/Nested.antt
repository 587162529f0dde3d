-- Each map has a pruning; it keeps exactly the pits that no pit undercuts, and so, at a greater percent, no other pits.
use Rattle.std.proofs.Common.{◌≡◌, ℕ, ◌≤◌, ◌*◌, inl, inr, true, List, sym, subst, arith}
use Rattle.std.specs.Prelude.{Contains, ◌↔◌, ℤ, pos, negsuc, ◌*ℤ◌, ◌≤ℤ◌, int_lt}
use Rattle.std.proofs.Math.Nat.{mul-le-mul_right}
use Rattle.std.proofs.lemmas.Int.{ints}
use Rattle.std.proofs.lemmas.Bool.Decides.{nat_tests}
use Rattle.hd_map.specs.declared.types.Rank.{Rank}
use Rattle.hd_map.specs.declared.types.SideName.{SideName}
use Rattle.hd_map.specs.Map.{Map, IsMap}
use Rattle.hd_map.specs.NearestSaddle.{local_height}
use Rattle.hd_map.specs.Pruning.{Leaving, Prunes, goes, SzIs, IsPruning}
use Rattle.hd_map.specs.Rank.{below_by}
use Rattle.hd_map.specs.Region.{IsPit}
use Rattle.hd_map.specs.Undercut.{Undercuts}
use Rattle.hd_map.proofs.Prunings.{sz-unique, prunes-unique}
use Rattle.hd_prune.specs.declared.step.Kept.{Kept}
use Rattle.hd_prune.specs.declared.step.Owned.{Owned}
use Rattle.hd_prune.specs.declared.step.Step.{Step}
use Rattle.hd_prune.specs.Answer.{IsPruned}
use Rattle.hd_prune.specs.Heights.{local_on}
use Rattle.hd_prune.specs.Kept.{AreNotUndercut}
use Rattle.hd_prune.specs.Pruned.{leavings_of}
use Rattle.hd_prune.proofs.Elder.{left_after}
use Rattle.hd_prune.proofs.ElderSteps.{elder_steps}
use Rattle.hd_prune.proofs.Existing.{list_of_pits, sz_of}
use Rattle.hd_prune.proofs.MapPruning.{left-undercut}
use Rattle.hd_prune.proofs.JoinedByPaths.{JoinedBy}
use Rattle.hd_prune.proofs.MapPrunable.{prunable}
use Rattle.hd_prune.proofs.ElderPruning.{pruning_of}

-- what goes at a percent goes at each greater one
higher_goes : (a b : ℕ) (sz : ℤ) (n : ℕ) → a ≤ b → pos 0 ≤ℤ sz → goes a sz n ≡ true → goes b sz n ≡ true
higher_goes a b (negsuc k) n le small h = absurd (omega (arith, ints))
higher_goes a b (pos k) n le small h = more (a * k) (b * k) (mul-le-mul_right k le) h
  where
    more : (x y : ℕ) → x ≤ y → int_lt (pos n *ℤ pos 100000) (pos x) ≡ true → int_lt (pos n *ℤ pos 100000) (pos y) ≡ true
    more x y less g = grind (arith, ints, nat_tests)

sz-at_least : (m : Map) (sz : ℤ) → SzIs m sz → pos 0 ≤ℤ sz
sz-at_least m sz (inl h) = (let le = (h.4 h.0 h.2).1 in let e = h.5 in omega (arith, ints))
sz-at_least m sz (inr h) = (let e = h.1 in omega (arith, ints))

-- each map is pruned on each side at each percent
pub exists : (m : Map) (side : SideName) (thousandths : ℕ) → IsMap m → (steps : List Leaving) × (last : List Rank) × (owner : Rank → Rank) × IsPruning m side thousandths steps last owner
exists m side thousandths whole =
    let all = list_of_pits m whole side in
    let sz = sz_of m whole in
    let laws = prunable m side thousandths sz.0 all.0 all.1.exactly in
    let steps = elder_steps (below_by side) (JoinedBy m side) (local_on side) (goes thousandths sz.0) all.0 laws all.0 (λ q at. at) in
    let pruning = pruning_of m whole side thousandths sz.0 all.0 all.1.exactly laws steps.0 steps.1 in
    (pruning.0, left_after (below_by side) all.0 steps.0, pruning.1, record { pits = all.0; are_pits = all.1; sz = sz.0; sz_is = sz.1; prunes = pruning.2 })

-- pruning keeps exactly the pits that no pit undercuts
pub keeps-undercut : (m : Map) (side : SideName) (thousandths : ℕ) (sz : ℤ) (xs : List Leaving) (last : List Rank) (owner : Rank → Rank) → IsMap m
    → IsPruning m side thousandths xs last owner → SzIs m sz →
    (p : Rank) → Contains last p ↔ (IsPit m side p × ((q : Rank) → Undercuts m side thousandths sz q p → ⊥))
keeps-undercut m side thousandths sz xs last owner whole h is p =
    let pits : List Rank = h.pits in
    let is_pit : (r : Rank) → Contains pits r ↔ IsPit m side r = h.are_pits.exactly in
    let laws = prunable m side thousandths sz pits is_pit in
    let steps = elder_steps (below_by side) (JoinedBy m side) (local_on side) (goes thousandths sz) pits laws pits (λ q at. at) in
    let r = pruning_of m whole side thousandths sz pits is_pit laws steps.0 steps.1 in
    let prunes : Prunes m side thousandths sz pits (λ p. p) xs last owner = subst (λ (z : ℤ). Prunes m side thousandths z pits (λ p. p) xs last owner) (sz-unique m h.sz sz h.sz_is is) h.prunes in
    let same : last ≡ left_after (below_by side) pits steps.0 = (prunes-unique m side thousandths sz prunes r.2).1 in
    subst (λ (ls : List Rank). Contains ls p ↔ (IsPit m side p × ((q : Rank) → Undercuts m side thousandths sz q p → ⊥))) (sym same)
    (left-undercut m whole side thousandths sz pits is_pit laws steps.0 steps.1 p)

-- and so do the kept pits of what pruning gives
pub pruned-undercut : (m : Map) (side : SideName) (thousandths : ℕ) (sz : ℤ) (steps : List Step) (kept : List Kept) (owners : List Owned) → IsMap m → SzIs m sz
    → IsPruned m side thousandths steps kept owners →
    AreNotUndercut m side thousandths sz kept
pruned-undercut m side thousandths sz steps kept owners whole is h =
    subst (λ (ps : List Rank). (p : Rank) → Contains ps p ↔ (IsPit m side p × ((q : Rank) → Undercuts m side thousandths sz q p → ⊥))) (sym h.are_kept.pits)
    (keeps-undercut m side thousandths sz (leavings_of steps) h.last h.owner whole h.pruning is)

-- the pits kept at the greater of two percents are all kept at the lesser
pub nested : (m : Map) (side : SideName) (a b : ℕ) (xs ys : List Leaving) (last end : List Rank) (mine yours : Rank → Rank) → IsMap m → a ≤ b → IsPruning m side a xs last mine
    → IsPruning m side b ys end yours →
    (p : Rank) → Contains end p → Contains last p
nested m side a b xs ys last end mine yours whole le h k p at =
    let sz : ℤ = h.sz in
    let more = (keeps-undercut m side b sz ys end yours whole k h.sz_is p).0 at in
    (keeps-undercut m side a sz xs last mine whole h h.sz_is p).1 (
      more.0,
      λ q u. more.1 q (record {
        is_pit = u.is_pit;
        lower = u.lower;
        saddle = u.saddle;
        is_saddle = u.is_saddle;
        goes_away = higher_goes a b sz (local_height p u.saddle) le (sz-at_least m sz h.sz_is) u.goes_away;
      }),
    )
