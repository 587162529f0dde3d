-- The points that a test of their roots tells, as members of a set and by their indexes.
use Rattle.std.proofs.Common.{◌≡◌, ◌<◌, ◌∙◌, ℕ, Bool, true, inl, inr, List, [], ◌∷◌, length, refl, get_or, map, Option, Some, None, sym, ap, subst, nat_eq, arith}
use Rattle.std.specs.Prelude.{Contains, filter}
use Rattle.std.specs.List.{range_with_len}
use Rattle.std.proofs.lemmas.Bool.Decides.{nat_tests}
use Rattle.std.proofs.lemmas.List.{length-map}
use Rattle.std.proofs.lemmas.List.Kept.{AllPairs-filter}
use Rattle.std.proofs.lemmas.Option.{slice_get-get_or}
use Rattle.hd_lines.specs.Lines.{IsOwnedBy}
use Rattle.hd_map.specs.declared.types.Pos.{Pos}
use Rattle.hd_map.specs.declared.types.Rank.{Rank}
use Rattle.hd_map.specs.declared.types.SideName.{SideName}
use Rattle.hd_map.specs.Map.{Map, IsMap, InGrid, Present, cell_count, place_of, position_at}
use Rattle.hd_map.specs.Rank.{IsPoint, rank}
use Rattle.hd_map.specs.Region.{AreRegions, IsPit, IsRoot}
use Rattle.hd_map.specs.Sums.{IsCount, ListsEach}
use Rattle.hd_map.proofs.Nexts.{root-is_pit, root-unique}
use Rattle.hd_map.proofs.Points.{Near-from, place_inside, point_at, position_at-inside, position_at-place, present_or_not, same_index}
use Rattle.hd_prune.proofs.Ranges.{Contains-range, range-Contains, range-rises}
use Rattle.hd_survey.specs.Owned.{owns}
use Rattle.hd_survey.specs.Regions.{names, rank_at}
use Rattle.hd_survey.proofs.EdgeHeights.{AreMembers}
use Rattle.hd_survey.proofs.Lists.{AllPairs-map, Contains-filter, Contains-map, filter-Contains, map-Contains}
use Rattle.hd_survey.proofs.MapPits.{pit_rank, rank_at-position}
use Rattle.hd_survey.proofs.RootedPoints.{root_entry}

-- what has a root is a point
pub rooted-point : (m : Map) (side : SideName) (p r : Rank) → IsRoot m side p r → IsPoint m p
rooted-point m side p r ([], end) = end.1.point
rooted-point m side p r (q ∷ qs, steps) = Near-from m p q steps.0.lower.near

-- a test of the roots tells the members of a set
pub record TellsMembers (m : Map) (side : SideName) (test : Option ℕ → Bool) (Member : Rank → Type 0) : Type 0 where
  pub rooted : (p r : Rank) → IsRoot m side p r → test (Some r.index) ≡ true → Member p
  pub member : (p : Rank) → Member p → (r : Rank) × IsRoot m side p r × (test (Some r.index) ≡ true)
  pub none : test None ≡ true → ⊥

some_one : (a b : Option ℕ) → ◌≡◌ {A = Option (Option ℕ)} (Some a) (Some b) → a ≡ b
some_one a b e = cc

module _ (m : Map) (whole : IsMap m) (side : SideName) (roots : List (Option ℕ)) (regions : AreRegions m side roots) (test : Option ℕ → Bool) (Member : Rank → Type 0)
    (tells : TellsMembers m side test Member) where
  abbrev passes : ℕ → Bool
  passes k = test (get_or roots k None)

  -- the indexes of the members
  abbrev pub members : List ℕ
  members = filter passes (range_with_len 0 (cell_count m.size))

  member-point : (k : ℕ) → Contains members k → Present m (position_at m.size k) × Member (rank m (position_at m.size k))
  member-point k at =
      let h = Contains-filter passes (range_with_len 0 (cell_count m.size)) k at in
      let below : k < cell_count m.size = Contains-range (cell_count m.size) k h.0 in
      let p : Pos = position_at m.size k in
      let place : place_of m.size p ≡ k = position_at-place m.size k whole.size.some_points in
      let inside : InGrid m.size p = position_at-inside m.size k whole.size.some_points below in
      let passed : test (get_or roots (place_of m.size p) None) ≡ true = ap (λ i. test (get_or roots i None)) place ∙ h.1 in
      elim (present_or_not m p inside) [
        | inl here ↦
            let found = root_entry m side roots regions (rank m p) (point_at m p here) in
            (here, tells.rooted (rank m p) found.0 found.1 (ap test (sym found.2) ∙ passed))
        | inr not ↦
            let there : place_of m.size p < length roots = rw regions.whole (place_inside m.size p inside) in
            let entry : get_or roots (place_of m.size p) None ≡ None = some_one _ _ (sym (slice_get-get_or roots (place_of m.size p) None there) ∙ regions.absent p inside not) in
            absurd (tells.none (ap test (sym entry) ∙ passed))
      ]

  point-member : (r : Rank) → Member r → IsPoint m r × Contains members r.index
  point-member r member =
      let rooted = tells.member r member in
      let point = rooted-point m side r rooted.0 rooted.1 in
      let found = root_entry m side roots regions r point in
      let same : found.0 ≡ rooted.0 = root-unique m side r found.0 rooted.0 found.1 rooted.1 in
      let index : r.index ≡ place_of m.size point.at = ap (λ (x : Rank). x.index) point.rank_is in
      let below : r.index < cell_count m.size = subst (λ k. k < cell_count m.size) (sym index) (place_inside m.size point.at point.present.in_grid) in
      let passed : passes r.index ≡ true = ap test (found.2 ∙ ap (λ (x : Rank). Some x.index) same) ∙ rooted.2 in
      (point, filter-Contains passes (range_with_len 0 (cell_count m.size)) r.index (range-Contains (cell_count m.size) r.index below) passed)

  pub are-members : AreMembers m Member members
  are-members = record { each = member-point; all = point-member }

  abbrev ranks : List Rank
  ranks = map (rank_at m) members

  -- their ranks are the members, each once
  member-lists : ListsEach Member ranks
  member-lists = record {
    all = λ r. (
      λ h. (
          let from = Contains-map (rank_at m) members r h in
          subst Member (rank_at-position m from.0 whole.size.some_points ∙ from.2) (member-point from.0 from.1).1),
      λ member. (let h = point-member r member in
          let index = ap (λ (x : Rank). x.index) (h.0).rank_is in
          subst (Contains ranks) (sym ((h.0).rank_is ∙ ap (rank_at m) (sym index))) (map-Contains (rank_at m) members r.index h.1)),
    );
    once = AllPairs-map (rank_at m) (λ (a : Rank) (b : Rank). a ≡ b → ⊥) members
        (λ i j d less inside same. (
        let rises = AllPairs-filter (λ a b. a < b) passes (range_with_len 0 (cell_count m.size)) (range-rises (cell_count m.size)) i j d less inside in
        let e = ap (λ (x : Rank). x.index) same in
        omega (arith, rises, e)));
  }

  -- there are as many as there are indexes
  pub members-count : (n : ℕ) → n ≡ length members → IsCount Member n
  members-count n same = record { ranks = ranks; lists = member-lists; count_is = same ∙ sym (length-map members (rank_at m)) }

same-test : (a b : ℕ) → nat_eq a b ≡ true → a ≡ b
same-test a b e = grind (arith, nat_tests)

test-same : (a b : ℕ) → a ≡ b → nat_eq a b ≡ true
test-same a b e = grind (arith, nat_tests)

-- the points of a region
pub tells-region : (m : Map) (side : SideName) (pit : Rank) → IsPit m side pit → TellsMembers m side (λ o. names o pit.index) (λ p. IsRoot m side p pit)
tells-region m side pit is = record {
  rooted = λ p r root e. subst (IsRoot m side p) (same_index m r pit (root-is_pit m side p r root).point is.point (same-test r.index pit.index e)) root;
  member = λ p root. (pit, root, test-same pit.index pit.index refl);
  none = λ e. cc;
}

-- the points that a pit owns
pub tells-owned : (m : Map) (side : SideName) (owner : Rank → Rank) (pit : Rank) → ((p : Rank) → IsPit m side p → IsPit m side (owner p)) → IsPit m side pit
    → TellsMembers m side (owns m owner pit.index) (λ p. IsOwnedBy m side owner p pit)
tells-owned m side owner pit owners is = record {
  rooted = λ p r root e. (
      let low : IsPit m side r = root-is_pit m side p r root in
      let itself : r ≡ rank_at m r.index = pit_rank m side r low in
      let index : (owner r).index ≡ pit.index = ap (λ (x : Rank). (owner x).index) itself ∙ same-test _ pit.index e in
      record { root = r; is_root = root; owned = same_index m (owner r) pit (owners r low).point is.point index });
  member = λ p owned. (
      let itself : owned.root ≡ rank_at m (owned.root).index = pit_rank m side owned.root (root-is_pit m side p owned.root owned.is_root) in
      (owned.root, owned.is_root, test-same _ pit.index (sym (ap (λ (x : Rank). (owner x).index) itself) ∙ ap (λ (x : Rank). x.index) owned.owned)));
  none = λ e. cc;
}
