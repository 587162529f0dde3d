-- The roots of a map's points, by index.
use Rattle.std.proofs.Common.{◌≡◌, ◌<◌, ◌∙◌, ℕ, List, length, get_or, Bool, true, false, Option, Some, None, inl, inr, refl, sym, ap, subst, arith}
use Rattle.std.specs.Option.{is_some}
use Rattle.std.proofs.lemmas.Bool.Decides.{nat_tests}
use Rattle.std.proofs.lemmas.Option.{slice_get-get_or}
use Rattle.hd_map.specs.declared.types.Cell.{Cell}
use Rattle.hd_map.specs.declared.types.Cell.TheVariants.{Height, Bad}
use Rattle.hd_map.specs.declared.types.Pos.{Pos}
use Rattle.hd_map.specs.declared.types.Rank.{Rank}
use Rattle.hd_map.specs.declared.types.SideName.{SideName}
use Rattle.hd_map.specs.declared.types.Size.{Size}
use Rattle.hd_map.specs.Map.{Map, IsMap, InGrid, IsMeasured, Present, cell_at, mask_at, in_grid, place_of, position_at, cell_count, shown_height, height_at}
use Rattle.hd_map.specs.Rank.{IsPoint, rank}
use Rattle.hd_map.specs.Region.{AreRegions, IsPit, IsRoot}
use Rattle.hd_map.proofs.Points.{position_at-of, position_at-place, position_at-inside, present_or_not, place_inside, shown_of}
use Rattle.hd_map.proofs.Nexts.{root-is_pit}
use Rattle.hd_survey.specs.Edges.{HaveRoots}

pub not_none : (o : Option ℕ) (n : ℕ) → o ≡ Some n → Some o ≡ Some None → ⊥
not_none o n some none = cc

pub same_number : (o : Option ℕ) (n k : ℕ) → o ≡ Some n → Some o ≡ Some (Some k) → n ≡ k
same_number o n k a b = cc

-- a point with a root is present
pub rooted_present : (m : Map) (side : SideName) (roots : List (Option ℕ)) (p : Pos) (n : ℕ) → AreRegions m side roots → InGrid m.size p
    → get_or roots (place_of m.size p) None ≡ Some n → Present m p
rooted_present m side roots p n regions inside is = elim (present_or_not m p inside) [
  | inl here ↦ here
  | inr not ↦
      let there : place_of m.size p < length roots = rw regions.whole (place_inside m.size p inside) in
      absurd (not_none (get_or roots (place_of m.size p) None) n is (sym (slice_get-get_or roots (place_of m.size p) None there) ∙ regions.absent p inside not))
]

-- a root is the index of a pit
pub root_pit : (m : Map) (side : SideName) (roots : List (Option ℕ)) → IsMap m → AreRegions m side roots
    → (k n : ℕ) → k < length roots → get_or roots k None ≡ Some n → (p : Rank) × IsPit m side p × (p.index ≡ n)
root_pit m side roots whole regions k n below is =
    let fits : k < cell_count m.size = rw (← regions.whole) below in
    let p : Pos = position_at m.size k in
    let place : place_of m.size p ≡ k = position_at-place m.size k whole.size.some_points in
    let inside : InGrid m.size p = position_at-inside m.size k whole.size.some_points fits in
    let is' : get_or roots (place_of m.size p) None ≡ Some n = ap (λ i. get_or roots i None) place ∙ is in
    let here : Present m p = rooted_present m side roots p n regions inside is' in
    let found = regions.present p here in
    let there : place_of m.size p < length roots = rw place below in (
      found.0,
      root-is_pit m side (rank m p) found.0 found.1,
      sym (same_number (get_or roots (place_of m.size p) None) n (found.0).index is' (sym (slice_get-get_or roots (place_of m.size p) None there) ∙ found.2)),
    )

-- what is not measured or not shown has no height
pub unshown : (c : Cell) (masked : Bool) → (IsMeasured c → masked ≡ false → ⊥) → shown_height c masked ≡ None
unshown (Height h) false gone = absurd (gone tt refl)
unshown (Height h) true gone = refl
unshown Bad masked gone = refl

-- a position in the grid passes the test
pub inside_test : (s : Size) (p : Pos) → InGrid s p → in_grid s p ≡ true
inside_test s p inside = grind (arith, nat_tests, inside.column, inside.profile)

inner : (o : Option ℕ) (q : Option ℕ) → Some o ≡ Some q → o ≡ q
inner o q same = cc

-- exactly the present points have roots
pub regions_have_roots : (m : Map) (side : SideName) (roots : List (Option ℕ)) → AreRegions m side roots → HaveRoots m roots
regions_have_roots m side roots regions p inside =
    let there : place_of m.size p < length roots = rw regions.whole (place_inside m.size p inside) in
    let read = slice_get-get_or roots (place_of m.size p) None there in
    elim (present_or_not m p inside) [
      | inl here ↦
          let found = regions.present p here in
          let root : get_or roots (place_of m.size p) None ≡ Some (found.0).index = inner _ _ (sym read ∙ found.2) in
          ap is_some root ∙ sym (ap is_some (shown_of (cell_at m p) (mask_at m p) here.measured here.shown))
      | inr not ↦
          let root : get_or roots (place_of m.size p) None ≡ None = inner _ _ (sym read ∙ regions.absent p inside not) in
          let gone : height_at m p ≡ None = unshown (cell_at m p) (mask_at m p) (λ measured shown. not (record { in_grid = inside; measured = measured; shown = shown })) in
          ap is_some root ∙ sym (ap is_some gone)
    ]

some_one : (a b : Option ℕ) → ◌≡◌ {A = Option (Option ℕ)} (Some a) (Some b) → a ≡ b
some_one a b e = cc

number_one : (a b : ℕ) → ◌≡◌ {A = Option ℕ} (Some a) (Some b) → a ≡ b
number_one a b e = cc

none_some : (n : ℕ) → ◌≡◌ {A = Option ℕ} None (Some n) → ⊥
none_some n e = cc

module _ (m : Map) (side : SideName) (roots : List (Option ℕ)) (regions : AreRegions m side roots) where
  -- the entry of a point is its root
  pub root_entry : (p : Rank) → IsPoint m p → (r : Rank) × IsRoot m side p r × (get_or roots p.index None ≡ Some r.index)
  root_entry p point =
      let found = regions.present point.at point.present in
      let there : place_of m.size point.at < length roots = rw regions.whole (place_inside m.size point.at point.present.in_grid) in
      let index : p.index ≡ place_of m.size point.at = ap (λ (r : Rank). r.index) point.rank_is in (
        found.0,
        subst (λ q. IsRoot m side q found.0) (sym point.rank_is) found.1,
        ap (λ i. get_or roots i None) index ∙ some_one _ _ (sym (slice_get-get_or roots (place_of m.size point.at) None there) ∙ found.2),
      )

-- the root of a point, by its position
pub root_position : (m : Map) (side : SideName) (p r : Rank) → IsRoot m side p r → Present m (position_at m.size r.index) × IsRoot m side p (rank m (position_at m.size r.index))
root_position m side p r root =
    let pit = (root-is_pit m side p r root).point in
    let place : position_at m.size r.index ≡ pit.at = ap (position_at m.size) (ap (λ (x : Rank). x.index) pit.rank_is) ∙ position_at-of m.size pit.at pit.present.in_grid in (
      subst (Present m) (sym place) pit.present,
      subst (IsRoot m side p) (pit.rank_is ∙ ap (rank m) (sym place)) root,
    )
