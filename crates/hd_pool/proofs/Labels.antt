-- Each map has its regions.
use Rattle.std.proofs.Common.{◌≡◌, ◌<◌, ◌≤◌, ◌++◌, ◌∙◌, ℕ, zero, suc, List, [], ◌∷◌, length, Option, Some, None, inl, inr, refl, sym, ap, subst, slice_get, arith}
use Rattle.std.proofs.lemmas.Bool.{cases_lt}
use Rattle.std.proofs.lemmas.List.{length_push, get_or_append_left}
use Rattle.std.proofs.lemmas.Option.{slice_get-get_or}
use Rattle.hd_map.specs.declared.types.Pos.{Pos}
use Rattle.hd_map.specs.declared.types.Rank.{Rank}
use Rattle.hd_map.specs.declared.types.SideName.{SideName}
use Rattle.hd_map.specs.Map.{Map, IsMap, InGrid, Present, cell_count, place_of, position_at}
use Rattle.hd_map.specs.Rank.{rank}
use Rattle.hd_map.specs.Region.{AreRegions, IsRoot}
use Rattle.hd_map.proofs.Points.{place_inside, point_at, position_at-inside, position_at-of, present_or_not}
use Rattle.hd_prune.proofs.Existing.{root_of}
use Rattle.hd_prune.proofs.Lists.{slice_get_last}

-- what a list of regions has for a position
record IsEntry (m : Map) (side : SideName) (p : Pos) (entry : Option ℕ) : Type 0 where
  pub present : Present m p → (r : Rank) × IsRoot m side (rank m p) r × (entry ≡ Some r.index)
  pub absent : (Present m p → ⊥) → entry ≡ None

-- an item is read before the last one
slice_get_before : {X : Type 0} (xs : List X) (x : X) (k : ℕ) (d : X) → k < length xs → slice_get (xs ++ x ∷ []) k ≡ slice_get xs k
slice_get_before xs x k d below =
    slice_get-get_or (xs ++ x ∷ []) k d (omega (arith, below, length_push xs x)) ∙ ap Some (get_or_append_left xs (x ∷ []) d k below) ∙ sym (slice_get-get_or xs k d below)

module _ (m : Map) (whole : IsMap m) (side : SideName) where
  entry_at : (p : Pos) → InGrid m.size p → (e : Option ℕ) × IsEntry m side p e
  entry_at p inside = elim (present_or_not m p inside) [
    | inl here ↦ (
        let root = root_of m whole side (rank m p) (point_at m p here) in
        (Some (root.0).index, record { present = λ h. (root.0, root.1, refl); absent = λ not. absurd (not here) }))
    | inr not ↦ (None, record { present = λ here. absurd (not here); absent = λ h. refl })
  ]

  -- the entries of the first indexes
  entries : (n : ℕ) → n ≤ cell_count m.size → (xs : List (Option ℕ)) × (length xs ≡ n) × ((k : ℕ) → k < n → (e : Option ℕ) × (slice_get xs k ≡ Some e) × IsEntry m side (position_at m.size k) e)
  entries zero fits = ([], refl, λ k below. absurd (omega (arith, below)))
  entries (suc n) fits =
      let before = entries n (omega (arith, fits)) in
      let here = entry_at (position_at m.size n) (position_at-inside m.size n whole.size.some_points (omega (arith, fits))) in (
        before.0 ++ here.0 ∷ [],
        omega (arith, length_push before.0 here.0, before.1),
        λ k below. elim (cases_lt k n) [
          | inl earlier ↦ (let e = before.2 k earlier in (e.0, slice_get_before before.0 here.0 k None (omega (arith, earlier, before.1)) ∙ e.1, e.2))
          | inr not ↦ (
              let last : k ≡ n = omega (arith, below, not) in
              (here.0, slice_get_last before.0 here.0 k (omega (arith, last, before.1)), subst (λ i. IsEntry m side (position_at m.size i) here.0) (sym last) here.1))
        ],
      )

  -- a map has a list of regions
  pub regions_of : (labels : List (Option ℕ)) × AreRegions m side labels
  regions_of =
      let all = entries (cell_count m.size) (omega arith) in (
        all.0,
        record {
          whole = all.1;
          present = λ p here. (
              let e = all.2 (place_of m.size p) (place_inside m.size p here.in_grid) in
              let r = (subst (λ (q : Pos). IsEntry m side q e.0) (position_at-of m.size p here.in_grid) e.2).present here in
              (r.0, r.1, e.1 ∙ ap Some r.2));
          absent = λ p inside not. (
              let e = all.2 (place_of m.size p) (place_inside m.size p inside) in
              e.1 ∙ ap Some ((subst (λ (q : Pos). IsEntry m side q e.0) (position_at-of m.size p inside) e.2).absent not));
        },
      )
