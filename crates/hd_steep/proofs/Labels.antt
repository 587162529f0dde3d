-- Labels as they are listed by index.
use Rattle.std.proofs.Common.{◌≡◌, ◌<◌, ℕ, List, length, get_or, Option, Some, None, ap, ◌∙◌, sym, subst, refl}
use Rattle.std.specs.Prelude.{unwrap_or}
use Rattle.std.proofs.lemmas.Option.{slice_get-get_or, unwrap_or-slice_get}
use Rattle.hd_map.specs.declared.types.Rank.{Rank}
use Rattle.hd_map.specs.declared.types.SideName.{SideName}
use Rattle.hd_map.specs.Map.{Map, place_of, cell_count}
use Rattle.hd_map.specs.Rank.{rank, IsPoint}
use Rattle.hd_map.specs.Region.{IsRoot, AreRegions}
use Rattle.hd_map.proofs.Points.{place_inside, same_index, point_at}
use Rattle.hd_steep.specs.Links.{NoPointAt}
use Rattle.hd_steep.specs.Numbering.{IsLabelOf}
use Rattle.hd_steep.proofs.Following.{no_point_at}

module _ (m : Map) (side : SideName) where
  -- the labels of the first indexes
  abbrev pub AreLabels : List (Option ℕ) → Type 0
  AreLabels labels = (k : ℕ) → k < length labels → IsLabelOf m side k (get_or labels k None)

  -- where a point is present, its label is that of its root
  label_present : (label : Option ℕ) (p : Rank) → IsPoint m p → IsLabelOf m side p.index label → (r : Rank) × IsRoot m side p r × (label ≡ Some r.index)
  label_present None p point is = absurd (is p point refl)
  label_present (Some root) p point is =
      (is.to, subst (λ (q : Rank). IsRoot m side q is.to) (same_index m is.at p is.point point (sym is.index_is)) is.is_root, ap Some is.root_is)

  -- where none is present, there is none
  label_absent : (label : Option ℕ) (k : ℕ) → NoPointAt m k → IsLabelOf m side k label → label ≡ None
  label_absent None k none is = refl
  label_absent (Some root) k none is = absurd (none is.at is.point (sym is.index_is))

  -- all labels
  pub labels_all : (labels : List (Option ℕ)) → length labels ≡ cell_count m.size → AreLabels labels → AreRegions m side labels
  labels_all labels long are = record {
    whole = long;
    present = λ p here.
        let there : place_of m.size p < length labels = rw long (place_inside m.size p here.in_grid) in
        let found = label_present (get_or labels (place_of m.size p) None) (rank m p) (point_at m p here) (are (place_of m.size p) there) in
        (found.0, found.1, slice_get-get_or labels (place_of m.size p) None there ∙ ap Some found.2);
    absent = λ p in_grid not.
        let there : place_of m.size p < length labels = rw long (place_inside m.size p in_grid) in
        slice_get-get_or labels (place_of m.size p) None there ∙ ap Some (label_absent (get_or labels (place_of m.size p) None) (place_of m.size p)
        (no_point_at m p (place_of m.size p) in_grid not refl) (are (place_of m.size p) there));
  }

  -- a point is labelled with the pit of its region
  pub label_of_point : (labels : List (Option ℕ)) (x : Rank) → AreRegions m side labels → IsPoint m x → (r : Rank) × IsRoot m side x r × (get_or labels x.index None ≡ Some r.index)
  label_of_point labels x are point =
      let found = are.present point.at point.present in
      let is : get_or labels (place_of m.size point.at) None ≡ Some found.0.index = sym (unwrap_or-slice_get labels (place_of m.size point.at) None)
      ∙ ap (λ (o : Option (Option ℕ)). unwrap_or o None) found.2 in
      (found.0, rw point.rank_is found.1, rw point.rank_is is)
