-- A rectangle that is stroked point by point, with notes of what was changed.
use Rattle.std.proofs.Common.{◌≡◌, ◌<◌, ◌≤◌, ◌+◌, ℕ, Bool, List, [], All, length, refl, sym, ap, subst, ◌∙◌, arith}
use Rattle.std.proofs.lemmas.List.Elements.{All-nil}
use Rattle.std.specs.Prelude.{if◌then◌else◌}
use Rattle.hd_map.specs.declared.types.Pos.{Pos}
use Rattle.hd_map.specs.declared.types.Cell.{Cell}
use Rattle.hd_map.specs.Map.{Map, IsMap, IsCellOf, cell_at, mask_at, cell_count, place_of}
use Rattle.hd_map.proofs.Points.{place_inside}
use Rattle.hd_edit.specs.declared.stroke.Stroke.{Stroke}
use Rattle.hd_edit.specs.declared.change.Change.{Change}
use Rattle.hd_edit.specs.Change.{IsChange, before_changes}
use Rattle.hd_edit.specs.Stroke.{IsRectangle, IsStrokeOf, cell_after, stroked, stroked_at, changes, changes_at, count_below, next_in}
use Rattle.hd_edit.proofs.Rectangles.{StandsAt, StandsAt-in, StandsAt-inside, next_in-later, in_rectangle-none_between, in_rectangle-none_before, in_rectangle-none_past}
use Rattle.hd_edit.proofs.Strokes.{partly, partly-none, partly-skip, partly-all, partly-cell, partly-mask, partly-stroked, new_cell-in, count_below-more}
use Rattle.hd_edit.proofs.Strokes.{count_below-skip, count_below-grows, count_below-few}
use Rattle.hd_edit.proofs.CountedChanges.{changes_at-here, changes_at-outside, count_below-all_changes}

module _ (m : Map) (from to : Pos) (s : Stroke) where
  -- the points before an index are stroked, and each change is noted
  pub record Drawn (n : ℕ) (now : Map) (notes : List Change) : Type 0 where
    pub map : now ≡ partly m from to s n
    pub before : before_changes notes now ≡ m
    pub notes_are : All (IsChange m) notes
    pub len_is : length notes ≡ count_below (changes_at m from to s) n

  module _ (whole : IsMap m) (is : IsRectangle m.size from to) where
    -- at first nothing is
    pub Drawn-first : Drawn (place_of m.size from) m []
    Drawn-first = record {
      map = sym (partly-none m from to s whole) ∙ partly-skip m from to s 0 (place_of m.size from) (omega arith) (λ k after before. in_rectangle-none_before m.size from to is k before);
      before = refl;
      notes_are = All-nil (IsChange m);
      len_is = count_below-skip (changes_at m from to s) 0 (place_of m.size from) (omega arith)
          (λ k after before. changes_at-outside m from to s k (in_rectangle-none_before m.size from to is k before));
    }

    module _ (at : Pos) (stands : StandsAt from to at) (here : at.y ≤ to.y) (now : Map) (notes : List Change) (so : Drawn (place_of m.size at) now notes) where
      -- the point that comes next is as it was
      pub Drawn-cell : cell_at now at ≡ cell_at m at
      Drawn-cell = ap (λ (n : Map). cell_at n at) so.map ∙ partly-cell m from to s at (StandsAt-inside m.size from to at is stands here)

      pub Drawn-mask : mask_at now at ≡ mask_at m at
      Drawn-mask = ap (λ (n : Map). mask_at n at) so.map ∙ partly-mask m from to s at (StandsAt-inside m.size from to at is stands here)

      -- what it becomes is of the type
      pub Drawn-fits : IsStrokeOf m from to s → IsCellOf now.data_type (cell_after s (cell_at now at) (mask_at now at))
      Drawn-fits fits =
          let inside = StandsAt-inside m.size from to at is stands here in
          let new = subst (λ (c : Cell). IsCellOf m.data_type c) (new_cell-in m from to s at (StandsAt-in m.size from to at is stands here)) (fits at inside) in
          let same : cell_after s (cell_at now at) (mask_at now at) ≡ cell_after s (cell_at m at) (mask_at m at) = ap (λ (c : Cell). cell_after s c (mask_at now at)) Drawn-cell
          ∙ ap (cell_after s (cell_at m at)) Drawn-mask in
          subst (λ (n : Map). IsCellOf n.data_type (cell_after s (cell_at now at) (mask_at now at))) (sym so.map) (subst (λ (c : Cell). IsCellOf m.data_type c) (sym same) new)

      -- and there is room to note it
      pub Drawn-length : length notes + (if changes s (cell_at now at) (mask_at now at) then 1 else 0) ≡ count_below (changes_at m from to s) (place_of m.size at + 1)
      Drawn-length =
          let same : changes s (cell_at now at) (mask_at now at) ≡ changes_at m from to s (place_of m.size at) = ap (λ (c : Cell). changes s c (mask_at now at)) Drawn-cell
          ∙ ap (changes s (cell_at m at)) Drawn-mask ∙ sym (changes_at-here m from to s whole is at stands here) in
          ap (λ (b : Bool). length notes + (if b then 1 else 0)) same ∙ ap (λ (l : ℕ). l + (if changes_at m from to s (place_of m.size at) then 1 else 0)) so.len_is
          ∙ sym (count_below-more (changes_at m from to s) (place_of m.size at))

      pub Drawn-room : length notes + (if changes s (cell_at now at) (mask_at now at) then 1 else 0) ≤ count_below (changes_at m from to s) (cell_count m.size)
      Drawn-room =
          let inside = place_inside m.size at (StandsAt-inside m.size from to at is stands here) in
          rw Drawn-length (count_below-grows (changes_at m from to s) (place_of m.size at + 1) (cell_count m.size) (omega (arith, inside)))

      -- one point further
      pub Drawn-next : (now' : Map) (notes' : List Change) → now' ≡ stroked_at s at now → before_changes notes' now' ≡ before_changes notes now → All (IsChange now) notes'
          → length notes' ≡ length notes + (if changes s (cell_at now at) (mask_at now at) then 1 else 0) → Drawn (place_of m.size (next_in from to at)) now' notes'
      Drawn-next now' notes' map_is same are more =
          let n = place_of m.size at in
          let later = next_in-later m.size from to at is stands here in
          let none = in_rectangle-none_between m.size from to at is stands here in
          record {
            map = map_is ∙ ap (stroked_at s at) so.map ∙ partly-stroked m from to s at (StandsAt-inside m.size from to at is stands here)
                (StandsAt-in m.size from to at is stands here) ∙ partly-skip m from to s (n + 1) (place_of m.size (next_in from to at)) later none;
            before = same ∙ so.before;
            notes_are = subst (λ (n : Map). All (IsChange n) notes') so.map are;
            len_is = more ∙ Drawn-length ∙ count_below-skip (changes_at m from to s) (n + 1) (place_of m.size (next_in from to at)) later
                (λ k after before. changes_at-outside m from to s k (none k after before));
          }

    -- past the last profile all is stroked
    pub Drawn-last : (at : Pos) (now : Map) (notes : List Change) → to.y < at.y → Drawn (place_of m.size at) now notes → now ≡ stroked m from to s
    Drawn-last at now notes past so =
        let n = place_of m.size at in
        so.map ∙ partly-skip m from to s n (n + cell_count m.size) (omega arith) (λ k after before. in_rectangle-none_past m.size from to is at past k after)
        ∙ partly-all m from to s (n + cell_count m.size) (omega arith)

    pub Drawn-few : (at : Pos) (now : Map) (notes : List Change) → to.y < at.y → Drawn (place_of m.size at) now notes → length notes ≤ cell_count m.size
    Drawn-few at now notes past so = rw (so.len_is, count_below-all_changes m from to s whole is at past) (count_below-few (changes_at m from to s) (cell_count m.size))
