-- The lines of all borders are the border lines of the pruning.
use Rattle.std.proofs.Common.{◌≡◌, ◌<◌, ◌⊎◌, ◌∙◌, ℕ, Bool, inl, inr, List, length, get_or, slice_get, Some, sym, ap, subst, arith}
use Rattle.std.specs.Prelude.{◌↔◌, All, Contains}
use Rattle.std.proofs.lemmas.List.Elements.{Contains-get_or}
use Rattle.std.proofs.lemmas.Option.{get_or_from_slice_get, same_Some, slice_get-get_or, slice_get_within}
use Rattle.hd_map.specs.declared.types.Rank.{Rank}
use Rattle.hd_map.specs.declared.types.SideName.{SideName}
use Rattle.hd_map.specs.Map.{IsMap, Map}
use Rattle.hd_map.specs.Rank.{below_by}
use Rattle.hd_map.specs.Saddle.{IsSaddle}
use Rattle.hd_map.proofs.Places.{at_place, item_at, place_of}
use Rattle.hd_prune.specs.declared.step.Kept.{Kept}
use Rattle.hd_prune.specs.declared.step.Owned.{Owned}
use Rattle.hd_prune.specs.declared.step.Step.{Step}
use Rattle.hd_prune.specs.Answer.{IsPruned}
use Rattle.hd_steep.specs.Numbering.{AreNumbered, Numbering}
use Rattle.hd_steep.specs.declared.border.Border.{Border}
use Rattle.hd_lines.specs.declared.line.BorderLine.{BorderLine}
use Rattle.hd_steep.specs.Borders.{AreBorders}
use Rattle.hd_lines.specs.FirstJoins.{AreFirstJoins}
use Rattle.hd_steep.specs.Pairs.{IsAcross, Pair}
use Rattle.hd_lines.specs.Lines.{AreBorderLines, IsBorderLine, IsOwnedBy}
use Rattle.hd_lines.specs.Listed.{AreListed, line_of}
use Rattle.hd_steep.specs.Found.{HasPlace}
use Rattle.hd_lines.specs.Places.{AreOwnerPlaces}
use Rattle.hd_steep.proofs.Counted.{counted-as}
use Rattle.hd_lines.proofs.HasPlace.{kept-last, last-kept, HasPlace-own, HasPlace-of_owned, pit_at-is, HasPlace-owned, HasPlace-owner, place-rises, HasPlace-found, HasPlace-joined, pit_at, rises-at}
use Rattle.hd_lines.proofs.FirstJoins.{IsFirstJoin-saddle}

module _ (m : Map) (whole : IsMap m) (side : SideName) (thousandths : ℕ) (steps : List Step) (kept : List Kept) (owners : List Owned) (pruned : IsPruned m side thousandths steps kept owners)
    (regions : Numbering) (numbered : AreNumbered m side regions) (places : List ℕ) (are : AreOwnerPlaces kept owners regions.numbers places)
    (borders : List Border) (right : AreBorders m side places borders) where
  -- the kept pits of a border
  pub border-kept : (l : Border) → Contains borders l → ((a : Kept) × (slice_get kept l.a ≡ Some a)) × ((b : Kept) × (slice_get kept l.b ≡ Some b))
  border-kept l at =
      let r = (right.counted l at).reached in
      let a = HasPlace-owner m whole side thousandths steps kept owners pruned regions numbered places are r.0.from l.a r.1.from_in in
      let b = HasPlace-owner m whole side thousandths steps kept owners pruned regions numbered places are r.0.to l.b r.1.to_in in
      ((a.0, a.1), (b.0, b.1))

  pub borders-within : All (λ l. (l.a < length kept) × (l.b < length kept)) borders
  borders-within k d inside =
      let l : Border = get_or borders k d in
      let ends = border-kept l (Contains-get_or borders k d inside) in
      (slice_get_within kept l.a ends.0.0 ends.0.1, slice_get_within kept l.b ends.1.0 ends.1.1)

  -- a pair lies across the two places where it lies across their owners
  across-same : (i j : ℕ) (a b : Kept) → slice_get kept i ≡ Some a → slice_get kept j ≡ Some b → (p : Pair) → IsAcross m (HasPlace m places) i j p
      ↔ IsAcross m (IsOwnedBy m side pruned.owner) a.pit b.pit p
  across-same i j a b at_a at_b p = (
    λ h. record {
      near = h.near;
      from_in = HasPlace-owned m whole side thousandths steps kept owners pruned regions numbered places are p.from i a at_a h.from_in;
      to_in = HasPlace-owned m whole side thousandths steps kept owners pruned regions numbered places are p.to j b at_b h.to_in;
    },
    λ h. record {
      near = h.near;
      from_in = HasPlace-of_owned m whole side thousandths steps kept owners pruned regions numbered places are p.from i a at_a h.from_in;
      to_in = HasPlace-of_owned m whole side thousandths steps kept owners pruned regions numbered places are p.to j b at_b h.to_in;
    },
  )

  module _ (firsts : List Bool) (joins : AreFirstJoins (below_by side) borders firsts) (lines : List BorderLine) (listed : AreListed kept borders firsts (length borders) lines) where
    -- the line of a border
    pub record IsLineOf (n : ℕ) (line : BorderLine) : Type 0 where
      pub border : Border
      pub at : slice_get borders n ≡ Some border
      pub a : Kept
      pub b : Kept
      pub at_a : slice_get kept border.a ≡ Some a
      pub at_b : slice_get kept border.b ≡ Some b
      pub first : Bool
      pub at_first : slice_get firsts n ≡ Some first
      pub is : line ≡ line_of border a b first

    line-of : (n : ℕ) (line : BorderLine) → slice_get lines n ≡ Some line → IsLineOf n line
    line-of n line at =
        let inside : n < length borders = (let within = slice_get_within lines n line at in let long = listed.whole in omega arith) in
        let l = item_at borders n inside in
        let ends = border-kept l.0 (at_place borders n l.0 l.1) in
        let f = item_at firsts n (let long = joins.whole in omega arith) in
        record {
          border = l.0;
          at = l.1;
          a = ends.0.0;
          b = ends.1.0;
          at_a = ends.0.1;
          at_b = ends.1.1;
          first = f.0;
          at_first = f.1;
          is = same_Some line (line_of l.0 ends.0.0 ends.1.0 f.0) (sym at ∙ listed.each n l.0 ends.0.0 ends.1.0 f.0 inside l.1 ends.0.1 ends.1.1 f.1);
        }

    border-line : (n : ℕ) (l : Border) (a b : Kept) (first : Bool) → slice_get borders n ≡ Some l → slice_get kept l.a ≡ Some a → slice_get kept l.b ≡ Some b → slice_get firsts n ≡ Some first
        → IsBorderLine m side pruned.last pruned.owner (line_of l a b first)
    border-line n l a b first at at_a at_b at_first =
        let in_borders : Contains borders l = at_place borders n l at in
        let own : HasPlace m places (pit_at kept l.a) l.a =
        subst (λ (z : Rank). HasPlace m places z l.a) (sym (pit_at-is kept l.a a at_a)) (HasPlace-own m whole side thousandths steps kept owners pruned regions numbered places are l.a a at_a) in
        let own' : HasPlace m places (pit_at kept l.b) l.b =
        subst (λ (z : Rank). HasPlace m places z l.b) (sym (pit_at-is kept l.b b at_b)) (HasPlace-own m whole side thousandths steps kept owners pruned regions numbered places are l.b b at_b) in
        let saddle = IsFirstJoin-saddle m side places borders right (pit_at kept) (HasPlace-found m whole side thousandths steps kept owners pruned regions numbered places are)
        (HasPlace-joined m whole side thousandths steps kept owners pruned regions numbered places are) l in_borders own own' first (joins.each n l first at at_first) in
        record {
          first = kept-last m whole side thousandths steps kept owners pruned a (at_place kept l.a a at_a);
          second = kept-last m whole side thousandths steps kept owners pruned b (at_place kept l.b b at_b);
          lesser = rises-at m whole side thousandths steps kept owners pruned l.a l.b a b (right.lesser l in_borders) at_a at_b;
          pairs = counted-as side (IsAcross m (HasPlace m places) l.a l.b) (IsAcross m (IsOwnedBy m side pruned.owner) a.pit b.pit)
              (across-same l.a l.b a b at_a at_b) l.pairs l.pass (right.counted l in_borders);
          on_saddle = (
            λ e. subst (λ (z : Rank). IsSaddle m side a.pit z l.pass) (pit_at-is kept l.b b at_b)
                (subst (λ (z : Rank). IsSaddle m side z (pit_at kept l.b) l.pass) (pit_at-is kept l.a a at_a) (saddle.0 e)),
            λ h. saddle.1 (subst (λ (z : Rank). IsSaddle m side (pit_at kept l.a) z l.pass) (sym (pit_at-is kept l.b b at_b))
                (subst (λ (z : Rank). IsSaddle m side z b.pit l.pass) (sym (pit_at-is kept l.a a at_a)) h)),
          );
        }

    -- the lines come in the order of the borders
    line-rises : (x y : BorderLine) (i j : ℕ) → i < j → slice_get lines i ≡ Some x → slice_get lines j ≡ Some y → (x.a.index < y.a.index) ⊎ ((x.a.index ≡ y.a.index) × (x.b.index < y.b.index))
    line-rises x y i j less at_x at_y =
        let u = line-of i x at_x in
        let v = line-of j y at_y in
        let ordered = right.in_order i j u.border less (slice_get_within borders j v.border v.at) in
        let first : get_or borders i u.border ≡ u.border = get_or_from_slice_get borders i u.border u.border u.at in
        let second : get_or borders j u.border ≡ v.border = get_or_from_slice_get borders j v.border u.border v.at in
        let rises = subst (λ (l : Border). (l.a < v.border.a) ⊎ ((l.a ≡ v.border.a) × (l.b < v.border.b))) first
        (subst (λ (l : Border). ((get_or borders i u.border).a < l.a) ⊎ (((get_or borders i u.border).a ≡ l.a) × ((get_or borders i u.border).b < l.b))) second ordered) in
        let kept_rises = rises-at m whole side thousandths steps kept owners pruned in
        let there : (u.a.pit.index < v.a.pit.index) ⊎ ((u.a.pit.index ≡ v.a.pit.index) × (u.b.pit.index < v.b.pit.index)) = elim rises [
          | inl before ↦ inl (kept_rises u.border.a v.border.a u.a v.a before u.at_a v.at_a)
          | inr same ↦ inr (
            ap (λ (z : Kept). z.pit.index) (same_Some u.a v.a (sym u.at_a ∙ ap (slice_get kept) same.0 ∙ v.at_a)),
            kept_rises u.border.b v.border.b u.b v.b same.1 u.at_b v.at_b,
          )
        ] in
        subst (λ (z : BorderLine). (z.a.index < y.a.index) ⊎ ((z.a.index ≡ y.a.index) × (z.b.index < y.b.index))) (sym u.is)
        (subst (λ (z : BorderLine). (u.a.pit.index < z.a.index) ⊎ ((u.a.pit.index ≡ z.a.index) × (u.b.pit.index < z.b.index))) (sym v.is) there)

    pub AreBorderLines-listed : AreBorderLines m side pruned.last pruned.owner lines
    AreBorderLines-listed = record {
      each = λ line at. (let n = place_of lines line at in
          let u = line-of n.0 line n.1 in
          subst (IsBorderLine m side pruned.last pruned.owner) (sym u.is) (border-line n.0 u.border u.a u.b u.first u.at u.at_a u.at_b u.at_first));
      all = λ a b p at_a at_b less across. (
          let x = last-kept m whole side thousandths steps kept owners pruned a at_a in
          let y = last-kept m whole side thousandths steps kept owners pruned b at_b in
          let rises : x.1.pit.index < y.1.pit.index = subst (λ (z : Rank). z.index < y.1.pit.index) (sym x.3) (subst (λ (z : Rank). a.index < z.index) (sym y.3) less) in
          let order : x.0 < y.0 = place-rises m whole side thousandths steps kept owners pruned x.0 y.0 x.1 y.1 rises x.2 y.2 in
          let owned : IsAcross m (IsOwnedBy m side pruned.owner) x.1.pit y.1.pit p =
          subst (λ (z : Rank). IsAcross m (IsOwnedBy m side pruned.owner) z y.1.pit p) (sym x.3) (subst (λ (z : Rank). IsAcross m (IsOwnedBy m side pruned.owner) a z p) (sym y.3) across) in
          let l = right.all x.0 y.0 p order ((across-same x.0 y.0 x.1 y.1 x.2 y.2 p).1 owned) in
          let n = place_of borders l.0 l.1 in
          let inside : n.0 < length borders = slice_get_within borders n.0 l.0 n.1 in
          let f = item_at firsts n.0 (let long = joins.whole in omega arith) in
          let line : BorderLine = line_of l.0 x.1 y.1 f.0 in
          (line, at_place lines n.0 line (listed.each n.0 l.0 x.1 y.1 f.0 inside n.1 (ap (slice_get kept) l.2 ∙ x.2) (ap (slice_get kept) l.3 ∙ y.2) f.1), x.3, y.3));
      in_order = λ i j d less inside. line-rises (get_or lines i d) (get_or lines j d) i j less (slice_get-get_or lines i d (omega arith)) (slice_get-get_or lines j d inside);
    }
