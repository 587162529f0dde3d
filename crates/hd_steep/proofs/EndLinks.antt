-- Links that lead to ends, as they are made, led on and numbered.
use Rattle.std.proofs.Common.{◌≡◌, ◌≢◌, ◌<◌, ◌≤◌, ◌+◌, ◌⊎◌, ℕ, suc, true, List, length, set, slice_index, Option, Some, None, inl, inr, refl, sym, ◌∙◌, subst, arith, if◌then◌else◌}
use Rattle.std.specs.Prelude.{nat_lt}
use Rattle.std.proofs.Math.ListN.{length-set}
use Rattle.std.proofs.lemmas.Bool.{cases_eq, cases_lt}
use Rattle.std.proofs.lemmas.Bool.Decides.{nat_tests}
use Rattle.std.proofs.lemmas.List.{get_or-set_same, get_or-set_other}
use Rattle.hd_map.specs.declared.types.Rank.{Rank}
use Rattle.hd_map.specs.declared.types.SideName.{SideName}
use Rattle.hd_map.specs.Map.{Map, IsMap, cell_count}
use Rattle.hd_map.specs.Pruning.{ArePits}
use Rattle.hd_map.specs.Rank.{below_by, IsPoint}
use Rattle.hd_map.specs.SideLaws.{below_by-order}
use Rattle.hd_map.proofs.Order.{below-apart}
use Rattle.hd_map.proofs.Points.{point_inside, same_index}
use Rattle.hd_steep.specs.Ends.{AreEndLinks, AreEnds, AreLed, AreToLast, HasEnds, LeadsBelow, LeadsToEnd}
use Rattle.hd_steep.specs.Links.{no_link, AreLinks, IsOnward, NoPointAt}
use Rattle.hd_steep.specs.Numbering.{root_of, AreWrittenAtPits, IsLabelOf}
use Rattle.hd_steep.proofs.Following.{link_at, point_or_none}
use Rattle.hd_steep.proofs.PitNumbers.{own_or_not, pit_own, root_below, root_past}
use Rattle.hd_steep.proofs.Pits.{pits_few}
use Rattle.hd_steep.proofs.Ways.{depth_at, onward-falls, onward-trans}

module _ (m : Map) (side : SideName) where
  -- a point has the label of each one onward from it
  label_up : (p q : Rank) (label : Option ℕ) → IsPoint m p → IsOnward m side p q → IsLabelOf m side q.index label → IsLabelOf m side p.index label
  label_up p q None point onward none = absurd (none q onward.point refl)
  label_up p q (Some root) point onward is =
      let same : is.at ≡ q = same_index m is.at q is.point onward.point (sym is.index_is) in
      record { at = p; point = point; index_is = refl; to = is.to; is_root = (onward.same_root is.to).1 (rw (← same) is.is_root); root_is = is.root_is }

  -- and so does each one onward from a point
  label_down : (p q : Rank) (label : Option ℕ) → IsPoint m p → IsOnward m side p q → IsLabelOf m side p.index label → IsLabelOf m side q.index label
  label_down p q None point onward none = absurd (none p point refl)
  label_down p q (Some root) point onward is =
      let same : is.at ≡ p = same_index m is.at p is.point point (sym is.index_is) in
      record { at = q; point = onward.point; index_is = refl; to = is.to; is_root = (onward.same_root is.to).0 (rw (← same) is.is_root); root_is = is.root_is }

  -- a link below leads to a point of the map
  below_inside : (k link : ℕ) → LeadsBelow m side k link → link < cell_count m.size
  below_inside k link is = rw is.link_is (point_inside m is.to is.onward.point)

  -- a link below, and then another one
  below_trans : (k middle link : ℕ) → LeadsBelow m side k middle → LeadsBelow m side middle link → LeadsBelow m side k link
  below_trans k middle link one two =
      let same : two.from ≡ one.to = same_index m two.from one.to two.point one.onward.point (sym two.index_is ∙ one.link_is) in
      let onward : IsOnward m side one.to two.to = subst (λ (r : Rank). IsOnward m side r two.to) same two.onward in
      let order = below_by-order side in
      let lower : below_by side two.to one.from ≡ true = order.transitive two.to one.to one.from (onward.below (λ e. two.apart (e ∙ sym same))) (one.onward.below one.apart) in
      record {
        from = one.from;
        point = one.point;
        index_is = one.index_is;
        to = two.to;
        onward = onward-trans m side one.from one.to two.to one.point one.onward onward;
        apart = λ e. below-apart (below_by side) order two.to one.from lower e;
        link_is = two.link_is;
      }

  -- how deep a way may still lead from an index; an end leads no further
  abbrev pub way_depth : ℕ → ℕ
  way_depth k = if nat_lt k (cell_count m.size) then suc (depth_at m side k) else 0

  -- it falls along a link below
  below_falls : (k link : ℕ) → IsMap m → LeadsBelow m side k link → depth_at m side link < depth_at m side k
  below_falls k link whole is = onward-falls m side is.from is.to k link whole is.point is.onward is.index_is is.link_is is.apart

  -- what is past the points stays so where one past them is set
  pub past_set : (links : List ℕ) (k end i : ℕ) → k < length links → cell_count m.size ≤ end → cell_count m.size ≤ slice_index links i → cell_count m.size ≤ slice_index (set links k end) i
  past_set links k end i inside past before = elim (cases_eq i k) [
    | inl same ↦ rw (same, get_or-set_same links k end 0 inside) past
    | inr other ↦ rw (get_or-set_other links k i end 0 other) before
  ]

  -- one more of the last links leads to an end
  pub past_more : (links : List ℕ) (k end : ℕ) → k < length links → cell_count m.size ≤ end → ((i : ℕ) → k + 1 ≤ i → i < cell_count m.size → cell_count m.size ≤ slice_index links i)
      → (i : ℕ) → k ≤ i → i < cell_count m.size → cell_count m.size ≤ slice_index (set links k end) i
  past_more links k end inside past before i from point = elim (cases_eq i k) [
    | inl same ↦ rw (same, get_or-set_same links k end 0 inside) past
    | inr other ↦ past_set links k end i inside past (before i (omega (arith, other, from)) point)
  ]

  module _ (pits : List Rank) where
    -- a link to an end is past the points
    pub end_past : (k link : ℕ) → LeadsToEnd m side pits k link → cell_count m.size ≤ link
    end_past k link is = let e = is.link_is in omega (arith, e)

    -- the end of a point below is that of the point
    end_up : (k middle link : ℕ) → LeadsBelow m side k middle → LeadsToEnd m side pits middle link → LeadsToEnd m side pits k link
    end_up k middle link is end = record {
      number = end.number;
      link_is = end.link_is;
      label = subst (λ i. IsLabelOf m side i (root_of pits end.number)) (sym is.index_is)
          (label_up is.from is.to (root_of pits end.number) is.point is.onward (subst (λ i. IsLabelOf m side i (root_of pits end.number)) is.link_is end.label));
    }

    -- the end of a point is that of a point below
    end_down : (k middle link : ℕ) → LeadsBelow m side k middle → LeadsToEnd m side pits k link → LeadsToEnd m side pits middle link
    end_down k middle link is end = record {
      number = end.number;
      link_is = end.link_is;
      label = subst (λ i. IsLabelOf m side i (root_of pits end.number)) (sym is.link_is)
          (label_down is.from is.to (root_of pits end.number) is.point is.onward (subst (λ i. IsLabelOf m side i (root_of pits end.number)) is.index_is end.label));
    }

    -- what leads on from an index, to an end or below
    abbrev pub LeadsOn : ℕ → ℕ → Type 0
    LeadsOn k link = LeadsToEnd m side pits k link ⊎ LeadsBelow m side k link

    -- what leads on past the points leads to an end
    pub leads_past : (k link : ℕ) → cell_count m.size ≤ link → LeadsOn k link → LeadsToEnd m side pits k link
    leads_past k link past (inl end) = end
    leads_past k link past (inr below) = absurd (let inside = below_inside k link below in omega (arith, inside, past))

    module _ (links : List ℕ) (are : AreEndLinks m side pits links) where
      -- from a link that leads on one goes on to another one
      pub leads_on : (k link : ℕ) → link < length links → LeadsOn k link → LeadsOn k (slice_index links link)
      leads_on k link inside (inl end) = rw (are.ends link (end_past k link end) inside) (inl end)
      leads_on k link inside (inr below) = elim (are.points link (below_inside k link below)) [
        | inl end ↦ inl (end_up k link (slice_index links link) below end)
        | inr further ↦ inr (below_trans k link (slice_index links link) below further)
      ]

      -- a link that is set as it may be
      pub led_set : (k link : ℕ) → k < cell_count m.size → link < length links → LeadsOn k link → AreEndLinks m side pits (set links k link)
      led_set k link point inside leads =
          let long = are.whole in
          let within : k < length links = omega (arith, long, point) in
          record {
            whole = length-set links k link ∙ long;
            inside = λ i there. elim (cases_eq i k) [
              | inl same ↦ rw (same, get_or-set_same links k link 0 within, length-set links k link) inside
              | inr other ↦ rw (get_or-set_other links k i link 0 other, length-set links k link) (are.inside i (rw length-set at there))
            ];
            points = λ i there. elim (cases_eq i k) [
              | inl same ↦ rw (same, get_or-set_same links k link 0 within) leads
              | inr other ↦ rw (get_or-set_other links k i link 0 other) (are.points i there)
            ];
            ends = λ i past there. rw (get_or-set_other links k i link 0 (omega (arith, past, point))) (are.ends i past (rw length-set at there));
          }

      -- one link led on by one link
      pub led_on : (k : ℕ) → k < cell_count m.size → AreEndLinks m side pits (set links k (slice_index links (slice_index links k)))
      led_on k point =
          let long = are.whole in
          let inside = are.inside k (omega (arith, long, point)) in
          led_set k (slice_index links (slice_index links k)) point (are.inside (slice_index links k) inside) (leads_on k (slice_index links k) inside (are.points k point))

      -- a way falls along the link of a point
      pub way_falls : (k : ℕ) → IsMap m → k < cell_count m.size → way_depth (slice_index links k) < way_depth k
      way_falls k whole point = elim (are.points k point) [
        | inl end ↦ (let past = end_past k (slice_index links k) end in grind (arith, nat_tests))
        | inr below ↦
            let falls = below_falls k (slice_index links k) whole below in
            let inside = below_inside k (slice_index links k) below in
            grind (arith, nat_tests)
      ]

      -- where an index leads to an end, so does its link, or it is that end
      pub end_on : (k end : ℕ) → k < cell_count m.size → LeadsToEnd m side pits k end → slice_index links k < cell_count m.size → LeadsToEnd m side pits (slice_index links k) end
      end_on k end point is inside = elim (are.points k point) [
        | inl past ↦ absurd (let far = end_past k (slice_index links k) past in omega (arith, far, inside))
        | inr below ↦ end_down k (slice_index links k) end below is
      ]

      -- the links of the points, where all lead to ends
      pub ends_all : (some : List ℕ) → length some ≡ cell_count m.size → ((k : ℕ) → k < cell_count m.size → slice_index some k ≡ slice_index links k) → AreLed m links → AreEnds m side pits some
      ends_all some long same led = record {
        whole = long;
        each = λ k inside. (let point : k < cell_count m.size = omega (arith, inside, long) in rw (same k point) (leads_past k (slice_index links k) (led k point) (are.points k point)));
      }

    module _ (are : ArePits m side pits) (whole : IsMap m) where
      -- the end past those of the pits is that where no point is present
      end_none : (k : ℕ) → NoPointAt m k → LeadsToEnd m side pits k (cell_count m.size + length pits)
      end_none k none = record { number = length pits; link_is = refl; label = rw (root_past pits (length pits) (omega arith)) none }

      -- first links with the numbers of the pits, led to the last end where there is none, lead on
      ends_lead : (old written new : List ℕ) → AreLinks m side old → AreWrittenAtPits m side pits (cell_count m.size) old written
          → AreToLast (cell_count m.size + length pits) written new → (k : ℕ) → k < length old
          → LeadsOn k (slice_index new k) × (slice_index new k ≤ cell_count m.size + length pits)
      ends_lead old written new links at_pits to_last k inside =
          let last : ℕ = cell_count m.size + length pits in
          let cells = whole.size.cells in
          let few = pits_few m side pits are in
          let within : k < length written = rw at_pits.whole inside in
          elim (own_or_not m side old links whole k inside) [
            | inl own ↦
                let (n, is, root) = at_pits.own k own in
                let less = root_below pits n k root in
                let some : slice_index written k ≢ no_link = λ e. omega (arith, is, e, cells, few, less) in
                let there : slice_index new k ≡ cell_count m.size + n = to_last.others k some ∙ is in
                rw there (inl (record { number = n; link_is = refl; label = rw root own }), omega (arith, less))
            | inr not ↦ elim (point_or_none m k whole (rw (← links.whole) inside)) [
              | inl (p, point, e) ↦
                  let l = link_at m side old links k p point e in
                  let near = point_inside m l.to l.onward.point in
                  let kept = at_pits.other k not in
                  let some : slice_index written k ≢ no_link = (let i = l.index_is in λ e. omega (arith, kept, i, near, cells, e)) in
                  let there : slice_index new k ≡ l.to.index = to_last.others k some ∙ kept ∙ l.index_is in
                  rw there (
                    inr (record { from = p; point = point; index_is = e; to = l.to; onward = l.onward; apart = λ same. not (pit_own m side k p (l.onward.stays.0 same) (sym e)); link_is = refl }),
                    omega (arith, near),
                  )
              | inr none ↦
                  let there : slice_index new k ≡ last = to_last.absent k within (at_pits.other k not ∙ (links.each k inside).none none) in
                  rw there (inl (end_none k none), omega arith)
            ]
          ]

      -- with the links of the ends they are the links of all
      pub ends_added : (old written to_last new : List ℕ) → AreLinks m side old → AreWrittenAtPits m side pits (cell_count m.size) old written
          → AreToLast (cell_count m.size + length pits) written to_last
          → HasEnds (cell_count m.size + length pits) to_last new → AreEndLinks m side pits new
      ends_added old written to_last new links at_pits to has =
          let long = links.whole in
          let same : length to_last ≡ cell_count m.size = to.whole ∙ at_pits.whole ∙ long in
          let all = has.whole in
          record {
            whole = omega (arith, all);
            inside = λ k there. elim (cases_lt k (cell_count m.size)) [
              | inl point ↦
                  let most = (ends_lead old written to_last links at_pits to k (omega (arith, point, long))).1 in
                  rw (has.kept k (omega (arith, point, same))) (omega (arith, most, all))
              | inr past ↦ rw (has.ends k (omega (arith, past, same)) there) there
            ];
            points = λ k point. rw (has.kept k (omega (arith, point, same))) (ends_lead old written to_last links at_pits to k (omega (arith, point, long))).0;
            ends = λ k past there. has.ends k (omega (arith, past, same)) there;
          }
