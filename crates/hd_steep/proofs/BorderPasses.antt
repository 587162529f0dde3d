-- The passes of the borders between the indexes of pits are the passes between their regions.
use Rattle.std.proofs.Common.{◌≡◌, ◌<◌, ◌∙◌, ℕ, true, false, cond, inl, inr, List, length, get_or, map, min, max, Option, Some, None, refl, sym, ap, subst, arith}
use Rattle.std.specs.Prelude.{All, AllPairs, Contains, pos, slice_get}
use Rattle.std.proofs.lemmas.Bool.{cases_eq, cases_lt}
use Rattle.std.proofs.lemmas.List.{get_or-map, length-map}
use Rattle.std.proofs.lemmas.List.Elements.{Contains-get_or}
use Rattle.std.specs.Option.{option_map}
use Rattle.std.proofs.lemmas.Option.{same_Some, slice_get-map, get_or_from_slice_get}
use Rattle.hd_map.specs.declared.types.Pass.{Pass}
use Rattle.hd_map.specs.declared.types.Pos.{Pos}
use Rattle.hd_map.specs.declared.types.Rank.{Rank}
use Rattle.hd_map.specs.declared.types.SideName.{SideName}
use Rattle.hd_map.specs.Map.{IsMap, InGrid, Map, cell_count, place_of, position_at}
use Rattle.hd_map.specs.Order.{IsNotAbove}
use Rattle.hd_map.specs.Passes.{ArePassesUnder, IsLabelled, IsMeeting, IsPass}
use Rattle.hd_map.specs.Rank.{IsPoint, below_by, rank}
use Rattle.hd_map.specs.Region.{AreRegions}
use Rattle.hd_map.specs.SideLaws.{below_by-order}
use Rattle.hd_map.proofs.Items.{Contains-map, map-Contains}
use Rattle.hd_map.proofs.Order.{below-apart, below-not_above}
use Rattle.hd_map.proofs.Points.{point_inside, position_at-inside, position_at-place, present_or_not, same_index}
use Rattle.hd_map.proofs.Nexts.{root-is_pit}
use Rattle.hd_map.proofs.Regions.{region-of}
use Rattle.hd_map.proofs.Saddles.{near-sym}
use Rattle.hd_map.proofs.Higher.{higher-sym, not_above-below}
use Rattle.hd_steep.specs.declared.border.Border.{Border}
use Rattle.hd_steep.specs.Borders.{AreBorders}
use Rattle.hd_steep.specs.Found.{HasPlace, of_pair}
use Rattle.hd_steep.specs.Pairs.{IsAcross, Pair}
use Rattle.hd_steep.specs.Passes.{ComesFirst, HasPoints, pass_between, pass_of_border, place_of_label, point_of}
use Rattle.hd_steep.proofs.PointAt.{point-of_index}

-- two passes in their order are of different regions
in_order-apart : (p q : Pass) → ComesFirst p q → p.a ≡ q.a → p.b ≡ q.b → ⊥
in_order-apart p q first a b =
    let i : p.a.index ≡ q.a.index = ap (λ (r : Rank). r.index) a in
    let j : p.b.index ≡ q.b.index = ap (λ (r : Rank). r.index) b in
    elim first [ inl less ↦ omega (arith, less, i, j) | inr same ↦ omega (arith, same.1, i, j) ]

module _ (m : Map) (side : SideName) where
  -- the lesser and the greater index of a pass
  between-ends : (a b w : Rank) → a.index < b.index → (min (pass_between side a b w).a.index (pass_between side a b w).b.index ≡ a.index)
      × (max (pass_between side a b w).a.index (pass_between side a b w).b.index ≡ b.index)
  between-ends a b w less = elim (below_by side a b) as (λ v. let p : Pass = cond v (record { a = a; b = b; at = w }) (record { a = b; b = a; at = w }) in
      (min p.a.index p.b.index ≡ a.index) × (max p.a.index p.b.index ≡ b.index)) [
        | true ↦ (omega arith, omega arith)
        | false ↦ (omega arith, omega arith)
      ]

  module _ (whole : IsMap m) (labels : List (Option ℕ)) (regions : AreRegions m side labels) where
    abbrev In : Rank → Rank → Type 0
    In = IsLabelled m labels

    abbrev pub places : List ℕ
    places = map place_of_label labels

    meeting-sym : (a b w : Rank) → IsMeeting m side In a b w → IsMeeting m side In b a w
    meeting-sym a b w h = record { from = h.to; to = h.from; near = near-sym m h.from h.to h.near; from_in = h.to_in; to_in = h.from_in; higher = h.higher ∙ higher-sym side h.from h.to }

    -- the place of a point is the index of the pit with which it is labelled
    placed : (x a : Rank) → In x a → HasPlace m places x a.index
    placed x a h = record { point = h.point; place = slice_get-map place_of_label labels x.index ∙ ap (option_map place_of_label) h.label }

    labelled : (x : Rank) (i : ℕ) → HasPlace m places x i → (a : Rank) × In x a × (a.index ≡ i)
    labelled x i h = (let r = region-of m side labels regions x h.point in (r.0, r.2, same_Some (r.0).index i (sym (placed x r.0 r.2).place ∙ h.place)))

    across : (a b : Rank) (p : Pair) → IsAcross m In a b p → IsAcross m (HasPlace m places) a.index b.index p
    across a b p h = record { near = h.near; from_in = placed p.from a h.from_in; to_in = placed p.to b h.to_in }

    -- each place is the index of a point
    pub places-within : All (λ p. p < length labels) places
    places-within k d inside =
        let below : k < length labels = omega (arith, inside, length-map labels place_of_label) in
        let there : k < cell_count m.size = omega (arith, below, regions.whole) in
        let at : Pos = position_at m.size k in
        let in_grid : InGrid m.size at = position_at-inside m.size k whole.size.some_points there in
        let place : place_of m.size at ≡ k = position_at-place m.size k whole.size.some_points in
        let label : (l : Option ℕ) → slice_get labels (place_of m.size at) ≡ Some l → get_or places k d ≡ place_of_label l =
        λ l e. get_or-map place_of_label labels k None d below ∙ ap place_of_label (get_or_from_slice_get labels k l None (ap (slice_get labels) (sym place) ∙ e)) in
        elim (present_or_not m at in_grid) [
          | inl here ↦
              let found = regions.present at here in
              let less = point_inside m found.0 (root-is_pit m side (rank m at) found.0 found.1).point in
              omega (arith, label (Some (found.0).index) found.2, less, regions.whole)
          | inr not ↦ omega (arith, label None (regions.absent at in_grid not), below)
        ]

    -- the pass between two regions, whichever pit is the lower one
    between-is : (a b w : Rank) → (a ≡ b → ⊥) → IsMeeting m side In a b w → ((v : Rank) → IsMeeting m side In a b v → IsNotAbove (below_by side) w v) → IsPass m side In (pass_between side a b w)
    between-is a b w apart meet lowest = elim (below_by side a b) as (λ v. below_by side a b ≡ v → IsPass m side In (cond v (record { a = a; b = b; at = w }) (record { a = b; b = a; at = w }))) [
      | true ↦ λ e. record { ends = e; meeting = meet; lowest = lowest }
      | false ↦ λ e. record {
        ends = not_above-below side b a e (λ same. apart (sym same));
        meeting = meeting-sym a b w meet;
        lowest = λ v h. lowest v (meeting-sym b a v h);
      }
    ] refl

    module _ (borders : List Border) (are : AreBorders m side places borders) where
      -- the pits of a border, and its pass
      pub record Joins (l : Border) : Type 0 where
        pub a : Rank
        pub b : Rank
        pub a_point : IsPoint m a
        pub b_point : IsPoint m b
        pub a_index : a.index ≡ l.a
        pub b_index : b.index ≡ l.b
        pub meeting : IsMeeting m side In a b l.pass
        pub pass_is : pass_of_border m side l ≡ pass_between side a b l.pass

      joins : (l : Border) → Contains borders l → Joins l
      joins l at =
          let r = (are.counted l at).reached in
          let a = labelled r.0.from l.a r.1.from_in in
          let b = labelled r.0.to l.b r.1.to_in in
          record {
            a = a.0;
            b = b.0;
            a_point = (a.1).low;
            b_point = (b.1).low;
            a_index = a.2;
            b_index = b.2;
            meeting = record { from = r.0.from; to = r.0.to; near = r.1.near; from_in = a.1; to_in = b.1; higher = r.2 };
            pass_is = ap (λ v. pass_between side v (point_of m l.b) l.pass) (ap (point_of m) (sym a.2) ∙ point-of_index m a.0 (a.1).low)
                ∙ ap (λ v. pass_between side a.0 v l.pass) (ap (point_of m) (sym b.2) ∙ point-of_index m b.0 (b.1).low);
          }

      pub borders-points : All (HasPoints m) borders
      borders-points k d inside =
          let j = joins (get_or borders k d) (Contains-get_or borders k d inside) in
          (record { at = j.a; point = j.a_point; index_is = sym j.a_index }, record { at = j.b; point = j.b_point; index_is = sym j.b_index })

      abbrev passes : List Pass
      passes = map (pass_of_border m side) borders

      is_pass : (l : Border) → Contains borders l → IsPass m side In (pass_of_border m side l)
      is_pass l at =
          let j = joins l at in
          let less = are.lesser l at in
          subst (λ (p : Pass). IsPass m side In p) (sym j.pass_is) (between-is j.a j.b l.pass
          (λ same. (let e = ap (λ (r : Rank). r.index) same in omega (arith, e, j.a_index, j.b_index, less))) j.meeting
          (λ v meet.
          let p : Pair = record { from = meet.from; to = meet.to } in
          let pair : IsAcross m In j.a j.b p = record { near = meet.near; from_in = meet.from_in; to_in = meet.to_in } in
          let one : IsAcross m (HasPlace m places) l.a l.b p = subst (λ i. IsAcross m (HasPlace m places) i l.b p) j.a_index
          (subst (λ i. IsAcross m (HasPlace m places) j.a.index i p) j.b_index (across j.a j.b p pair)) in
          subst (λ w. IsNotAbove (below_by side) l.pass w) (sym meet.higher) ((are.counted l at).least p one)))

      -- two regions that meet have a pass, whichever index is the lesser
      has_pass : (a b w : Rank) → a.index < b.index → IsMeeting m side In a b w → (l : Border) × Contains borders l × (pass_of_border m side l ≡ pass_between side a b l.pass)
      has_pass a b w less meet =
          let p : Pair = record { from = meet.from; to = meet.to } in
          let l = are.all a.index b.index p less (across a b p (record { near = meet.near; from_in = meet.from_in; to_in = meet.to_in })) in
          let j = joins l.0 l.1 in (
            l.0,
            l.1,
            j.pass_is
                ∙ ap (λ v. pass_between side v j.b (l.0).pass) (same_index m j.a a j.a_point meet.from_in.low (j.a_index ∙ l.2))
                ∙ ap (λ v. pass_between side a v (l.0).pass) (same_index m j.b b j.b_point meet.to_in.low (j.b_index ∙ l.3)),
          )

      -- of the pass between two pits the lower one is the first
      between-down : (a b w : Rank) (p : Pass) → below_by side a b ≡ true → p ≡ pass_between side a b w → (p.a ≡ a) × (p.b ≡ b)
      between-down a b w p e is =
          let first : p ≡ record { a = a; b = b; at = w } = is ∙ ap (λ v. cond {A = Pass} v (record { a = a; b = b; at = w }) (record { a = b; b = a; at = w })) e in
          (ap (λ (q : Pass). q.a) first, ap (λ (q : Pass). q.b) first)

      between-up : (a b w : Rank) (p : Pass) → below_by side b a ≡ false → p ≡ pass_between side b a w → (p.a ≡ a) × (p.b ≡ b)
      between-up a b w p e is =
          let first : p ≡ record { a = a; b = b; at = w } = is ∙ ap (λ v. cond {A = Pass} v (record { a = b; b = a; at = w }) (record { a = a; b = b; at = w })) e in
          (ap (λ (q : Pass). q.a) first, ap (λ (q : Pass). q.b) first)

      all : (a b w : Rank) → below_by side a b ≡ true → IsMeeting m side In a b w → (p : Pass) × Contains passes p × (p.a ≡ a) × (p.b ≡ b)
      all a b w below meet = elim (cases_lt a.index b.index) [
        | inl less ↦
            let l = has_pass a b w less meet in
            let ends = between-down a b (l.0).pass (pass_of_border m side l.0) below l.2 in
            (pass_of_border m side l.0, map-Contains (pass_of_border m side) borders l.0 l.1, ends.0, ends.1)
        | inr past ↦ elim (cases_eq a.index b.index) [
          | inl same ↦ absurd (below-apart (below_by side) (below_by-order side) a b below (same_index m a b meet.from_in.low meet.to_in.low same))
          | inr other ↦
              let l = has_pass b a w (omega arith) (meeting-sym a b w meet) in
              let ends = between-up a b (l.0).pass (pass_of_border m side l.0) (below-not_above (below_by side) (below_by-order side) a b below) l.2 in
              (pass_of_border m side l.0, map-Contains (pass_of_border m side) borders l.0 l.1, ends.0, ends.1)
        ]
      ]

      ends : (l : Border) → Contains borders l → (min (pass_of_border m side l).a.index (pass_of_border m side l).b.index ≡ l.a)
          × (max (pass_of_border m side l).a.index (pass_of_border m side l).b.index ≡ l.b)
      ends l at =
          let j = joins l at in
          let less = are.lesser l at in
          let e = between-ends j.a j.b l.pass (omega (arith, less, j.a_index, j.b_index)) in
          (ap (λ (p : Pass). min p.a.index p.b.index) j.pass_is ∙ e.0 ∙ j.a_index, ap (λ (p : Pass). max p.a.index p.b.index) j.pass_is ∙ e.1 ∙ j.b_index)

      pub passes-ordered : AllPairs ComesFirst passes
      passes-ordered i j d less inside =
          let none : Border = of_pair 0 0 (record { height = pos 0; index = 0 }) in
          let within : j < length borders = omega (arith, inside, length-map borders (pass_of_border m side)) in
          let x : Border = get_or borders i none in
          let y : Border = get_or borders j none in
          let one = ends x (Contains-get_or borders i none (omega arith)) in
          let other = ends y (Contains-get_or borders j none within) in
          rw (get_or-map (pass_of_border m side) borders i none d (omega arith), get_or-map (pass_of_border m side) borders j none d within, one.0, one.1, other.0, other.1)
          (are.in_order i j none less within)

      pub passes-all : ArePassesUnder m side labels passes
      passes-all = record {
        each = λ p at. (let l = Contains-map (pass_of_border m side) borders p at in subst (λ (q : Pass). IsPass m side In q) l.2 (is_pass l.0 l.1));
        all = all;
        once = λ i j d less inside. in_order-apart (get_or passes i d) (get_or passes j d) (passes-ordered i j d less inside);
      }
