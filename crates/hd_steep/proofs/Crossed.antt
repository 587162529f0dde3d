-- Lists of passes that are gathered point by point, and what they are in the end.
use Rattle.std.proofs.Common.{◌≡◌, ◌<◌, ℕ, true, false, List, [], ◌∷◌, ◌++◌, Option, ◌⊎◌, inl, inr, ap, ◌∙◌, sym, subst, refl}
use Rattle.std.specs.Prelude.{Contains}
use Rattle.std.proofs.lemmas.List.Elements.{Contains-push, Contains-push_cases, Contains-append_cases, Contains-append_left, Contains-append_right}
use Rattle.hd_map.specs.declared.types.Pass.{Pass}
use Rattle.hd_map.specs.declared.types.Pos.{Pos}
use Rattle.hd_map.specs.declared.types.Rank.{Rank}
use Rattle.hd_map.specs.declared.types.SideName.{SideName}
use Rattle.hd_map.specs.Crossings.{AreCrossingsUnder}
use Rattle.hd_map.specs.Map.{Map, IsMap, Present}
use Rattle.hd_map.specs.Passes.{IsMeeting, IsLabelled}
use Rattle.hd_map.specs.Rank.{rank, below_by, IsPoint}
use Rattle.hd_map.specs.Region.{LowerNeighbour, IsRoot, AreRegions}
use Rattle.hd_map.specs.SideLaws.{below_by-order}
use Rattle.hd_map.specs.Walks.{HasPass, AreJoinedWithin}
use Rattle.hd_map.proofs.Items.{Contains-none}
use Rattle.hd_map.proofs.Nexts.{root-is_pit}
use Rattle.hd_map.proofs.Points.{Near-from, Near-to, same_index}
use Rattle.hd_map.proofs.Regions.{labelled-root, root-labelled}
use Rattle.hd_map.proofs.Saddles.{near-sym}
use Rattle.hd_map.proofs.Order.{below-not_above}
use Rattle.hd_steep.specs.Crossed.{AreInOne, IsPassTo, IsCrossing, Extends, IsCrossed, IsServed, Gathers}
use Rattle.hd_steep.proofs.Round.{same_or_below}
use Rattle.hd_steep.proofs.Enough.{meeting_joined}

module _ (m : Map) (side : SideName) where
  -- by nothing
  pub extends_none : (xs : List Pass) → Extends m side xs xs
  extends_none xs = record { from = λ p h. inl h; kept = λ p h. h }

  -- one time after the other
  pub extends_on : (xs ys zs : List Pass) → Extends m side xs ys → Extends m side ys zs → Extends m side xs zs
  extends_on xs ys zs one other = record {
    from = λ p h. elim (other.from p h) [
      | inl old ↦ one.from p old
      | inr new ↦ inr new
    ];
    kept = λ p h. other.kept p (one.kept p h);
  }

  -- by one pass
  pub extends_push : (xs : List Pass) (p : Pass) (x y : Rank) → LowerNeighbour m side x y → IsPassTo m side x y p → Extends m side xs (xs ++ p ∷ [])
  extends_push xs p x y low pass = record {
    from = λ q h. elim (Contains-push_cases xs p q h) [
      | inl old ↦ inl old
      | inr e ↦ inr (subst (λ (r : Pass). IsCrossing m side r) e (record { higher = x; lower = y; neighbour = low; pass = pass }))
    ];
    kept = λ q h. Contains-append_left xs (p ∷ []) q h;
  }

  -- a pass by its parts
  pass_parts : (p : Pass) (x : Rank) → p.at ≡ x → p ≡ record { a = p.a; b = p.b; at = x }
  pass_parts p x e = ap (λ r. record { a = p.a; b = p.b; at = r }) e

  -- the regions of the pass are crossed
  pub crossed_push : (xs : List Pass) (p : Pass) (x y : Rank) → IsPassTo m side x y p → IsCrossed m side (xs ++ p ∷ []) x y
  crossed_push xs p x y pass =
      let there : Contains (xs ++ p ∷ []) (record { a = p.a; b = p.b; at = x }) = subst (λ (q : Pass). Contains (xs ++ p ∷ []) q) (pass_parts p x pass.at_is) (Contains-push xs p) in
      elim pass.of [
        | inl of ↦ record { a = p.a; b = p.b; from = of.0; to = of.1; by = inr (inl there) }
        | inr of ↦ record { a = p.b; b = p.a; from = of.0; to = of.1; by = inr (inr there) }
      ]

  -- a pass stays
  pass_kept : (old new : List Pass) (a b w : Rank) → Extends m side old new → HasPass old a b w → HasPass new a b w
  pass_kept old new a b w extends (inl h) = inl (extends.kept (record { a = a; b = b; at = w }) h)
  pass_kept old new a b w extends (inr h) = inr (extends.kept (record { a = b; b = a; at = w }) h)

  -- what is crossed stays crossed
  pub crossed_kept : (old new : List Pass) (x y : Rank) → Extends m side old new → IsCrossed m side old x y → IsCrossed m side new x y
  crossed_kept old new x y extends crossed = record {
    a = crossed.a;
    b = crossed.b;
    from = crossed.from;
    to = crossed.to;
    by = elim crossed.by [
      | inl same ↦ inl same
      | inr pass ↦ inr (pass_kept old new crossed.a crossed.b x extends pass)
    ];
  }

  -- what is served stays served
  served_kept : (old new : List Pass) (x y : Rank) → Extends m side old new → IsServed m side old x y → IsServed m side new x y
  served_kept old new x y extends served =
      record { last = served.last; way = served.way; along = served.along; crossed = crossed_kept old new x served.last extends served.crossed }

  -- for fewer points
  pub gathers_less : (C D : Pos → Type 0) (xs ys : List Pass) → ((u : Pos) → Present m u → D u → C u) → Gathers m side C xs ys → Gathers m side D xs ys
  gathers_less C D xs ys less gathers = record { extends = gathers.extends; served = λ u chosen here. gathers.served u (less u here chosen) here }

  -- what is added to none is a crossing
  added_to_none : (xs : List Pass) (p : Pass) → Extends m side [] xs → Contains xs p → IsCrossing m side p
  added_to_none xs p extends h = elim (extends.from p h) [
    | inl none ↦ absurd (Contains-none p none)
    | inr crossing ↦ crossing
  ]

  -- for some points, and for others on their own
  pub gathers_append : (C D : Pos → Type 0) (xs ys : List Pass) → Gathers m side C [] xs → Gathers m side D [] ys → Gathers m side (λ u. C u ⊎ D u) [] (xs ++ ys)
  gathers_append C D xs ys one other =
      let new : (p : Pass) → Contains (xs ++ ys) p → IsCrossing m side p = λ p h. elim (Contains-append_cases xs ys p h) [
        | inl left ↦ added_to_none xs p one.extends left
        | inr right ↦ added_to_none ys p other.extends right
      ] in
      record {
        extends = record { from = λ p h. inr (new p h); kept = λ p h. absurd (Contains-none p h) };
        served = λ u chosen here z low. elim chosen [
          | inl c ↦ served_kept xs (xs ++ ys) (rank m u) z (record { from = λ p h. inr (new p h); kept = λ p h. Contains-append_left xs ys p h }) (one.served u c here z low)
          | inr d ↦ served_kept ys (xs ++ ys) (rank m u) z (record { from = λ p h. inr (new p h); kept = λ p h. Contains-append_right xs ys p h }) (other.served u d here z low)
        ];
      }

  -- where the lower neighbours of all points are served, the passes are crossings
  module _ (whole : IsMap m) (labels : List (Option ℕ)) (regions : AreRegions m side labels) (passes : List Pass)
      (all : Gathers m side (λ u. u.y < m.size.profiles) [] passes) where
    crossing_of : (p : Pass) → Contains passes p → IsCrossing m side p
    crossing_of p h = added_to_none passes p all.extends h

    -- a crossing is at a meeting of its two regions
    meets_at : (p : Pass) → IsCrossing m side p → IsMeeting m side (IsLabelled m labels) p.a p.b p.at
    meets_at p crossing =
        let x : Rank = crossing.higher in
        let y : Rank = crossing.lower in
        let near = crossing.neighbour.near in
        let below : below_by side y x ≡ true = crossing.neighbour.below in
        let not : below_by side x y ≡ false = below-not_above (below_by side) (below_by-order side) y x below in
        let point_x = Near-from m x y near in
        let point_y = Near-to m x y near in
        elim crossing.pass.of [
          | inl of ↦ record {
            from = x;
            to = y;
            near = near;
            from_in = root-labelled m side labels regions x p.a point_x of.0;
            to_in = root-labelled m side labels regions y p.b point_y of.1;
            higher = crossing.pass.at_is ∙ (rw not refl);
          }
          | inr of ↦ record {
            from = y;
            to = x;
            near = near-sym m x y near;
            from_in = root-labelled m side labels regions y p.a point_y of.1;
            to_in = root-labelled m side labels regions x p.b point_x of.0;
            higher = crossing.pass.at_is ∙ (rw below refl);
          }
        ]

    served_at : (x y : Rank) → LowerNeighbour m side x y → IsServed m side passes x y
    served_at x y low =
        let point : IsPoint m x = Near-from m x y low.near in
        let is = point.rank_is in
        subst (λ (r : Rank). IsServed m side passes r y) (sym is) (all.served point.at point.present.in_grid.profile point.present y (subst (λ (r : Rank). LowerNeighbour m side r y) is low))

    pub crossings_all : AreCrossingsUnder m side labels passes
    crossings_all = record {
      ends = λ p h. (crossing_of p h).pass.ends;
      meets = λ p h. meets_at p (crossing_of p h);
      enough = λ a b w meeting.
          subst (λ (r : Rank). AreJoinedWithin (below_by side) passes r a b) (sym meeting.higher)
          (meeting_joined m side passes whole labels regions served_at meeting.from meeting.to a b meeting.near (labelled-root m side labels regions meeting.from a meeting.from_in)
          (labelled-root m side labels regions meeting.to b meeting.to_in));
    }

module _ (m : Map) (side : SideName) where
  -- points whose regions have pits of one index lie in one region
  pub in_one : (x y p q : Rank) → IsRoot m side x p → IsRoot m side y q → p.index ≡ q.index → AreInOne m side x y
  in_one x y p q one other same = record {
    root = p;
    from = one;
    to = subst (λ (r : Rank). IsRoot m side y r) (same_index m q p (root-is_pit m side y q other).point (root-is_pit m side x p one).point (sym same)) other;
  }

  -- of two different pits the one that is not below the other is above it
  pub pits_apart : (x y p q : Rank) → IsRoot m side x p → IsRoot m side y q → (p.index ≡ q.index → ⊥) → below_by side p q ≡ false → below_by side q p ≡ true
  pits_apart x y p q one other apart not = elim (same_or_below (below_by side) (below_by-order side) q p not) [
    | inl same ↦ absurd (apart (ap (λ (r : Rank). r.index) (sym same)))
    | inr below ↦ below
  ]

  -- points of one region are crossed
  pub crossed_in_one : (xs : List Pass) (x y : Rank) → AreInOne m side x y → IsCrossed m side xs x y
  crossed_in_one xs x y one = record { a = one.root; b = one.root; from = one.from; to = one.to; by = inl refl }
