-- Lists of descents that are gathered point by point, and what they are in the end.
use Rattle.std.proofs.Common.{◌≡◌, ◌<◌, ◌+◌, ◌++◌, ℕ, zero, suc, Bool, true, List, [], ◌∷◌, slice_index, ◌⊎◌, inl, inr, ap, ◌∙◌, sym, subst, refl, arith}
use Rattle.std.specs.Prelude.{Contains}
use Rattle.std.proofs.lemmas.Bool.{cases_eq, cond_both}
use Rattle.std.proofs.lemmas.List.Elements.{Contains-push, Contains-push_cases, Contains-append_left}
use Rattle.hd_map.specs.declared.types.Pos.{Pos}
use Rattle.hd_map.specs.declared.types.Rank.{Rank}
use Rattle.hd_map.specs.declared.types.SideName.{SideName}
use Rattle.hd_map.specs.Encoding.{Encoding}
use Rattle.hd_map.specs.Map.{Map, IsMap, Present}
use Rattle.hd_map.specs.Rank.{rank}
use Rattle.hd_map.specs.Region.{LowerNeighbour}
use Rattle.hd_map.proofs.Items.{Contains-none}
use Rattle.hd_map.proofs.Points.{Near-to}
use Rattle.hd_steep.specs.declared.descent.Descent.{Descent}
use Rattle.hd_steep.specs.declared.rolling.Rows.{Rows}
use Rattle.hd_steep.specs.Descended.{Descends, descent_to, indexes_round, with_descents}
use Rattle.hd_steep.specs.Descents.{IsDescentFrom, IsReached}
use Rattle.hd_steep.specs.KeyRows.{AreRowsRound, ranks_of}
use Rattle.hd_steep.specs.Ring.{ring_of, are_lower, are_lower_heights, is_marked, marks_of, IsOneAtMost}
use Rattle.hd_steep.specs.Rows.{rank_in}
use Rattle.hd_steep.proofs.Around.{own_is, first_lower, reached_first, reached_alone}
use Rattle.hd_steep.proofs.Heights.{heights_tell}
use Rattle.hd_steep.proofs.IndexesRound.{indexes_at}
use Rattle.hd_steep.proofs.Marks.{eight_marks, marked_inside}
use Rattle.hd_steep.proofs.ShownKeys.{index_at}

module _ (from : ℕ) (others : List ℕ) (marks : List Bool) (old : List Descent) where
  -- it leads to a marked one
  abbrev LeadsToMarked : Descent → Type 0
  LeadsToMarked d = (k : ℕ) × (is_marked marks k ≡ true) × (descent_to from (slice_index others k) ≡ d)

  abbrev new_to : ℕ → List Descent
  new_to n = with_descents from others marks old n

  -- with one descent more nothing is left out
  one_kept : (n : ℕ) (d : Descent) → Contains (new_to n) d → Contains (new_to (suc n)) d
  one_kept n d held = cond_both (is_marked marks n) (new_to n ++ descent_to from (slice_index others n) ∷ []) (new_to n) (λ (ds : List Descent). Contains ds d)
      (λ marked. Contains-append_left (new_to n) (descent_to from (slice_index others n) ∷ []) d held) (λ not. held)

  all_kept : (n : ℕ) (d : Descent) → Contains old d → Contains (new_to n) d
  all_kept zero d held = held
  all_kept (suc n) d held = one_kept n d (all_kept n d held)

  -- what is new leads to a marked one
  all_from : (n : ℕ) (d : Descent) → Contains (new_to n) d → Contains old d ⊎ LeadsToMarked d
  all_from zero d = λ held. inl held
  all_from (suc n) d = cond_both (is_marked marks n) (new_to n ++ descent_to from (slice_index others n) ∷ []) (new_to n) (λ (ds : List Descent). Contains ds d → Contains old d ⊎ LeadsToMarked d)
      (λ marked held. elim (Contains-push_cases (new_to n) (descent_to from (slice_index others n)) d held) [
        | inl before ↦ all_from n d before
        | inr is ↦ inr (n, marked, is)
      ])
      (λ not held. all_from n d held)

  -- and each of these is led to
  all_listed : (n k : ℕ) → k < n → is_marked marks k ≡ true → Contains (new_to n) (descent_to from (slice_index others k))
  all_listed zero k below marked = absurd (omega (arith, below))
  all_listed (suc n) k below marked = elim (cases_eq k n) [
    | inl same ↦
        let here : is_marked marks n ≡ true = subst (λ i. is_marked marks i ≡ true) same marked in
        subst (λ i. Contains (new_to (suc n)) (descent_to from (slice_index others i))) (sym same) (rw here (Contains-push (new_to n) (descent_to from (slice_index others n))))
    | inr other ↦ one_kept n (descent_to from (slice_index others k)) (all_listed n k (omega (arith, below, other)) marked)
  ]

module _ (m : Map) (side : SideName) where
  -- what is reached stays reached
  reached_kept : (old new : List Descent) (x y : Rank) → ((d : Descent) → Contains old d → Contains new d) → IsReached m side old x y → IsReached m side new x y
  reached_kept old new x y kept reached = record {
    last = reached.last;
    way = reached.way;
    along = reached.along;
    by = elim reached.by [
      | inl next ↦ inl next
      | inr listed ↦ inr (kept (descent_to x.index reached.last.index) listed)
    ];
  }

  -- by nothing, where all is reached
  pub descends_none : (C : Pos → Type 0) (xs : List Descent) → ((u : Pos) → C u → Present m u → (z : Rank) → LowerNeighbour m side (rank m u) z → IsReached m side xs (rank m u) z)
      → Descends m side C xs xs
  descends_none C xs all = record { from = λ d held. inl held; kept = λ d held. held; all = all }

  -- a descent from some points is one from more
  from_more : (C D : Pos → Type 0) (d : Descent) → ((u : Pos) → Present m u → C u → D u) → IsDescentFrom m side C d → IsDescentFrom m side D d
  from_more C D d more of = record { at = of.at; chosen = more of.at of.present of.chosen; present = of.present; to = of.to; leads = of.leads }

  -- from the same points
  pub descends_same : (C D : Pos → Type 0) (xs ys : List Descent) → ((u : Pos) → Present m u → C u → D u) → ((u : Pos) → Present m u → D u → C u) → Descends m side C xs ys → Descends m side D xs ys
  descends_same C D xs ys to back descends = record {
    from = λ d held. elim (descends.from d held) [
      | inl old ↦ inl old
      | inr new ↦ inr (from_more C D d to new)
    ];
    kept = descends.kept;
    all = λ u chosen here. descends.all u (back u here chosen) here;
  }

  -- from some points, and then from others
  pub descends_join : (C D : Pos → Type 0) (xs ys zs : List Descent) → Descends m side C xs ys → Descends m side D ys zs → Descends m side (λ u. C u ⊎ D u) xs zs
  descends_join C D xs ys zs one other = record {
    from = λ d held. elim (other.from d held) [
      | inl before ↦ elim (one.from d before) [
        | inl old ↦ inl old
        | inr c ↦ inr (from_more C (λ u. C u ⊎ D u) d (λ u here chosen. inl chosen) c)
      ]
      | inr new ↦ inr (from_more D (λ u. C u ⊎ D u) d (λ u here chosen. inr chosen) new)
    ];
    kept = λ d held. other.kept d (one.kept d held);
    all = λ u chosen here z low. elim chosen [
      | inl c ↦ reached_kept ys zs (rank m u) z other.kept (one.all u c here z low)
      | inr d ↦ other.all u d here z low
    ];
  }

  -- what is new to none
  pub from_none : (C : Pos → Type 0) (xs : List Descent) (d : Descent) → Descends m side C [] xs → Contains xs d → IsDescentFrom m side C d
  from_none C xs d descends held = elim (descends.from d held) [
    | inl none ↦ absurd (Contains-none d none)
    | inr of ↦ of
  ]

module _ (m : Map) (side : SideName) (whole : IsMap m) {L : Type 0} (code : Encoding L) (rows : Rows L) (at : Pos) (here : Present m at) (round : AreRowsRound code side m at.y rows)
    (lower : List Bool) where
  abbrev above : List Rank
  above = ranks_of code side rows.above

  abbrev level : List Rank
  level = ranks_of code side rows.level

  abbrev below : List Rank
  below = ranks_of code side rows.below

  abbrev middle : Rank
  middle = rank_in level (at.x + 1)

  abbrev around : List Rank
  around = ring_of above level below at.x

  -- the places round a present point that are lower by heights alone
  module _ (lower_is : lower ≡ are_lower_heights side middle around) where
    abbrev first : List Bool
    first = marks_of m.adjacency lower

    column : at.x < m.size.points
    column = here.in_grid.column

    -- the rank in the middle is that of the point
    middle_is : middle ≡ rank m at
    middle_is = own_is m side whole above level below at.x at.y column round.above.ranks round.level.ranks round.below.ranks at here refl refl

    -- the first ones are the first lower ones
    first_is : first ≡ marks_of m.adjacency (are_lower side middle around)
    first_is = ap (marks_of m.adjacency) (lower_is ∙ ap (λ (r : Rank). are_lower_heights side r around) middle_is
        ∙ heights_tell m side whole at here above level below round.above.ranks round.level.ranks round.below.ranks
        ∙ ap (λ (r : Rank). are_lower side r around) (sym middle_is))

    -- they are lower neighbours
    lower_at : (k : ℕ) → is_marked first k ≡ true → LowerNeighbour m side middle (rank_in around k)
    lower_at k marked = first_lower m side whole above level below at.x at.y column round.above.ranks round.level.ranks round.below.ranks at here refl refl k
        (subst (λ (f : List Bool). is_marked f k ≡ true) first_is marked)

    -- what holds of all lower neighbours in the middle holds at a point at the position
    at_point : (P : Rank → Rank → Type 0) → ((z : Rank) → LowerNeighbour m side middle z → P middle z)
        → (u : Pos) → u ≡ at → Present m u → (z : Rank) → LowerNeighbour m side (rank m u) z → P (rank m u) z
    at_point P holds u same there z low =
        let is : middle ≡ rank m u = middle_is ∙ ap (rank m) (sym same) in
        subst (λ (r : Rank). P r z) is (holds z (subst (λ (r : Rank). LowerNeighbour m side r z) (sym is) low))

    -- where one of them is marked at most, all lower neighbours are reached
    pub reached_at : (list : List Descent) → IsOneAtMost first → (u : Pos) → u ≡ at → Present m u → (z : Rank) → LowerNeighbour m side (rank m u) z → IsReached m side list (rank m u) z
    reached_at list alone = at_point (IsReached m side list)
        (reached_alone m side whole above level below at.x at.y column round.above.ranks round.level.ranks round.below.ranks at here refl refl list
        (subst (λ (f : List Bool). IsOneAtMost f) first_is alone))

    module _ (old : List Descent) where
      abbrev new : List Descent
      new = with_descents (rows.level.first + at.x) (indexes_round rows at.x) first old 8

      -- the index of the point
      from_is : rows.level.first + at.x ≡ middle.index
      from_is =
          let is = index_at m side whole code (at.y + 1) rows.level round.level (at.x + 1) (omega (arith, column)) (record { at = at; present = here; rank_is = middle_is }) in
          omega (arith, is)

      inside : (k : ℕ) → is_marked first k ≡ true → k < 8
      inside k marked = let below = marked_inside first k marked in let long = eight_marks m.adjacency lower in omega (arith, below, long)

      to_is : (k : ℕ) → is_marked first k ≡ true → slice_index (indexes_round rows at.x) k ≡ (rank_in around k).index
      to_is k marked = indexes_at m side whole code at.y at.x column rows round k (inside k marked) (Near-to m middle (rank_in around k) (lower_at k marked).near)

      -- with the descents to the marked ones
      pub descends_at : Descends m side (λ u. u ≡ at) old new
      descends_at = record {
        from = λ d held. elim (all_from (rows.level.first + at.x) (indexes_round rows at.x) first old 8 d held) [
          | inl before ↦ inl before
          | inr (k, marked, is) ↦ inr (record {
            at = at;
            chosen = refl;
            present = here;
            to = rank_in around k;
            leads = record {
              lower = subst (λ (r : Rank). LowerNeighbour m side r (rank_in around k)) middle_is (lower_at k marked);
              from_is = ap (λ (e : Descent). e.from) (sym is) ∙ from_is ∙ ap (λ (r : Rank). r.index) middle_is;
              to_is = ap (λ (e : Descent). e.to) (sym is) ∙ to_is k marked;
            };
          })
        ];
        kept = all_kept (rows.level.first + at.x) (indexes_round rows at.x) first old 8;
        all = at_point (IsReached m side new)
            (reached_first m side whole above level below at.x at.y column round.above.ranks round.level.ranks round.below.ranks at here refl refl new (λ k marked.
            let is_first : is_marked first k ≡ true = subst (λ (f : List Bool). is_marked f k ≡ true) (sym first_is) marked in
            rw (← from_is, ← to_is k is_first) (all_listed (rows.level.first + at.x) (indexes_round rows at.x) first old 8 k (inside k is_first) is_first)));
      }
