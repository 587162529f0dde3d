-- The pairs of neighbours of a tile, each tried once, and the passes from them.
use Rattle.std.proofs.Common.{◌≡◌, ◌≢◌, ◌<◌, ◌≤◌, ◌+◌, ◌-◌, ◌*◌, ℕ, zero, suc, ◌⊎◌, inl, inr, List, [], get_or, slice_index, length, map, Option, Some}
use Rattle.std.proofs.Common.{None, slice_get, refl, sym, ◌∙◌, ap, subst, arith}
use Rattle.std.specs.Prelude.{AllPairs, Contains}
use Rattle.std.proofs.Math.Nat.{mul-le-mul_right}
use Rattle.std.proofs.lemmas.List.{get_or-map, length-map}
use Rattle.std.proofs.lemmas.Bool.{cases_eq, cases_lt}
use Rattle.std.proofs.lemmas.Option.{same_Some, get_or_from_slice_get, slice_get-get_or, slice_get_within}
use Rattle.hd_map.specs.declared.types.Pass.{Pass}
use Rattle.hd_map.specs.declared.types.Pos.{Pos}
use Rattle.hd_map.specs.declared.types.Rank.{Rank}
use Rattle.hd_map.specs.declared.types.SideName.{SideName}
use Rattle.hd_map.specs.Map.{Map, IsMap, Present}
use Rattle.hd_map.specs.Neighbour.{IsNear, Neighbour, AreBesideUnder}
use Rattle.hd_map.specs.Order.{IsNotAbove}
use Rattle.hd_map.specs.Passes.{higher_by}
use Rattle.hd_map.specs.Rank.{rank, below_by}
use Rattle.hd_map.proofs.Gather.{same_pos}
use Rattle.hd_map.proofs.Items.{Contains-map, map-Contains}
use Rattle.hd_map.proofs.Points.{present_or_not, neighbour-sym}
use Rattle.hd_map.proofs.Higher.{higher-sym}
use Rattle.hd_steep.specs.Lowest.{IsAtPlace, IsLow}
use Rattle.hd_steep.specs.Rows.{past_end}
use Rattle.hd_tiles.specs.Tile.{tile_of}
use Rattle.hd_basin.specs.declared.frame.Frame.{Frame}
use Rattle.hd_basin.specs.declared.meetings.Meeting.{Meeting}
use Rattle.hd_basin.specs.declared.node.Node.{Node}
use Rattle.hd_basin.specs.Basin.{IsSinkOf, IsBasinMeeting, tile_at}
use Rattle.hd_basin.specs.Built.{HasPasses, IsRightPass}
use Rattle.hd_basin.specs.Frames.{InFrame}
use Rattle.hd_basin.specs.Inside.{AreNamed, IsAlone, IsStep, IsTried, IsPairAt, MeetsPair, IsMet, AreMet, join_of, label_at, place_of_frame, step_right, step_down}
use Rattle.hd_basin.specs.Meetings.{AreChained, AreKept}
use Rattle.hd_basin.specs.Parts.{IsBetween, JoinOthers, low_or_none, pass_named}
use Rattle.hd_basin.specs.Sinks.{IsArea, at_place, no_node}
use Rattle.hd_basin.proofs.Areas.{area-in, area-tile, area-fits, tile-of_point}
use Rattle.hd_basin.proofs.ChainedMeetings.{kept-notes}
use Rattle.hd_basin.proofs.Frames.{frame_step, frame-in_grid}
use Rattle.hd_basin.proofs.BuiltSeams.{same-pass}
use Rattle.hd_basin.proofs.PointRoots.{read-contains}
use Rattle.hd_basin.proofs.AreLinks.{low-own}
use Rattle.hd_basin.proofs.FlatLists.{Contains-at, map-twice}
use Rattle.hd_basin.proofs.SinkLaws.{sink-unique, sink-tile}
use Rattle.hd_basin.proofs.InStep.{meeting-sym}

-- a step leads to one position
step-one : (p q r : Pos) (step : ℕ) → IsStep p q step → IsStep p r step → q ≡ r
step-one p q r step one other = same_pos q r (let a = one.column in let b = other.column in omega (arith, a, b)) (one.profile ∙ sym other.profile)

-- which is another one beside it
pub step-near : (p q : Pos) (step : ℕ) → step < 4 → IsStep p q step → IsNear p.x q.x × IsNear p.y q.y × (p ≡ q → ⊥)
step-near p q zero few is =
    let a = is.column in
    let b = is.profile in
    ((omega (arith, a), omega (arith, a)), (omega (arith, b), omega (arith, b)), λ e. (let x = ap (λ (z : Pos). z.x) e in omega (arith, a, x)))
step-near p q (suc step) few is =
    let a = is.column in
    let b = is.profile in
    ((omega (arith, a, few), omega (arith, a, few)), (omega (arith, b), omega (arith, b)), λ e. (let y = ap (λ (z : Pos). z.y) e in omega (arith, b, y)))

-- of two positions side by side one is a step from the other
pub near-step : (p q : Pos) → IsNear p.x q.x → IsNear p.y q.y → (p ≡ q → ⊥) → (step : ℕ) × (step < 4) × (IsStep p q step ⊎ IsStep q p step)
near-step p q columns rows apart = elim (cases_eq p.y q.y) [
  | inl level ↦ elim (cases_lt p.x q.x) [
    | inl right ↦ (0, omega arith, inl (record { column = (let h = columns.1 in omega (arith, right, h)); profile = omega (arith, level) }))
    | inr not ↦ elim (cases_eq p.x q.x) [
      | inl same ↦ absurd (apart (same_pos p q same level))
      | inr other ↦ (0, omega arith, inr (record { column = (let h = columns.0 in omega (arith, not, other, h)); profile = omega (arith, level) }))
    ]
  ]
  | inr rows_apart ↦ elim (cases_lt p.y q.y) [
    | inl down ↦ (let s = aside p.x q.x columns in (s.0, s.1, inl (record { column = s.2; profile = (let h = rows.1 in s.3 p.y q.y (omega (arith, down, h))) })))
    | inr up ↦ (let s = aside q.x p.x (columns.1, columns.0) in (s.0, s.1, inr (record { column = s.2; profile = (let h = rows.0 in s.3 q.y p.y (omega (arith, up, rows_apart, h))) })))
  ]
]
  where
    -- the step below to a column that is near
    aside : (x y : ℕ) → IsNear x y → (step : ℕ) × (step < 4) × (y + 1 ≡ x + step_right step) × ((u v : ℕ) → v ≡ u + 1 → v ≡ u + step_down step)
    aside x y near = elim (cases_lt y x) [
      | inl left ↦ (1, omega arith, (let h = near.0 in omega (arith, left, h)), λ u v e. e)
      | inr not ↦ elim (cases_eq y x) [
        | inl same ↦ (2, omega arith, omega (arith, same), λ u v e. e)
        | inr other ↦ (3, omega arith, (let h = near.1 in omega (arith, not, other, h)), λ u v e. e)
      ]
    ]

-- one place has one position
place-same : (f : Frame) (p q : Pos) → InFrame f p → InFrame f q → place_of_frame f p ≡ place_of_frame f q → p ≡ q
place-same f p q here there e = sym (frame_step f p here).1 ∙ ap (at_place f) e ∙ (frame_step f q there).1

-- what is kept of the same meetings is the same
kept-map : (side : SideName) (E F : ℕ → ℕ → Rank → Type 0) (list : List Meeting) → ((a b : ℕ) (w : Rank) → E a b w → F a b w) → ((a b : ℕ) (w : Rank) → F a b w → E a b w)
    → AreKept side E list → AreKept side F list
kept-map side E F list to from kept = record {
  each = λ i x at. to x.a x.b x.at (kept.each i x at);
  every = λ a b w event. kept.every a b w (from a b w event);
  once = kept.once;
}

-- a label inside the list
label-inside : (ls : List ℕ) (k : ℕ) → k < length ls → get_or ls k no_node ≡ get_or ls k 0
label-inside ls k inside = get_or_from_slice_get ls k (get_or ls k 0) no_node (slice_get-get_or ls k 0 inside)

-- a place above another one and before one has its labels
pub alone-inside : (f : Frame) (ls : List ℕ) (p : Pos) → length ls ≡ f.columns * f.rows → p.x - f.left + 1 < f.columns → p.y - f.top + 1 < f.rows
    → (p.y - f.top) * f.columns + (p.x - f.left) + f.columns + 1 < length ls
alone-inside f ls p whole column row = (let rows = mul-le-mul_right f.columns (let h : p.y - f.top + 2 ≤ f.rows = omega (arith, row) in h) in omega (arith, rows, whole, column))

-- the labels after that at a place, and below it
module _ (f : Frame) (ls : List ℕ) (p : Pos) (within : InFrame f p) (k : ℕ) (at : k ≡ place_of_frame f p) (left : f.left < p.x) (inside : k + f.columns + 1 < length ls)
    (after : slice_index ls (k + 1) ≡ slice_index ls k) (one : slice_index ls (k + f.columns - 1) ≡ slice_index ls k) (two : slice_index ls (k + f.columns) ≡ slice_index ls k)
    (three : slice_index ls (k + f.columns + 1) ≡ slice_index ls k) where
  named-alike : (q : Pos) (j : ℕ) → place_of_frame f q ≡ j → j < length ls → slice_index ls j ≡ slice_index ls k → label_at f ls q ≡ label_at f ls p
  named-alike q j place below e =
      let own : k < length ls = omega (arith, inside) in
      ap (λ (n : ℕ). get_or ls n no_node) place ∙ label-inside ls j below ∙ e ∙ sym (label-inside ls k own) ∙ ap (λ (n : ℕ). get_or ls n no_node) at

  pub alone-from : IsAlone f ls p
  alone-from q zero few there is =
      let column = is.column in
      let profile = is.profile in
      let row : q.y - f.top ≡ p.y - f.top = omega (arith, profile) in
      let product : (q.y - f.top) * f.columns ≡ (p.y - f.top) * f.columns = ap (λ (n : ℕ). n * f.columns) row in
      named-alike q (k + 1) (omega (arith, at, product, column, left)) (omega (arith, inside)) after
  alone-from q (suc s) few there is =
      let column = is.column in
      let profile = is.profile in
      let top = within.top in
      let row : q.y - f.top ≡ p.y - f.top + 1 = omega (arith, profile, top) in
      let product : (q.y - f.top) * f.columns ≡ (p.y - f.top + 1) * f.columns = ap (λ (n : ℕ). n * f.columns) row in
      let some : 1 ≤ f.columns = (let a = within.left in let b = within.right in omega (arith, a, b)) in
      let place : place_of_frame f q ≡ k + f.columns + s - 1 = omega (arith, at, product, column, left, some) in
      elim (cases_eq s 0) [
        | inl e ↦ named-alike q (k + f.columns - 1) (omega (arith, place, e)) (omega (arith, inside)) one
        | inr other ↦ elim (cases_eq s 1) [
          | inl e ↦ named-alike q (k + f.columns) (omega (arith, place, e)) (omega (arith, inside)) two
          | inr more ↦ named-alike q (k + f.columns + 1) (omega (arith, place, few, other, more)) (omega (arith, inside)) three
        ]
      ]

module _ (m : Map) (side : SideName) (f : Frame) (ls : List ℕ) (count : ℕ) where
  -- a pair meets in one way
  pair-one : (p q : Pos) (a b c d : ℕ) (v w : Rank) → IsPairAt m side f ls count p q a b w → IsPairAt m side f ls count p q c d v → (c ≡ a) × (d ≡ b) × (v ≡ w)
  pair-one p q a b c d v w one other =
      let less = one.less in
      let less' = other.less in
      let at : v ≡ w = other.at ∙ sym one.at in
      elim one.labels [
        | inl here ↦ elim other.labels [
          | inl there ↦ (sym there.0 ∙ here.0, sym there.1 ∙ here.1, at)
          | inr there ↦ absurd (let x = here.0 in let y = here.1 in let z = there.0 in let u = there.1 in omega (arith, x, y, z, u, less, less'))
        ]
        | inr here ↦ elim other.labels [
          | inl there ↦ absurd (let x = here.0 in let y = here.1 in let z = there.0 in let u = there.1 in omega (arith, x, y, z, u, less, less'))
          | inr there ↦ (sym there.1 ∙ here.1, sym there.0 ∙ here.0, at)
        ]
      ]

  abbrev Met : ℕ → ℕ → ℕ → ℕ → Rank → Type 0
  Met k s = IsMet m side f ls count k s

  later : (k s a b : ℕ) (w : Rank) → Met k s a b w → Met k (s + 1) a b w
  later k s a b w is = (
      let t = is.tried in
      record {
        from = is.from;
        to = is.to;
        tried = record {
          from = t.from;
          to = t.to;
          step = t.step;
          few = t.few;
          leads = t.leads;
          tried = elim t.tried [ inl early ↦ inl early | inr here ↦ inr (here.0, (let h = here.1 in omega (arith, h))) ];
        };
        pair = is.pair;
      })

  -- what was tried with one more step was tried before, or is that step
  earlier : (k s a b : ℕ) (w : Rank) (at : Pos) → InFrame f at → place_of_frame f at ≡ k → Met k (s + 1) a b w → Met k s a b w
      ⊎ ((q : Pos) × InFrame f q × IsStep at q s × IsPairAt m side f ls count at q a b w)
  earlier k s a b w at within place is =
      let t = is.tried in
      elim t.tried [
        | inl early ↦ inl (record { from = is.from; to = is.to; tried = record { from = t.from; to = t.to; step = t.step; few = t.few; leads = t.leads; tried = inl early }; pair = is.pair })
        | inr here ↦ elim (cases_lt t.step s) [
          | inl before ↦ inl (record {
            from = is.from;
            to = is.to;
            tried = record {
              from = t.from;
              to = t.to;
              step = t.step;
              few = t.few;
              leads = t.leads;
              tried = inr (
                here.0,
                before,
              );
            };
            pair = is.pair;
          })
          | inr last ↦ (
              let step : t.step ≡ s = (let h = here.1 in omega (arith, last, h)) in
              let same : is.from ≡ at = place-same f is.from at t.from within (here.0 ∙ sym place) in
              inr (
                is.to,
                t.to,
                subst (λ (p : Pos). IsStep p is.to s) same (subst (IsStep is.from is.to) step t.leads),
                subst (λ (p : Pos). IsPairAt m side f ls count p is.to a b w) same is.pair,
              ))
        ]
      ]

  module _ (k s : ℕ) (at : Pos) (within : InFrame f at) (place : place_of_frame f at ≡ k) (lasts : List (Option ℕ)) (list : List Meeting) (are : AreMet m side f ls count k s lasts list) where
    -- the step leads out of the tile
    pub met-outside : ((q : Pos) → InFrame f q → IsStep at q s → ⊥) → AreMet m side f ls count k (s + 1) lasts list
    met-outside none = record {
      chained = are.chained;
      count_is = are.count_is;
      kept = kept-map side (Met k s) (Met k (s + 1)) list (later k s) (λ a b w is. elim (earlier k s a b w at within place is) [ inl was ↦ was | inr new ↦ absurd (none new.0 new.1 new.2) ]) are.kept;
    }

    -- or to a position of the same label
    pub met-alone : s < 4 → IsAlone f ls at → AreMet m side f ls count k (s + 1) lasts list
    met-alone few alone = record {
      chained = are.chained;
      count_is = are.count_is;
      kept = kept-map side (Met k s) (Met k (s + 1)) list (later k s) (λ a b w is. elim (earlier k s a b w at within place is) [
        | inl was ↦ was
        | inr new ↦ absurd (
            let same = alone new.0 s few new.1 new.2 in
            let pair = new.3 in
            let less = pair.less in
            elim pair.labels [ inl h ↦ (let x = h.0 in let y = h.1 in omega (arith, x, y, same, less)) | inr h ↦ (let x = h.0 in let y = h.1 in omega (arith, x, y, same, less)) ])
      ]) are.kept;
    }

    -- or to a position of the tile
    pub met-step : (q : Pos) → InFrame f q → s < 4 → IsStep at q s → (lasts' : List (Option ℕ)) (list' : List Meeting) → AreChained lasts' list' → length lasts' ≡ count
        → MeetsPair m side f ls count at q list list' → AreMet m side f ls count k (s + 1) lasts' list'
    met-step q there few leads lasts' list' chained count_is meets = record {
      chained = chained;
      count_is = count_is;
      kept = elim meets [
        | inl none ↦ subst (AreKept side (Met k (s + 1))) (sym none.0) (kept-map side (Met k s) (Met k (s + 1)) list (later k s) (λ a b w is. elim (earlier k s a b w at within place is) [
          | inl was ↦ was
          | inr new ↦ absurd (none.1 a b w (subst (λ (z : Pos). IsPairAt m side f ls count at z a b w) (step-one at new.0 q s new.2 leads) new.3))
        ]) are.kept)
        | inr one ↦ (
            let a : ℕ = one.0 in
            let b : ℕ = one.1 in
            let w : Rank = one.2 in
            let mine : Met k (s + 1) a b w = record {
              from = at;
              to = q;
              tried = record {
                from = within;
                to = there;
                step = s;
                few = few;
                leads = leads;
                tried = inr (
                  place,
                  omega arith,
                );
              };
              pair = one.3;
            } in
            kept-map side (λ c d v. Met k s c d v ⊎ ((c ≡ a) × (d ≡ b) × (v ≡ w))) (Met k (s + 1)) list'
            (λ c d v event. elim event [
              | inl was ↦ later k s c d v was
              | inr new ↦ subst (λ (z : ℕ). Met k (s + 1) z d v) (sym new.0) (subst (λ (z : ℕ). Met k (s + 1) a z v) (sym new.1) (subst (λ (z : Rank). Met k (s + 1) a b z) (sym new.2) mine))
            ])
            (λ c d v is. elim (earlier k s c d v at within place is) [
              | inl was ↦ inl was
              | inr new ↦ inr (pair-one at q a b c d v w one.3 (subst (λ (z : Pos). IsPairAt m side f ls count at z c d v) (step-one at new.0 q s new.2 leads) new.3))
            ])
            (kept-notes side (Met k s) a b w list are.kept list' one.4))
      ];
    }

  -- after its steps a place is done
  pub met-place : (k : ℕ) (lasts : List (Option ℕ)) (list : List Meeting) → AreMet m side f ls count k 4 lasts list → AreMet m side f ls count (k + 1) 0 lasts list
  met-place k lasts list are = record {
    chained = are.chained;
    count_is = are.count_is;
    kept = kept-map side (Met k 4) (Met (k + 1) 0) list
        (λ a b w is. (
        let t = is.tried in
        record {
          from = is.from;
          to = is.to;
          tried = record {
            from = t.from;
            to = t.to;
            step = t.step;
            few = t.few;
            leads = t.leads;
            tried = elim t.tried [
              | inl early ↦ inl (omega (arith, early))
              | inr here ↦ inl
                  (let e = here.0 in omega (arith, e))
            ];
          };
          pair = is.pair;
        }))
        (λ a b w is. (
        let t = is.tried in
        let few = t.few in
        record {
          from = is.from;
          to = is.to;
          tried = record {
            from = t.from;
            to = t.to;
            step = t.step;
            few = t.few;
            leads = t.leads;
            tried = elim t.tried [
              | inl early ↦ elim (cases_lt (place_of_frame f is.from) k) [ inl before ↦ inl before | inr last ↦ inr ((let e : place_of_frame f is.from ≡ k = omega (arith, early, last) in e), few) ]
              | inr here ↦ absurd (let h = here.1 in omega (arith, h))
            ];
          };
          pair = is.pair;
        }))
        are.kept;
  }

  -- or where all its steps lead to its own label
  pub met-by : (k : ℕ) (at : Pos) → InFrame f at → place_of_frame f at ≡ k → (lasts : List (Option ℕ)) (list : List Meeting) → IsAlone f ls at
      → AreMet m side f ls count k 0 lasts list → AreMet m side f ls count (k + 1) 0 lasts list
  met-by k at within place lasts list alone are =
      let one = met-alone k 0 at within place lasts list are (omega arith) alone in
      let two = met-alone k 1 at within place lasts list one (omega arith) alone in
      let three = met-alone k 2 at within place lasts list two (omega arith) alone in
      met-place k lasts list (met-alone k 3 at within place lasts list three (omega arith) alone)

  -- before the first one nothing has met
  pub met-none : (lasts : List (Option ℕ)) → AreChained lasts [] → length lasts ≡ count → AreMet m side f ls count 0 0 lasts []
  met-none lasts chained count_is = record {
    chained = chained;
    count_is = count_is;
    kept = record {
      each = λ i x at. absurd cc;
      every = λ a b w is. absurd (elim is.tried.tried [ inl early ↦ omega (arith, early) | inr here ↦ (let h = here.1 in omega (arith, h)) ]);
      once = λ i j x y at there. absurd cc;
    };
  }

module _ (m : Map) (side : SideName) (t tile : ℕ) (f : Frame) (some : 1 ≤ t) (area : IsArea m.size t tile f) (nodes : List Node) (ls : List ℕ) (named : AreNamed m side t f nodes ls) where
  -- a point whose label is that of a node is present
  label-present : (p : Pos) → InFrame f p → label_at f ls p < length nodes → Present m p
  label-present p within below = elim (present_or_not m p (frame-in_grid m.size f p (area-fits m.size t tile f some area) within)) [
    | inl here ↦ here
    | inr absent ↦ absurd (let e = (named.named p within).none absent in let few = named.few in omega (arith, e, below, few))
  ]

  -- and lies in the basin of that node
  label-node : (p : Pos) (i : ℕ) → InFrame f p → Present m p → label_at f ls p ≡ i → (n : Node) × (slice_get nodes i ≡ Some n) × IsSinkOf m side t (rank m p) n.low
  label-node p i within here e = (let n = (named.named p within).there here in (n.0, ap (slice_get nodes) (sym e) ∙ n.1, n.2))

  module _ (p q : Pos) (from : InFrame f p) (to : InFrame f q) where
    -- no two of three tests fail where the pair meets
    pub pair-equal : label_at f ls p ≡ label_at f ls q → (a b : ℕ) (w : Rank) → IsPairAt m side f ls (length nodes) p q a b w → ⊥
    pair-equal e a b w is = (let less = is.less in elim is.labels [
      | inl h ↦ (let x = h.0 in let y = h.1 in omega (arith, x, y, e, less))
      | inr h ↦
          (let x = h.0 in let y = h.1 in omega (arith, x, y, e, less))
    ])

    pub pair-few : (length nodes ≤ label_at f ls p) ⊎ (length nodes ≤ label_at f ls q) → (a b : ℕ) (w : Rank) → IsPairAt m side f ls (length nodes) p q a b w → ⊥
    pair-few past a b w is =
        let less = is.less in
        let few = is.few in
        elim past [
          | inl h ↦ elim is.labels [ inl l ↦ (let x = l.0 in omega (arith, x, h, less, few)) | inr l ↦ (let x = l.0 in omega (arith, x, h, few)) ]
          | inr h ↦ elim is.labels [ inl l ↦ (let x = l.1 in omega (arith, x, h, few)) | inr l ↦ (let x = l.1 in omega (arith, x, h, less, few)) ]
        ]

    -- where they are two labels of nodes, the two points meet
    pub pair-near : (step : ℕ) → step < 4 → IsStep p q step → label_at f ls p < length nodes → label_at f ls q < length nodes → AreBesideUnder m.adjacency p q → Neighbour m p q
    pair-near step few leads one other beside =
        let near = step-near p q step few leads in
        record { from = label-present p from one; to = label-present q to other; columns = near.0; rows = near.1; different = near.2; beside = beside }

    -- at the higher of their ranks
    pub pair-up : IsMap m → (step : ℕ) → step < 4 → IsStep p q step → label_at f ls p < length nodes → label_at f ls q < length nodes → AreBesideUnder m.adjacency p q → (here there w : Rank)
        → IsLow m side (IsAtPlace (p.y + 1) (p.x + 1)) here → IsLow m side (IsAtPlace (q.y + 1) (q.x + 1)) there → w ≡ higher_by side here there → Neighbour m p q
        × (w ≡ higher_by side (rank m p) (rank m q))
    pair-up whole step few leads one other beside here there w here_low there_low higher =
        let one_is : here ≡ rank m p = low-own m side whole p here here_low (label-present p from one) in
        let other_is : there ≡ rank m q = low-own m side whole q there there_low (label-present q to other) in
        (pair-near step few leads one other beside, higher ∙ ap (λ (r : Rank). higher_by side r there) one_is ∙ ap (λ (r : Rank). higher_by side (rank m p) r) other_is)

  -- a pair meets where two basins of the tile do
  record Meets (a b : ℕ) (w : Rank) : Type 0 where
    u : Node
    v : Node
    u_at : slice_get nodes a ≡ Some u
    v_at : slice_get nodes b ≡ Some v
    meeting : IsBasinMeeting m side t u.low v.low w
    u_tile : tile_at m.size t u.low ≡ tile
    v_tile : tile_at m.size t v.low ≡ tile
    apart : u.low ≢ v.low

  point-tile : (p : Pos) (s : Rank) → InFrame f p → Present m p → IsSinkOf m side t (rank m p) s → tile_at m.size t s ≡ tile
  point-tile p s within here of = sink-tile m side t (rank m p) s of ∙ tile-of_point m t (rank m p) p here refl ∙ area-tile m.size t tile f some area p within

  pair-meets : (p q : Pos) (a b : ℕ) (w : Rank) → InFrame f p → InFrame f q → IsPairAt m side f ls (length nodes) p q a b w → Meets a b w
  pair-meets p q a b w from to is =
      let near = is.near in
      let less = is.less in
      elim is.labels [
        | inl h ↦ (
            let u = label-node p a from near.from h.0 in
            let v = label-node q b to near.to h.1 in
            record {
              u = u.0;
              v = v.0;
              u_at = u.1;
              v_at = v.1;
              meeting = record { from = rank m p; to = rank m q; near = record { from = p; to = q; neighbour = near; from_rank = refl; to_rank = refl }; from_in = u.2; to_in = v.2; higher = is.at };
              u_tile = point-tile p u.0.low from near.from u.2;
              v_tile = point-tile q v.0.low to near.to v.2;
              apart = λ e. (let same = named.distinct a b u.0 v.0 u.1 v.1 e in omega (arith, same, less));
            })
        | inr h ↦ (
            let v = label-node p b from near.from h.0 in
            let u = label-node q a to near.to h.1 in
            record {
              u = u.0;
              v = v.0;
              u_at = u.1;
              v_at = v.1;
              meeting = meeting-sym m side t v.0.low u.0.low w (record {
                from = rank m p;
                to = rank m q;
                near =
                    record { from = p; to = q; neighbour = near; from_rank = refl; to_rank = refl };
                from_in = v.2;
                to_in = u.2;
                higher = is.at;
              });
              u_tile = point-tile q u.0.low to near.to u.2;
              v_tile = point-tile p v.0.low from near.from v.2;
              apart = λ e. (let same = named.distinct a b u.0 v.0 u.1 v.1 e in omega (arith, same, less));
            })
      ]

  abbrev All : ℕ → ℕ → Rank → Type 0
  All = IsMet m side f ls (length nodes) (f.columns * f.rows) 0

  -- a pair of neighbours with two labels
  pair-tried : (p q : Pos) (step i j : ℕ) (w : Rank) → step < 4 → IsStep p q step → Neighbour m p q → InFrame f p → InFrame f q → label_at f ls p ≡ i → label_at f ls q ≡ j
      → i < length nodes → j < length nodes → (i ≡ j → ⊥) → w ≡ higher_by side (rank m p) (rank m q)
      → All i j w ⊎ All j i w
  pair-tried p q step i j w few leads near from to one other i_few j_few apart at =
      let tried : IsTried f (f.columns * f.rows) 0 p q = record { from = from; to = to; step = step; few = few; leads = leads; tried = inl (frame_step f p from).0 } in
      elim (cases_lt i j) [
        | inl less ↦ inl (record { from = p; to = q; tried = tried; pair = record { near = near; labels = inl (one, other); less = less; few = j_few; at = at } })
        | inr not ↦ inr (record { from = p; to = q; tried = tried; pair = record { near = near; labels = inr (one, other); less = omega (arith, not, apart); few = i_few; at = at } })
      ]

  -- each meeting of two basins of the tile is one of the pairs that are tried
  meeting-met : (a b w : Rank) → tile_at m.size t a ≡ tile → tile_at m.size t b ≡ tile → a ≢ b → IsBasinMeeting m side t a b w
      → (i : ℕ) × (j : ℕ) × (u : Node) × (v : Node) × (slice_get nodes i ≡ Some u) × (slice_get nodes j ≡ Some v) × (u.low ≡ a) × (v.low ≡ b) × (All i j w ⊎ All j i w)
  meeting-met a b w own other apart mt =
      let near = mt.near in
      let p : Pos = near.from in
      let q : Pos = near.to in
      let nb = near.neighbour in
      let p_tile : tile_of m.size t p ≡ tile = sym (tile-of_point m t mt.from p nb.from near.from_rank) ∙ sym (sink-tile m side t mt.from a mt.from_in) ∙ own in
      let q_tile : tile_of m.size t q ≡ tile = sym (tile-of_point m t mt.to q nb.to near.to_rank) ∙ sym (sink-tile m side t mt.to b mt.to_in) ∙ other in
      let from = area-in m.size t tile f some area p nb.from.in_grid p_tile in
      let to = area-in m.size t tile f some area q nb.to.in_grid q_tile in
      let i : ℕ = label_at f ls p in
      let j : ℕ = label_at f ls q in
      let u = label-node p i from nb.from refl in
      let v = label-node q j to nb.to refl in
      let a_is : u.0.low ≡ a = sink-unique m side t (rank m p) u.0.low a u.2 (subst (λ (r : Rank). IsSinkOf m side t r a) near.from_rank mt.from_in) in
      let b_is : v.0.low ≡ b = sink-unique m side t (rank m q) v.0.low b v.2 (subst (λ (r : Rank). IsSinkOf m side t r b) near.to_rank mt.to_in) in
      let differ : i ≡ j → ⊥ = λ e. apart (sym a_is ∙ ap (λ (n : Node). n.low) (same_Some u.0 v.0 (sym u.1 ∙ ap (slice_get nodes) e ∙ v.1)) ∙ b_is) in
      let i_few = slice_get_within nodes i u.0 u.1 in
      let j_few = slice_get_within nodes j v.0 v.1 in
      let at : w ≡ higher_by side (rank m p) (rank m q) = mt.higher ∙ ap (λ (x : Rank). higher_by side x mt.to) near.from_rank ∙ ap (λ (x : Rank). higher_by side (rank m p) x) near.to_rank in
      let step = near-step p q nb.columns nb.rows nb.different in
      let met : All i j w ⊎ All j i w = elim step.2 [
        | inl leads ↦ pair-tried p q step.0 i j w step.1 leads nb from to refl refl i_few j_few differ at
        | inr leads ↦ elim (pair-tried q p step.0 j i w step.1 leads (neighbour-sym m p q nb) to from refl refl j_few i_few (λ e. differ (sym e)) (at ∙ higher-sym side (rank m p) (rank m q))) [
          | inl h ↦ inr h
          | inr h ↦ inl h
        ]
      ] in
      (i, j, u.0, v.0, u.1, v.1, a_is, b_is, met)

  -- the passes of all meetings
  module _ (list : List Meeting) (kept : AreKept side All list) where
    abbrev pass_of : Meeting → Pass
    pass_of x = pass_named nodes (join_of x)

    abbrev passes : List Pass
    passes = map (pass_named nodes) (map join_of list)

    -- where two basins meet by a meeting
    meets-of : (i : ℕ) (x : Meeting) → slice_get list i ≡ Some x → Meets x.a x.b x.at
    meets-of i x at = (let event = kept.each i x at in pair-meets event.from event.to x.a x.b x.at event.tried.from event.tried.to event.pair)

    -- the pass of two nodes
    named-pass : (x : Meeting) (u v : Node) → slice_get nodes x.a ≡ Some u → slice_get nodes x.b ≡ Some v → pass_of x ≡ record { a = u.low; b = v.low; at = x.at }
    named-pass x u v u_at v_at = (let a : low_or_none (slice_get nodes x.a) ≡ u.low = ap low_or_none u_at in let b : low_or_none (slice_get nodes x.b)
        ≡ v.low = ap low_or_none v_at in same-pass (low_or_none (slice_get nodes x.a)) (low_or_none (slice_get nodes x.b)) u.low v.low x.at a b)

    -- a meeting is lowest of those of its two basins
    lowest : (i : ℕ) (x : Meeting) (u v : Node) → slice_get list i ≡ Some x → slice_get nodes x.a ≡ Some u → slice_get nodes x.b ≡ Some v → tile_at m.size t u.low ≡ tile
        → tile_at m.size t v.low ≡ tile → u.low ≢ v.low
        → x.a < x.b → (w : Rank) → IsBasinMeeting m side t u.low v.low w → IsNotAbove (below_by side) x.at w
    lowest i x u v at u_at v_at u_tile v_tile apart less w mt =
        let met = meeting-met u.low v.low w u_tile v_tile apart mt in
        let c : ℕ = met.0 in
        let d : ℕ = met.1 in
        let c_is : c ≡ x.a = named.distinct c x.a met.2 u met.4 u_at met.6 in
        let d_is : d ≡ x.b = named.distinct d x.b met.3 v met.5 v_at met.7 in
        elim met.8 [
          | inl all ↦ (
              let k = kept.every c d w all in
              let one = kept.once k.0 i k.1 x k.2 at (k.3 ∙ c_is) (k.4 ∙ d_is) in
              let same : k.1 ≡ x = same_Some k.1 x (sym k.2 ∙ ap (slice_get list) one ∙ at) in
              subst (λ (z : Meeting). IsNotAbove (below_by side) z.at w) same k.5)
          | inr all ↦ absurd (let h = all.pair.less in omega (arith, h, c_is, d_is, less))
        ]

    right-pass : (i : ℕ) (x : Meeting) → slice_get list i ≡ Some x → IsRightPass m side t (pass_of x) × (tile_at m.size t (pass_of x).a ≡ tile) × (tile_at m.size t (pass_of x).b ≡ tile)
    right-pass i x at =
        let mt = meets-of i x at in
        let event = kept.each i x at in
        let right : IsRightPass m side t (record { a = mt.u.low; b = mt.v.low; at = x.at }) =
        record { apart = mt.apart; meeting = mt.meeting; lowest = lowest i x mt.u mt.v at mt.u_at mt.v_at mt.u_tile mt.v_tile mt.apart event.pair.less } in
        let is = named-pass x mt.u mt.v mt.u_at mt.v_at in (
          subst (λ (z : Pass). IsRightPass m side t z) (sym is) right,
          ap (λ (z : Pass). tile_at m.size t z.a) is ∙ mt.u_tile,
          ap (λ (z : Pass). tile_at m.size t z.b) is ∙ mt.v_tile,
        )

    pass-right : (p : Pass) → Contains passes p → IsRightPass m side t p × (tile_at m.size t p.a ≡ tile) × (tile_at m.size t p.b ≡ tile)
    pass-right p has =
        let j = Contains-map (pass_named nodes) (map join_of list) p has in
        let x = Contains-map join_of list j.0 j.1 in
        let i = Contains-at list x.0 x.1 in
        subst (λ (z : Pass). IsRightPass m side t z × (tile_at m.size t z.a ≡ tile) × (tile_at m.size t z.b ≡ tile)) (ap (pass_named nodes) x.2 ∙ j.2) (right-pass i.0 x.0 i.1)

    -- the pass of two nodes is one of them
    pass-of : (i j : ℕ) (u v : Node) (w : Rank) → slice_get nodes i ≡ Some u → slice_get nodes j ≡ Some v → All i j w → (p : Pass) × Contains passes p × (z : Rank) × IsBetween p u.low v.low z
    pass-of i j u v w u_at v_at all =
        let k = kept.every i j w all in
        let x : Meeting = k.1 in
        let is = named-pass x u v (ap (slice_get nodes) k.3 ∙ u_at) (ap (slice_get nodes) k.4 ∙ v_at) in
        (pass_of x, map-Contains (pass_named nodes) (map join_of list) (join_of x) (map-Contains join_of list x (read-contains list k.0 x k.2)), x.at, inl is)

    -- two nodes with one sink have one number
    number-one : (i j : ℕ) (u v : Node) → slice_get nodes i ≡ Some u → slice_get nodes j ≡ Some v → low_or_none (slice_get nodes i) ≡ low_or_none (slice_get nodes j) → i ≡ j
    number-one i j u v u_at v_at same = named.distinct i j u v u_at v_at (sym (ap low_or_none u_at) ∙ same ∙ ap low_or_none v_at)

    -- the passes of two meetings join others
    meetings-differ : (i j : ℕ) (x y : Meeting) → slice_get list i ≡ Some x → slice_get list j ≡ Some y → i < j → JoinOthers (pass_of x) (pass_of y)
    meetings-differ i j x y at there less =
        let mt = meets-of i x at in
        let nt = meets-of j y there in
        let one = (kept.each i x at).pair.less in
        let other = (kept.each j y there).pair.less in (
          λ a b. (let same = kept.once i j x y at there (number-one x.a y.a mt.u nt.u mt.u_at nt.u_at a) (number-one x.b y.b mt.v nt.v mt.v_at nt.v_at b) in omega (arith, same, less)),
          λ a b. (let up = number-one x.a y.b mt.u nt.v mt.u_at nt.v_at a in let down = number-one x.b y.a mt.v nt.u mt.v_at nt.u_at b in omega (arith, up, down, one, other)),
        )

    passes-once : AllPairs (λ p q. JoinOthers p q) passes
    passes-once = subst (λ (ps : List Pass). AllPairs (λ p q. JoinOthers p q) ps) (map-twice (pass_named nodes) join_of list) (λ i j d less below.
        let long = length-map list pass_of in
        let far : j < length list = omega (arith, below, long) in
        let near : i < length list = omega (arith, far, less) in
        let x : Meeting = get_or list i blank in
        let y : Meeting = get_or list j blank in
        subst (λ (p : Pass). JoinOthers p (get_or (map pass_of list) j d)) (sym (get_or-map pass_of list i blank d near))
        (subst (λ (q : Pass). JoinOthers (pass_of x) q) (sym (get_or-map pass_of list j blank d far))
        (meetings-differ i j x y (slice_get-get_or list i blank near) (slice_get-get_or list j blank far) less)))
      where
        blank : Meeting
        blank = record { a = 0; b = 0; at = past_end; before = None }

    pub passes-all : HasPasses m side t tile passes
    passes-all = record {
      inside = pass-right;
      inside_all = λ a b w own other apart mt. (
          let met = meeting-met a b w own other apart mt in
          elim met.8 [
            | inl all ↦ (
                let p = pass-of met.0 met.1 met.2 met.3 w met.4 met.5 all in
                (p.0, p.1, p.2, subst (λ (z : Rank). IsBetween p.0 z b p.2) met.6 (subst (λ (z : Rank). IsBetween p.0 met.2.low z p.2) met.7 p.3)))
            | inr all ↦ (
                let p = pass-of met.1 met.0 met.3 met.2 w met.5 met.4 all in
                (p.0, p.1, p.2, between-sym p.0 a b p.2 (subst (λ (z : Rank). IsBetween p.0 z a p.2) met.7 (subst (λ (z : Rank). IsBetween p.0 met.3.low z p.2) met.6 p.3))))
          ]);
      once = passes-once;
    }
      where
        between-sym : (p : Pass) (a b w : Rank) → IsBetween p b a w → IsBetween p a b w
        between-sym p a b w (inl e) = inr e
        between-sym p a b w (inr e) = inl e
