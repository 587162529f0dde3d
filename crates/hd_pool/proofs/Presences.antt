-- The extents of all regions tell how many points are present, and the range of their heights.
use Rattle.std.proofs.Common.{◌≡◌, ◌+◌, ◌++◌, append-nil, ◌≤◌, ◌<◌, ◌≤ℤ◌, ◌∙◌, ◌⊎◌, ℕ, ℤ, zero, suc, List, [], ◌∷◌, length, Option, Some, None, inl, inr, refl, sym, ap, subst, arith, add-one}
use Rattle.std.specs.Prelude.{◌↔◌, AllPairs, Contains, MatchOption, fold, min}
use Rattle.std.specs.Int.{int_max, int_min}
use Rattle.std.specs.List.{cons_option}
use Rattle.std.proofs.lemmas.Bool.{cases_lt}
use Rattle.std.proofs.lemmas.Int.{fold-int_max_bounds, fold-int_max_reached, fold-int_min_bounds, fold-int_min_reached}
use Rattle.std.proofs.lemmas.List.{length_push}
use Rattle.hd_basin.specs.declared.extent.Extent.{Extent}
use Rattle.hd_basin.specs.Reading.{AreExtents, IsExtent}
use Rattle.hd_basin.proofs.ExtentSums.{count-few}
use Rattle.hd_basin.proofs.Sums.{Either, count-merge, count-one, greatest-by, greatest-first, greatest-second, least-by, least-first, least-second}
use Rattle.hd_map.specs.declared.height_range.HeightRange.{HeightRange}
use Rattle.hd_map.specs.declared.presence.Presence.{Presence}
use Rattle.hd_map.specs.declared.types.Pos.{Pos}
use Rattle.hd_map.specs.declared.types.Rank.{Rank}
use Rattle.hd_map.specs.declared.types.SideName.{SideName}
use Rattle.hd_map.specs.HeightRange.{range_of}
use Rattle.hd_map.specs.Map.{Map, IsMap, Present, cell_at, cell_count, height_at, mask_at, place_of, position_at}
use Rattle.hd_map.specs.Presence.{IsPresence, heights_below, present_heights}
use Rattle.hd_map.specs.Rank.{IsPoint, rank}
use Rattle.hd_map.specs.Region.{IsRoot}
use Rattle.hd_map.specs.Sums.{GreatestIs, IsCount, IsGreatest, IsLeast, LeastIs}
use Rattle.hd_map.proofs.Items.{AllPairs-first, AllPairs-tail, Contains-cases, Contains-head, Contains-none, Contains-tail}
use Rattle.hd_map.proofs.Nexts.{root-is_pit, root-unique}
use Rattle.hd_map.proofs.Points.{point_at, point_inside, position_at-inside, position_at-of, position_at-place, present_or_not, same_index, shown_of}
use Rattle.hd_map.proofs.Presences.{heights_more}
use Rattle.hd_prune.proofs.Existing.{root_of}
use Rattle.hd_prune.proofs.Spans.{height_in, point_of}
use Rattle.hd_regions.proofs.Sums.{count-unique, greatest-unique, least-unique}
use Rattle.hd_survey.proofs.HeightRanges.{greatest_end, greatest-range, least_end, least-range}
use Rattle.hd_survey.proofs.Members.{rooted-point}
use Rattle.hd_survey.proofs.RootedPoints.{unshown}
use Rattle.hd_pool.specs.Told.{presence_told, presence_with, range_with, seen_none}
use Rattle.hd_pool.proofs.Extents.{range_between-ends}

-- of the same members there are as many
count-by : (P Q : Rank → Type 0) → ((x : Rank) → P x ↔ Q x) → (n : ℕ) → IsCount P n → IsCount Q n
count-by P Q same n c = record {
  ranks = c.ranks;
  lists = record { all = λ r. (λ h. (same r).0 ((c.lists.all r).0 h), λ q. (c.lists.all r).1 ((same r).1 q)); once = c.lists.once };
  count_is = c.count_is;
}

count-none : (P : Rank → Type 0) → ((x : Rank) → P x → ⊥) → IsCount P 0
count-none P none = record {
  ranks = [];
  lists = record { all = λ r. (λ h. absurd (Contains-none r h), λ p. absurd (none r p)); once = λ i j d less below e. absurd (omega arith) };
  count_is = refl;
}

-- the least and the greatest height of some members, where there are any
abbrev Spans : (Rank → Type 0) → Option HeightRange → Type 0
Spans P o = MatchOption o ((r : Rank) → P r → ⊥) (λ g. IsLeast P g.least × IsGreatest P g.greatest)

-- a presence tells of the members how many there are, and the range of their heights
record Tells (P : Rank → Type 0) (p : Presence) : Type 0 where
  pub counted : IsCount P p.count
  pub spans : Spans P p.range

spans-by : (P Q : Rank → Type 0) → ((x : Rank) → P x ↔ Q x) → (o : Option HeightRange) → Spans P o → Spans Q o
spans-by P Q same None none = λ r q. none r ((same r).1 q)
spans-by P Q same (Some g) is = (least-by P Q same g.least is.0, greatest-by P Q same g.greatest is.1)

tells-by : (P Q : Rank → Type 0) → ((x : Rank) → P x ↔ Q x) → (p : Presence) → Tells P p → Tells Q p
tells-by P Q same p is = record { counted = count-by P Q same p.count is.counted; spans = spans-by P Q same p.range is.spans }

-- the lesser of two numbers is one of them, and not above the other
lesser_is : (g h : ℤ) → ((int_min g h ≡ g) × (g ≤ℤ h)) ⊎ ((int_min g h ≡ h) × (h ≤ℤ g))
lesser_is g h =
    let r : ℤ = int_min g h in
    let bounds = fold-int_min_bounds g (h ∷ []) r refl in
    let first : r ≤ℤ g = bounds.0 in
    let second : r ≤ℤ h = bounds.1 0 h (omega arith) in
    elim (fold-int_min_reached g (h ∷ []) r refl) [
      | inl e ↦ inl (e, subst (λ x. x ≤ℤ h) e second)
      | inr at ↦ elim (Contains-cases h r [] at) [ inl e ↦ inr (e, subst (λ x. x ≤ℤ g) e first) | inr none ↦ absurd (Contains-none r none) ]
    ]

greater_is : (g h : ℤ) → ((int_max g h ≡ g) × (h ≤ℤ g)) ⊎ ((int_max g h ≡ h) × (g ≤ℤ h))
greater_is g h =
    let r : ℤ = int_max g h in
    let bounds = fold-int_max_bounds g (h ∷ []) r refl in
    let first : g ≤ℤ r = bounds.0 in
    let second : h ≤ℤ r = bounds.1 0 h (omega arith) in
    elim (fold-int_max_reached g (h ∷ []) r refl) [
      | inl e ↦ inl (e, subst (λ x. h ≤ℤ x) e second)
      | inr at ↦ elim (Contains-cases h r [] at) [ inl e ↦ inr (e, subst (λ x. g ≤ℤ x) e first) | inr none ↦ absurd (Contains-none r none) ]
    ]

module _ (A B : Rank → Type 0) where
  least-both : (g h : ℤ) → IsLeast A g → IsLeast B h → IsLeast (Either A B) (int_min g h)
  least-both g h one other = elim (lesser_is g h) [
    | inl e ↦ subst (IsLeast (Either A B)) (sym e.0) (least-first A B g h one other e.1)
    | inr e ↦ subst (IsLeast (Either A B)) (sym e.0) (least-second A B g h one other e.1)
  ]

  greatest-both : (g h : ℤ) → IsGreatest A g → IsGreatest B h → IsGreatest (Either A B) (int_max g h)
  greatest-both g h one other = elim (greater_is g h) [
    | inl e ↦ subst (IsGreatest (Either A B)) (sym e.0) (greatest-first A B g h one other e.1)
    | inr e ↦ subst (IsGreatest (Either A B)) (sym e.0) (greatest-second A B g h one other e.1)
  ]

  spans-with : (o : Option HeightRange) (e : Extent) → Spans A o → IsLeast B e.least → IsGreatest B e.high → Spans (Either A B) (Some (range_with o e))
  spans-with None e none least most =
      let same : (x : Rank) → B x ↔ Either A B x = λ x. (λ b. inr b, λ m. elim m [ inl a ↦ absurd (none x a) | inr b ↦ b ]) in
      (least-by B (Either A B) same e.least least, greatest-by B (Either A B) same e.high most)
  spans-with (Some g) e spans least most = (least-both g.least e.least spans.0 least, greatest-both g.greatest e.high spans.1 most)

module _ (m : Map) (whole : IsMap m) (side : SideName) where
  -- what has a root is a point, and a point has one
  abbrev In : Extent → Rank → Type 0
  In e r = IsRoot m side r e.pit

  -- a point that has its root among these
  abbrev Among : List Extent → Rank → Type 0
  Among es r = (e : Extent) × Contains es e × In e r

  apart : (e f : Extent) → (e.pit.index ≡ f.pit.index → ⊥) → (r : Rank) → In e r → In f r → ⊥
  apart e f different r one other = different (ap (λ (x : Rank). x.index) (root-unique m side r e.pit f.pit one other))

  -- one more region
  tells-with : (A : Rank → Type 0) (p : Presence) (e : Extent) → ((r : Rank) → A r → IsPoint m r) → ((r : Rank) → A r → In e r → ⊥) → Tells A p → IsExtent m side e
      → Tells (Either A (In e)) (presence_with p e)
  tells-with A p e points off tells is =
      let merged = count-merge A (In e) off p.count e.points tells.counted is.sums.counted in
      let few = count-few m (Either A (In e)) (p.count + e.points) whole (λ r h. elim h [ inl a ↦ points r a | inr b ↦ rooted-point m side r e.pit b ]) merged in
      let exact : min (p.count + e.points) 4294967295 ≡ p.count + e.points = omega (arith, few) in
      record {
        counted = subst (IsCount (Either A (In e))) (sym exact) merged;
        spans = spans-with A (In e) p.range e tells.spans is.sums.lowest is.sums.highest;
      }

  -- all of a list of regions
  tells-all : (es : List Extent) (A : Rank → Type 0) (p : Presence) → ((r : Rank) → A r → IsPoint m r) → ((e : Extent) → Contains es e → IsExtent m side e)
      → ((e : Extent) → Contains es e → (r : Rank) → A r → In e r → ⊥) → AllPairs (λ (e f : Extent). e.pit.index < f.pit.index) es → Tells A p
      → Tells (λ r. A r ⊎ Among es r) (fold presence_with p es)
  tells-all [] A p points each off order tells =
      tells-by A (λ r. A r ⊎ Among [] r) (λ r. (λ a. inl a, λ h. elim h [ inl a ↦ a | inr z ↦ absurd (Contains-none z.0 z.1) ])) p tells
  tells-all (e ∷ es) A p points each off order tells =
      let here = Contains-head e es in
      let next = tells-with A p e points (off e here) tells (each e here) in
      let less = AllPairs-first (λ (a : Extent) (b : Extent). a.pit.index < b.pit.index) e in
      let rest = tells-all es (Either A (In e)) (presence_with p e)
      (λ r h. elim h [ inl a ↦ points r a | inr b ↦ rooted-point m side r e.pit b ])
      (λ f at. each f (Contains-tail e f es at))
      (λ f at r h i. elim h [ inl a ↦ off f (Contains-tail e f es at) r a i | inr b ↦ apart e f (λ same. (let below = less f es order at in omega (arith, below, same))) r b i ])
      (AllPairs-tail (λ (a : Extent) (b : Extent). a.pit.index < b.pit.index) e es order) next in
      tells-by (λ r. Either A (In e) r ⊎ Among es r) (λ r. A r ⊎ Among (e ∷ es) r) (λ r. (
        λ h. elim h [
          | inl x ↦ elim x [ inl a ↦ inl a | inr b ↦ inr (e, here, b) ]
          | inr z ↦ inr (z.0, Contains-tail e z.0 es z.1, z.2)
        ],
        λ h. elim h [
          | inl a ↦ inl (inl a)
          | inr z ↦ elim (Contains-cases e z.0 es z.1) [ inl same ↦ inl (inr (subst (λ (f : Extent). In f r) same z.2)) | inr later ↦ inr (z.0, later, z.2) ]
        ],
      )) (fold presence_with (presence_with p e) es) rest

  -- of the regions of all pits
  tells-points : (es : List Extent) → AreExtents m side es → Tells (IsPoint m) (presence_told es)
  tells-points es are =
      let none : Tells (λ r. ⊥) seen_none = record { counted = count-none (λ r. ⊥) (λ r h. h); spans = λ r h. h } in
      let all = tells-all es (λ r. ⊥) seen_none (λ r h. absurd h) are.each (λ e at r h i. h) are.in_order none in
      tells-by (λ r. ⊥ ⊎ Among es r) (IsPoint m) (λ r. (
        λ h. elim h [ inl never ↦ absurd never | inr z ↦ rooted-point m side r z.0.pit z.2 ],
        λ point. (
            let root = root_of m whole side r point in
            let e = are.all root.0 (root-is_pit m side r root.0 root.1) in
            inr (e.0, e.1, subst (IsRoot m side r) (sym e.2) root.1)),
      )) (presence_told es) all

  -- how many points with an index below n are present
  abbrev Below : ℕ → Rank → Type 0
  Below n r = IsPoint m r × (r.index < n)

  count-below : (n : ℕ) → n ≤ cell_count m.size → IsCount (Below n) (length (heights_below m n))
  count-below zero within = count-none (Below 0) (λ r h. (let below = h.1 in absurd (omega (arith, below))))
  count-below (suc n) within =
      let inside = position_at-inside m.size n whole.size.some_points (omega (arith, within)) in
      let before = count-below n (omega (arith, within)) in
      let p : Pos = position_at m.size n in
      let place : place_of m.size p ≡ n = position_at-place m.size n whole.size.some_points in
      let more = heights_more m n in
      subst (λ k. IsCount (Below (suc n)) (length (heights_below m k))) (add-one n) (elim (present_or_not m p inside) [
        | inl here ↦
            let shown = shown_of (cell_at m p) (mask_at m p) here.measured here.shown in
            let long : length (heights_below m (n + 1)) ≡ length (heights_below m n) + 1 =
            ap length (more ∙ ap (λ o. heights_below m n ++ cons_option o []) shown) ∙ length_push (heights_below m n) (rank m p).height in
            let merged = count-merge (Below n) (λ r. r ≡ rank m p) (λ r b e. (let below = b.1 in let i = ap (λ (x : Rank). x.index) e in omega (arith, below, i, place)))
            (length (heights_below m n)) 1 before (count-one (rank m p)) in
            subst (IsCount (Below (suc n))) (sym long) (count-by (Either (Below n) (λ r. r ≡ rank m p)) (Below (suc n)) (λ r. (
              λ h. elim h [
                | inl b ↦ (let below = b.1 in (b.0, omega (arith, below)))
                | inr e ↦ (let i = ap (λ (x : Rank). x.index) e in (subst (IsPoint m) (sym e) (point_at m p here), omega (arith, i, place)))
              ],
              λ b. (let below = b.1 in elim (cases_lt r.index n) [
                | inl less ↦ inl (b.0, less)
                | inr not ↦ inr (same_index m r (rank m p) b.0 (point_at m p here) (omega (arith, below, not, place)))
              ]),
            )) (length (heights_below m n) + 1) merged)
        | inr gone ↦
            let unseen : height_at m p ≡ None = unshown (cell_at m p) (mask_at m p) (λ measured shown. gone (record { in_grid = inside; measured = measured; shown = shown })) in
            let long : length (heights_below m (n + 1)) ≡ length (heights_below m n) =
            ap length (more ∙ ap (λ o. heights_below m n ++ cons_option o []) unseen ∙ append-nil (heights_below m n)) in
            subst (IsCount (Below (suc n))) (sym long) (count-by (Below n) (Below (suc n)) (λ r. (
              λ b. (let below = b.1 in (b.0, omega (arith, below))),
              λ b. (let below = b.1 in elim (cases_lt r.index n) [
                | inl less ↦ (b.0, less)
                | inr not ↦ absurd (gone (
                    let point = b.0 in
                    let index : place_of m.size point.at ≡ n = (let i = ap (λ (x : Rank). x.index) point.rank_is in omega (arith, below, not, i)) in
                    subst (Present m) (sym (position_at-of m.size point.at point.present.in_grid) ∙ ap (position_at m.size) index) point.present))
              ]),
            )) (length (heights_below m n)) before)
      ])

  points-counted : IsCount (IsPoint m) (length (present_heights m))
  points-counted = count-by (Below (cell_count m.size)) (IsPoint m) (λ r. (λ b. b.0, λ point. (point, point_inside m r point))) (length (present_heights m))
      (count-below (cell_count m.size) (omega arith))

  abbrev heights : List ℤ
  heights = present_heights m

  -- the heights are those of the points
  height-point : (h : ℤ) → Contains heights h → (r : Rank) × IsPoint m r × (h ≡ r.height)
  height-point h at = (let r = point_of m (cell_count m.size) h whole (omega arith) at in (r.0, r.1, sym r.2))

  point-height : (r : Rank) → IsPoint m r → Contains heights r.height
  point-height r point = height_in m (cell_count m.size) r point (point_inside m r point)

  range-told : (o : Option HeightRange) → Spans (IsPoint m) o → o ≡ range_of heights
  range-told o spans =
      sym (range_between-ends _ _ o refl refl)
      ∙ range_between-ends (least_end o) (greatest_end o) (range_of heights)
      (least-unique (IsPoint m) (least_end o) (least_end (range_of heights)) (lowest o spans) (least-range heights (IsPoint m) height-point point-height))
      (greatest-unique (IsPoint m) (greatest_end o) (greatest_end (range_of heights)) (highest o spans) (greatest-range heights (IsPoint m) height-point point-height))
    where
      lowest : (o : Option HeightRange) → Spans (IsPoint m) o → LeastIs (IsPoint m) (least_end o)
      lowest None none = none
      lowest (Some g) is = is.0

      highest : (o : Option HeightRange) → Spans (IsPoint m) o → GreatestIs (IsPoint m) (greatest_end o)
      highest None none = none
      highest (Some g) is = is.1

  -- they tell how many points of the map are present, and the range of their heights
  pub presence-told : (es : List Extent) → AreExtents m side es → IsPresence (present_heights m) (presence_told es)
  presence-told es are = (let tells = tells-points es are in record {
    count = count-unique (IsPoint m) (presence_told es).count (length (present_heights m)) tells.counted points-counted;
    range = range-told (presence_told es).range tells.spans;
  })
