-- Links by place of a tile, as they are made, followed and set.
use Rattle.std.proofs.Common.{◌≡◌, ◌<◌, ◌+◌, ◌*◌, ℕ, true, false, List, [], ◌∷◌, ◌++◌, length, set, slice_index, ◌⊎◌, inl, inr, refl, sym, ◌∙◌, ap, subst, arith}
use Rattle.std.specs.Prelude.{◌↔◌, ℤ}
use Rattle.std.specs.Ordering.{int_eq}
use Rattle.std.proofs.lemmas.Int.{ints}
use Rattle.std.proofs.lemmas.Bool.Decides.{nat_tests}
use Rattle.std.proofs.Math.ListN.{length-set}
use Rattle.std.proofs.lemmas.Bool.{cases_eq, cases_lt}
use Rattle.std.proofs.lemmas.List.{get_or-set_same, get_or-set_other, get_or_append_left, get_or_push, length_push}
use Rattle.hd_map.specs.declared.types.Pos.{Pos}
use Rattle.hd_map.specs.declared.types.Rank.{Rank}
use Rattle.hd_map.specs.declared.types.SideName.{SideName}
use Rattle.hd_map.specs.Map.{Map, IsMap, Present, place_of}
use Rattle.hd_map.specs.Rank.{rank, below_by}
use Rattle.hd_map.specs.Region.{IsNext}
use Rattle.hd_map.specs.SideLaws.{below_by-order}
use Rattle.hd_map.proofs.Gather.{same_pos}
use Rattle.hd_map.proofs.Depth.{depth_by, depth_falls}
use Rattle.hd_map.proofs.Nexts.{next-unique}
use Rattle.hd_map.proofs.Points.{point_at, present_or_not, same_index, same_point}
use Rattle.hd_map.proofs.Order.{below-apart}
use Rattle.hd_steep.specs.Lowest.{missing, IsLow, IsAtPlace}
use Rattle.hd_steep.proofs.Lows.{low_missing, point_apart}
use Rattle.hd_steep.proofs.Round.{same_or_below}
use Rattle.hd_basin.specs.declared.frame.Frame.{Frame}
use Rattle.hd_basin.specs.Basin.{IsSink, IsSinkOf, AreNextsInside, tile_at}
use Rattle.hd_basin.specs.Links.{IsOnward, LeadsOnward, IsLink, AreLinksTo, AreLinks, LedTo}
use Rattle.hd_basin.specs.Sinks.{IsSunk, at_place, no_node}
use Rattle.hd_basin.proofs.Areas.{place-one}
use Rattle.hd_basin.proofs.Frames.{frame-in_grid, step-in_frame}
use Rattle.hd_basin.proofs.SinkLaws.{sink-own, sink-unique, sink-is_sink, sink-not_above}

module _ (m : Map) (side : SideName) (t : ℕ) where
  -- a sink is onward from itself
  pub onward-own : (p : Rank) → IsSink m side t p → IsOnward m side t p p
  onward-own p sink = record { same_sink = λ s. (λ h. h, λ h. h); below = λ other. absurd (other refl); stays = λ e. sink }

  -- where a point has its sink from its next on
  after-path : (p q s : Rank) (path : List Rank) → IsNext m side p q → tile_at m.size t q ≡ tile_at m.size t p → AreNextsInside m side t p path s → IsSinkOf m side t q s
  after-path p q s [] next same ends = absurd (ends.1.leaves q next same)
  after-path p q s (x ∷ xs) next same steps = (xs, subst (λ (z : Rank). AreNextsInside m side t z xs s) (next-unique m side p x q steps.0 next) steps.2)

  -- the next in the tile is onward
  pub onward-next : (p q : Rank) → IsNext m side p q → tile_at m.size t q ≡ tile_at m.size t p → IsOnward m side t p q
  onward-next p q next same = record {
    same_sink = λ s. (λ h. after-path p q s h.0 next same h.1, λ h. (q ∷ h.0, (next, same, h.1)));
    below = λ other. next.lower.below;
    stays = λ e. absurd (below-apart (below_by side) (below_by-order side) q p next.lower.below e);
  }

  -- the sink is onward
  pub onward-sink : (p s : Rank) → IsSinkOf m side t p s → IsOnward m side t p s
  onward-sink p s of =
      let sink = sink-is_sink m side t p s of in
      record {
        same_sink = λ u. (
          λ h. subst (λ (z : Rank). IsSinkOf m side t s z) (sink-unique m side t p s u of h) (sink-own m side t s sink),
          λ h. subst
              (λ (z : Rank). IsSinkOf m side t p z) (sink-unique m side t s s u (sink-own m side t s sink) h) of,
        );
        below = λ other. elim (same_or_below (below_by side) (below_by-order side) s p (sink-not_above m side t p s of)) [ inl e ↦ absurd (other e) | inr h ↦ h ];
        stays = λ e. subst (λ (z : Rank). IsSink m side t z) e sink;
      }

  -- onward from a point, and then onward again
  pub onward-trans : (p q r : Rank) → (q ≡ p) ⊎ (q ≡ p → ⊥) → (r ≡ q) ⊎ (r ≡ q → ⊥) → IsOnward m side t p q → IsOnward m side t q r → IsOnward m side t p r
  onward-trans p q r (inl e) last one two = subst (λ (z : Rank). IsOnward m side t z r) e two
  onward-trans p q r (inr moves) (inl f) one two = subst (λ (z : Rank). IsOnward m side t p z) (sym f) one
  onward-trans p q r (inr moves) (inr goes) one two =
      let laws = below_by-order side in
      let falls : below_by side r p ≡ true = laws.transitive r q p (two.below goes) (one.below moves) in
      record {
        same_sink = λ s. (λ h. (two.same_sink s).0 ((one.same_sink s).0 h), λ h. (one.same_sink s).1 ((two.same_sink s).1 h));
        below = λ other. falls;
        stays = λ e. absurd (below-apart (below_by side) laws r p falls e);
      }

-- two points are one, or not
same_or_not : (m : Map) (p q : Pos) → Present m p → Present m q → (rank m q ≡ rank m p) ⊎ (rank m q ≡ rank m p → ⊥)
same_or_not m p q here there = elim (cases_eq (place_of m.size q) (place_of m.size p)) [
  | inl e ↦ inl (same_index m (rank m q) (rank m p) (point_at m q there) (point_at m p here) e)
  | inr other ↦ inr (λ e. other (ap (λ (r : Rank). r.index) e))
]

-- equal numbers are told
told : (h k : ℤ) → int_eq h k ≡ true → h ≡ k
told h k e = grind (arith, ints, nat_tests)

pub told-apart : (h k : ℤ) → int_eq h k ≡ false → h ≡ k → ⊥
told-apart h k e same = grind (arith, ints, nat_tests)

-- where the rank at a place is missing, no point is present there
pub low-absent : (m : Map) (side : SideName) → IsMap m → (y x : ℕ) (r : Rank) → IsLow m side (IsAtPlace y x) r → int_eq r.height (missing side).height ≡ true → (q : Pos)
    → q.y + 1 ≡ y → q.x + 1 ≡ x → Present m q → ⊥
low-absent m side whole y x r of e q row column here = elim of.origin [
  | inl none ↦ low_missing m side whole (IsAtPlace y x) r of none q (record { profile = row; place = column }) here
  | inr one ↦ point_apart m side whole r one.at one.present one.low_is (told r.height (missing side).height e)
]

-- and else it is that of the point there
pub low-present : (m : Map) (side : SideName) (y x : ℕ) (r : Rank) → IsLow m side (IsAtPlace y x) r → int_eq r.height (missing side).height ≡ false → (q : Pos) → q.y + 1 ≡ y
    → q.x + 1 ≡ x → Present m q × (r ≡ rank m q)
low-present m side y x r of e q row column = elim of.origin [
  | inl none ↦ absurd (told-apart r.height (missing side).height e (ap (λ (z : Rank). z.height) none))
  | inr one ↦ (
      let same : one.at ≡ q = same_pos one.at q (let a = one.chosen.place in omega (arith, a, column)) (let a = one.chosen.profile in omega (arith, a, row)) in
      (subst (Present m) same one.present, one.low_is ∙ ap (rank m) same))
]

-- the rank at a present point
pub low-own : (m : Map) (side : SideName) → IsMap m → (p : Pos) (r : Rank) → IsLow m side (IsAtPlace (p.y + 1) (p.x + 1)) r → Present m p → r ≡ rank m p
low-own m side whole p r of here = elim of.origin [
  | inl none ↦ absurd (low_missing m side whole (IsAtPlace (p.y + 1) (p.x + 1)) r of none p (record { profile = refl; place = refl }) here)
  | inr one ↦ one.low_is ∙ ap (rank m) (same_pos one.at p (let a = one.chosen.place in omega (arith, a)) (let a = one.chosen.profile in omega (arith, a)))
]

pub links-more : (m : Map) (side : SideName) (t : ℕ) (f : Frame) (n : ℕ) (links : List ℕ) (link : ℕ) → AreLinksTo m side t f n links → IsLink m side t f n link
    → AreLinksTo m side t f (n + 1) (links ++ link ∷ [])
links-more m side t f n links link are new = record {
  whole = length_push links link ∙ ap (λ (k : ℕ). k + 1) are.whole;
  each = λ k below. elim (cases_lt k n) [
    | inl early ↦ (
        let inside : k < length links = (let w = are.whole in omega (arith, early, w)) in
        subst (λ (x : ℕ). IsLink m side t f k x) (sym (get_or_append_left links (link ∷ []) 0 k inside)) (are.each k early))
    | inr late ↦ (
        let same : n ≡ k = omega (arith, late, below) in
        let end : length links ≡ k = are.whole ∙ same in
        subst (λ (x : ℕ). IsLink m side t f k x) (sym (get_or_push links link 0 k end)) (subst (λ (j : ℕ). IsLink m side t f j link) same new))
  ];
}

-- the place that the link of k is taken from: that of the link, and where there is none k itself
abbrev pub Takes : List ℕ → ℕ → ℕ → Type 0
Takes links k onward = ((slice_index links k ≡ no_node) × (onward ≡ k)) ⊎ ((slice_index links k ≡ no_node → ⊥) × (onward ≡ slice_index links k))

module _ (m : Map) (side : SideName) (t : ℕ) (f : Frame) where
  -- a point of the basin of another one, on its way
  pub record IsOnWay (start here : ℕ) : Type 0 where
    pub inside : here < f.columns * f.rows
    pub present : Present m (at_place f here)
    pub same_sink : (s : Rank) → IsSinkOf m side t (rank m (at_place f start)) s ↔ IsSinkOf m side t (rank m (at_place f here)) s

  abbrev pub depth_of : ℕ → ℕ
  depth_of k = depth_by side (rank m (at_place f k))

  module _ (links : List ℕ) (are : AreLinks m side t f links) where
    -- there is a point at a place, or none
    pub point_or_not : (k : ℕ) → k < f.columns * f.rows → Present m (at_place f k) ⊎ (Present m (at_place f k) → ⊥)
    point_or_not k below = present_or_not m (at_place f k) (frame-in_grid m.size f (at_place f k) are.fits (step-in_frame f k below))

    link_of : (k : ℕ) → k < f.columns * f.rows → Present m (at_place f k) → LeadsOnward m side t f k (slice_index links k)
    link_of k below here = (are.all.each k below).point here

    -- where there is a link there is a point
    pub point_of : (k : ℕ) → k < f.columns * f.rows → (slice_index links k ≡ no_node → ⊥) → Present m (at_place f k)
    point_of k below some = elim (point_or_not k below) [ inl here ↦ here | inr absent ↦ absurd (some ((are.all.each k below).none absent)) ]

    absent_of : (k : ℕ) → k < f.columns * f.rows → slice_index links k ≡ no_node → Present m (at_place f k) → ⊥
    absent_of k below none here = (let l = link_of k below here in let i = l.inside in let few = are.few in omega (arith, i, few, none))

    -- the link after a link, where there is one
    pub link_after : (k onward : ℕ) → k < f.columns * f.rows → Takes links k onward → (onward < f.columns * f.rows) × IsLink m side t f k (slice_index links onward)
    link_after k onward below takes = elim takes [
      | inl stays ↦ (
          let absent = absent_of k below stays.0 in
          (subst (λ (j : ℕ). j < f.columns * f.rows) (sym stays.1) below, record { point = λ here. absurd (absent here); none = λ none. ap (λ (j : ℕ). slice_index links j) stays.1 ∙ stays.0 }))
      | inr moves ↦ (
          let here = point_of k below moves.0 in
          let l = link_of k below here in
          let on : onward < f.columns * f.rows = subst (λ (j : ℕ). j < f.columns * f.rows) (sym moves.1) l.inside in
          let there : Present m (at_place f onward) = subst (λ (j : ℕ). Present m (at_place f j)) (sym moves.1) l.present in
          let one : IsOnward m side t (rank m (at_place f k)) (rank m (at_place f onward)) = subst (λ (j : ℕ). IsOnward m side t (rank m (at_place f k)) (rank m (at_place f j)))
          (sym moves.1) l.onward in
          let n = link_of onward on there in
          let two = onward-trans m side t (rank m (at_place f k)) (rank m (at_place f onward)) (rank m (at_place f (slice_index links onward)))
          (same_or_not m (at_place f k) (at_place f onward) here there) (same_or_not m (at_place f onward) (at_place f (slice_index links onward)) there n.present) one n.onward in
          (on, record { point = λ h. record { inside = n.inside; present = n.present; onward = two }; none = λ none. absurd (none here) }))
    ]

    -- a link that is set as it may be
    pub link_set : (k link : ℕ) → k < f.columns * f.rows → IsLink m side t f k link → AreLinks m side t f (set links k link)
    link_set k link below is = record {
      few = are.few;
      fits = are.fits;
      all = record {
        whole = length-set links k link ∙ are.all.whole;
        each = λ i within. elim (cases_eq i k) [
          | inl same ↦ subst (λ (j : ℕ). IsLink m side t f j (slice_index (set links k link) j)) (sym same)
              (subst (λ (x : ℕ). IsLink m side t f k x) (sym (get_or-set_same links k link 0 (let w = are.all.whole in omega (arith, w, below)))) is)
          | inr other ↦ subst (λ (x : ℕ). IsLink m side t f i x) (sym (get_or-set_other links k i link 0 other)) (are.all.each i within)
        ];
      };
    }

    -- a way begins at a point
    pub way_start : (k : ℕ) → k < f.columns * f.rows → (slice_index links k ≡ no_node → ⊥) → IsOnWay k k
    way_start k below some = record { inside = below; present = point_of k below some; same_sink = λ s. (λ h. h, λ h. h) }

    -- it goes on along a link to another place
    pub way_more : IsMap m → (start here : ℕ) → IsOnWay start here → (slice_index links here ≡ here → ⊥) → IsOnWay start (slice_index links here) × (depth_of (slice_index links here) < depth_of here)
    way_more whole start here way moves =
        let l = link_of here way.inside way.present in
        let to : ℕ = slice_index links here in
        let apart : rank m (at_place f to) ≡ rank m (at_place f here) → ⊥ = λ e. moves
        (place-one f to here l.inside way.inside (same_point m (at_place f to) (at_place f here) l.present way.present e)) in (
          record {
            inside = l.inside;
            present = l.present;
            same_sink = λ s. (λ h. (l.onward.same_sink s).0 ((way.same_sink s).0 h), λ h. (way.same_sink s).1 ((l.onward.same_sink s).1 h));
          },
          depth_falls m side (rank m (at_place f to)) (rank m (at_place f here)) whole (point_at m (at_place f to) l.present) (point_at m (at_place f here) way.present) (l.onward.below apart),
        )

    -- and ends where a link stays
    pub way_end : (start here : ℕ) → IsOnWay start here → slice_index links here ≡ here → Present m (at_place f start) → IsSunk m side t f start here
    way_end start here way stays first =
        let l = link_of here way.inside way.present in
        let sink : IsSink m side t (rank m (at_place f here)) = l.onward.stays (ap (λ (j : ℕ). rank m (at_place f j)) stays) in
        record {
          inside = λ h. way.inside;
          present = λ h. way.present;
          sink = λ h. (way.same_sink (rank m (at_place f here))).1 (sink-own m side t (rank m (at_place f here)) sink);
          none = λ none. absurd (none first);
        }

    -- the sink is a link
    pub sunk-link : (k sink : ℕ) → IsSunk m side t f k sink → IsLink m side t f k sink
    sunk-link k sink is = record {
      point = λ here. record { inside = is.inside here; present = is.present here; onward = onward-sink m side t (rank m (at_place f k)) (rank m (at_place f sink)) (is.sink here) };
      none = is.none;
    }

-- the links, of which one more leads to the sink
module _ (m : Map) (side : SideName) (t : ℕ) (f : Frame) (k : ℕ) (links : List ℕ) (led : LedTo m side t f k links) (below : k < f.columns * f.rows) where
  pub led-set : (sink : ℕ) → IsSunk m side t f k sink → LedTo m side t f (k + 1) (set links k sink)
  led-set sink is = record {
    linked = link_set m side t f links led.linked k sink below (sunk-link m side t f links led.linked k sink is);
    led = λ i within. elim (cases_eq i k) [
      | inl same ↦ subst (λ (j : ℕ). IsSunk m side t f j (slice_index (set links k sink) j)) (sym same)
          (subst (λ (x : ℕ). IsSunk m side t f k x) (sym (get_or-set_same links k sink 0 (let w = led.linked.all.whole in omega (arith, w, below)))) is)
      | inr other ↦ subst (λ (x : ℕ). IsSunk m side t f i x) (sym (get_or-set_other links k i sink 0 other)) (led.led i (omega (arith, within, other)))
    ];
  }

  pub led-none : slice_index links k ≡ no_node → LedTo m side t f (k + 1) links
  led-none none = record {
    linked = led.linked;
    led = λ i within. elim (cases_eq i k) [
      | inl same ↦ subst (λ (j : ℕ). IsSunk m side t f j (slice_index links j)) (sym same) (
          let absent = absent_of m side t f links led.linked k below none in
          record { inside = λ h. absurd (absent h); present = λ h. absurd (absent h); sink = λ h. absurd (absent h); none = λ h. none })
      | inr other ↦ led.led i (omega (arith, within, other))
    ];
  }
