-- A part of a map as a map of its own has the points of the part, in the same order, and their first links.
use Rattle.std.proofs.Common.{◌≡◌, ◌<◌, ◌≤◌, ◌+◌, ◌-◌, ◌&&◌, ◌||◌, ℕ, ℤ, true, false, inl, inr, refl, sym, ◌∙◌, ap, subst, arith}
use Rattle.std.specs.Prelude.{nat_lt, int_lt}
use Rattle.std.specs.Ordering.{int_eq}
use Rattle.std.proofs.lemmas.Bool.{cases_lt}
use Rattle.std.proofs.lemmas.Bool.Decides.{nat_tests}
use Rattle.hd_map.specs.declared.types.Adjacency.{Adjacency}
use Rattle.hd_map.specs.declared.types.Adjacency.TheVariants.{Four, Six, Eight}
use Rattle.hd_map.specs.declared.types.Pos.{Pos}
use Rattle.hd_map.specs.declared.types.Rank.{Rank}
use Rattle.hd_map.specs.declared.types.SideName.{SideName}
use Rattle.hd_map.specs.declared.types.SideName.TheVariants.{Dales, Hills}
use Rattle.hd_map.specs.Map.{Map, InGrid, Present, cell_at, mask_at, height_or_zero, place_of}
use Rattle.hd_map.specs.Neighbour.{IsNear, AreBesideUnder, Neighbour}
use Rattle.hd_map.specs.Rank.{rank, below_by, comes_before}
use Rattle.hd_map.specs.Region.{LowerNeighbour}
use Rattle.hd_map.proofs.Gather.{same_pos}
use Rattle.hd_map.proofs.Points.{same_point, shown_of, of_shown, point_at, Near-at}
use Rattle.hd_steep.specs.FirstLinks.{IsFirst}
use Rattle.hd_steep.proofs.Lows.{place_above, place_before}
use Rattle.hd_basin.specs.declared.frame.Frame.{Frame}
use Rattle.hd_basin.specs.Frames.{InFrame, IsPartOf, moved}

lt-both : (i j k l : ℕ) → i < j → k < l → nat_lt i j ≡ nat_lt k l
lt-both i j k l one other = grind (arith, nat_tests)

lt-neither : (i j k l : ℕ) → j ≤ i → l ≤ k → nat_lt i j ≡ nat_lt k l
lt-neither i j k l one other = grind (arith, nat_tests)

same-before : (x y u v : ℤ) (i j k l : ℕ) → x ≡ u → y ≡ v → nat_lt i j ≡ nat_lt k l → (int_lt x y || (int_eq x y && nat_lt i j)) ≡ (int_lt u v || (int_eq u v && nat_lt k l))
same-before x y u v i j k l a b c = cc

-- positions stay beside each other
beside-moved : (f : Frame) (v : Adjacency) (a b : Pos) → AreBesideUnder v a b → AreBesideUnder v (moved f a) (moved f b)
beside-moved f Four a b h = elim h [ inl x ↦ inl (ap (λ (k : ℕ). f.left + k) x) | inr y ↦ inr (ap (λ (k : ℕ). f.top + k) y) ]
beside-moved f Six a b h = elim h [
  | inl straight ↦ inl (elim straight [ inl x ↦ inl (ap (λ (k : ℕ). f.left + k) x) | inr y ↦ inr (ap (λ (k : ℕ). f.top + k) y) ])
  | inr rising ↦ inr (elim rising [
    | inl r ↦ inl (let x = r.0 in let y = r.1 in (omega (arith, x), omega (arith, y)))
    | inr r ↦ inr (let x = r.0 in let y = r.1 in (omega (arith, x), omega (arith, y)))
  ])
]
beside-moved f Eight a b h = h

beside-back : (f : Frame) (v : Adjacency) (a b : Pos) → AreBesideUnder v (moved f a) (moved f b) → AreBesideUnder v a b
beside-back f Four a b h = elim h [ inl x ↦ inl (omega (arith, x)) | inr y ↦ inr (omega (arith, y)) ]
beside-back f Six a b h = elim h [
  | inl straight ↦ inl (elim straight [ inl x ↦ inl (omega (arith, x)) | inr y ↦ inr (omega (arith, y)) ])
  | inr rising ↦ inr (elim rising [
    | inl r ↦ inl (let x = r.0 in let y = r.1 in (omega (arith, x), omega (arith, y)))
    | inr r ↦ inr (let x = r.0 in let y = r.1 in (omega (arith, x), omega (arith, y)))
  ])
]
beside-back f Eight a b h = h

moved-one : (f : Frame) (a b : Pos) → moved f a ≡ moved f b → a ≡ b
moved-one f a b e = same_pos a b (let x = ap (λ (p : Pos). p.x) e in omega (arith, x)) (let y = ap (λ (p : Pos). p.y) e in omega (arith, y))

module _ (m n : Map) (f : Frame) (is : IsPartOf m f n) where
  moved-in : (q : Pos) → InGrid n.size q → InGrid m.size (moved f q)
  moved-in q inside =
      let a = inside.column in
      let b = inside.profile in
      let c = is.columns in
      let d = is.rows in
      let right = is.fits.right in
      let bottom = is.fits.bottom in
      record { column = omega (arith, a, c, right); profile = omega (arith, b, d, bottom) }

  -- each position of the part is that of one of its own
  pub own-in : (p : Pos) → InFrame f p → InGrid n.size (record { x = p.x - f.left; y = p.y - f.top })
  own-in p within =
      let a = within.left in
      let b = within.right in
      let c = within.top in
      let d = within.bottom in
      let columns = is.columns in
      let rows = is.rows in
      record { column = omega (arith, a, b, columns); profile = omega (arith, c, d, rows) }

  pub own-is : (p : Pos) → InFrame f p → moved f (record { x = p.x - f.left; y = p.y - f.top }) ≡ p
  own-is p within = (let a = within.left in let c = within.top in same_pos (moved f (record { x = p.x - f.left; y = p.y - f.top })) p (omega (arith, a)) (omega (arith, c)))

  back : (p : Pos) → InFrame f p → (q : Pos) × InGrid n.size q × (moved f q ≡ p)
  back p within = (record { x = p.x - f.left; y = p.y - f.top }, own-in p within, own-is p within)

  -- the points are the same, with their heights
  pub present-to : (q : Pos) → Present n q → Present m (moved f q)
  present-to q here =
      let of = of_shown (cell_at m (moved f q)) (mask_at m (moved f q)) (height_or_zero (cell_at n q))
      (sym (is.heights q here.in_grid) ∙ shown_of (cell_at n q) (mask_at n q) here.measured here.shown) in
      record { in_grid = moved-in q here.in_grid; measured = of.0; shown = of.1 }

  height-to : (q : Pos) → Present n q → height_or_zero (cell_at m (moved f q)) ≡ height_or_zero (cell_at n q)
  height-to q here = (of_shown (cell_at m (moved f q)) (mask_at m (moved f q)) (height_or_zero (cell_at n q))
      (sym (is.heights q here.in_grid) ∙ shown_of (cell_at n q) (mask_at n q) here.measured here.shown)).2

  pub present-from : (q : Pos) → InGrid n.size q → Present m (moved f q) → Present n q
  present-from q inside here =
      let of = of_shown (cell_at n q) (mask_at n q) (height_or_zero (cell_at m (moved f q)))
      (is.heights q inside ∙ shown_of (cell_at m (moved f q)) (mask_at m (moved f q)) here.measured here.shown) in
      record { in_grid = inside; measured = of.0; shown = of.1 }

  -- indexes keep their order, which is that of profiles and then of columns in both maps
  place-order : (a b : Pos) → InGrid n.size a → InGrid n.size b → nat_lt (place_of m.size (moved f a)) (place_of m.size (moved f b)) ≡ nat_lt (place_of n.size a) (place_of n.size b)
  place-order a b in_a in_b =
      let big : (p q : Pos) → InGrid n.size p → p.y < q.y → place_of m.size (moved f p)
      < place_of m.size (moved f q) = λ p q inside less. place_above m.size (moved f p) (moved f q) (moved-in p inside).column (omega (arith, less)) in
      let level : (p q : Pos) → p.y ≡ q.y → p.x < q.x → place_of m.size (moved f p)
      < place_of m.size (moved f q) = λ p q same less. place_before m.size (moved f p) (moved f q) (ap (λ (k : ℕ). f.top + k) same) (omega (arith, less)) in
      elim (cases_lt a.y b.y) [
        | inl less ↦ lt-both _ _ _ _ (big a b in_a less) (place_above n.size a b in_a.column less)
        | inr more ↦ elim (cases_lt b.y a.y) [
          | inl greater ↦ lt-neither _ _ _ _ (let h = big b a in_b greater in omega (arith, h)) (let h = place_above n.size b a in_b.column greater in omega (arith, h))
          | inr not ↦ (
              let same : a.y ≡ b.y = omega (arith, more, not) in
              elim (cases_lt a.x b.x) [
                | inl less ↦ lt-both _ _ _ _ (level a b same less) (place_before n.size a b same less)
                | inr late ↦ elim (cases_lt b.x a.x) [
                  | inl greater ↦ lt-neither _ _ _ _ (let h = level b a (sym same) greater in omega (arith, h)) (let h = place_before n.size b a (sym same) greater in omega (arith, h))
                  | inr neither ↦ (
                      let one : a ≡ b = same_pos a b (omega (arith, late, neither)) same in
                      subst (λ (z : Pos). nat_lt (place_of m.size (moved f a)) (place_of m.size (moved f z)) ≡ nat_lt (place_of n.size a) (place_of n.size z)) one
                      (lt-neither (place_of m.size (moved f a)) (place_of m.size (moved f a)) (place_of n.size a) (place_of n.size a) (omega arith) (omega arith)))
                ]
              ])
        ]
      ]

  before-to : (a b : Pos) → Present n a → Present n b → comes_before (rank m (moved f a)) (rank m (moved f b)) ≡ comes_before (rank n a) (rank n b)
  before-to a b at_a at_b =
      same-before (height_or_zero (cell_at m (moved f a))) (height_or_zero (cell_at m (moved f b))) (height_or_zero (cell_at n a)) (height_or_zero (cell_at n b))
      (place_of m.size (moved f a)) (place_of m.size (moved f b)) (place_of n.size a) (place_of n.size b)
      (height-to a at_a) (height-to b at_b) (place-order a b at_a.in_grid at_b.in_grid)

  below-to : (side : SideName) (a b : Pos) → Present n a → Present n b → below_by side (rank m (moved f a)) (rank m (moved f b)) ≡ below_by side (rank n a) (rank n b)
  below-to Dales a b at_a at_b = before-to a b at_a at_b
  below-to Hills a b at_a at_b = before-to b a at_b at_a

  neighbour-to : (a b : Pos) → Neighbour n a b → Neighbour m (moved f a) (moved f b)
  neighbour-to a b h =
      let c = h.columns in
      let r = h.rows in
      record {
        from = present-to a h.from;
        to = present-to b h.to;
        columns = (let x = c.0 in omega (arith, x), let x = c.1 in omega (arith, x));
        rows = (let x = r.0 in omega (arith, x), let x = r.1 in omega (arith, x));
        different = λ e. h.different (moved-one f a b e);
        beside = subst (λ (v : Adjacency). AreBesideUnder v (moved f a) (moved f b)) is.adjacency (beside-moved f n.adjacency a b h.beside);
      }

  neighbour-from : (a b : Pos) → InGrid n.size a → InGrid n.size b → Neighbour m (moved f a) (moved f b) → Neighbour n a b
  neighbour-from a b in_a in_b h =
      let c = h.columns in
      let r = h.rows in
      record {
        from = present-from a in_a h.from;
        to = present-from b in_b h.to;
        columns = (let x = c.0 in omega (arith, x), let x = c.1 in omega (arith, x));
        rows = (let x = r.0 in omega (arith, x), let x = r.1 in omega (arith, x));
        different = λ e. h.different (ap (moved f) e);
        beside = beside-back f n.adjacency a b (subst (λ (v : Adjacency). AreBesideUnder v (moved f a) (moved f b)) (sym is.adjacency) h.beside);
      }

  -- of a point whose neighbours all lie in the part
  module _ (side : SideName) (p : Pos) (here : Present n p) (round : (q : Pos) → InGrid m.size q → IsNear (f.left + p.x) q.x → IsNear (f.top + p.y) q.y → InFrame f q) where
    -- a lower neighbour in the part
    record IsLowerIn (s : Rank) : Type 0 where
      at : Pos
      present : Present n at
      rank_is : s ≡ rank m (moved f at)
      lower : LowerNeighbour n side (rank n p) (rank n at)

    lower-from : (s : Rank) → LowerNeighbour m side (rank m (moved f p)) s → IsLowerIn s
    lower-from s l =
        let near = l.near in
        let pair = near.neighbour in
        let same : near.from ≡ moved f p = same_point m near.from (moved f p) pair.from (present-to p here) (sym near.from_rank) in
        let columns : IsNear (f.left + p.x) near.to.x = subst (λ (z : Pos). IsNear z.x near.to.x) same pair.columns in
        let rows : IsNear (f.top + p.y) near.to.y = subst (λ (z : Pos). IsNear z.y near.to.y) same pair.rows in
        let at = back near.to (round near.to pair.to.in_grid columns rows) in
        let there : Present n at.0 = present-from at.0 at.1 (subst (Present m) (sym at.2) pair.to) in
        let rank_is : s ≡ rank m (moved f at.0) = near.to_rank ∙ ap (rank m) (sym at.2) in
        let moves : Neighbour m (moved f p) (moved f at.0) = subst (λ (z : Pos). Neighbour m (moved f p) z) (sym at.2) (subst (λ (z : Pos). Neighbour m z near.to) same pair) in
        let below : below_by side (rank n at.0) (rank n p) ≡ true = sym (below-to side at.0 p there here) ∙ subst (λ (z : Rank). below_by side z (rank m (moved f p)) ≡ true) rank_is l.below in
        record { at = at.0; present = there; rank_is = rank_is; lower = record { near = Near-at n p at.0 (neighbour-from p at.0 here.in_grid at.1 moves); below = below } }

    lower-to : (b : Pos) → Present n b → LowerNeighbour n side (rank n p) (rank n b) → LowerNeighbour m side (rank m (moved f p)) (rank m (moved f b))
    lower-to b there l =
        let near = l.near in
        let pair = near.neighbour in
        let from : near.from ≡ p = same_point n near.from p pair.from here (sym near.from_rank) in
        let to : near.to ≡ b = same_point n near.to b pair.to there (sym near.to_rank) in
        let own : Neighbour n p b = subst (λ (z : Pos). Neighbour n p z) to (subst (λ (z : Pos). Neighbour n z near.to) from pair) in
        record { near = Near-at m (moved f p) (moved f b) (neighbour-to p b own); below = below-to side b p there here ∙ l.below }

    -- the one that comes first from it
    pub record IsFirstIn (r : Rank) : Type 0 where
      pub at : Pos
      pub present : Present n at
      pub rank_is : r ≡ rank n at
      pub first : IsFirst m side (rank m (moved f p)) (rank m (moved f at))

    pub first-to : (r : Rank) → IsFirst n side (rank n p) r → IsFirstIn r
    first-to r first = elim first [
      | inl next ↦ (
          let near = next.lower.near in
          let q : Pos = near.to in
          let there : Present n q = near.neighbour.to in
          let rank_is : r ≡ rank n q = near.to_rank in
          let lower : LowerNeighbour n side (rank n p) (rank n q) = subst (λ (z : Rank). LowerNeighbour n side (rank n p) z) rank_is next.lower in
          record {
            at = q;
            present = there;
            rank_is = rank_is;
            first = inl (record {
              lower = lower-to q there lower;
              lowest = λ s l. (
                  let b = lower-from s l in
                  let not : below_by side (rank n b.at) (rank n q) ≡ false = subst (λ (z : Rank). below_by side (rank n b.at) z ≡ false) rank_is (next.lowest (rank n b.at) b.lower) in
                  subst (λ (z : Rank). below_by side z (rank m (moved f q)) ≡ false) (sym b.rank_is) (below-to side b.at q b.present there ∙ not));
            });
          })
      | inr pit ↦ record {
        at = p;
        present = here;
        rank_is = pit.0;
        first = inr (refl, record { point = point_at m (moved f p) (present-to p here); alone = λ s l. (let b = lower-from s l in pit.1.alone (rank n b.at) b.lower) });
      }
    ]
