-- The passes and the seams of a tile that is seen anew, from the seams at its points.
use Rattle.std.proofs.Common.{◌≡◌, ◌≢◌, ◌*◌, ℕ, inl, inr, Bool, true, false, List, Some, get_or, slice_get, refl, sym, ◌∙◌, ap, subst, arith}
use Rattle.std.specs.Prelude.{AllPairs, Contains, if◌then◌else◌}
use Rattle.std.proofs.lemmas.List.Elements.{Contains-get_or}
use Rattle.hd_map.specs.declared.types.Pass.{Pass}
use Rattle.hd_map.specs.declared.types.Pos.{Pos}
use Rattle.hd_map.specs.declared.types.Rank.{Rank}
use Rattle.hd_map.specs.declared.types.SideName.{SideName}
use Rattle.hd_map.specs.Map.{Map}
use Rattle.hd_map.specs.Order.{IsNotAbove}
use Rattle.hd_map.specs.Passes.{higher_by}
use Rattle.hd_map.specs.Rank.{rank, below_by, IsPoint}
use Rattle.hd_map.specs.SideLaws.{below_by-order}
use Rattle.hd_map.proofs.Points.{same_index}
use Rattle.hd_map.proofs.Higher.{not_above-below}
use Rattle.hd_tiles.specs.Tile.{tile_of}
use Rattle.hd_basin.specs.declared.frame.Frame.{Frame}
use Rattle.hd_basin.specs.declared.part.Part.{Part}
use Rattle.hd_basin.specs.declared.part.Seam.{Seam}
use Rattle.hd_basin.specs.Basin.{IsSinkOf, IsBasinMeeting, IsBasinPass, tile_at}
use Rattle.hd_basin.specs.Built.{IsAsked, IsBuilt, IsKnown, IsNoded, IsRightPass}
use Rattle.hd_basin.specs.Seams.{AreCandidates, IsCandidate, KeepLowest, pass_between}
use Rattle.hd_basin.specs.Frames.{HoldsRound}
use Rattle.hd_basin.specs.Inside.{place_of_frame}
use Rattle.hd_basin.specs.Parts.{IsBetween, IsFresh, IsSeamOf, JoinOthers}
use Rattle.hd_basin.proofs.Areas.{tile-of_point}
use Rattle.hd_basin.proofs.Frames.{frame_step}
use Rattle.hd_basin.proofs.Views.{round_neighbour}
use Rattle.hd_basin.proofs.SinkLaws.{sink-unique, sink-is_sink, sink-tile}
use Rattle.hd_basin.proofs.InStep.{pass-sym}

joins-between : (side : SideName) (a b w : Rank) → IsBetween (pass_between side a b w) a b w
joins-between side a b w = elim (below_by side a b) as (λ v. IsBetween (if v then (record { a = a; b = b; at = w }) else (record { a = b; b = a; at = w })) a b w) [
  | true ↦ inl refl
  | false ↦ inr refl
]

abbrev pick : Bool → Rank → Rank → Rank → Pass
pick v a b w = if v then (record { a = a; b = b; at = w }) else (record { a = b; b = a; at = w })

joins-ordered : (side : SideName) (a b w : Rank) → a ≢ b → below_by side (pass_between side a b w).a (pass_between side a b w).b ≡ true
joins-ordered side a b w apart = go (below_by side a b) refl
  where
    go : (v : Bool) → below_by side a b ≡ v → below_by side (pick v a b w).a (pick v a b w).b ≡ true
    go true e = e
    go false e = not_above-below side b a e (λ same. apart (sym same))

not_both : (side : SideName) (a b : Rank) → below_by side a b ≡ true → below_by side b a ≡ true → ⊥
not_both side a b e f = (let up = (below_by-order side).transitive a b a e f in let no = (below_by-order side).irreflexive a in cc)

-- two passes between the same two have the same ends
ordered-same : (side : SideName) (p q : Pass) (a b w u : Rank) → IsBetween p a b w → IsBetween q a b u → below_by side p.a p.b ≡ true → below_by side q.a q.b ≡ true → (p.a ≡ q.a) × (p.b ≡ q.b)
ordered-same side p q a b w u (inl e) (inl f) one other = (ap (λ (x : Pass). x.a) e ∙ sym (ap (λ (x : Pass). x.a) f), ap (λ (x : Pass). x.b) e ∙ sym (ap (λ (x : Pass). x.b) f))
ordered-same side p q a b w u (inr e) (inr f) one other = (ap (λ (x : Pass). x.a) e ∙ sym (ap (λ (x : Pass). x.a) f), ap (λ (x : Pass). x.b) e ∙ sym (ap (λ (x : Pass). x.b) f))
ordered-same side p q a b w u (inl e) (inr f) one other = absurd (not_both side a b (subst (λ (x : Pass). below_by side x.a x.b ≡ true) e one)
    (subst (λ (x : Pass). below_by side x.a x.b ≡ true) f other))
ordered-same side p q a b w u (inr e) (inl f) one other = absurd (not_both side a b (subst (λ (x : Pass). below_by side x.a x.b ≡ true) f other)
    (subst (λ (x : Pass). below_by side x.a x.b ≡ true) e one))

between-at : (p : Pass) (a b w : Rank) → IsBetween p a b w → p.at ≡ w
between-at p a b w (inl e) = ap (λ (x : Pass). x.at) e
between-at p a b w (inr e) = ap (λ (x : Pass). x.at) e

to_ends : (P : Rank → Type 0) (p : Pass) (a b w : Rank) → IsBetween p a b w → P a → P b → P p.a × P p.b
to_ends P p a b w (inl e) one other = (subst P (sym (ap (λ (x : Pass). x.a) e)) one, subst P (sym (ap (λ (x : Pass). x.b) e)) other)
to_ends P p a b w (inr e) one other = (subst P (sym (ap (λ (x : Pass). x.a) e)) other, subst P (sym (ap (λ (x : Pass). x.b) e)) one)

-- passes between the same ends at one place are one
pub same-pass : (a b c d w : Rank) → a ≡ c → b ≡ d → ◌≡◌ {A = Pass} (record { a = a; b = b; at = w }) (record { a = c; b = d; at = w })
same-pass a b c d w e f = cc

-- what has the ends of a pass between two is between them
ends-between : (p q : Pass) (a b w : Rank) → p.a ≡ q.a → p.b ≡ q.b → IsBetween q a b w → IsBetween p a b p.at
ends-between p q a b w e f (inl g) = inl (same-pass p.a p.b a b p.at (e ∙ ap (λ (x : Pass). x.a) g) (f ∙ ap (λ (x : Pass). x.b) g))
ends-between p q a b w e f (inr g) = inr (same-pass p.a p.b b a p.at (e ∙ ap (λ (x : Pass). x.a) g) (f ∙ ap (λ (x : Pass). x.b) g))

-- the seam is at a meeting of a basin of the tile and a known one
record IsJoint (m : Map) (side : SideName) (t tile : ℕ) (stamps : List ℕ) (parts : List Part) (s : Seam) (a b w : Rank) : Type 0 where
  own : tile_at m.size t a ≡ tile
  with_is : s.with ≡ tile_at m.size t b
  points : IsPoint m a × IsPoint m b
  apart : a ≢ b
  between : IsBetween s.pass a b w
  ordered : below_by side s.pass.a s.pass.b ≡ true
  meeting : IsBasinMeeting m side t a b w
  known : IsFresh stamps parts (tile_at m.size t b)
  stamp : slice_get stamps s.with ≡ Some s.stamp

module _ (m : Map) (side : SideName) (t tile : ℕ) (stamps : List ℕ) (parts : List Part) (f : Frame) (holds : HoldsRound m.size t tile f) (stale : IsFresh stamps parts tile → ⊥)
    (all kept : List Seam) (cand : AreCandidates m side t tile stamps (IsAsked m t tile stamps parts f (f.columns * f.rows)) all) (k : KeepLowest side all kept) where
  abbrev Joint : Seam → Rank → Rank → Rank → Type 0
  Joint = IsJoint m side t tile stamps parts

  abbrev In : Rank → Type 0
  In r = tile_at m.size t r ≡ tile

  joint : (p q : Pos) (s : Seam) → IsKnown m.size t stamps parts q → (c : IsCandidate m side t tile stamps p q s) → Joint s c.a c.b (higher_by side (rank m p) (rank m q))
  joint p q s known c =
      let w : Rank = higher_by side (rank m p) (rank m q) in
      let there : tile_at m.size t c.b ≡ tile_of m.size t q = sink-tile m side t (rank m q) c.b c.to ∙ tile-of_point m t (rank m q) q c.near.to refl in
      record {
        own = sink-tile m side t (rank m p) c.a c.from ∙ tile-of_point m t (rank m p) p c.near.from refl ∙ c.in_tile;
        with_is = c.with_is ∙ sym there;
        points = ((sink-is_sink m side t (rank m p) c.a c.from).point, (sink-is_sink m side t (rank m q) c.b c.to).point);
        apart = c.apart;
        between = subst (λ (x : Pass). IsBetween x c.a c.b w) (sym c.pass_is) (joins-between side c.a c.b w);
        ordered = subst (λ (x : Pass). below_by side x.a x.b ≡ true) (sym c.pass_is) (joins-ordered side c.a c.b w c.apart);
        meeting = record { from = rank m p; to = rank m q; near = record { from = p; to = q; neighbour = c.near; from_rank = refl; to_rank = refl }; from_in = c.from; to_in = c.to; higher = refl };
        known = subst (IsFresh stamps parts) (sym there) known;
        stamp = c.stamp;
      }

  joint-of : (s : Seam) → Contains all s → (a : Rank) × (b : Rank) × (w : Rank) × Joint s a b w
  joint-of s has = (let c = cand.each s has in (c.3.a, c.3.b, higher_by side (rank m c.0) (rank m c.1), joint c.0 c.1 s c.2.known c.3))

  -- each meeting with a known basin has a seam
  found : (a b u : Rank) → In a → IsFresh stamps parts (tile_at m.size t b) → a ≢ b → IsBasinMeeting m side t a b u → (s : Seam) × Contains all s × Joint s a b u
  found a b u own known apart mt =
      let near = mt.near in
      let p : Pos = near.from in
      let q : Pos = near.to in
      let in_tile : tile_of m.size t p ≡ tile = sym (tile-of_point m t mt.from p near.neighbour.from near.from_rank) ∙ sym (sink-tile m side t mt.from a mt.from_in) ∙ own in
      let there : tile_of m.size t q ≡ tile_at m.size t b = sym (tile-of_point m t mt.to q near.neighbour.to near.to_rank) ∙ sym (sink-tile m side t mt.to b mt.to_in) in
      let within = holds q near.neighbour.to.in_grid (round_neighbour m t tile p q in_tile near.neighbour) in
      let is_known : IsKnown m.size t stamps parts q = subst (IsFresh stamps parts) (sym there) known in
      let step = frame_step f q within in
      let asked : IsAsked m t tile stamps parts f (f.columns * f.rows) p q = record { in_tile = in_tile; place = place_of_frame f q; before = step.0; at = sym step.1; known = is_known } in
      let from : IsSinkOf m side t (rank m p) a = subst (λ (r : Rank). IsSinkOf m side t r a) near.from_rank mt.from_in in
      let to : IsSinkOf m side t (rank m q) b = subst (λ (r : Rank). IsSinkOf m side t r b) near.to_rank mt.to_in in
      let c = cand.every p q a b asked near.neighbour from to apart in
      let j = joint p q c.0 is_known c.2 in
      let higher : higher_by side (rank m p) (rank m q) ≡ u = sym (mt.higher ∙ ap (λ (x : Rank). higher_by side x mt.to) near.from_rank
      ∙ ap (λ (x : Rank). higher_by side (rank m p) x) near.to_rank) in
      let one : Joint c.0 a c.2.b (higher_by side (rank m p) (rank m q)) = subst (λ (x : Rank). Joint c.0 x c.2.b (higher_by side (rank m p) (rank m q)))
      (sink-unique m side t (rank m p) c.2.a a c.2.from from) j in
      let two : Joint c.0 a b (higher_by side (rank m p) (rank m q)) = subst (λ (x : Rank). Joint c.0 a x (higher_by side (rank m p) (rank m q)))
      (sink-unique m side t (rank m q) c.2.b b c.2.to to) one in
      (c.0, c.1, subst (λ (x : Rank). Joint c.0 a b x) higher two)

  -- what is kept is at a pass
  kept-right : (s : Seam) → Contains kept s → IsRightPass m side t s.pass
  kept-right s has =
      let h = joint-of s (k.some s has) in
      let a : Rank = h.0 in
      let b : Rank = h.1 in
      let w : Rank = h.2 in
      let j = h.3 in
      let right : IsBasinPass m side t a b w = record {
        apart = j.apart;
        meeting = j.meeting;
        lowest = λ u mt. (
            let v = found a b u j.own j.known j.apart mt in
            let same = ordered-same side s.pass v.0.pass a b w u j.between v.2.between j.ordered v.2.ordered in
            let low = k.lowest s v.0 has v.1 (ap (λ (r : Rank). r.index) same.0, ap (λ (r : Rank). r.index) same.1) in
            subst (λ (x : Rank). IsNotAbove (below_by side) x u) (between-at s.pass a b w j.between)
            (subst (λ (x : Rank). IsNotAbove (below_by side) s.pass.at x) (between-at v.0.pass a b u v.2.between) low));
      } in
      elim j.between [
        | inl e ↦ subst (λ (x : Pass). IsRightPass m side t x) (sym e) right
        | inr e ↦ subst (λ (x : Pass). IsRightPass m side t x) (sym e) (pass-sym m side t a b w right)
      ]

  -- each meeting with a known basin is kept by a seam between the two
  kept-found : (a b u : Rank) → In a → IsFresh stamps parts (tile_at m.size t b) → a ≢ b → IsBasinMeeting m side t a b u → (s : Seam) × Contains kept s × IsBetween s.pass a b s.pass.at
  kept-found a b u own known apart mt =
      let c = found a b u own known apart mt in
      let e = k.each c.0 c.1 in
      let s : Seam = e.0 in
      let h = joint-of s (k.some s e.1) in
      let mine = to_ends (IsPoint m) s.pass h.0 h.1 h.2 h.3.between h.3.points.0 h.3.points.1 in
      let other = to_ends (IsPoint m) c.0.pass a b u c.2.between c.2.points.0 c.2.points.1 in
      (s, e.1, ends-between s.pass c.0.pass a b u (same_index m s.pass.a c.0.pass.a mine.0 other.0 e.2.0) (same_index m s.pass.b c.0.pass.b mine.1 other.1 e.2.1) c.2.between)

  seam-of : (s : Seam) → Contains kept s → IsSeamOf m.size t tile s × IsFresh stamps parts s.with × (slice_get stamps s.with ≡ Some s.stamp)
  seam-of s has =
      let h = joint-of s (k.some s has) in
      let j = h.3 in
      let fresh = subst (IsFresh stamps parts) (sym j.with_is) j.known in (
        record {
          apart = λ e. stale (subst (IsFresh stamps parts) e fresh);
          ends = elim j.between [
            | inl e ↦ inl (ap (λ (x : Pass). tile_at m.size t x.a) e ∙ j.own, ap (λ (x : Pass). tile_at m.size t x.b) e ∙ sym j.with_is)
            | inr e ↦ inr (ap (λ (x : Pass). tile_at m.size t x.b) e ∙ j.own, ap (λ (x : Pass). tile_at m.size t x.a) e ∙ sym j.with_is)
          ];
        },
        fresh,
        j.stamp,
      )

  -- no two of what is kept join the same two basins
  kept-once : AllPairs (λ (s u : Seam). JoinOthers s.pass u.pass) kept
  kept-once = λ i j d less below.
      let s : Seam = get_or kept i d in
      let u : Seam = get_or kept j d in
      let one = joint-of s (k.some s (Contains-get_or kept i d (omega (arith, less, below)))) in
      let other = joint-of u (k.some u (Contains-get_or kept j d below)) in (
        λ a b. k.once i j d less below (ap (λ (r : Rank). r.index) a, ap (λ (r : Rank). r.index) b),
        λ a b. not_both side s.pass.a s.pass.b one.3.ordered (subst (λ (z : Rank). below_by side s.pass.b z ≡ true) (sym a)
            (subst (λ (z : Rank). below_by side z u.pass.b ≡ true) (sym b) other.3.ordered)),
      )

  pub joined-built : (part : Part) → IsNoded m side t tile part → part.seams ≡ kept → IsBuilt m side t stamps parts tile part
  joined-built part noded seams = record {
    nodes = noded.nodes;
    once = noded.once;
    sinks = noded.sinks;
    names = noded.names;
    labels = noded.labels;
    inside = noded.passes.inside;
    inside_all = noded.passes.inside_all;
    inside_once = noded.passes.once;
    across = λ s has. (let kept_has = subst (λ (xs : List Seam). Contains xs s) seams has in let u = seam-of s kept_has in (kept-right s kept_has, u.0, u.1, u.2));
    across_all = λ a b u own fresh apart mt. (
        let s = kept-found a b u own fresh apart mt in
        (s.0, subst (λ (xs : List Seam). Contains xs s.0) (sym seams) s.1, s.0.pass.at, s.2));
    across_once = subst (λ (xs : List Seam). AllPairs (λ (s u : Seam). JoinOthers s.pass u.pass) xs) (sym seams) kept-once;
  }
