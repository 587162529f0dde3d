-- One tile of a pool is replaced by what was made of it anew.
use Rattle.std.proofs.Common.{◌≡◌, ◌≢◌, ◌<◌, ℕ, ◌⊎◌, inl, inr, List, length, Option, Some, None, set, slice_get, refl, sym, ◌∙◌, ap, subst, arith}
use Rattle.std.specs.Prelude.{Contains, AllPairs}
use Rattle.std.proofs.Math.ListN.{length-set}
use Rattle.std.proofs.lemmas.Bool.{cases_eq}
use Rattle.std.proofs.lemmas.Option.{same_Some}
use Rattle.hd_map.specs.declared.types.Pass.{Pass}
use Rattle.hd_map.specs.declared.types.Pos.{Pos}
use Rattle.hd_map.specs.declared.types.Rank.{Rank}
use Rattle.hd_map.specs.declared.types.SideName.{SideName}
use Rattle.hd_map.specs.declared.types.Size.{Size}
use Rattle.hd_map.specs.Map.{Map, Present, position_at}
use Rattle.hd_map.specs.Rank.{rank}
use Rattle.hd_map.proofs.Points.{place_inside, rank_position}
use Rattle.hd_tiles.specs.Tile.{tile_of}
use Rattle.hd_tiles.proofs.Stamping.{slice_get-set_same, slice_get-set_other}
use Rattle.hd_basin.specs.declared.node.Node.{Node}
use Rattle.hd_basin.specs.declared.part.Part.{Part}
use Rattle.hd_basin.specs.declared.part.Seam.{Seam}
use Rattle.hd_basin.specs.Basin.{IsBasinPass, IsLabel, IsSinkOf, tile_at}
use Rattle.hd_basin.specs.Built.{IsBuilt, IsRightPass}
use Rattle.hd_basin.specs.InStep.{IsInStep, KeepsSeen}
use Rattle.hd_basin.specs.Parts.{inner_passes, Pool, IsBetween, IsLinked, IsFresh, IsSeamOf, IsSound, IsUnderKey, JoinOthers, JoinsNodes, HasNode, NameNodes, label_of, low_of, node_at, place_in_tile}
use Rattle.hd_basin.specs.Pool.{IsRightOn, IsTileRight}
use Rattle.hd_basin.proofs.FlatLists.{same-of_distinct}
use Rattle.hd_basin.proofs.InStep.{right-extended, pass-sym}
use Rattle.hd_basin.proofs.PointRoots.{read-contains}
use Rattle.hd_basin.proofs.SinkLaws.{sink-is_sink, sink-own, sink-unique}

-- the pool of a grid of the map's size
abbrev pub pool_of : Map → ℕ → List Part → Pool
pool_of m t parts = record { size = m.size; side = t; parts = parts }

-- a pool in step has the size of the map
pub in_step-sized : (m : Map) (side : SideName) (stamps : List ℕ) (s : Size) (t : ℕ) (parts : List Part) → IsInStep m side stamps (record { size = s; side = t; parts = parts })
    → IsInStep m side stamps (pool_of m t parts)
in_step-sized m side stamps s t parts step = subst (λ (z : Size). IsInStep m side stamps (record { size = z; side = t; parts = parts })) step.size step

pub in_step-sized_back : (m : Map) (side : SideName) (stamps : List ℕ) (s : Size) (t : ℕ) (parts : List Part) → s ≡ m.size → IsInStep m side stamps (pool_of m t parts)
    → IsInStep m side stamps (record { size = s; side = t; parts = parts })
in_step-sized_back m side stamps s t parts size step = subst (λ (z : Size). IsInStep m side stamps (record { size = z; side = t; parts = parts })) (sym size) step

-- a pass with these ends is between them both ways
between-sym : (p : Pass) (a b w : Rank) → IsBetween p a b w → IsBetween p b a w
between-sym p a b w (inl e) = inr e
between-sym p a b w (inr e) = inl e

linked-sym : (parts : List Part) (a b w : Rank) → IsLinked parts a b w → IsLinked parts b a w
linked-sym parts a b w (inl x) = inl (record { tile = x.tile; part = x.part; pass = x.pass; at = x.at; has = x.has; between = between-sym x.pass a b w x.between })
linked-sym parts a b w (inr x) = inr (record {
  tile = x.tile;
  part = x.part;
  seam = x.seam;
  other = x.other;
  at = x.at;
  has = x.has;
  between =
      between-sym x.seam.pass a b w x.between;
  with_at = x.with_at;
  since = x.since;
})

-- what holds of both ends of a pass holds of what it joins
pub both_ends : (P : Rank → Type 0) (p : Pass) (a b w : Rank) → IsBetween p a b w → P p.a → P p.b → P a × P b
both_ends P p a b w (inl e) one other = (subst (λ (x : Pass). P x.a) e one, subst (λ (x : Pass). P x.b) e other)
both_ends P p a b w (inr e) one other = (subst (λ (x : Pass). P x.b) e other, subst (λ (x : Pass). P x.a) e one)

-- a right pass is right for what it joins
right-between : (m : Map) (side : SideName) (t : ℕ) (p : Pass) (a b w : Rank) → IsBetween p a b w → IsRightPass m side t p → IsBasinPass m side t a b w
right-between m side t p a b w (inl e) right = subst (IsRightPass m side t) e right
right-between m side t p a b w (inr e) right = pass-sym m side t b a w (subst (IsRightPass m side t) e right)

-- of a seam one of what it joins lies in the tile, and the other in the other tile
pub seam_ends : (m : Map) (t tile : ℕ) (s : Seam) (a b w : Rank) → IsBetween s.pass a b w → IsSeamOf m.size t tile s
    → ((tile_at m.size t a ≡ tile) × (tile_at m.size t b ≡ s.with)) ⊎ ((tile_at m.size t b ≡ tile) × (tile_at m.size t a ≡ s.with))
seam_ends m t tile s a b w (inl e) of = elim of.ends [
  | inl h ↦ inl (ap (λ (x : Pass). tile_at m.size t x.a) (sym e) ∙ h.0, ap (λ (x : Pass). tile_at m.size t x.b) (sym e) ∙ h.1)
  | inr h ↦ inr (ap (λ (x : Pass). tile_at m.size t x.b) (sym e) ∙ h.0, ap (λ (x : Pass). tile_at m.size t x.a) (sym e) ∙ h.1)
]
seam_ends m t tile s a b w (inr e) of = elim of.ends [
  | inl h ↦ inr (ap (λ (x : Pass). tile_at m.size t x.a) (sym e) ∙ h.0, ap (λ (x : Pass). tile_at m.size t x.b) (sym e) ∙ h.1)
  | inr h ↦ inl (ap (λ (x : Pass). tile_at m.size t x.b) (sym e) ∙ h.0, ap (λ (x : Pass). tile_at m.size t x.a) (sym e) ∙ h.1)
]

module _ (m : Map) (side : SideName) (t : ℕ) (stamps : List ℕ) (parts : List Part) (tile stamp : ℕ) (part : Part)
    (sound : IsSound (pool_of m t parts)) (step : IsInStep m side stamps (pool_of m t parts)) (built : IsBuilt m side t stamps parts tile part)
    (now : slice_get stamps tile ≡ Some stamp) (seen : part.seen ≡ Some stamp) (stale : IsFresh stamps parts tile → ⊥) (inside : tile < length parts) where
  abbrev after : List Part
  after = set parts tile part

  here : slice_get after tile ≡ Some part
  here = slice_get-set_same parts tile part inside

  away : (j : ℕ) → j ≢ tile → slice_get after j ≡ slice_get parts j
  away j other = slice_get-set_other parts tile j part other

  -- what is read at the tile is the new part
  new_part : (j : ℕ) (p : Part) → j ≡ tile → slice_get after j ≡ Some p → p ≡ part
  new_part j p e at = same_Some p part (sym at ∙ ap (slice_get after) e ∙ here)

  fresh-other : (j : ℕ) → IsFresh stamps parts j → j ≢ tile
  fresh-other j fresh e = stale (subst (IsFresh stamps parts) e fresh)

  fresh-now : (j : ℕ) → IsFresh stamps after j → (j ≡ tile) ⊎ IsFresh stamps parts j
  fresh-now j fresh = elim (cases_eq j tile) [
    | inl e ↦ inl e
    | inr other ↦ inr (record { stamp = fresh.stamp; part = fresh.part; now = fresh.now; at = sym (away j other) ∙ fresh.at; seen = fresh.seen })
  ]

  fresh-still : (j : ℕ) → IsFresh stamps parts j → IsFresh stamps after j
  fresh-still j fresh = record { stamp = fresh.stamp; part = fresh.part; now = fresh.now; at = away j (fresh-other j fresh) ∙ fresh.at; seen = fresh.seen }

  -- the tile is fresh now
  pub replaced-fresh : IsFresh stamps after tile
  replaced-fresh = record { stamp = stamp; part = part; now = now; at = here; seen = seen }

  pub replaced-keeps : KeepsSeen stamps (pool_of m t parts) (pool_of m t after)
  replaced-keeps = record {
    fresh = fresh-still;
    known = λ j s p at is. elim (cases_eq j tile) [
      | inl e ↦ inl (let same : p ≡ part = new_part j p e at in let value : s ≡ stamp = same_Some s stamp (sym is ∙ ap (λ (x : Part). x.seen) same ∙ seen) in
          ap (slice_get stamps) e ∙ now ∙ ap (λ (x : ℕ). Some x) (sym value))
      | inr other ↦ inr (p, sym (away j other) ∙ at, is)
    ];
  }

  -- a seam of another tile to this one is void
  void : (x : ℕ) (p : Part) (s : Seam) → slice_get parts x ≡ Some p → Contains p.seams s → s.with ≡ tile → Some stamp ≡ Some s.stamp → ⊥
  void x p s at has e value =
      let was = sound.since x p s at has in
      let low = was.4 in
      let high = step.not_ahead tile was.1 stamp was.0 (ap (slice_get parts) (sym e) ∙ was.2) was.3 now in
      let same : stamp ≡ s.stamp = same_Some stamp s.stamp value in
      let reached : was.1 ≡ stamp = omega (arith, low, high, same) in
      stale (record { stamp = stamp; part = was.0; now = now; at = ap (slice_get parts) (sym e) ∙ was.2; seen = was.3 ∙ ap (λ (k : ℕ). Some k) reached })

  -- between two other tiles the pool has the links that it had
  module _ (a b w : Rank) (one : tile_at m.size t a ≢ tile) (other : tile_at m.size t b ≢ tile) where
    link-back : IsLinked after a b w → IsLinked parts a b w
    link-back (inl x) = elim (cases_eq x.tile tile) [
      | inl e ↦ (
          let has : Contains (inner_passes part) x.pass = subst (λ (p : Part). Contains (inner_passes p) x.pass) (new_part x.tile x.part e x.at) x.has in
          let r = built.inside x.pass has in
          absurd (one (both_ends (λ r. tile_at m.size t r ≡ tile) x.pass a b w x.between r.1 r.2).0))
      | inr far ↦ inl (record { tile = x.tile; part = x.part; pass = x.pass; at = sym (away x.tile far) ∙ x.at; has = x.has; between = x.between })
    ]
    link-back (inr x) = elim (cases_eq x.tile tile) [
      | inl e ↦ (
          let has : Contains part.seams x.seam = subst (λ (p : Part). Contains p.seams x.seam) (new_part x.tile x.part e x.at) x.has in
          let r = built.across x.seam has in
          elim (seam_ends m t tile x.seam a b w x.between r.1) [ inl h ↦ absurd (one h.0) | inr h ↦ absurd (other h.0) ])
      | inr far ↦ (
          let at = sym (away x.tile far) ∙ x.at in
          let apart : x.seam.with ≢ tile = λ e. elim (seam_ends m t x.tile x.seam a b w x.between (sound.across x.tile x.part x.seam at x.has)) [ inl h ↦ other (h.1 ∙ e) | inr h ↦ one (h.1 ∙ e) ] in
          inr (record { tile = x.tile; part = x.part; seam = x.seam; other = x.other; at = at; has = x.has; between = x.between; with_at = sym (away x.seam.with apart) ∙ x.with_at; since = x.since }))
    ]

    link-on : IsLinked parts a b w → IsLinked after a b w
    link-on (inl x) =
        let r = sound.inside x.tile x.part x.pass x.at x.has in
        let far : x.tile ≢ tile = λ e. one ((both_ends (λ r. tile_at m.size t r ≡ x.tile) x.pass a b w x.between r.0 r.1).0 ∙ e) in
        inl (record { tile = x.tile; part = x.part; pass = x.pass; at = away x.tile far ∙ x.at; has = x.has; between = x.between })
    link-on (inr x) =
        let ends = seam_ends m t x.tile x.seam a b w x.between (sound.across x.tile x.part x.seam x.at x.has) in
        let far : x.tile ≢ tile = λ e. elim ends [ inl h ↦ one (h.0 ∙ e) | inr h ↦ other (h.0 ∙ e) ] in
        let apart : x.seam.with ≢ tile = λ e. elim ends [ inl h ↦ other (h.1 ∙ e) | inr h ↦ one (h.1 ∙ e) ] in
        inr (record {
          tile = x.tile;
          part = x.part;
          seam = x.seam;
          other = x.other;
          at = away x.tile far ∙ x.at;
          has = x.has;
          between = x.between;
          with_at = away x.seam.with apart
              ∙ x.with_at;
          since = x.since;
        })

  -- of another tile the pool has what it had
  node-back : (j : ℕ) (n : Node) → j ≢ tile → HasNode after j n → HasNode parts j n
  node-back j n other has = record { part = has.part; at = sym (away j other) ∙ has.at; has = has.has }

  node-on : (j : ℕ) (n : Node) → j ≢ tile → HasNode parts j n → HasNode after j n
  node-on j n other has = record { part = has.part; at = away j other ∙ has.at; has = has.has }

  label-same : (p : Pos) → tile_of m.size t p ≢ tile → label_of m.size t parts p ≡ label_of m.size t after p
  label-same p other = ap (λ (o : Option Part). low_of (node_at o (place_in_tile m.size t p))) (sym (away (tile_of m.size t p) other))

  -- what was right is right still
  others : IsRightOn m side t (IsFresh stamps parts) (HasNode after) (label_of m.size t after) (IsLinked after)
  others =
      let old = step.has.right in
      record {
        nodes = λ j n fresh has. old.nodes j n fresh (node-back j n (fresh-other j fresh) has);
        sinks = λ s fresh sink. (let h = old.sinks s fresh sink in record { node = h.node; has = node-on (tile_at m.size t s) h.node (fresh-other _ fresh) h.has; low = h.low });
        labels = λ p within fresh. subst (IsLabel m side t p) (label-same p (fresh-other _ fresh)) (old.labels p within fresh);
        passes = λ a b w one other has. old.passes a b w one other (link-back a b w (fresh-other _ one) (fresh-other _ other) has);
        meetings = λ a b u one other apart meet. (let h = old.meetings a b u one other apart meet in (h.0, link-on a b h.0 (fresh-other _ one) (fresh-other _ other) h.1));
      }

  -- a link of a point of the tile is one of the new part
  module _ (a b w : Rank) (at_tile : tile_at m.size t a ≡ tile) where
    new_pass : IsLinked after a b w → IsBasinPass m side t a b w
    new_pass (inl x) = elim (cases_eq x.tile tile) [
      | inl e ↦ right-between m side t x.pass a b w x.between (built.inside x.pass (subst (λ (p : Part). Contains (inner_passes p) x.pass) (new_part x.tile x.part e x.at) x.has)).0
      | inr far ↦ (
          let r = sound.inside x.tile x.part x.pass (sym (away x.tile far) ∙ x.at) x.has in
          absurd (far (sym (both_ends (λ r. tile_at m.size t r ≡ x.tile) x.pass a b w x.between r.0 r.1).0 ∙ at_tile)))
    ]
    new_pass (inr x) = elim (cases_eq x.tile tile) [
      | inl e ↦ right-between m side t x.seam.pass a b w x.between (built.across x.seam (subst (λ (p : Part). Contains p.seams x.seam) (new_part x.tile x.part e x.at) x.has)).0
      | inr far ↦ (
          let at = sym (away x.tile far) ∙ x.at in
          elim (seam_ends m t x.tile x.seam a b w x.between (sound.across x.tile x.part x.seam at x.has)) [
            | inl h ↦ absurd (far (sym h.0 ∙ at_tile))
            | inr h ↦ (
                let with_tile : x.seam.with ≡ tile = sym h.1 ∙ at_tile in
                let same : x.other ≡ part = new_part x.seam.with x.other with_tile x.with_at in
                absurd (void x.tile x.part x.seam at x.has with_tile (sym seen ∙ ap (λ (p : Part). p.seen) (sym same) ∙ x.since)))
          ])
    ]

  this : IsTileRight m side t tile (IsFresh stamps parts) (HasNode after) (label_of m.size t after) (IsLinked after)
  this = record {
    nodes = λ n has. built.nodes n (subst (λ (p : Part). Contains p.nodes n) (new_part tile has.part refl has.at) has.has);
    sinks = λ s at sink. (let h = built.sinks s at sink in record { node = h.0; has = record { part = part; at = here; has = h.1 }; low = h.2 });
    labels = λ p within at. subst (λ (o : Option Part). IsLabel m side t p (low_of (node_at o (place_in_tile m.size t p)))) (sym (ap (slice_get after) at ∙ here)) (built.labels p within at);
    passes = λ a b w one other has. new_pass a b w one has;
    meetings = λ a b u one other apart meet. elim other [
      | inl same ↦ (let h = built.inside_all a b u one same apart meet in (h.2, inl (record { tile = tile; part = part; pass = h.0; at = here; has = h.1; between = h.3 })))
      | inr fresh ↦ (
          let h = built.across_all a b u one fresh apart meet in
          let r = built.across h.0 h.1 in
          let f = r.2 in
          let value : f.stamp ≡ h.0.stamp = same_Some f.stamp h.0.stamp (sym f.now ∙ r.3) in (
            h.2,
            inr (record {
              tile = tile;
              part = part;
              seam = h.0;
              other = f.part;
              at = here;
              has = h.1;
              between = h.3;
              with_at = away h.0.with (fresh-other h.0.with f)
                  ∙ f.at;
              since = f.seen ∙ ap (λ (k : ℕ). Some k) value;
            }),
          ))
    ];
    both_ways = linked-sym after;
  }

  -- two nodes of the tile with one sink are one
  own-node : (n : Node) (point : Present m (position_at m.size n.low.index)) (o : Option Node) → Contains part.nodes n → IsSinkOf m side t (rank m (position_at m.size n.low.index)) n.low
      → node_at (Some part) (place_in_tile m.size t (position_at m.size n.low.index)) ≡ o → IsLabel m side t (position_at m.size n.low.index) (low_of o) → o ≡ Some n
  own-node n point None has of e label = absurd (label point)
  own-node n point (Some u) has of e label =
      let low : u.low ≡ n.low = sink-unique m side t (rank m (position_at m.size n.low.index)) u.low n.low label.1 of in
      ap (λ (x : Node). Some x) (same-of_distinct (λ (x : Node). x.low) part.nodes u n built.once (read-contains part.nodes _ u e) has low)

  -- each of its nodes stands under its key
  new_keyed : (n : Node) → Contains part.nodes n → IsUnderKey (pool_of m t after) tile n
  new_keyed n has =
      let node = built.nodes n has in
      let point = node.0.sink.point in
      let below = place_inside m.size point.at point.present.in_grid in
      let index : n.low.index ≡ (rank m point.at).index = ap (λ (r : Rank). r.index) point.rank_is in
      let there : point.at ≡ position_at m.size n.low.index = sym (rank_position m n.low point.at point.present point.rank_is) in
      let present : Present m (position_at m.size n.low.index) = subst (Present m) there point.present in
      let at : tile_at m.size t n.low ≡ tile = sym node.0.tile ∙ node.1 in
      let low : n.low ≡ rank m (position_at m.size n.low.index) = point.rank_is ∙ ap (rank m) there in
      let own : IsSinkOf m side t (rank m (position_at m.size n.low.index)) n.low = subst (λ (r : Rank). IsSinkOf m side t r n.low) low (sink-own m side t n.low node.0.sink) in
      let place : ℕ = place_in_tile m.size t (position_at m.size n.low.index) in
      record {
        tile_is = node.1;
        in_tile = at;
        in_grid = omega (arith, below, index);
        named = ap (λ (o : Option Part). node_at o place) (ap (slice_get after) at ∙ here)
            ∙ own-node n present (node_at (Some part) place) has own refl (built.labels (position_at m.size n.low.index) present.in_grid at);
      }

  -- and those of the other tiles stand as they stood
  old_keyed : (j : ℕ) (n : Node) → j ≢ tile → IsUnderKey (pool_of m t parts) j n → IsUnderKey (pool_of m t after) j n
  old_keyed j n far was = record {
    tile_is = was.tile_is;
    in_tile = was.in_tile;
    in_grid = was.in_grid;
    named = ap (λ (o : Option Part). node_at o (place_in_tile m.size t (position_at m.size n.low.index))) (away (tile_at m.size t n.low) (λ e. far (sym was.in_tile ∙ e))) ∙ was.named;
  }

  -- a seam of the tile is between one of its nodes and one of a fresh tile
  new_joined : (s : Seam) → Contains part.seams s → JoinsNodes after tile s
  new_joined s has =
      let r = built.across s has in
      let mt = r.0.meeting in
      let a = sink-is_sink m side t mt.from s.pass.a mt.from_in in
      let b = sink-is_sink m side t mt.to s.pass.b mt.to_in in
      elim r.1.ends [
        | inl h ↦ (
            let own = built.sinks s.pass.a h.0 a in
            let other = step.has.right.sinks s.pass.b (subst (IsFresh stamps parts) (sym h.1) r.2) b in
            record {
              own = own.0;
              other = other.node;
              own_has = record { part = part; at = here; has = own.1 };
              other_has = node-on s.with other.node (fresh-other s.with r.2) (subst (λ (k : ℕ). HasNode parts k other.node) h.1 other.has);
              between = inl (sym (ends_are (own.0).low other.node.low own.2 other.low));
            })
        | inr h ↦ (
            let own = built.sinks s.pass.b h.0 b in
            let other = step.has.right.sinks s.pass.a (subst (IsFresh stamps parts) (sym h.1) r.2) a in
            record {
              own = own.0;
              other = other.node;
              own_has = record { part = part; at = here; has = own.1 };
              other_has = node-on s.with other.node (fresh-other s.with r.2) (subst (λ (k : ℕ). HasNode parts k other.node) h.1 other.has);
              between = inr (sym (ends_are other.node.low (own.0).low other.low own.2));
            })
      ]
    where
      ends_are : (a b : Rank) → a ≡ s.pass.a → b ≡ s.pass.b → ◌≡◌ {A = Pass} (record { a = a; b = b; at = s.pass.at }) (record { a = s.pass.a; b = s.pass.b; at = s.pass.at })
      ends_are a b e f = cc

  -- and a seam of another tile that is not void is between the nodes that it was between
  old_joined : (j : ℕ) (p other : Part) (s : Seam) → j ≢ tile → slice_get parts j ≡ Some p → Contains p.seams s → slice_get after s.with ≡ Some other → other.seen ≡ Some s.stamp → JoinsNodes after j s
  old_joined j p other s far at has there known = elim (cases_eq s.with tile) [
    | inl e ↦ absurd (void j p s at has e (sym seen ∙ ap (λ (x : Part). x.seen) (sym (new_part s.with other e there)) ∙ known))
    | inr apart ↦ (
        let was = sound.joined j p other s at has (sym (away s.with apart) ∙ there) known in
        record { own = was.own; other = was.other; own_has = node-on j was.own far was.own_has; other_has = node-on s.with was.other apart was.other_has; between = was.between })
  ]

  pub replaced-sound : IsSound (pool_of m t after)
  replaced-sound = record {
    whole = length-set parts tile part ∙ sound.whole;
    names = λ j p at. elim (cases_eq j tile) [
      | inl e ↦ subst NameNodes (sym (new_part j p e at)) built.names
      | inr far ↦ sound.names j p (sym (away j far) ∙ at)
    ];
    keyed = λ j n has. elim (cases_eq j tile) [
      | inl e ↦ subst (λ (k : ℕ). IsUnderKey (pool_of m t after) k n) (sym e) (new_keyed n (subst (λ (x : Part). Contains x.nodes n) (new_part j has.part e has.at) has.has))
      | inr far ↦ old_keyed j n far (sound.keyed j n (node-back j n far has))
    ];
    joined = λ j p other s at has there known. elim (cases_eq j tile) [
      | inl e ↦ subst (λ (k : ℕ). JoinsNodes after k s) (sym e) (new_joined s (subst (λ (x : Part). Contains x.seams s) (new_part j p e at) has))
      | inr far ↦ old_joined j p other s far (sym (away j far) ∙ at) has there known
    ];
    inside = λ j p pass at has. elim (cases_eq j tile) [
      | inl e ↦ (let r = built.inside pass (subst (λ (x : Part). Contains (inner_passes x) pass) (new_part j p e at) has) in (r.1 ∙ sym e, r.2 ∙ sym e))
      | inr far ↦ sound.inside j p pass (sym (away j far) ∙ at) has
    ];
    across = λ j p s at has. elim (cases_eq j tile) [
      | inl e ↦ subst (λ (k : ℕ). IsSeamOf m.size t k s) (sym e) (built.across s (subst (λ (x : Part). Contains x.seams s) (new_part j p e at) has)).1
      | inr far ↦ sound.across j p s (sym (away j far) ∙ at) has
    ];
    since = λ j p s at has. elim (cases_eq j tile) [
      | inl e ↦ (
          let r = built.across s (subst (λ (x : Part). Contains x.seams s) (new_part j p e at) has) in
          let f = r.2 in
          let value : f.stamp ≡ s.stamp = same_Some f.stamp s.stamp (sym f.now ∙ r.3) in
          (f.part, f.stamp, away s.with (fresh-other s.with f) ∙ f.at, f.seen, omega (arith, value)))
      | inr far ↦ (
          let was = sound.since j p s (sym (away j far) ∙ at) has in
          elim (cases_eq s.with tile) [
            | inl e ↦ (
                let low = was.4 in
                let high = step.not_ahead tile was.1 stamp was.0 (ap (slice_get parts) (sym e) ∙ was.2) was.3 now in
                (part, stamp, ap (slice_get after) e ∙ here, seen, omega (arith, low, high)))
            | inr apart ↦ (was.0, was.1, away s.with apart ∙ was.2, was.3, was.4)
          ])
    ];
    once = record {
      inside = λ j p at. elim (cases_eq j tile) [
        | inl e ↦ subst (λ (x : Part). AllPairs (λ p q. JoinOthers p q) (inner_passes x)) (sym (new_part j p e at)) built.inside_once
        | inr far ↦ sound.once.inside j p (sym (away j far) ∙ at)
      ];
      across = λ j p at. elim (cases_eq j tile) [
        | inl e ↦ subst (λ (x : Part). AllPairs (λ (s u : Seam). JoinOthers s.pass u.pass) x.seams) (sym (new_part j p e at)) built.across_once
        | inr far ↦ sound.once.across j p (sym (away j far) ∙ at)
      ];
      one_way = λ i j p q s u at there has other to back since known. elim (cases_eq i tile) [
        | inl e ↦ elim (cases_eq j tile) [
          | inl f ↦ (built.across s (subst (λ (x : Part). Contains x.seams s) (new_part i p e at) has)).1.apart (to ∙ f)
          | inr far ↦ void j q u (sym (away j far) ∙ there) other (back ∙ e) (sym seen ∙ ap (λ (x : Part). x.seen) (sym (new_part i p e at)) ∙ known)
        ]
        | inr far ↦ elim (cases_eq j tile) [
          | inl f ↦ void i p s (sym (away i far) ∙ at) has (to ∙ f) (sym seen ∙ ap (λ (x : Part). x.seen) (sym (new_part j q f there)) ∙ since)
          | inr apart ↦ sound.once.one_way i j p q s u (sym (away i far) ∙ at) (sym (away j apart) ∙ there) has other to back since known
        ]
      ];
    };
  }

  pub replaced-in_step : IsInStep m side stamps (pool_of m t after)
  replaced-in_step = record {
    size = refl;
    not_ahead = λ j s k p at is there. elim (cases_eq j tile) [
      | inl e ↦ (
          let value : s ≡ stamp = same_Some s stamp (sym is ∙ ap (λ (x : Part). x.seen) (new_part j p e at) ∙ seen) in
          let present : k ≡ stamp = same_Some k stamp (sym there ∙ ap (slice_get stamps) e ∙ now) in
          omega (arith, value, present))
      | inr far ↦ step.not_ahead j s k p (sym (away j far) ∙ at) is there
    ];
    has = record {
      right = right-extended m side t tile (IsFresh stamps parts) (IsFresh stamps after) (HasNode after) (label_of m.size t after) (IsLinked after) fresh-now this others;
      once = λ j p fresh at. elim (cases_eq j tile) [
        | inl e ↦ subst (λ (x : Part). AllPairs (λ (n u : Node). n.low ≢ u.low) x.nodes) (sym (new_part j p e at)) built.once
        | inr far ↦ elim (fresh-now j fresh) [ inl e ↦ absurd (far e) | inr old ↦ step.has.once j p old (sym (away j far) ∙ at) ]
      ];
    };
  }
