-- No two of the passes that are listed of a pool join the same two basins.
use Rattle.std.proofs.Common.{◌≡◌, ◌<◌, ◌⊎◌, ℕ, true, false, List, [], ◌∷◌, map, Option, Some, None, inl, inr, refl, sym, ◌∙◌, ap, subst, cond, arith, slice_get}
use Rattle.std.specs.Prelude.{Contains, AllPairs}
use Rattle.std.specs.List.{flat_map}
use Rattle.std.proofs.lemmas.Bool.Decides.{nat_tests}
use Rattle.std.proofs.lemmas.List.Elements.{Contains-append_cases}
use Rattle.std.proofs.lemmas.Option.{same_Some}
use Rattle.hd_map.specs.declared.types.Pass.{Pass}
use Rattle.hd_map.specs.declared.types.Rank.{Rank}
use Rattle.hd_map.specs.declared.types.SideName.{SideName}
use Rattle.hd_map.specs.Rank.{below_by}
use Rattle.hd_map.proofs.Items.{Contains-map, Contains-cases, Contains-none}
use Rattle.hd_basin.specs.declared.part.Part.{Part}
use Rattle.hd_basin.specs.declared.part.Seam.{Seam}
use Rattle.hd_basin.specs.Basin.{tile_at}
use Rattle.hd_basin.specs.Graph.{in_order, was_seen_with, pass_of, passes_in}
use Rattle.hd_basin.specs.Parts.{inner_passes, is_seen_with, IsSound, IsSeamOf, JoinOthers, Pool}
use Rattle.hd_basin.proofs.FlatLists.{AllPairs-append, AllPairs-flat, AllPairs-map, Contains-flat, pair-at}
use Rattle.hd_basin.proofs.PointRoots.{read-contains}

-- a seam is not void where its other tile was seen with its stamp
pub live-part : (o : Option Part) (stamp : ℕ) → was_seen_with o stamp ≡ true → (other : Part) × (o ≡ Some other) × (other.seen ≡ Some stamp)
live-part None stamp e = absurd cc
live-part (Some other) stamp e = (other, refl, live other.seen e)
  where
    live : (o : Option ℕ) → is_seen_with o stamp ≡ true → o ≡ Some stamp
    live None e = absurd cc
    live (Some seen) e = (let same : seen ≡ stamp = grind (arith, nat_tests) in ap (λ (k : ℕ). Some k) same)

pub live-pass : (side : SideName) (parts : List Part) (s : Seam) (p : Pass) → Contains (pass_of side parts s) p → (p ≡ in_order side s.pass) × (was_seen_with (slice_get parts s.with) s.stamp ≡ true)
live-pass side parts s p = elim (was_seen_with (slice_get parts s.with) s.stamp) as (λ v. was_seen_with (slice_get parts s.with) s.stamp ≡ v
    → Contains (cond v (in_order side s.pass ∷ []) []) p → (p ≡ in_order side s.pass) × (was_seen_with (slice_get parts s.with) s.stamp ≡ true)) [
      | true ↦ λ e h. (elim (Contains-cases (in_order side s.pass) p [] h) [ inl same ↦ same | inr none ↦ absurd (Contains-none p none) ], e)
      | false ↦ λ e h. absurd (Contains-none p h)
    ] refl

others-sym : (p q : Pass) → JoinOthers p q → JoinOthers q p
others-sym p q h = (λ a b. h.0 (sym a) (sym b), λ a b. h.1 (sym b) (sym a))

-- also with their lower ends first
others-ordered : (side : SideName) (p q : Pass) → JoinOthers p q → JoinOthers (in_order side p) (in_order side q)
others-ordered side p q h = elim (below_by side p.b p.a) as (λ v. JoinOthers (cond v (record { a = p.b; b = p.a; at = p.at }) p) (in_order side q)) [
  | true ↦ elim (below_by side q.b q.a) as (λ v. JoinOthers (record { a = p.b; b = p.a; at = p.at }) (cond v (record { a = q.b; b = q.a; at = q.at }) q)) [
    | true ↦ (λ a b. h.0 b a, λ a b. h.1 b a)
    | false ↦ (λ a b. h.1 b a, λ a b. h.0 b a)
  ]
  | false ↦ elim (below_by side q.b q.a) as (λ v. JoinOthers p (cond v (record { a = q.b; b = q.a; at = q.at }) q)) [ true ↦ (h.1, h.0) | false ↦ h ]
]

-- where the ends of a seam of one tile lie as those of a seam of another one, each leads to the other tile
each_to_other : (x y j k a b : ℕ) → ((x ≡ j) × (y ≡ a)) ⊎ ((y ≡ j) × (x ≡ a)) → ((x ≡ k) × (y ≡ b)) ⊎ ((y ≡ k) × (x ≡ b)) → j < k → (a ≡ k) × (b ≡ j)
each_to_other x y j k a b (inl h) (inl g) less = absurd (let p = h.0 in let q = g.0 in omega (arith, p, q, less))
each_to_other x y j k a b (inl h) (inr g) less = (sym h.1 ∙ g.0, sym g.1 ∙ h.0)
each_to_other x y j k a b (inr h) (inl g) less = (sym h.1 ∙ g.0, sym g.1 ∙ h.0)
each_to_other x y j k a b (inr h) (inr g) less = absurd (let p = h.0 in let q = g.0 in omega (arith, p, q, less))

module _ (side : SideName) (pool : Pool) (sound : IsSound pool) where
  abbrev tile : Rank → ℕ
  tile r = tile_at pool.size pool.side r

  -- a pass inside a tile and a seam
  inside-across : (j k : ℕ) (p : Pass) (s : Seam) → (tile p.a ≡ j) × (tile p.b ≡ j) → IsSeamOf pool.size pool.side k s → JoinOthers p s.pass
  inside-across j k p s here of = (
    λ a b. elim of.ends [
      | inl h ↦ of.apart (sym h.1 ∙ sym (ap tile b) ∙ here.1 ∙ sym here.0 ∙ ap tile a ∙ h.0)
      | inr h ↦ of.apart (sym h.1 ∙ sym (ap tile a) ∙ here.0 ∙ sym here.1 ∙ ap tile b ∙ h.0)
    ],
    λ a b. elim of.ends [
      | inl h ↦ of.apart (sym h.1 ∙ sym (ap tile a) ∙ here.0 ∙ sym here.1 ∙ ap tile b ∙ h.0)
      | inr h ↦ of.apart (sym h.1 ∙ sym (ap tile b) ∙ here.1 ∙ sym here.0 ∙ ap tile a ∙ h.0)
    ],
  )

  -- the other tile of a seam that is not void
  live-other : (s : Seam) (k : ℕ) (q : Part) → was_seen_with (slice_get pool.parts s.with) s.stamp ≡ true → s.with ≡ k → slice_get pool.parts k ≡ Some q → q.seen ≡ Some s.stamp
  live-other s k q live with there =
      let o = live-part (slice_get pool.parts s.with) s.stamp live in
      ap (λ (p : Part). p.seen) (same_Some q o.0 (sym there ∙ ap (slice_get pool.parts) (sym with) ∙ o.1)) ∙ o.2

  module _ (j k : ℕ) (p q : Part) (less : j < k) (at : slice_get pool.parts j ≡ Some p) (there : slice_get pool.parts k ≡ Some q) where
    -- passes inside two tiles
    inside-inside : (x y : Pass) → Contains (inner_passes p) x → Contains (inner_passes q) y → JoinOthers x y
    inside-inside x y has other =
        let h = sound.inside j p x at has in
        let g = sound.inside k q y there other in (
          λ a b. (let e : j ≡ k = sym h.0 ∙ ap tile a ∙ g.0 in omega (arith, e, less)),
          λ a b. (let e : j ≡ k = sym h.0 ∙ ap tile a ∙ g.1 in omega (arith, e, less)),
        )

    -- seams of two tiles, neither of them void
    across-across : (s u : Seam) → Contains p.seams s → Contains q.seams u → was_seen_with (slice_get pool.parts s.with) s.stamp ≡ true
        → was_seen_with (slice_get pool.parts u.with) u.stamp ≡ true → JoinOthers s.pass u.pass
    across-across s u has other live alive =
        let h = sound.across j p s at has in
        let g = sound.across k q u there other in
        let never : (s.with ≡ k) × (u.with ≡ j) → ⊥ = λ to. sound.once.one_way j k p q s u at there has other to.0 to.1 (live-other s k q live to.0 there) (live-other u j p alive to.1 at) in (
          λ a b. never (each_to_other (tile s.pass.a) (tile s.pass.b) j k s.with u.with h.ends
              (elim g.ends [ inl e ↦ inl (ap tile a ∙ e.0, ap tile b ∙ e.1) | inr e ↦ inr (ap tile b ∙ e.0, ap tile a ∙ e.1) ]) less),
          λ a b. never (each_to_other (tile s.pass.a) (tile s.pass.b) j k s.with u.with h.ends
              (elim g.ends [ inl e ↦ inr (ap tile b ∙ e.0, ap tile a ∙ e.1) | inr e ↦ inl (ap tile a ∙ e.0, ap tile b ∙ e.1) ]) less),
        )

  -- what is listed of a tile: a pass inside it, or a seam that is not void
  abbrev IsListed : Part → Pass → Type 0
  IsListed part x = ((p : Pass) × Contains (inner_passes part) p × (in_order side p ≡ x))
      ⊎ ((s : Seam) × Contains part.seams s × (in_order side s.pass ≡ x) × (was_seen_with (slice_get pool.parts s.with) s.stamp ≡ true))

  of-seams : (part : Part) (x : Pass) → Contains (flat_map (pass_of side pool.parts) part.seams) x → (k : ℕ) × (s : Seam) × (slice_get part.seams k ≡ Some s)
      × (in_order side s.pass ≡ x) × (was_seen_with (slice_get pool.parts s.with) s.stamp ≡ true)
  of-seams part x h =
      let f = Contains-flat (pass_of side pool.parts) part.seams x h in
      let l = live-pass side pool.parts f.1 x f.3 in
      (f.0, f.1, f.2, sym l.0, l.1)

  listed : (part : Part) (x : Pass) → Contains (passes_in side pool.parts part) x → IsListed part x
  listed part x h = elim (Contains-append_cases (map (in_order side) (inner_passes part)) (flat_map (pass_of side pool.parts) part.seams) x h) [
    | inl inside ↦ (let r = Contains-map (in_order side) (inner_passes part) x inside in inl (r.0, r.1, r.2))
    | inr across ↦ (let f = of-seams part x across in inr (f.1, read-contains part.seams f.0 f.1 f.2, f.3, f.4))
  ]

  to_ordered : (p q x y : Pass) → in_order side p ≡ x → in_order side q ≡ y → JoinOthers p q → JoinOthers x y
  to_ordered p q x y e f h = subst (λ (z : Pass). JoinOthers z y) e (subst (λ (z : Pass). JoinOthers (in_order side p) z) f (others-ordered side p q h))

  -- one seam has one pass at most
  seam-once : (s : Seam) → AllPairs (λ p q. JoinOthers p q) (pass_of side pool.parts s)
  seam-once s = elim (was_seen_with (slice_get pool.parts s.with) s.stamp) as (λ v. AllPairs (λ p q. JoinOthers p q) (cond v (in_order side s.pass ∷ []) [])) [
    | true ↦ λ i j d less below. absurd (omega (arith, less, below))
    | false ↦ λ i j d less below. absurd (omega (arith, less, below))
  ]

  -- of one tile
  tile-once : (k : ℕ) (part : Part) → slice_get pool.parts k ≡ Some part → AllPairs (λ p q. JoinOthers p q) (passes_in side pool.parts part)
  tile-once k part at = AllPairs-append (λ p q. JoinOthers p q) (map (in_order side) (inner_passes part)) (flat_map (pass_of side pool.parts) part.seams)
      (AllPairs-map (in_order side) (λ p q. JoinOthers p q) (λ p q. JoinOthers p q) (inner_passes part) (λ x y has other h. others-ordered side x y h) (sound.once.inside k part at))
      (AllPairs-flat (λ p q. JoinOthers p q) (pass_of side pool.parts) part.seams (λ i s here. seam-once s)
      (λ i j s u less here there x y hx hy.
      let l = live-pass side pool.parts s x hx in
      let m = live-pass side pool.parts u y hy in
      to_ordered s.pass u.pass x y (sym l.0) (sym m.0) (pair-at (λ (s u : Seam). JoinOthers s.pass u.pass) part.seams (sound.once.across k part at) i j s u less here there)))
      (λ x y hx hy.
      let r = Contains-map (in_order side) (inner_passes part) x hx in
      let f = of-seams part y hy in
      to_ordered r.0 (f.1).pass x y r.2 f.3 (inside-across k k r.0 f.1 (sound.inside k part r.0 at r.1) (sound.across k part f.1 at (read-contains part.seams f.0 f.1 f.2))))

  pub listed-once : AllPairs (λ p q. JoinOthers p q) (flat_map (passes_in side pool.parts) pool.parts)
  listed-once = AllPairs-flat (λ p q. JoinOthers p q) (passes_in side pool.parts) pool.parts tile-once (λ j k p q less at there x y hx hy.
      elim (listed p x hx) [
        | inl a ↦ elim (listed q y hy) [
          | inl b ↦ to_ordered a.0 b.0 x y a.2 b.2 (inside-inside j k p q less at there a.0 b.0 a.1 b.1)
          | inr b ↦ to_ordered a.0 (b.0).pass x y a.2 b.2 (inside-across j k a.0 b.0 (sound.inside j p a.0 at a.1) (sound.across k q b.0 there b.1))
        ]
        | inr a ↦ elim (listed q y hy) [
          | inl b ↦ to_ordered (a.0).pass b.0 x y a.2 b.2 (others-sym b.0 (a.0).pass (inside-across k j b.0 a.0 (sound.inside k q b.0 there b.1) (sound.across j p a.0 at a.1)))
          | inr b ↦ to_ordered (a.0).pass (b.0).pass x y a.2 b.2 (across-across j k p q less at there a.0 b.0 a.1 b.1 a.3 b.3)
        ]
      ])
