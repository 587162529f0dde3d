-- Lows that are joined by links are joined by their passes, and the other way round.
use Rattle.std.proofs.Common.{◌≡◌, ◌≢◌, ℕ, ◌<◌, inl, inr, Bool, false, List, length, map, refl, sym, ap, subst}
use Rattle.std.specs.Prelude.{All, AllPairs, Contains, pos}
use Rattle.std.proofs.lemmas.List.Elements.{All-contains}
use Rattle.std.proofs.lemmas.Option.{slice_get-get_or}
use Rattle.hd_map.specs.declared.types.Pass.{Pass}
use Rattle.hd_map.specs.declared.types.Rank.{Rank}
use Rattle.hd_map.specs.Order.{IsNotAbove}
use Rattle.hd_map.specs.Walks.{HasPass}
use Rattle.hd_map.proofs.Items.{Contains-map, map-Contains}
use Rattle.hd_map.proofs.Levels.{Reach, here, step}
use Rattle.hd_graph.specs.declared.graph.Low.{Low}
use Rattle.hd_map.specs.declared.types.Link.{Link}
use Rattle.hd_graph.specs.Links.{HasEnds, IsBetween, pass_of, rank_at}
use Rattle.hd_graph.proofs.PrimOrder.{PassStep}
use Rattle.hd_map.proofs.Places.{one_place}
use Rattle.hd_graph.proofs.Reach.{reach-as}

-- a low of this rank has one number
pub same-low : (lows : List Low) → AllPairs (λ x y. x.rank.index ≢ y.rank.index) lows → (a b : ℕ) → a < length lows → b < length lows → rank_at lows a ≡ rank_at lows b → a ≡ b
same-low lows different a b inside_a inside_b e =
    let none : Low = record { rank = record { height = pos 0; index = 0 }; pit = false } in
    one_place (λ (z : Low). z.rank.index) lows different a b _ _ (slice_get-get_or lows a none inside_a) (slice_get-get_or lows b none inside_b) (ap (λ (r : Rank). r.index) e)

-- one of the links joins a and b, and is not above t
abbrev pub LinkStep : (Rank → Rank → Bool) → List Link → Rank → ℕ → ℕ → Type 0
LinkStep below links t a b = (l : Link) × Contains links l × IsBetween l a b × IsNotAbove below l.at t

-- the pass of a link leads from its one end to the other
pub link-pass : (lows : List Low) (links : List Link) (l : Link) (a b : ℕ) → Contains links l → IsBetween l a b → HasPass (map (pass_of lows) links) (rank_at lows a) (rank_at lows b) l.at
link-pass lows links l a b h (inl e) = inl (rw (← e.0, ← e.1) (map-Contains (pass_of lows) links l h))
link-pass lows links l a b h (inr e) = inr (rw (← e.0, ← e.1) (map-Contains (pass_of lows) links l h))

module _ (below : Rank → Rank → Bool) (lows : List Low) (links : List Link) (t : Rank) where
  -- links that are not above t are passes that are not
  pub passes-linked : {a b : ℕ} → Reach (LinkStep below links t) a b → Reach (PassStep below (map (pass_of lows) links) t) (rank_at lows a) (rank_at lows b)
  passes-linked h = reach-as (rank_at lows) (LinkStep below links t) (PassStep below (map (pass_of lows) links) t) (λ u v s. ((s.0).at, link-pass lows links s.0 u v s.1 s.2, s.3)) h

  module _ (different : AllPairs (λ x y. x.rank.index ≢ y.rank.index) lows) (within : All (HasEnds (length lows)) links) where
    -- a pass from a low is that of a link, which leads to another low
    pub link_of : (a : ℕ) (r w : Rank) → a < length lows → HasPass (map (pass_of lows) links) (rank_at lows a) r w → (l : Link) × Contains links l × (l.at ≡ w) × (b : ℕ)
        × IsBetween l a b × (b < length lows) × (rank_at lows b ≡ r)
    link_of a r w inside (inl h) =
        let x = Contains-map (pass_of lows) links _ h in
        let l : Link = x.0 in
        let ends_in : HasEnds (length lows) l = All-contains (HasEnds (length lows)) links l within x.1 in
        let first : rank_at lows l.a ≡ rank_at lows a = ap (λ (p : Pass). p.a) x.2 in
        let second : rank_at lows l.b ≡ r = ap (λ (p : Pass). p.b) x.2 in
        (l, x.1, ap (λ (p : Pass). p.at) x.2, l.b, inl (same-low lows different l.a a ends_in.0 inside first, refl), ends_in.1, second)
    link_of a r w inside (inr h) =
        let x = Contains-map (pass_of lows) links _ h in
        let l : Link = x.0 in
        let ends_in : HasEnds (length lows) l = All-contains (HasEnds (length lows)) links l within x.1 in
        let first : rank_at lows l.a ≡ r = ap (λ (p : Pass). p.a) x.2 in
        let second : rank_at lows l.b ≡ rank_at lows a = ap (λ (p : Pass). p.b) x.2 in
        (l, x.1, ap (λ (p : Pass). p.at) x.2, l.a, inr (refl, same-low lows different l.b a ends_in.1 inside second), ends_in.0, first)

    -- and passes are links
    pub linked-passes : {r s : Rank} (a : ℕ) → a < length lows → rank_at lows a ≡ r → Reach (PassStep below (map (pass_of lows) links) t) r s → (b : ℕ) × (b < length lows)
        × (rank_at lows b ≡ s) × Reach (LinkStep below links t) a b
    linked-passes a inside e here = (a, inside, e, here)
    linked-passes a inside e (step {a = r} {b = s} {c = u} p rest) =
        let x = link_of a s p.0 inside (subst (λ z. HasPass (map (pass_of lows) links) z s p.0) (sym e) p.1) in
        let more = linked-passes x.3 x.5 x.6 rest in
        (more.0, more.1, more.2, step (x.0, x.1, x.4, subst (λ w. IsNotAbove below w t) (sym x.2) p.2) more.3)

module _ (lows : List Low) (links sorted : List Link) (kept : (l : Link) → Contains links l → Contains sorted l) where
  pass_permuted : (p : Pass) → Contains (map (pass_of lows) links) p → Contains (map (pass_of lows) sorted) p
  pass_permuted p h =
      let x = Contains-map (pass_of lows) links p h in
      subst (λ q. Contains (map (pass_of lows) sorted) q) x.2 (map-Contains (pass_of lows) sorted x.0 (kept x.0 x.1))

  -- the passes of the same links in another order
  pub passes-permuted : (a b w : Rank) → HasPass (map (pass_of lows) links) a b w → HasPass (map (pass_of lows) sorted) a b w
  passes-permuted a b w (inl h) = inl (pass_permuted _ h)
  passes-permuted a b w (inr h) = inr (pass_permuted _ h)
