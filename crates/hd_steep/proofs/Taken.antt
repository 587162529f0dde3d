-- The places of the ring that a setting takes.
use Rattle.std.proofs.Common.{◌≡◌, ◌<◌, ◌+◌, ℕ, zero, suc, true, List, Bool, inl, inr, sym, subst, arith}
use Rattle.hd_map.specs.declared.types.Adjacency.{Adjacency}
use Rattle.hd_map.specs.declared.types.Adjacency.TheVariants.{Four, Six, Eight}
use Rattle.hd_map.specs.declared.types.Pos.{Pos}
use Rattle.hd_map.specs.Neighbour.{AreBesideUnder}
use Rattle.hd_steep.specs.Lowest.{IsAtPlace}
use Rattle.hd_steep.specs.Ring.{is_marked, taken_of}
use Rattle.hd_steep.proofs.Ring.{column_of, profile_of}

-- what is taken was marked
pub taken_marked : (adjacency : Adjacency) (marks : List Bool) (k : ℕ) → is_marked (taken_of adjacency marks) k ≡ true → is_marked marks k ≡ true
taken_marked Eight marks k h = h
taken_marked Four marks zero h = h
taken_marked Four marks (suc zero) h = absurd cc
taken_marked Four marks (suc (suc zero)) h = h
taken_marked Four marks (suc (suc (suc zero))) h = absurd cc
taken_marked Four marks (suc (suc (suc (suc zero)))) h = h
taken_marked Four marks (suc (suc (suc (suc (suc zero))))) h = absurd cc
taken_marked Four marks (suc (suc (suc (suc (suc (suc zero)))))) h = h
taken_marked Four marks (suc (suc (suc (suc (suc (suc (suc zero))))))) h = absurd cc
taken_marked Four marks (suc (suc (suc (suc (suc (suc (suc (suc k)))))))) h = absurd cc
taken_marked Six marks zero h = h
taken_marked Six marks (suc zero) h = absurd cc
taken_marked Six marks (suc (suc zero)) h = h
taken_marked Six marks (suc (suc (suc zero))) h = h
taken_marked Six marks (suc (suc (suc (suc zero)))) h = h
taken_marked Six marks (suc (suc (suc (suc (suc zero))))) h = absurd cc
taken_marked Six marks (suc (suc (suc (suc (suc (suc zero)))))) h = h
taken_marked Six marks (suc (suc (suc (suc (suc (suc (suc zero))))))) h = h
taken_marked Six marks (suc (suc (suc (suc (suc (suc (suc (suc k)))))))) h = absurd cc

-- under 8 each marked one is taken
pub taken_eight : (adjacency : Adjacency) (marks : List Bool) (k : ℕ) → adjacency ≡ Eight → is_marked marks k ≡ true → is_marked (taken_of adjacency marks) k ≡ true
taken_eight adjacency marks k eight h = subst (λ (a : Adjacency). is_marked (taken_of a marks) k ≡ true) (sym eight) h

module _ (at q : Pos) where
  -- q stands at this place of the ring round the point
  abbrev pub StandsAt : ℕ → Type 0
  StandsAt k = IsAtPlace (at.y + profile_of k) (at.x + column_of k) q

  -- a place that is taken is beside the point
  pub taken_beside : (adjacency : Adjacency) (marks : List Bool) (k : ℕ) → is_marked (taken_of adjacency marks) k ≡ true → StandsAt k → AreBesideUnder adjacency at q
  taken_beside Eight marks k h s = tt
  taken_beside Four marks zero h s = let p = s.place in inl (omega (arith, p))
  taken_beside Four marks (suc zero) h s = absurd cc
  taken_beside Four marks (suc (suc zero)) h s = let p = s.profile in inr (omega (arith, p))
  taken_beside Four marks (suc (suc (suc zero))) h s = absurd cc
  taken_beside Four marks (suc (suc (suc (suc zero)))) h s = let p = s.place in inl (omega (arith, p))
  taken_beside Four marks (suc (suc (suc (suc (suc zero))))) h s = absurd cc
  taken_beside Four marks (suc (suc (suc (suc (suc (suc zero)))))) h s = let p = s.profile in inr (omega (arith, p))
  taken_beside Four marks (suc (suc (suc (suc (suc (suc (suc zero))))))) h s = absurd cc
  taken_beside Four marks (suc (suc (suc (suc (suc (suc (suc (suc k)))))))) h s = absurd cc
  taken_beside Six marks zero h s = let p = s.place in inl (inl (omega (arith, p)))
  taken_beside Six marks (suc zero) h s = absurd cc
  taken_beside Six marks (suc (suc zero)) h s = let p = s.profile in inl (inr (omega (arith, p)))
  taken_beside Six marks (suc (suc (suc zero))) h s = let p = s.place in let r = s.profile in inr (inl (omega (arith, p), omega (arith, r)))
  taken_beside Six marks (suc (suc (suc (suc zero)))) h s = let p = s.place in inl (inl (omega (arith, p)))
  taken_beside Six marks (suc (suc (suc (suc (suc zero))))) h s = absurd cc
  taken_beside Six marks (suc (suc (suc (suc (suc (suc zero)))))) h s = let p = s.profile in inl (inr (omega (arith, p)))
  taken_beside Six marks (suc (suc (suc (suc (suc (suc (suc zero))))))) h s = let p = s.place in let r = s.profile in inr (inr (omega (arith, p), omega (arith, r)))
  taken_beside Six marks (suc (suc (suc (suc (suc (suc (suc (suc k)))))))) h s = absurd cc

  -- at a corner neither the column nor the profile is the point's own
  no_line : (k : ℕ) → (at.x ≡ q.x → ⊥) → (at.y ≡ q.y → ⊥) → AreBesideUnder Four at q → ⊥
  no_line k column profile (inl e) = column e
  no_line k column profile (inr e) = profile e

  -- a marked place that is beside the point is taken
  pub beside_taken : (adjacency : Adjacency) (marks : List Bool) (k : ℕ) → k < 8 → is_marked marks k ≡ true → StandsAt k → AreBesideUnder adjacency at q → is_marked (taken_of adjacency marks) k ≡ true
  beside_taken Eight marks k below h s b = h
  beside_taken Four marks zero below h s b = h
  beside_taken Four marks (suc zero) below h s b = let p = s.place in let r = s.profile in absurd (no_line 1 (λ e. omega (arith, p, e)) (λ e. omega (arith, r, e)) b)
  beside_taken Four marks (suc (suc zero)) below h s b = h
  beside_taken Four marks (suc (suc (suc zero))) below h s b = let p = s.place in let r = s.profile in absurd (no_line 3 (λ e. omega (arith, p, e)) (λ e. omega (arith, r, e)) b)
  beside_taken Four marks (suc (suc (suc (suc zero)))) below h s b = h
  beside_taken Four marks (suc (suc (suc (suc (suc zero))))) below h s b = let p = s.place in let r = s.profile in absurd (no_line 5 (λ e. omega (arith, p, e)) (λ e. omega (arith, r, e)) b)
  beside_taken Four marks (suc (suc (suc (suc (suc (suc zero)))))) below h s b = h
  beside_taken Four marks (suc (suc (suc (suc (suc (suc (suc zero))))))) below h s b = let p = s.place in let r = s.profile in absurd
      (no_line 7 (λ e. omega (arith, p, e)) (λ e. omega (arith, r, e)) b)
  beside_taken Four marks (suc (suc (suc (suc (suc (suc (suc (suc k)))))))) below h s b = absurd (omega (arith, below))
  beside_taken Six marks zero below h s b = h
  beside_taken Six marks (suc zero) below h s (inl b) = let p = s.place in let r = s.profile in absurd (no_line 1 (λ e. omega (arith, p, e)) (λ e. omega (arith, r, e)) b)
  beside_taken Six marks (suc zero) below h s (inr (inl up)) = let r = s.profile in absurd (omega (arith, r, up))
  beside_taken Six marks (suc zero) below h s (inr (inr down)) = let p = s.place in absurd (omega (arith, p, down))
  beside_taken Six marks (suc (suc zero)) below h s b = h
  beside_taken Six marks (suc (suc (suc zero))) below h s b = h
  beside_taken Six marks (suc (suc (suc (suc zero)))) below h s b = h
  beside_taken Six marks (suc (suc (suc (suc (suc zero))))) below h s (inl b) = let p = s.place in let r = s.profile in absurd (no_line 5 (λ e. omega (arith, p, e)) (λ e. omega (arith, r, e)) b)
  beside_taken Six marks (suc (suc (suc (suc (suc zero))))) below h s (inr (inl up)) = let p = s.place in absurd (omega (arith, p, up))
  beside_taken Six marks (suc (suc (suc (suc (suc zero))))) below h s (inr (inr down)) = let r = s.profile in absurd (omega (arith, r, down))
  beside_taken Six marks (suc (suc (suc (suc (suc (suc zero)))))) below h s b = h
  beside_taken Six marks (suc (suc (suc (suc (suc (suc (suc zero))))))) below h s b = h
  beside_taken Six marks (suc (suc (suc (suc (suc (suc (suc (suc k)))))))) below h s b = absurd (omega (arith, below))
