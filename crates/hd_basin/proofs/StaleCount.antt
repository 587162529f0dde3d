-- How many tiles have another stamp than the one that they were seen with.
use Rattle.std.proofs.Common.{◌≡◌, ◌≤◌, ◌+◌, ℕ, zero, suc, true, false, List, [], ◌∷◌, set, Option, Some, None, refl, ◌∙◌, ap, slice_get, arith}
use Rattle.std.specs.Prelude.{nat_eq}
use Rattle.std.proofs.lemmas.Bool.Decides.{nat_tests}
use Rattle.std.proofs.lemmas.Option.{same_Some}
use Rattle.hd_basin.specs.declared.part.Part.{Part}
use Rattle.hd_basin.specs.Parts.{is_seen_with, stale_count}

pub seen_with : (o : Option ℕ) (stamp : ℕ) → o ≡ Some stamp → is_seen_with o stamp ≡ true
seen_with None stamp e = absurd cc
seen_with (Some seen) stamp e = (let same : seen ≡ stamp = same_Some seen stamp e in grind (arith, nat_tests))

pub not_seen_with : (o : Option ℕ) (stamp : ℕ) → (o ≡ Some stamp → ⊥) → is_seen_with o stamp ≡ false
not_seen_with None stamp other = refl
not_seen_with (Some seen) stamp other = elim (nat_eq seen stamp) as (λ v. nat_eq seen stamp ≡ v → v ≡ false) [
  | true ↦ λ e. absurd (other (let same : seen ≡ stamp = grind (arith, nat_tests) in ap (λ (k : ℕ). Some k) same))
  | false ↦ λ e. refl
] refl

-- a tile is seen that was not
pub stale-set : (stamps : List ℕ) (parts : List Part) (tile stamp : ℕ) (old new : Part) → slice_get stamps tile ≡ Some stamp → slice_get parts tile ≡ Some old
    → is_seen_with old.seen stamp ≡ false → is_seen_with new.seen stamp ≡ true → stale_count stamps (set parts tile new) + 1 ≡ stale_count stamps parts
stale-set [] parts tile stamp old new now at before after = absurd cc
stale-set (s ∷ stamps) [] tile stamp old new now at before after = absurd cc
stale-set (s ∷ stamps) (p ∷ parts) zero stamp old new now at before after =
    let value : s ≡ stamp = same_Some s stamp now in
    let same : p ≡ old = same_Some p old at in
    let first : is_seen_with p.seen s ≡ false = ap (λ (x : Part). is_seen_with x.seen s) same ∙ ap (is_seen_with old.seen) value ∙ before in
    let last : is_seen_with new.seen s ≡ true = ap (is_seen_with new.seen) value ∙ after in
    rw (first, last) (omega arith)
stale-set (s ∷ stamps) (p ∷ parts) (suc tile) stamp old new now at before after =
    let rest = stale-set stamps parts tile stamp old new now at before after in
    omega (arith, rest)

-- there is one where one was not seen
pub stale-some : (stamps : List ℕ) (parts : List Part) (tile stamp : ℕ) (old : Part) → slice_get stamps tile ≡ Some stamp → slice_get parts tile ≡ Some old
    → is_seen_with old.seen stamp ≡ false → 1 ≤ stale_count stamps parts
stale-some [] parts tile stamp old now at before = absurd cc
stale-some (s ∷ stamps) [] tile stamp old now at before = absurd cc
stale-some (s ∷ stamps) (p ∷ parts) zero stamp old now at before =
    let value : s ≡ stamp = same_Some s stamp now in
    let same : p ≡ old = same_Some p old at in
    let first : is_seen_with p.seen s ≡ false = ap (λ (x : Part). is_seen_with x.seen s) same ∙ ap (is_seen_with old.seen) value ∙ before in
    rw first (omega arith)
stale-some (s ∷ stamps) (p ∷ parts) (suc tile) stamp old now at before =
    let rest = stale-some stamps parts tile stamp old now at before in
    omega (arith, rest)
