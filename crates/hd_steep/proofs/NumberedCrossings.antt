-- Crossings by the numbers of the pits in whose regions points lie.
use Rattle.std.proofs.Common.{◌≡◌, ◌≢◌, ℕ, Bool, true, false, List, length, slice_index, Some, None, inl, inr, refl, sym, subst, ap, ◌∙◌}
use Rattle.std.specs.Prelude.{pos, if◌then◌else◌}
use Rattle.std.proofs.lemmas.Bool.{lt-ltb}
use Rattle.std.proofs.lemmas.Option.{same_Some}
use Rattle.hd_map.specs.declared.types.Rank.{Rank}
use Rattle.hd_map.specs.declared.types.SideName.{SideName}
use Rattle.hd_map.specs.Map.{Map}
use Rattle.hd_map.specs.Rank.{IsPoint, below_by}
use Rattle.hd_steep.specs.Crossed.{AreInOne, IsPassTo}
use Rattle.hd_steep.specs.Crossings.{IsNumberAt, IsNumberOf, pass_of, pit_at}
use Rattle.hd_steep.specs.Links.{HasPointAt}
use Rattle.hd_steep.specs.Numbering.{AreNumbered, Numbering, number_of}
use Rattle.hd_steep.proofs.Crossed.{in_one, pits_apart}
use Rattle.hd_steep.proofs.Numbered.{number_of_point}
use Rattle.hd_steep.proofs.Pits.{AreRising, rising_apart}

module _ (m : Map) (side : SideName) (regions : Numbering) (are : AreNumbered m side regions) where
  -- a point has the number of the pit in whose region it lies
  pub number-of_point : (x : Rank) → IsPoint m x → IsNumberOf m side regions.pits x (slice_index regions.numbers x.index)
      × (number_of regions.pits (slice_index regions.numbers x.index) ≡ Some (slice_index regions.numbers x.index))
  number-of_point x point =
      let found = number_of_point m side regions are x point in
      let none : Rank = record { height = pos 0; index = 0 } in (
        record { inside = found.0; root = found.1 none },
        ap (λ b. if b then Some (slice_index regions.numbers x.index) else None)
            (lt-ltb (slice_index regions.numbers x.index) (length regions.pits) found.0),
      )

  -- so the point of an index
  module _ (k : ℕ) (there : HasPointAt m k) where
    number_there : number_of regions.pits (slice_index regions.numbers k) ≡ Some (slice_index regions.numbers k)
    number_there = subst (λ i. number_of regions.pits (slice_index regions.numbers i) ≡ Some (slice_index regions.numbers i)) (sym there.index_is) (number-of_point there.at there.point).1

    -- has one
    pub number_some : number_of regions.pits (slice_index regions.numbers k) ≡ None → ⊥
    number_some none = let same = sym number_there ∙ none in cc

    -- which is that of its pit
    pub number_at : (n : ℕ) → number_of regions.pits (slice_index regions.numbers k) ≡ Some n → IsNumberAt m side regions.pits k n
    number_at n is = record {
      at = there.at;
      point = there.point;
      index_is = there.index_is;
      number = subst (IsNumberOf m side regions.pits there.at) (ap (slice_index regions.numbers) (sym there.index_is)
          ∙ same_Some (slice_index regions.numbers k) n (sym number_there ∙ is)) (number-of_point there.at there.point).0;
    }

module _ (m : Map) (side : SideName) (pits : List Rank) (x y : Rank) (a b : ℕ) (from : IsNumberOf m side pits x a) (to : IsNumberOf m side pits y b) where
  -- points of one number lie in one region
  pub in_one-numbers : a ≡ b → AreInOne m side x y
  in_one-numbers same = in_one m side x y (pit_at pits a) (pit_at pits b) from.root to.root (ap (λ n. (pit_at pits n).index) same)

  -- the pass of a crossing at a point to another with another number
  pub pass-to : AreRising pits → a ≢ b → IsPassTo m side x y (pass_of side pits (record { a = a; b = b; at = x }))
  pass-to rise apart = go (below_by side (pit_at pits a) (pit_at pits b)) refl
    where
      other : (pit_at pits a).index ≡ (pit_at pits b).index → ⊥
      other same = apart (rising_apart pits rise a b (record { height = pos 0; index = 0 }) from.inside to.inside same)

      go : (below : Bool) → below_by side (pit_at pits a) (pit_at pits b) ≡ below →
          IsPassTo m side x y (if below then (record { a = pit_at pits a; b = pit_at pits b; at = x }) else (record { a = pit_at pits b; b = pit_at pits a; at = x }))
      go true e = record { ends = e; at_is = refl; of = inl (from.root, to.root) }
      go false e = record { ends = pits_apart m side x y (pit_at pits a) (pit_at pits b) from.root to.root other e; at_is = refl; of = inr (from.root, to.root) }
