-- Pits in position order.
use Rattle.std.proofs.Common.{◌≡◌, ◌≢◌, ℕ, suc, ◌+◌, ◌<◌, Bool, true, false, List, [], ◌∷◌, ◌++◌, length, get_or, drop, refl, ap, subst, arith, add-one, append_assoc}
use Rattle.std.specs.Prelude.{Contains, AllPairs, nat_lt, ◌↔◌}
use Rattle.std.specs.Cmp.{IsStrictWeakOrder}
use Rattle.std.specs.List.Sorted.{IsPermutation, IsSortedBy}
use Rattle.std.proofs.lemmas.Bool.Decides.{nat_tests}
use Rattle.std.proofs.lemmas.List.Sorted.{sorted_far, Contains-permutation, IsPermutation-sym}
use Rattle.std.proofs.Math.Seq.{drop-cons}
use Rattle.std.proofs.lemmas.Map.Keys.{IsDistinct-IsPermutation}
use Rattle.std.proofs.lemmas.Map.Made.{AllPairs-from_IsDistinct, IsDistinct-from_AllPairs}
use Rattle.std.proofs.lemmas.List.Elements.{Contains-get_or}
use Rattle.hd_map.specs.declared.types.Rank.{Rank}
use Rattle.hd_map.specs.Map.{Map}
use Rattle.hd_map.specs.Order.{IsStrictOrder}
use Rattle.hd_map.specs.Rank.{IsPoint}
use Rattle.hd_map.proofs.Order.{is_same, is_same-decides, is_same-flips}
use Rattle.hd_map.proofs.Points.{same_index}
use Rattle.hd_graph.specs.declared.graph.Low.{Low}
use Rattle.hd_prune.specs.declared.step.Owned.{Owned}
use Rattle.hd_prune.specs.Pruned.{AreInOrder, index_less, owned_by}
use Rattle.hd_prune.specs.Staying.{ranks_of}

pub index-order : IsStrictWeakOrder index_less
index-order = record {
  one_way = λ x y h. grind (arith, nat_tests);
  chain = λ x y z h k. grind (arith, nat_tests);
}

pub in_order : (raw pits ys : List Rank) → pits ≡ raw → IsPermutation pits ys → IsSortedBy index_less ys → AreInOrder raw ys
in_order raw pits ys e moved sorted = record { same = subst (λ (zs : List Rank). IsPermutation zs ys) e moved; sorted = sorted }

-- they are the same pits
pub in_order-same : (raw pits : List Rank) → AreInOrder raw pits → (p : Rank) → Contains raw p ↔ Contains pits p
in_order-same raw pits h p = (λ at. Contains-permutation raw pits p h.same at, λ at. Contains-permutation pits raw p (IsPermutation-sym raw pits h.same) at)

at_least : (a b : ℕ) → nat_lt b a ≡ false → a ≢ b → a < b
at_least a b h ne = elim (nat_lt a b) as (λ v. nat_lt a b ≡ v → a < b) [
  | true ↦ λ e. grind (arith, nat_tests)
  | false ↦ λ e. absurd (ne (grind (arith, nat_tests)))
] refl

-- different points in position order stand by rising index
pub in_order-rises : (m : Map) (below : Rank → Rank → Bool) (order : IsStrictOrder below) (raw pits : List Rank) → AllPairs (λ p q. p ≢ q) raw → AreInOrder raw pits
    → ((p : Rank) → Contains pits p → IsPoint m p) → AllPairs (λ a b. a.index < b.index) pits
in_order-rises m below order raw pits apart h points =
    let once = IsDistinct-IsPermutation (is_same below order) (is_same-flips below order) raw pits h.same (IsDistinct-from_AllPairs (is_same-decides below order) raw apart) in
    let differ = AllPairs-from_IsDistinct (is_same-decides below order) pits once in
    λ i j d lt len. at_least (get_or pits i d).index (get_or pits j d).index (sorted_far index_less index-order pits h.sorted i j d (omega arith) len)
    (λ e. differ i j d lt len (same_index m (get_or pits i d) (get_or pits j d) (points (get_or pits i d) (Contains-get_or pits i d (omega arith)))
    (points (get_or pits j d) (Contains-get_or pits j d len)) e))

-- one more owner
pub owned-more : (owner : Rank → Rank) (lows : List Low) (i : ℕ) (d : Low) (o : Rank) (old new all : List Owned) → i < length lows
    → new ≡ old ++ record { pit = (get_or lows i d).rank; owner = o } ∷ [] → o ≡ owner (get_or lows i d).rank →
    old ++ owned_by owner (ranks_of (drop i lows)) ≡ all → new ++ owned_by owner (ranks_of (drop (i + 1) lows)) ≡ all
owned-more owner lows i d o old new all inside e is so =
    let x : Low = get_or lows i d in
    let one : drop i lows ≡ x ∷ drop (suc i) lows = drop-cons lows i d inside in
    let split : owned_by owner (ranks_of (drop i lows)) ≡ record { pit = x.rank; owner = owner x.rank }
    ∷ owned_by owner (ranks_of (drop (suc i) lows)) = ap (λ (ls : List Low). owned_by owner (ranks_of ls)) one in
    rw (add-one, e, is, append_assoc, ← split) so
