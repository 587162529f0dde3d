-- Pits in position order get their numbers.
use Rattle.std.proofs.Common.{◌≡◌, ◌≢◌, ◌<◌, ◌≤◌, ◌+◌, ◌^◌, ◌∙◌, ℕ, zero, suc, true, false, List, [], ◌∷◌, length, get_or, map, set, take, Some, inl, inr, refl, sym, ap, subst, arith, slice_get}
use Rattle.std.specs.Prelude.{AllPairs, Contains, nat_lt, slice_index}
use Rattle.std.specs.Cmp.{IsStrictWeakOrder}
use Rattle.std.specs.List.Sorted.{IsPermutation, IsSortedBy}
use Rattle.std.proofs.lemmas.Bool.{cases_lt}
use Rattle.std.proofs.lemmas.Bool.Decides.{Decides-eqb, nat_tests}
use Rattle.std.proofs.lemmas.Cmp.{nat_eq_equiv}
use Rattle.std.proofs.lemmas.Grind.{get_or-set_at}
use Rattle.std.proofs.lemmas.List.{get_or-set_other, get_or-take, get_or_default, length-map, length-set, length-take-le, take_more}
use Rattle.std.proofs.lemmas.List.Elements.{Contains-append_left, Contains-append_right, Contains-get_or}
use Rattle.std.proofs.lemmas.List.Sorted.{Contains-permutation, IsPermutation-map, IsPermutation-sym, sorted_far}
use Rattle.std.proofs.lemmas.Map.Keys.{IsDistinct-IsPermutation}
use Rattle.std.proofs.lemmas.Map.Made.{AllPairs-from_IsDistinct, IsDistinct-from_AllPairs}
use Rattle.std.proofs.lemmas.Option.{same_Some, slice_get_within}
use Rattle.hd_map.specs.declared.types.Rank.{Rank}
use Rattle.hd_map.proofs.Apart.{length-le_from_apart}
use Rattle.hd_map.proofs.Items.{Contains-head, Contains-map}
use Rattle.hd_map.proofs.Places.{pairs-from_map, pairs-of_map}
use Rattle.hd_basin.specs.declared.node.Node.{Node}
use Rattle.hd_basin.specs.declared.part.Part.{Part}
use Rattle.hd_basin.specs.declared.placed.PlacedPit.{PlacedPit}
use Rattle.hd_basin.specs.Placed.{AreListed, AreNumbered, AreNumberedPits, HasNumber, IsPlaced, comes_first, pit_of}
use Rattle.hd_basin.specs.Roots.{AreFirsts, all_nodes}
use Rattle.hd_basin.proofs.AreListed.{get-split}
use Rattle.hd_basin.proofs.FlatLists.{AllPairs-map, Contains-at, pair-at}
use Rattle.hd_basin.proofs.PointRoots.{read-contains}

-- of different items, one of the first k is not that at place k
pub before-apart : {X : Type 0} → (R : X → X → Type 0) (xs : List X) (k : ℕ) (d : X) → k < length xs → AllPairs R xs → (x : X) → Contains (take k xs) x → R x (get_or xs k d)
before-apart {X} R xs k d inside pairs x at =
    let long : length (take k xs) ≡ k = length-take-le k xs (omega arith) in
    let place = at.1 in
    let early : at.0 < k = omega (arith, long, place) in
    let is : get_or xs at.0 d ≡ x = sym (get_or-take k xs at.0 d early) ∙ get_or_default (take k xs) at.0 d x place ∙ at.2 in
    subst (λ (y : X). R y (get_or xs k d)) is (pairs at.0 k d early inside)

pub numbered-none : (old : List ℕ) → AreNumbered [] old old
numbered-none old = record { whole = refl; each = λ number p at. absurd cc; others = λ place none. refl }

-- one pit more gets its number
pub numbered-more : (placed : List PlacedPit) (k : ℕ) (d : PlacedPit) (old new : List ℕ) → k < length placed → AllPairs (λ (p q : PlacedPit). p.place ≢ q.place) placed
    → (get_or placed k d).place < length old → AreNumbered (take k placed) old new → AreNumbered (take (k + 1) placed) old (set new (get_or placed k d).place k)
numbered-more placed k d old new inside apart within so_far =
    let p : PlacedPit = get_or placed k d in
    let here : p.place < length new = subst (λ n. p.place < n) (sym so_far.whole) within in
    subst (λ (ps : List PlacedPit). AreNumbered ps old (set new p.place k)) (sym (take_more placed k d inside)) (record {
      whole = length-set new p.place k ∙ so_far.whole;
      each = λ number q at. elim (get-split (take k placed) p number q at) [
        | inl before ↦ get_or-set_other new p.place q.place k 0
            (before-apart (λ (x : PlacedPit) (y : PlacedPit). x.place ≢ y.place) placed k d inside apart q (read-contains (take k placed) number q before)) ∙ so_far.each number q before
        | inr last ↦ get_or-set_at new p.place q.place k 0 (ap (λ (x : PlacedPit). x.place) last.1) here ∙ sym (last.0 ∙ length-take-le k placed (omega arith))
      ];
      others = λ place none. get_or-set_other new p.place place k 0 (λ same. none p (Contains-append_right (take k placed) (p ∷ []) p (Contains-head p [])) (sym same))
          ∙ so_far.others place (λ q at. none q (Contains-append_left (take k placed) (p ∷ []) q at));
    })

pub position-order : IsStrictWeakOrder comes_first
position-order = record {
  one_way = λ x y h. grind (arith, nat_tests);
  chain = λ x y z h k. grind (arith, nat_tests);
}

at_least : (a b : ℕ) → nat_lt b a ≡ false → a ≢ b → a < b
at_least a b h ne = elim (nat_lt a b) as (λ v. nat_lt a b ≡ v → a < b) [
  | true ↦ λ e. grind (arith, nat_tests)
  | false ↦ λ e. absurd (ne (grind (arith, nat_tests)))
] refl

pub get-map : {X Y : Type 0} (f : X → Y) (xs : List X) (k : ℕ) (x : X) → slice_get xs k ≡ Some x → slice_get (map f xs) k ≡ Some (f x)
get-map f [] k x e = absurd cc
get-map f (y ∷ xs) zero x e = ap (λ z. Some (f z)) (same_Some y x e)
get-map f (y ∷ xs) (suc k) x e = get-map f xs k x e

module _ (nodes : List Node) (raw placed : List PlacedPit) (old : List ℕ) (are : AreListed nodes raw old) (same : IsPermutation raw placed)
    (different : AllPairs (λ (n u : Node). n.low.index ≢ u.low.index) nodes) (small : (n : Node) → Contains nodes n → n.low.index < 2 ^ 31) where
  placed-is : (p : PlacedPit) → Contains placed p → IsPlaced nodes p
  placed-is p at = are.each p (Contains-permutation placed raw p (IsPermutation-sym raw placed same) at)

  pub places-apart : AllPairs (λ (p q : PlacedPit). p.place ≢ q.place) placed
  places-apart =
      let place : PlacedPit → ℕ = λ p. p.place in
      pairs-from_map place placed (AllPairs-from_IsDistinct Decides-eqb (map place placed)
      (IsDistinct-IsPermutation _ nat_eq_equiv.symm (map place raw) (map place placed) (IsPermutation-map place raw placed same)
      (IsDistinct-from_AllPairs Decides-eqb (map place raw) (pairs-of_map place raw are.apart))))

  pub places-inside : (p : PlacedPit) → Contains placed p → p.place < length old
  places-inside p at = (let is = placed-is p at in subst (λ n. p.place < n) (sym are.whole) (slice_get_within nodes p.place is.node is.at))

  -- nodes at different places have different sinks
  differ : (p q : PlacedPit) → Contains placed p → Contains placed q → p.place ≢ q.place → p.pit.index ≢ q.pit.index
  differ p q hp hq apart one =
      let x = placed-is p hp in
      let y = placed-is q hq in
      let equal : x.node.low.index ≡ y.node.low.index = ap (λ (r : Rank). r.index) (sym x.pit_is) ∙ one ∙ ap (λ (r : Rank). r.index) y.pit_is in
      elim (cases_lt p.place q.place) [
        | inl less ↦ pair-at (λ (n : Node) (u : Node). n.low.index ≢ u.low.index) nodes different p.place q.place x.node y.node less x.at y.at equal
        | inr late ↦ pair-at (λ (n : Node) (u : Node). n.low.index ≢ u.low.index) nodes different q.place p.place y.node x.node (omega (arith, late, apart)) y.at x.at (sym equal)
      ]

  indexes-apart : AllPairs (λ (p q : PlacedPit). p.pit.index ≢ q.pit.index) placed
  indexes-apart i j d less below = differ (get_or placed i d) (get_or placed j d) (Contains-get_or placed i d (omega arith)) (Contains-get_or placed j d below) (places-apart i j d less below)

  pub pits-few : length placed ≤ 2 ^ 31
  pits-few = length-le_from_apart (λ (p : PlacedPit). p.pit.index) (2 ^ 31) placed indexes-apart (λ p at. (
      let is = placed-is p at in
      subst (λ (r : Rank). r.index < 2 ^ 31) (sym is.pit_is) (small is.node (read-contains nodes p.place is.node is.at))))

  module _ (parts : List Part) (firsts : List ℕ) (of : nodes ≡ all_nodes parts) (first : AreFirsts parts firsts) (sorted : IsSortedBy comes_first placed) (new : List ℕ)
      (numbered : AreNumbered placed old new) where
    number-is : (place : ℕ) (n : Node) → slice_get nodes place ≡ Some n → HasNumber (map pit_of placed) n (slice_index new place)
    number-is place n at = record {
      ends = λ ends. (
          let p = are.all place n at ends in
          let has = Contains-permutation raw placed p.0 same p.1 in
          let k = Contains-at placed p.0 has in
          let is = placed-is p.0 has in
          let one : is.node ≡ n = same_Some is.node n (sym is.at ∙ ap (slice_get nodes) p.2 ∙ at) in
          let number : slice_index new place ≡ k.0 = ap (slice_index new) (sym p.2) ∙ numbered.each k.0 p.0 k.1 in
          ap (slice_get (map pit_of placed)) number ∙ get-map pit_of placed k.0 p.0 k.1 ∙ ap (λ (r : Rank). Some r) (is.pit_is ∙ ap (λ (u : Node). u.low) one));
      onward = λ not. (
          numbered.others place (λ p has here. (
          let is = placed-is p has in
          let one : is.node ≡ n = same_Some is.node n (sym is.at ∙ ap (slice_get nodes) here ∙ at) in
          not (ap (λ (u : Node). u.flows) (sym one) ∙ is.ends)))
          ∙ are.none place (subst (λ n. place < n) (sym are.whole) (slice_get_within nodes place n at)));
    }

    in_order : AllPairs (λ a b. a.index < b.index) (map pit_of placed)
    in_order = AllPairs-map pit_of (λ (p : PlacedPit) (q : PlacedPit). p.pit.index < q.pit.index) (λ (a : Rank) (b : Rank). a.index < b.index) placed (λ p q hp hq less. less)
        (λ i j d less inside. at_least (get_or placed i d).pit.index (get_or placed j d).pit.index (sorted_far comes_first position-order placed sorted i j d (omega (arith, less)) inside)
        (indexes-apart i j d less inside))

    pub pits-numbered : AreNumberedPits parts (record { pits = map pit_of placed; firsts = firsts; numbers = new })
    pits-numbered = record {
      firsts = first;
      whole = numbered.whole ∙ are.whole ∙ ap length of;
      few = (let few = pits-few in let long = length-map placed pit_of in omega (arith, few, long));
      each = λ p at. (
          let q = Contains-map pit_of placed p at in
          let is = placed-is q.0 q.1 in
          (is.node, subst (λ (ns : List Node). Contains ns is.node) of (read-contains nodes (q.0).place is.node is.at), is.ends, sym is.pit_is ∙ q.2));
      in_order = in_order;
      numbers = λ place n at. number-is place n (subst (λ (ns : List Node). slice_get ns place ≡ Some n) (sym of) at);
    }
