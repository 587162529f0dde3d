-- Nodes are listed one by one.
use Rattle.std.proofs.Common.{◌≡◌, ◌≢◌, ◌<◌, ◌+◌, ◌++◌, ◌∙◌, ◌⊎◌, ℕ, zero, suc, true, false, List, [], ◌∷◌, length, length-append, get_or, take, Option}
use Rattle.std.proofs.Common.{Some, None, inl, inr, refl, sym, ap, subst, arith, slice_get}
use Rattle.std.specs.Prelude.{Contains, slice_index}
use Rattle.std.specs.Option.{is_none}
use Rattle.std.proofs.Math.Seq.{get_or-append_seam}
use Rattle.std.proofs.lemmas.Bool.{cases_lt}
use Rattle.std.proofs.lemmas.List.{get_or_append_left}
use Rattle.std.proofs.lemmas.List.Elements.{Contains-append_cases, Contains-append_left, Contains-append_right}
use Rattle.std.proofs.lemmas.Option.{get_or_from_slice_get, same_Some, slice_get_within}
use Rattle.hd_map.specs.declared.types.Pos.{Pos}
use Rattle.hd_map.proofs.Items.{Contains-cases, Contains-head, Contains-none}
use Rattle.hd_basin.specs.declared.node.Node.{Node}
use Rattle.hd_basin.specs.declared.part.Part.{Part}
use Rattle.hd_basin.specs.declared.placed.PlacedPit.{PlacedPit}
use Rattle.hd_basin.specs.Extents.{nodes_in}
use Rattle.hd_basin.specs.Placed.{AreListed, IsPlaced, unknown}
use Rattle.hd_basin.specs.Roots.{all_nodes, nodes_before}
use Rattle.hd_basin.proofs.FlatLists.{AllPairs-append, flat-more}

-- what stands at a place of a list stands there when more items follow
pub get-left : {X : Type 0} (xs ys : List X) (k : ℕ) (x : X) → slice_get xs k ≡ Some x → slice_get (xs ++ ys) k ≡ Some x
get-left [] ys k x e = absurd cc
get-left (z ∷ xs) ys zero x e = e
get-left (z ∷ xs) ys (suc k) x e = get-left xs ys k x e

-- one more item stands at the end
pub get-last : {X : Type 0} (xs : List X) (y : X) → slice_get (xs ++ y ∷ []) (length xs) ≡ Some y
get-last [] y = refl
get-last (z ∷ xs) y = get-last xs y

-- and nowhere else
pub get-split : {X : Type 0} (xs : List X) (y : X) (k : ℕ) (x : X) → slice_get (xs ++ y ∷ []) k ≡ Some x → (slice_get xs k ≡ Some x) ⊎ ((k ≡ length xs) × (x ≡ y))
get-split [] y zero x e = inr (refl, sym (same_Some y x e))
get-split [] y (suc k) x e = absurd cc
get-split (z ∷ xs) y zero x e = inl e
get-split (z ∷ xs) y (suc k) x e = elim (get-split xs y k x e) [ inl h ↦ inl h | inr h ↦ inr (ap suc h.0, h.1) ]

pub only : {X : Type 0} (x y : X) → Contains (x ∷ []) y → y ≡ x
only x y at = elim (Contains-cases x y [] at) [ inl same ↦ same | inr none ↦ absurd (Contains-none y none) ]

pub none-of : (o : Option Pos) → is_none o ≡ true → o ≡ None
none-of None e = refl
none-of (Some q) e = absurd cc

pub some-of : (o : Option Pos) → is_none o ≡ false → o ≡ None → ⊥
some-of None e is = absurd cc
some-of (Some q) e is = absurd cc

pub listed-none : AreListed [] [] []
listed-none = record {
  each = λ p at. absurd (Contains-none p at);
  all = λ place n at. absurd cc;
  apart = λ i j d less below. absurd (omega arith);
  whole = refl;
  none = λ place below. absurd (omega arith);
}

module _ (nodes : List Node) (n : Node) (pits : List PlacedPit) (numbers : List ℕ) (are : AreListed nodes pits numbers) where
  placed-still : (p : PlacedPit) → IsPlaced nodes p → IsPlaced (nodes ++ n ∷ []) p
  placed-still p is = record { node = is.node; at = get-left nodes (n ∷ []) p.place is.node is.at; ends = is.ends; pit_is = is.pit_is }

  whole-more : length (numbers ++ unknown ∷ []) ≡ length (nodes ++ n ∷ [])
  whole-more = length-append numbers (unknown ∷ []) ∙ ap (λ k. k + 1) are.whole ∙ sym (length-append nodes (n ∷ []))

  none-more : (place : ℕ) → place < length (numbers ++ unknown ∷ []) → slice_index (numbers ++ unknown ∷ []) place ≡ unknown
  none-more place below =
      let long : length (numbers ++ unknown ∷ []) ≡ length numbers + 1 = length-append numbers (unknown ∷ []) in
      elim (cases_lt place (length numbers)) [
        | inl early ↦ get_or_append_left numbers (unknown ∷ []) 0 place early ∙ are.none place early
        | inr late ↦ (
            let last : place ≡ length numbers = omega (arith, long, below, late) in
            ap (λ k. get_or (numbers ++ unknown ∷ []) k 0) last ∙ get_or-append_seam numbers unknown [] 0)
      ]

  -- a node that flows on
  pub listed-pass : (n.flows ≡ None → ⊥) → AreListed (nodes ++ n ∷ []) pits (numbers ++ unknown ∷ [])
  listed-pass onward = record {
    each = λ p at. placed-still p (are.each p at);
    all = λ place u at ends. elim (get-split nodes n place u at) [
      | inl old ↦ are.all place u old ends
      | inr new ↦ absurd (onward (ap (λ (v : Node). v.flows) (sym new.1) ∙ ends))
    ];
    apart = are.apart;
    whole = whole-more;
    none = none-more;
  }

  -- a node that is a pit
  pub listed-pit : n.flows ≡ None → AreListed (nodes ++ n ∷ []) (pits ++ record { pit = n.low; place = length numbers } ∷ []) (numbers ++ unknown ∷ [])
  listed-pit ends =
      let p : PlacedPit = record { pit = n.low; place = length numbers } in
      record {
        each = λ q at. elim (Contains-append_cases pits (p ∷ []) q at) [
          | inl old ↦ placed-still q (are.each q old)
          | inr new ↦ subst (IsPlaced (nodes ++ n ∷ [])) (sym (only p q new))
              (record { node = n; at = ap (slice_get (nodes ++ n ∷ [])) are.whole ∙ get-last nodes n; ends = ends; pit_is = refl })
        ];
        all = λ place u at ends. elim (get-split nodes n place u at) [
          | inl old ↦ (let r = are.all place u old ends in (r.0, Contains-append_left pits (p ∷ []) r.0 r.1, r.2))
          | inr new ↦ (p, Contains-append_right pits (p ∷ []) p (Contains-head p []), are.whole ∙ sym new.0)
        ];
        apart = AllPairs-append (λ (x : PlacedPit) (y : PlacedPit). x.place ≢ y.place) pits (p ∷ []) are.apart
            (λ i j d less below. absurd (omega arith))
            (λ x y hx hy same. (
            let is = are.each x hx in
            let early : x.place < length nodes = slice_get_within nodes x.place is.node is.at in
            let late : y.place ≡ length numbers = ap (λ (q : PlacedPit). q.place) (only p y hy) in
            let long = are.whole in
            omega (arith, early, late, long, same)));
        whole = whole-more;
        none = none-more;
      }

-- the places of the nodes of the first tiles
pub record AreListedTo (parts : List Part) (k : ℕ) (firsts : List ℕ) (pits : List PlacedPit) (numbers : List ℕ) : Type 0 where
  pub whole : length firsts ≡ k
  pub each : (tile : ℕ) → tile < k → slice_index firsts tile ≡ nodes_before parts tile
  pub nodes : AreListed (all_nodes (take k parts)) pits numbers

pub listed-first : (parts : List Part) → AreListedTo parts 0 [] [] []
listed-first parts = record { whole = refl; each = λ tile below. absurd (omega arith); nodes = listed-none }

-- one tile more
pub listed-more : (parts : List Part) (k : ℕ) (part : Part) (firsts : List ℕ) (old : List PlacedPit) (before : List ℕ) → slice_get parts k ≡ Some part → AreListedTo parts k firsts old before
    → (new : List PlacedPit) (after : List ℕ) → ((nodes : List Node) → AreListed nodes old before → AreListed (nodes ++ part.nodes) new after)
    → AreListedTo parts (k + 1) (firsts ++ length before ∷ []) new after
listed-more parts k part firsts old before at so_far new after adds =
    let inside : k < length parts = slice_get_within parts k part at in
    let long : length (firsts ++ length before ∷ []) ≡ length firsts + 1 = length-append firsts (length before ∷ []) in
    let count = so_far.whole in
    let piece : part.nodes ≡ nodes_in (get_or parts k part) = ap (λ (p : Part). p.nodes) (sym (get_or_from_slice_get parts k part part at)) in
    let flat : all_nodes (take k parts) ++ part.nodes ≡ all_nodes (take (k + 1) parts) =
    flat-more nodes_in [] (all_nodes (take k parts)) (all_nodes (take k parts) ++ part.nodes) parts k part part.nodes inside piece refl refl in
    record {
      whole = long ∙ ap (λ n. n + 1) count;
      each = λ tile below. elim (cases_lt tile (length firsts)) [
        | inl early ↦ get_or_append_left firsts (length before ∷ []) 0 tile early ∙ so_far.each tile (omega (arith, early, count))
        | inr late ↦ (
            let last : tile ≡ length firsts = omega (arith, below, late, count) in
            ap (λ i. get_or (firsts ++ length before ∷ []) i 0) last ∙ get_or-append_seam firsts (length before) [] 0 ∙ so_far.nodes.whole ∙ ap (nodes_before parts) (sym count ∙ sym last))
      ];
      nodes = subst (λ (ns : List Node). AreListed ns new after) flat (adds (all_nodes (take k parts)) so_far.nodes);
    }
