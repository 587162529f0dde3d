-- The passes between basins, put at the roots of their ends, are crossings between the regions.
use Rattle.std.proofs.Common.{◌≡◌, ◌≢◌, ◌∙◌, ◌⊎◌, ℕ, Bool, true, false, List, [], ◌∷◌, Option, inl, inr, refl, sym, subst}
use Rattle.std.specs.Prelude.{All, Contains, if◌then◌else◌}
use Rattle.std.proofs.lemmas.List.Elements.{All-cons, All-head, All-nil, All-tail}
use Rattle.hd_map.specs.declared.types.Pass.{Pass}
use Rattle.hd_map.specs.declared.types.Rank.{Rank}
use Rattle.hd_map.specs.declared.types.SideName.{SideName}
use Rattle.hd_map.specs.Crossings.{AreCrossings, AreCrossingsUnder}
use Rattle.hd_map.specs.Map.{Map}
use Rattle.hd_map.specs.Order.{IsNotAbove}
use Rattle.hd_map.specs.Passes.{IsLabelled, IsMeeting}
use Rattle.hd_map.specs.Rank.{below_by}
use Rattle.hd_map.specs.Region.{AreRegions, IsRoot}
use Rattle.hd_map.specs.SideLaws.{below_by-order}
use Rattle.hd_map.specs.Walks.{AreJoinedWithin, HasPass, IsWalk, Stride, passes_of}
use Rattle.hd_map.proofs.Nexts.{root-unique}
use Rattle.hd_map.proofs.Points.{Near-from, Near-to}
use Rattle.hd_map.proofs.Regions.{labelled-root, root-labelled}
use Rattle.hd_map.proofs.Saddles.{near-sym}
use Rattle.hd_map.proofs.Higher.{higher-sym}
use Rattle.hd_steep.specs.Passes.{pass_between}
use Rattle.hd_graph.specs.Basins.{AreBasins}
use Rattle.hd_basin.specs.Between.{AreBetweenRoots}

-- a pass of two, the first or the second of them first
abbrev named : Rank → Rank → Rank → Bool → Pass
named a b w first = if first then (record { a = a; b = b; at = w }) else (record { a = b; b = a; at = w })

-- the pass names the lower of two first
between-low : (side : SideName) (a b w : Rank) → a ≢ b → below_by side (pass_between side a b w).a (pass_between side a b w).b ≡ true
between-low side a b w apart = elim (below_by side a b) as (λ v. below_by side a b ≡ v → below_by side (named a b w v).a (named a b w v).b ≡ true) [
  | true ↦ λ e. e
  | false ↦ λ e. elim (below_by side b a) as (λ v. below_by side b a ≡ v → v ≡ true) [
    | true ↦ λ k. refl
    | false ↦ λ k. absurd (apart ((below_by-order side).total a b e k))
  ] refl
] refl

-- and joins the two
between-has : (side : SideName) (passes : List Pass) (a b w : Rank) → Contains passes (pass_between side a b w) → HasPass passes a b w
between-has side passes a b w h = elim (below_by side a b) as (λ v. Contains passes (named a b w v) → HasPass passes a b w) [ true ↦ λ k. inl k | false ↦ λ k. inr k ] h

has-turned : (passes : List Pass) (a b w : Rank) → HasPass passes a b w → HasPass passes b a w
has-turned passes a b w (inl h) = inr h
has-turned passes a b w (inr h) = inl h

turned : (m : Map) (side : SideName) (In : Rank → Rank → Type 0) (a b w : Rank) → IsMeeting m side In a b w → IsMeeting m side In b a w
turned m side In a b w h = record { from = h.to; to = h.from; near = near-sym m h.from h.to h.near; from_in = h.to_in; to_in = h.from_in; higher = h.higher ∙ higher-sym side h.from h.to }

-- a meeting of two, as the pass of the two has its ends
between-meets : (m : Map) (side : SideName) (In : Rank → Rank → Type 0) (a b w : Rank) → IsMeeting m side In a b w
    → IsMeeting m side In (pass_between side a b w).a (pass_between side a b w).b (pass_between side a b w).at
between-meets m side In a b w h = elim (below_by side a b) as (λ v. IsMeeting m side In (named a b w v).a (named a b w v).b (named a b w v).at) [
  | true ↦ h
  | false ↦ turned m side In a b w h
]

module _ (m : Map) (side : SideName) (In : Rank → Rank → Type 0) (basins : AreBasins m side In) (rooted : (x a r : Rank) → In x a → IsRoot m side a r → IsRoot m side x r)
    (unrooted : (x a r : Rank) → In x a → IsRoot m side x r → IsRoot m side a r) (labels : List (Option ℕ)) (regions : AreRegions m side labels)
    (passes between : List Pass) (are : AreCrossings m side In passes) (at_roots : AreBetweenRoots m side passes between) where
  -- the regions of two basins meet where the basins do
  region-meeting : (a b w x y : Rank) → IsMeeting m side In a b w → IsRoot m side a x → IsRoot m side b y → IsMeeting m side (IsLabelled m labels) x y w
  region-meeting a b w x y h from to = record {
    from = h.from;
    to = h.to;
    near = h.near;
    from_in = root-labelled m side labels regions h.from x (Near-from m h.from h.to h.near) (rooted h.from a x h.from_in from);
    to_in = root-labelled m side labels regions h.to y (Near-to m h.from h.to h.near) (rooted h.to b y h.to_in to);
    higher = h.higher;
  }

  -- a pass joins the roots of its ends, or these are one
  root-stride : (p : Pass) (x : Rank) → Contains passes p → IsRoot m side p.a x → (y : Rank) × IsRoot m side p.b y × (HasPass between x y p.at ⊎ (x ≡ y))
  root-stride p x at root = elim (at_roots.all p at) [
    | inl led ↦ (
        let q = led.2 in
        let same : q.a ≡ x = root-unique m side p.a q.a x q.from root in
        (q.b, q.to, inl (subst (λ v. HasPass between v q.b p.at) same (between-has side between q.a q.b p.at (subst (Contains between) q.is led.1)))))
    | inr within ↦ (within.root, within.to, inr (root-unique m side p.a x within.root root within.from))
  ]

  root-back : (p : Pass) (y : Rank) → Contains passes p → IsRoot m side p.b y → (x : Rank) × IsRoot m side p.a x × (HasPass between y x p.at ⊎ (y ≡ x))
  root-back p y at root = elim (at_roots.all p at) [
    | inl led ↦ (
        let q = led.2 in
        let same : q.b ≡ y = root-unique m side p.b q.b y q.to root in
        (q.a, q.from, inl (has-turned between q.a y p.at (subst (λ v. HasPass between q.a v p.at) same (between-has side between q.a q.b p.at (subst (Contains between) q.is led.1))))))
    | inr within ↦ (within.root, within.from, inr (root-unique m side p.b y within.root root within.to))
  ]

  stride-rooted : (a c w x : Rank) → HasPass passes a c w → IsRoot m side a x → (y : Rank) × IsRoot m side c y × (HasPass between x y w ⊎ (x ≡ y))
  stride-rooted a c w x (inl h) root = root-stride (record { a = a; b = c; at = w }) x h root
  stride-rooted a c w x (inr h) root = root-back (record { a = c; b = a; at = w }) x h root

  -- a walk joins the roots of its ends
  walk-rooted : (t : Rank) (ss : List Stride) (a b x y : Rank) → IsWalk passes a ss b → All (λ w. IsNotAbove (below_by side) w t) (passes_of ss) → IsRoot m side a x → IsRoot m side b y
      → AreJoinedWithin (below_by side) between t x y
  walk-rooted t [] a b x y same low from to = ([], root-unique m side b x y (subst (λ z. IsRoot m side z x) same from) to, All-nil (λ w. IsNotAbove (below_by side) w t))
  walk-rooted t (s ∷ ss) a b x y walk low from to =
      let next = stride-rooted a s.to s.at x walk.0 from in
      let rest = walk-rooted t ss s.to b next.0 y walk.1 (All-tail (λ w. IsNotAbove (below_by side) w t) s.at (passes_of ss) low) next.1 to in
      elim next.2 [
        | inl led ↦ (
          record { to = next.0; at = s.at } ∷ rest.0,
          (led, rest.1),
          All-cons (λ w. IsNotAbove (below_by side) w t) s.at (passes_of rest.0) (All-head (λ w. IsNotAbove (below_by side) w t) s.at (passes_of ss) low) rest.2,
        )
        | inr same ↦ subst (λ v. AreJoinedWithin (below_by side) between t v y) (sym same) rest
      ]

  pub between-crossings : AreCrossingsUnder m side labels between
  between-crossings = record {
    ends = λ q at. (
        let p = at_roots.each q at in
        subst (λ (z : Pass). below_by side z.a z.b ≡ true) (sym p.2.is) (between-low side p.2.a p.2.b (p.0).at p.2.apart));
    meets = λ q at. (
        let p = at_roots.each q at in
        subst (λ (z : Pass). IsMeeting m side (IsLabelled m labels) z.a z.b z.at) (sym p.2.is)
        (between-meets m side (IsLabelled m labels) p.2.a p.2.b (p.0).at (region-meeting (p.0).a (p.0).b (p.0).at p.2.a p.2.b (are.meets p.0 p.1) p.2.from p.2.to)));
    enough = λ x y w meet. (
        let a = basins.some meet.from (Near-from m meet.from meet.to meet.near) in
        let b = basins.some meet.to (Near-to m meet.from meet.to meet.near) in
        let walk = are.enough a.0 b.0 w (record { from = meet.from; to = meet.to; near = meet.near; from_in = a.1; to_in = b.1; higher = meet.higher }) in
        walk-rooted w walk.0 a.0 b.0 x y walk.1 walk.2
        (unrooted meet.from a.0 x a.1 (labelled-root m side labels regions meet.from x meet.from_in))
        (unrooted meet.to b.0 y b.1 (labelled-root m side labels regions meet.to y meet.to_in)));
  }
