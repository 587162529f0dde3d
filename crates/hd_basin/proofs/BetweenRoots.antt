-- Passes put at the roots of their ends, one more.
use Rattle.std.proofs.Common.{◌≡◌, ◌≢◌, ◌<◌, ◌++◌, ◌∷◌, ◌∙◌, [], ℕ, true, false, List, append-nil, inl, inr, refl, sym, ap, subst, arith, cond, slice_get, Some}
use Rattle.std.specs.Prelude.{All, AllPairs, nat_eq, pos}
use Rattle.std.proofs.lemmas.Bool.{cases_lt, eqb-false, eqb-true}
use Rattle.std.proofs.lemmas.List.{append_assoc, map-append}
use Rattle.std.proofs.lemmas.List.Elements.{All-append, All-cons, All-nil, Contains-append_cases, Contains-append_left, Contains-append_right}
use Rattle.std.proofs.lemmas.Option.{slice_get-get_or}
use Rattle.hd_map.specs.declared.types.Link.{Link}
use Rattle.hd_map.specs.declared.types.Pass.{Pass}
use Rattle.hd_map.specs.declared.types.Rank.{Rank}
use Rattle.hd_map.specs.declared.types.SideName.{SideName}
use Rattle.hd_map.specs.Map.{Map}
use Rattle.hd_map.specs.Rank.{below_by}
use Rattle.hd_map.specs.SideLaws.{below_by-order}
use Rattle.hd_map.proofs.Items.{Contains-head, Contains-none}
use Rattle.hd_map.proofs.Order.{below-not_above}
use Rattle.hd_steep.specs.Crossings.{HasPits, IsNumberOf, pass_of, passes_of, pit_at}
use Rattle.hd_steep.specs.Passes.{pass_between}
use Rattle.hd_basin.specs.Between.{AddsBetweenRoots, AddsLinks, AreBetweenRoots, HasOneRoot, IsBetweenRoots, LiesIn, link_between}
use Rattle.hd_basin.specs.Graph.{in_order}
use Rattle.hd_basin.specs.InStep.{HasMap}
use Rattle.hd_basin.specs.Parts.{Pool}
use Rattle.hd_basin.proofs.AreListed.{only}
use Rattle.hd_basin.proofs.FlatLists.{pair-at}

module _ (m : Map) (side : SideName) where
  pub between-none : AreBetweenRoots m side [] []
  between-none = record { each = λ q at. absurd (Contains-none q at); all = λ p at. absurd (Contains-none p at) }

  pub between-more : (passes between new : List Pass) (p : Pass) → AddsBetweenRoots m side p between new → AreBetweenRoots m side passes between → AreBetweenRoots m side (passes ++ p ∷ []) new
  between-more passes between new p (inl (q, is, e)) are = subst (AreBetweenRoots m side (passes ++ p ∷ [])) (sym e) (record {
    each = λ z at. elim (Contains-append_cases between (q ∷ []) z at) [
      | inl old ↦ (let r = are.each z old in (r.0, Contains-append_left passes (p ∷ []) r.0 r.1, r.2))
      | inr new ↦ (p, Contains-append_right passes (p ∷ []) p (Contains-head p []), subst (IsBetweenRoots m side p) (sym (only q z new)) is)
    ];
    all = λ z at. elim (Contains-append_cases passes (p ∷ []) z at) [
      | inl old ↦ elim (are.all z old) [
        | inl led ↦ inl (led.0, Contains-append_left between (q ∷ []) led.0 led.1, led.2)
        | inr within ↦ inr within
      ]
      | inr new ↦ inl (q, Contains-append_right between (q ∷ []) q (Contains-head q []), subst (λ y. IsBetweenRoots m side y q) (sym (only p z new)) is)
    ];
  })
  between-more passes between new p (inr (within, e)) are = subst (AreBetweenRoots m side (passes ++ p ∷ [])) (sym e) (record {
    each = λ z at. (let r = are.each z at in (r.0, Contains-append_left passes (p ∷ []) r.0 r.1, r.2));
    all = λ z at. elim (Contains-append_cases passes (p ∷ []) z at) [
      | inl old ↦ are.all z old
      | inr new ↦ inr (subst (HasOneRoot m side) (sym (only p z new)) within)
    ];
  })

-- a pass of two, named the other way round, is the same
abbrev two : Rank → Rank → Rank → Pass
two a b w = record { a = a; b = b; at = w }

between-turned : (side : SideName) (a b w : Rank) → a ≢ b → pass_between side a b w ≡ pass_between side b a w
between-turned side a b w apart = elim (below_by side a b) as (λ v. below_by side a b ≡ v → cond v (two a b w) (two b a w) ≡ pass_between side b a w) [
  | true ↦ λ e. ap (λ v. cond v (two b a w) (two a b w)) (sym (below-not_above (below_by side) (below_by-order side) a b e))
  | false ↦ λ e. elim (below_by side b a) as (λ v. below_by side b a ≡ v → two b a w ≡ cond v (two b a w) (two a b w)) [
    | true ↦ λ k. refl
    | false ↦ λ k. absurd (apart ((below_by-order side).total a b e k))
  ] refl
] refl

module _ (m : Map) (side : SideName) (p : Pass) where
  -- so it is put at the same roots
  adds-turned : (old new : List Pass) → AddsBetweenRoots m side p old new → AddsBetweenRoots m side (record { a = p.b; b = p.a; at = p.at }) old new
  adds-turned old new (inl (q, is, e)) = inl (
    q,
    record {
      a = is.b;
      b = is.a;
      from = is.to;
      to = is.from;
      apart = λ same. is.apart
          (sym same);
      is = is.is ∙ between-turned side is.a is.b p.at is.apart;
    },
    e,
  )
  adds-turned old new (inr (one, e)) = inr (record { root = one.root; from = one.to; to = one.from }, e)

  pub adds-ordered : (old new : List Pass) → AddsBetweenRoots m side p old new → AddsBetweenRoots m side (in_order side p) old new
  adds-ordered old new adds = elim (below_by side p.b p.a) as
      (λ v. AddsBetweenRoots m side (cond v (record { a = p.b; b = p.a; at = p.at }) p) old new) [ true ↦ adds-turned old new adds | false ↦ adds ]

-- pits of different numbers are different
pits-apart : (pits : List Rank) → AllPairs (λ a b. a.index < b.index) pits → (i j : ℕ) (p q : Rank) → i ≢ j → slice_get pits i ≡ Some p → slice_get pits j ≡ Some q → p ≢ q
pits-apart pits rise i j p q ne at there same = elim (cases_lt i j) [
  | inl less ↦ (let h = pair-at (λ (a : Rank) (b : Rank). a.index < b.index) pits rise i j p q less at there in let e = ap (λ (r : Rank). r.index) same in omega (arith, h, e))
  | inr late ↦ (let h = pair-at (λ (a : Rank) (b : Rank). a.index < b.index) pits rise j i q p (omega (arith, late, ne)) there at in let e = ap (λ (r : Rank). r.index) same in omega (arith, h, e))
]

module _ (side : SideName) (pool : Pool) (pits : List Rank) (rise : AllPairs (λ a b. a.index < b.index) pits) where
  -- the link of a pass between basins
  link-roots : (m : Map) (p : Pass) (a b : ℕ) (old : List Link) → IsNumberOf m side pits p.a a → IsNumberOf m side pits p.b b
      → AddsBetweenRoots m side p (passes_of side pits old) (passes_of side pits (old ++ link_between a b p.at))
  link-roots m p a b old from to = elim (nat_eq a b) as (λ v. nat_eq a b ≡ v → AddsBetweenRoots m side p (passes_of side pits old)
      (passes_of side pits (old ++ cond v [] (record { a = a; b = b; at = p.at } ∷ [])))) [
        | true ↦ λ e. (
            let same : a ≡ b = eqb-true a b e in
            inr (
              record { root = pit_at pits a; from = from.root; to = (subst (λ k. IsNumberOf m side pits p.b k) (sym same) to).root },
              ap (passes_of side pits) (append-nil old),
            ))
        | false ↦ λ e. inl (
          pass_of side pits (record { a = a; b = b; at = p.at }),
          record {
            a = pit_at pits a;
            b = pit_at pits b;
            from = from.root;
            to = to.root;
            apart = pits-apart pits rise a b (pit_at pits a) (pit_at pits b) (eqb-false a b e)
                (slice_get-get_or pits a (record { height = pos 0; index = 0 }) from.inside) (slice_get-get_or pits b (record { height = pos 0; index = 0 }) to.inside);
            is = refl;
          },
          map-append (pass_of side pits) old (record { a = a; b = b; at = p.at } ∷ []),
        )
      ] refl

  link-ends : (m : Map) (x y at : Rank) (a b : ℕ) → IsNumberOf m side pits x a → IsNumberOf m side pits y b → All (HasPits pits) (link_between a b at)
  link-ends m x y at a b from to = elim (nat_eq a b) as (λ v. All (HasPits pits) (cond v [] (record { a = a; b = b; at = at } ∷ []))) [
    | true ↦ All-nil (HasPits pits)
    | false ↦ All-cons (HasPits pits) (record { a = a; b = b; at = at }) [] (from.inside, to.inside) (All-nil (HasPits pits))
  ]

  -- one pass more is put at the pits of its ends
  pub adds-one : HasMap side pool → (p : Pass) (a b : ℕ) (old : List Link) → LiesIn side pool pits p.a a → LiesIn side pool pits p.b b
      → AddsLinks side pool pits (in_order side p ∷ []) old (old ++ link_between a b p.at)
  adds-one has p a b old from to = record {
    ends = λ all. All-append (HasPits pits) old (link_between a b p.at) all (link-ends has.map p.a p.b p.at a b (from has.map has.whole has.pool_of) (to has.map has.whole has.pool_of));
    between = λ m whole of before are. between-more m side before (passes_of side pits old) (passes_of side pits (old ++ link_between a b p.at)) (in_order side p)
        (adds-ordered m side p (passes_of side pits old) (passes_of side pits (old ++ link_between a b p.at)) (link-roots m p a b old (from m whole of) (to m whole of))) are;
  }

module _ (side : SideName) (pool : Pool) (pits : List Rank) where
  pub adds-none : (old : List Link) → AddsLinks side pool pits [] old old
  adds-none old = record {
    ends = λ all. all;
    between = λ m whole of before are. subst (λ (ps : List Pass). AreBetweenRoots m side ps (passes_of side pits old)) (sym (append-nil before)) are;
  }

  pub adds-more : (ps qs : List Pass) (x y z : List Link) → AddsLinks side pool pits ps x y → AddsLinks side pool pits qs y z → AddsLinks side pool pits (ps ++ qs) x z
  adds-more ps qs x y z first second = record {
    ends = λ all. second.ends (first.ends all);
    between = λ m whole of before are. subst (λ (rs : List Pass). AreBetweenRoots m side rs (passes_of side pits z)) (append_assoc before ps qs)
        (second.between m whole of (before ++ ps) (first.between m whole of before are));
  }
