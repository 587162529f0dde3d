-- Parts that name the classes which saddles join, grouped, are a change tree.
use Rattle.std.proofs.Common.{◌≡◌, inl, inr, Bool, true, List, [], ◌∷◌, refl, sym, ◌∙◌, ap, subst}
use Rattle.std.specs.Prelude.{Contains, AllPairs, ◌↔◌}
use Rattle.hd_map.specs.Order.{IsStrictOrder}
use Rattle.hd_map.specs.declared.types.Rank.{Rank}
use Rattle.hd_map.specs.ChangeTree.{Joining, IsSaddleOfPits, IsPart, IsTree}
use Rattle.hd_map.proofs.Items.{Contains-cases, Contains-none, AllPairs-first, AllPairs-tail}
use Rattle.hd_map.proofs.Order.{below-apart}
use Rattle.hd_graph.specs.declared.parts.Part.{Part}
use Rattle.hd_graph.specs.Parts.{AreGrouped}

-- parts that name the classes of pits which saddles join
module _ (below : Rank → Rank → Bool) (order : IsStrictOrder below) (Has : Rank → Rank → Rank → Type 0) (Pit : Rank → Type 0) where
  -- they are the classes, and each saddle of two pits has one
  pub record NameClasses (IsOne : Part → Type 0) : Type 0 where
    pub are : (e : Part) → IsOne e → IsPart below Has Pit e.saddle e.low
    pub all : (s r : Rank) → IsPart below Has Pit s r → IsOne (record { saddle = s; low = r })
    pub some : (p q s : Rank) → IsSaddleOfPits below Has Pit p q s → (r : Rank) × IsOne (record { saddle = s; low = r })

  one_join : (joins : List Joining) → AllPairs (λ (a : Joining) (b : Joining). below a.saddle b.saddle ≡ true) joins → (x y : Joining) → Contains joins x → Contains joins y
      → x.saddle ≡ y.saddle → x ≡ y
  one_join [] h x y hx hy e = absurd (Contains-none x hx)
  one_join (z ∷ zs) h x y hx hy e = elim (Contains-cases z x zs hx) [
    | inl ex ↦ elim (Contains-cases z y zs hy) [
      | inl ey ↦ ex ∙ sym ey
      | inr ly ↦ absurd (below-apart below order z.saddle y.saddle (AllPairs-first (λ (a : Joining) (b : Joining). below a.saddle b.saddle ≡ true) z y zs h ly)
          (sym (ap (λ (w : Joining). w.saddle) ex) ∙ e))
    ]
    | inr lx ↦ elim (Contains-cases z y zs hy) [
      | inl ey ↦ absurd (below-apart below order z.saddle x.saddle (AllPairs-first (λ (a : Joining) (b : Joining). below a.saddle b.saddle ≡ true) z x zs h lx)
          (sym (ap (λ (w : Joining). w.saddle) ey) ∙ sym e))
      | inr ly ↦ one_join zs (AllPairs-tail (λ (a : Joining) (b : Joining). below a.saddle b.saddle ≡ true) z zs h) x y lx ly e
    ]
  ]

  -- grouped, they are the tree
  pub tree-of_classes : (IsOne : Part → Type 0) → NameClasses IsOne → (es : List Part) (joins : List Joining) → ((e : Part) → Contains es e ↔ IsOne e) → AreGrouped below es joins
      → IsTree below Has Pit joins
  tree-of_classes IsOne name es joins exactly grouped = record {
    saddles = λ s. (
      λ h.
          let x : Joining = h.0 in
          let f = grouped.filled x h.1 in
          let e : Part = record { saddle = s; low = f.0 } in
          let j = (name.are e ((exactly e).0 ((grouped.listed e).1 (x, h.1, h.2, f.1)))).joined in
          (j.0, j.1, j.3),
      λ h.
          let r = name.some h.0 h.1 s h.2 in
          let e : Part = record { saddle = s; low = r.0 } in
          let l = (grouped.listed e).0 ((exactly e).1 r.1) in
          (l.0, l.1, l.2),
    );
    each = λ x at. record {
      exactly = λ r. (
        λ h. (let e : Part = record { saddle = x.saddle; low = r } in name.are e ((exactly e).0 ((grouped.listed e).1 (x, at, refl, h)))),
        λ h.
            let e : Part = record { saddle = x.saddle; low = r } in
            let l = (grouped.listed e).0 ((exactly e).1 (name.all x.saddle r h)) in
            subst (λ (z : Joining). Contains z.parts r) (one_join joins grouped.in_order l.0 x l.1 at l.2) l.3,
      );
      in_order = grouped.parts_in_order x at;
    };
    in_order = grouped.in_order;
  }
