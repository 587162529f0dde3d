-- The lowest seam under each key, with one more seam, and all of them.
use Rattle.std.proofs.Common.{◌≡◌, ℕ, ◌⊎◌, inl, inr, true, false, List, [], ◌∷◌, ◌++◌, get_or, map, Option, Some, None, refl, sym, ◌∙◌, ap, subst, arith}
use Rattle.std.specs.Prelude.{AllPairs, Contains, if◌then◌else◌}
use Rattle.std.specs.BTreeMap.{BTreeMap, IsOrdered, Updates, get, is_at}
use Rattle.std.specs.Cmp.{IsTotalOrder, on_total}
use Rattle.std.specs.declared.cmp.Ordering.TheVariants.{Less}
use Rattle.std.specs.List.Sorted.{IsStrictlySortedBy}
use Rattle.std.specs.Ordering.{is_eq, nat_cmp}
use Rattle.std.proofs.lemmas.Bool.{cases_eq}
use Rattle.std.proofs.lemmas.Cmp.{nat_cmp_total, then_total}
use Rattle.std.proofs.lemmas.List.Elements.{All-contains, All-from_recursion, Contains-get_or, Contains-push, Contains-push_cases, Contains-append_left}
use Rattle.std.proofs.lemmas.List.Kept.{AllPairs-cons}
use Rattle.std.proofs.lemmas.Map.Keys.{sorted_head, sorted_tail}
use Rattle.std.proofs.lemmas.Map.Lookups.{CmpEqualImpliesEq, exact_pairs, exact_unsigned}
use Rattle.std.proofs.lemmas.Map.Views.{tells_apart, btree_map_get_iff}
use Rattle.std.proofs.lemmas.Option.{same_Some}
use Rattle.hd_map.specs.declared.types.SideName.{SideName}
use Rattle.hd_map.specs.Order.{IsNotAbove}
use Rattle.hd_map.specs.Rank.{below_by}
use Rattle.hd_map.specs.SideLaws.{below_by-order}
use Rattle.hd_map.proofs.Items.{Contains-map, map-Contains}
use Rattle.hd_map.proofs.Order.{below-not_above, not_above-refl, not_above-trans}
use Rattle.hd_basin.specs.declared.part.Seam.{Seam}
use Rattle.hd_basin.specs.Seams.{HaveSameEnds, KeepLowest}
use Rattle.hd_basin.specs.Lowest.{HasLowest, IsNotedOf, NotesAfter, NotesLower, is_lower, key_of, lower_of, pair_cmp}
use Rattle.hd_basin.proofs.FlatLists.{AllPairs-map}

pair-total : IsTotalOrder pair_cmp
pair-total = then_total (on_total (λ (x : ℕ × ℕ). x.0) nat_cmp_total) (on_total (λ (x : ℕ × ℕ). x.1) nat_cmp_total)

pair-exact : CmpEqualImpliesEq pair_cmp
pair-exact = exact_pairs nat_cmp nat_cmp exact_unsigned exact_unsigned

key_apart : (k q : ℕ × ℕ) → (q ≡ k → ⊥) → is_at (pair_cmp k) q ≡ false
key_apart k q other = elim (is_eq (pair_cmp k q)) as (λ v. is_eq (pair_cmp k q) ≡ v → v ≡ false) [
  | true ↦ λ e. absurd (other (sym (tells_apart pair-exact k q e)))
  | false ↦ λ e. refl
] refl

same_key : (k q : ℕ × ℕ) → (q ≡ k) ⊎ (q ≡ k → ⊥)
same_key k q = elim (cases_eq q.0 k.0) [
  | inl e ↦ elim (cases_eq q.1 k.1) [
    | inl f ↦ inl (ap (λ (x : ℕ). (x, q.1)) e ∙ ap (λ (y : ℕ). (k.0, y)) f)
    | inr g ↦ inr (λ h. g (ap (λ (x : ℕ × ℕ). x.1) h))
  ]
  | inr g ↦ inr (λ h. g (ap (λ (x : ℕ × ℕ). x.0) h))
]

module _ (side : SideName) (all : List Seam) (table next : ℕ × ℕ → Option Seam) (s : Seam) (has : HasLowest side all table) (new : next (key_of s) ≡ Some (lower_of side (table (key_of s)) s))
    (others : (k : ℕ × ℕ) → (k ≡ key_of s → ⊥) → next k ≡ table k) where
  -- the lower one is one of the two, and above neither
  record IsLower (known : Option Seam) (low : Seam) : Type 0 where
    one_of : (low ≡ s) ⊎ (known ≡ Some low)
    itself : IsNotAbove (below_by side) low.pass.at s.pass.at
    before : (k : Seam) → known ≡ Some k → IsNotAbove (below_by side) low.pass.at k.pass.at

  lower : (known : Option Seam) → IsLower known (lower_of side known s)
  lower None = record { one_of = inl refl; itself = not_above-refl (below_by side) (below_by-order side) s.pass.at; before = λ k e. absurd cc }
  lower (Some known) = elim (below_by side s.pass.at known.pass.at) as (λ v. below_by side s.pass.at known.pass.at ≡ v → IsLower (Some known) (if v then s else known)) [
    | true ↦ λ e. record {
      one_of = inl refl;
      itself = not_above-refl (below_by side) (below_by-order side) s.pass.at;
      before = λ k same. subst (λ (x : Seam). IsNotAbove (below_by side) s.pass.at x.pass.at) (same_Some known k same)
          (below-not_above (below_by side) (below_by-order side) s.pass.at known.pass.at e);
    }
    | false ↦ λ e. record {
      one_of = inr refl;
      itself = e;
      before = λ k same. subst (λ (x : Seam). IsNotAbove (below_by side) known.pass.at x.pass.at) (same_Some known k same) (not_above-refl (below_by side) (below_by-order side) known.pass.at);
    }
  ] refl

  abbrev low : Seam
  low = lower_of side (table (key_of s)) s

  low_found : Contains (all ++ s ∷ []) low × (key_of low ≡ key_of s)
  low_found = elim (lower (table (key_of s))).one_of [
    | inl e ↦ (subst (Contains (all ++ s ∷ [])) (sym e) (Contains-push all s), ap key_of e)
    | inr known ↦ (let f = has.found (key_of s) low known in (Contains-append_left all (s ∷ []) low f.0, f.1))
  ]

  low_lowest : (u : Seam) → Contains (all ++ s ∷ []) u → key_of u ≡ key_of s → IsNotAbove (below_by side) low.pass.at u.pass.at
  low_lowest u within same = elim (Contains-push_cases all s u within) [
    | inl old ↦ (
        let k = has.each u old in
        let known : table (key_of s) ≡ Some k.0 = ap table (sym same) ∙ k.1 in
        not_above-trans (below_by side) (below_by-order side) low.pass.at (k.0).pass.at u.pass.at ((lower (table (key_of s))).before k.0 known) (has.lowest (key_of u) k.0 u k.1 old refl))
    | inr e ↦ subst (λ (x : Seam). IsNotAbove (below_by side) low.pass.at x.pass.at) e (lower (table (key_of s))).itself
  ]

  pub lowest-more : HasLowest side (all ++ s ∷ []) next
  lowest-more = record {
    found = λ k x at. elim (same_key (key_of s) k) [
      | inl e ↦ (
          let is : low ≡ x = same_Some low x (sym new ∙ ap next (sym e) ∙ at) in
          subst (λ (y : Seam). Contains (all ++ s ∷ []) y × (key_of y ≡ k)) is (low_found.0, low_found.1 ∙ sym e))
      | inr other ↦ (let f = has.found k x (sym (others k other) ∙ at) in (Contains-append_left all (s ∷ []) x f.0, f.1))
    ];
    lowest = λ k x u at within same. elim (same_key (key_of s) k) [
      | inl e ↦ (
          let is : low ≡ x = same_Some low x (sym new ∙ ap next (sym e) ∙ at) in
          subst (λ (y : Seam). IsNotAbove (below_by side) y.pass.at u.pass.at) is (low_lowest u within (same ∙ e)))
      | inr other ↦ elim (Contains-push_cases all s u within) [
        | inl old ↦ has.lowest k x u (sym (others k other) ∙ at) old same
        | inr f ↦ absurd (other (sym same ∙ sym (ap key_of f)))
      ]
    ];
    each = λ u within. elim (same_key (key_of s) (key_of u)) [
      | inl e ↦ (low, ap next e ∙ new)
      | inr other ↦ elim (Contains-push_cases all s u within) [
        | inl old ↦ (let k = has.each u old in (k.0, others (key_of u) other ∙ k.1))
        | inr f ↦ absurd (other (sym (ap key_of f)))
      ]
    ];
  }

-- an update notes the seam
pub lowest-notes : (side : SideName) (all : List Seam) (old new : BTreeMap (ℕ × ℕ) Seam) (s : Seam) → HasLowest side all (get pair_cmp old)
    → NotesLower side (get pair_cmp old) (get pair_cmp new) s → HasLowest side (all ++ s ∷ []) (get pair_cmp new)
lowest-notes side all old new s has notes = lowest-more side all (get pair_cmp old) (get pair_cmp new) s has notes.here notes.others

-- so a covered one does not matter
pub lowest-covered : (side : SideName) (all : List Seam) (table next : ℕ × ℕ → Option Seam) (known s : Seam) → HasLowest side all table → Contains all known
    → key_of known ≡ key_of s → IsNotAbove (below_by side) known.pass.at s.pass.at
    → ((k : ℕ × ℕ) → next k ≡ table k) → HasLowest side (all ++ s ∷ []) next
lowest-covered side all table next known s has there key low same = record {
  found = λ k x at. (let f = has.found k x (sym (same k) ∙ at) in (Contains-append_left all (s ∷ []) x f.0, f.1));
  lowest = λ k x u at within is. elim (Contains-push_cases all s u within) [
    | inl old ↦ has.lowest k x u (sym (same k) ∙ at) old is
    | inr e ↦ subst (λ (y : Seam). IsNotAbove (below_by side) x.pass.at y.pass.at) e
        (not_above-trans (below_by side) (below_by-order side) x.pass.at known.pass.at s.pass.at (has.lowest k x known (sym (same k) ∙ at) there (key ∙ ap key_of e ∙ is)) low)
  ];
  each = λ u within. elim (Contains-push_cases all s u within) [
    | inl old ↦ (let k = has.each u old in (k.0, same (key_of u) ∙ k.1))
    | inr e ↦ (let k = has.each known there in (k.0, same (key_of u) ∙ ap table (sym (key ∙ ap key_of e)) ∙ k.1))
  ];
}

-- a seam is noted after the last one
pub lowest-after : (side : SideName) (all : List Seam) (old new : BTreeMap (ℕ × ℕ) Seam) (last next : Option Seam) (s : Seam) → HasLowest side all (get pair_cmp old) → IsNotedOf all last
    → NotesAfter side (get pair_cmp old) (get pair_cmp new) last s next → HasLowest side (all ++ s ∷ []) (get pair_cmp new) × IsNotedOf (all ++ s ∷ []) next
lowest-after side all old new last next s has of (inl h) = (
  lowest-covered side all (get pair_cmp old) (get pair_cmp new) h.0.known s has (of h.0.known h.0.is) h.0.key h.0.low h.2,
  λ x e. Contains-append_left all (s ∷ []) x (of x (sym h.1 ∙ e)),
)
lowest-after side all old new last next s has of (inr h) = (
  lowest-notes side all old new s has h.1,
  λ x e. subst (Contains (all ++ s ∷ [])) (same_Some s x (sym h.0 ∙ e)) (Contains-push all s),
)

-- a lower one is kept
low-new : (side : SideName) (known : Option Seam) (s : Seam) → is_lower side known s ≡ true → lower_of side known s ≡ s
low-new side (Some known) s e = rw e
low-new side None s e = refl

low-old : (side : SideName) (known : Option Seam) (s : Seam) → is_lower side known s ≡ false → known ≡ Some (lower_of side known s)
low-old side (Some known) s e = rw e
low-old side None s e = absurd cc

pub notes-new : (side : SideName) (old new : BTreeMap (ℕ × ℕ) Seam) (s : Seam) → is_lower side (get pair_cmp old (key_of s)) s ≡ true → Updates pair_cmp old new (key_of s) (Some s)
    → NotesLower side (get pair_cmp old) (get pair_cmp new) s
notes-new side old new s e u = record {
  here = u.1 ∙ ap (λ (x : Seam). Some x) (sym (low-new side (get pair_cmp old (key_of s)) s e));
  others = λ k other. u.2 k (key_apart (key_of s) k other);
}

pub notes-none : (side : SideName) (old : BTreeMap (ℕ × ℕ) Seam) (s : Seam) → is_lower side (get pair_cmp old (key_of s)) s ≡ false → NotesLower side (get pair_cmp old) (get pair_cmp old) s
notes-none side old s e = record { here = low-old side (get pair_cmp old (key_of s)) s e; others = λ k other. refl }

-- a key is not below itself
key-once : (k q : ℕ × ℕ) → pair_cmp k q ≡ Less → k ≡ q → ⊥
key-once k q less same = (let one : pair_cmp k k ≡ Less = subst (λ (x : ℕ × ℕ). pair_cmp k x ≡ Less) (sym same) less in let other = pair-total.antisymm k k in cc)

-- so the keys of a map differ
keys-differ : (entries : List ((ℕ × ℕ) × Seam)) → IsStrictlySortedBy pair_cmp (map (λ (e : (ℕ × ℕ) × Seam). e.0) entries) → AllPairs (λ (e f : (ℕ × ℕ) × Seam). e.0 ≡ f.0 → ⊥) entries
keys-differ [] sorted = λ i j d less below. absurd (omega arith)
keys-differ (e ∷ es) sorted = AllPairs-cons (λ (e f : (ℕ × ℕ) × Seam). e.0 ≡ f.0 → ⊥) e es
    (λ k d inside. key-once e.0 (get_or es k d).0 (
    let head = All-from_recursion (λ (y : ℕ × ℕ). pair_cmp e.0 y ≡ Less) (map (λ (f : (ℕ × ℕ) × Seam). f.0) es) (sorted_head pair_cmp e.0 (map (λ (f : (ℕ × ℕ) × Seam). f.0) es) sorted) in
    All-contains (λ (y : ℕ × ℕ). pair_cmp e.0 y ≡ Less) (map (λ (f : (ℕ × ℕ) × Seam). f.0) es) (get_or es k d).0 head
    (map-Contains (λ (f : (ℕ × ℕ) × Seam). f.0) es (get_or es k d) (Contains-get_or es k d inside))))
    (keys-differ es (sorted_tail pair_cmp e.0 (map (λ (f : (ℕ × ℕ) × Seam). f.0) es) sorted))

-- the values of such a table are the lowest seams
pub lowest-kept : (side : SideName) (all : List Seam) (table : BTreeMap (ℕ × ℕ) Seam) → IsOrdered pair_cmp table → HasLowest side all (get pair_cmp table) → (kept : List Seam)
    → kept ≡ map (λ (e : (ℕ × ℕ) × Seam). e.1) table.entries → KeepLowest side all kept
lowest-kept side all table ordered has kept are = record {
  some = λ s at. (let e = read s at in (has.found e.0 s e.1).0);
  lowest = λ s u at within same. (
      let e = read s at in
      let key : key_of u ≡ e.0 = ap (λ (x : ℕ). (x, u.pass.b.index)) (sym same.0) ∙ ap (λ (y : ℕ). (s.pass.a.index, y)) (sym same.1) ∙ (has.found e.0 s e.1).1 in
      has.lowest e.0 s u e.1 within key);
  each = λ u within. (
      let s = has.each u within in
      let f = has.found (key_of u) s.0 s.1 in
      let entry = (btree_map_get_iff pair-total pair-exact table ordered (key_of u) s.0).0 s.1 in (
        s.0,
        subst (λ (xs : List Seam). Contains xs s.0) (sym are) (map-Contains (λ (e : (ℕ × ℕ) × Seam). e.1) table.entries (key_of u, s.0) entry),
        (ap (λ (x : ℕ × ℕ). x.0) f.1, ap (λ (x : ℕ × ℕ). x.1) f.1),
      ));
  once = subst (λ (xs : List Seam). AllPairs (λ (s u : Seam). HaveSameEnds s u → ⊥) xs) (sym are)
      (AllPairs-map (λ (e : (ℕ × ℕ) × Seam). e.1) (λ (e f : (ℕ × ℕ) × Seam). e.0 ≡ f.0 → ⊥) (λ (s u : Seam). HaveSameEnds s u → ⊥) table.entries
      (λ e f at there apart same. apart (sym (key_is e at) ∙ ap (λ (x : ℕ). (x, (e.1).pass.b.index)) same.0 ∙ ap (λ (y : ℕ). ((f.1).pass.a.index, y)) same.1 ∙ key_is f there))
      (keys-differ table.entries ordered));
}
  where
    key_is : (e : (ℕ × ℕ) × Seam) → Contains table.entries e → key_of e.1 ≡ e.0
    key_is e at = (has.found e.0 e.1 ((btree_map_get_iff pair-total pair-exact table ordered e.0 e.1).1 at)).1

    read : (s : Seam) → Contains kept s → (k : ℕ × ℕ) × (get pair_cmp table k ≡ Some s)
    read s at =
        let e = Contains-map (λ (e : (ℕ × ℕ) × Seam). e.1) table.entries s (subst (λ (xs : List Seam). Contains xs s) are at) in
        let entry : Contains table.entries ((e.0).0, (e.0).1) = e.1 in
        ((e.0).0, (btree_map_get_iff pair-total pair-exact table ordered (e.0).0 (e.0).1).1 entry ∙ ap (λ (x : Seam). Some x) e.2)
