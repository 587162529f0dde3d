-- A list whose items have values, or none, has a first item, or none.
use Rattle.std.proofs.Common.{◌≡◌, ◌⊎◌, inl, inr, List, [], ◌∷◌, sym, subst}
use Rattle.std.specs.Prelude.{Contains}
use Rattle.hd_map.proofs.Levels.{Contains-head, Contains-tail, Contains-cases, Contains-none}

module _ {A B : Type 0} (Is : A → B → Type 0) (First : A → B → A → B → Type 0) where
  -- a with its value b is first among the items that have a value
  pub record IsFirst (xs : List A) (a : A) (b : B) : Type 0 where
    pub one_of : Contains xs a
    pub value : Is a b
    pub first : (c : A) (d : B) → Contains xs c → Is c d → First a b c d

  -- no item has a value
  abbrev pub HasNone : List A → Type 0
  HasNone xs = (c : A) (d : B) → Contains xs c → Is c d → ⊥

  module _ (one : (a : A) (b d : B) → Is a b → Is a d → b ≡ d)
      (total : (a c : A) (b d : B) → First a b c d ⊎ First c d a b)
      (trans : (a c e : A) (b d f : B) → First a b c d → First c d e f → First a b e f) where
    itself : (a : A) (b : B) → First a b a b
    itself a b = elim (total a a b b) [ inl h ↦ h | inr h ↦ h ]

    at_same : (a : A) (b : B) → Is a b → (c : A) (d : B) → c ≡ a → Is c d → First a b c d
    at_same a b h c d e k =
        let i : Is a d = subst (λ z. Is z d) e k in
        subst (λ z. First a b z d) (sym e) (subst (λ w. First a b a w) (one a b d h i) (itself a b))

    pub first_of : (xs : List A) → ((a : A) → Contains xs a → ((b : B) × Is a b) ⊎ ((b : B) → Is a b → ⊥)) →
        ((a : A) × (b : B) × IsFirst xs a b) ⊎ HasNone xs
    first_of [] decided = inr (λ c d at h. Contains-none c at)
    first_of (x ∷ xs) decided = elim (first_of xs (λ a at. decided a (Contains-tail x a xs at))) [
      | inl r ↦ elim (decided x (Contains-head x xs)) [
        | inl v ↦ elim (total x r.0 v.0 r.1) [
          | inl h ↦ inl (
            x,
            v.0,
            record {
              one_of = Contains-head x xs;
              value = v.1;
              first = λ c d at k. elim (Contains-cases x c xs at) [
                | inl e ↦ at_same x v.0 v.1 c d e k
                | inr later ↦ trans x r.0 c v.0 r.1 d h (r.2.first c d later k)
              ];
            },
          )
          | inr h ↦ inl (
            r.0,
            r.1,
            record {
              one_of = Contains-tail x r.0 xs r.2.one_of;
              value = r.2.value;
              first = λ c d at k. elim (Contains-cases x c xs at) [
                | inl e ↦ trans r.0 x c r.1 v.0 d h (at_same x v.0 v.1 c d e k)
                | inr later ↦ r.2.first c d later k
              ];
            },
          )
        ]
        | inr n ↦ inl (
          r.0,
          r.1,
          record {
            one_of = Contains-tail x r.0 xs r.2.one_of;
            value = r.2.value;
            first = λ c d at k. elim (Contains-cases x c xs at) [
              | inl e ↦ absurd (n d (subst (λ z. Is z d) e k))
              | inr later ↦ r.2.first c d later k
            ];
          },
        )
      ]
      | inr none ↦ elim (decided x (Contains-head x xs)) [
        | inl v ↦ inl (
          x,
          v.0,
          record {
            one_of = Contains-head x xs;
            value = v.1;
            first = λ c d at k. elim (Contains-cases x c xs at) [
              | inl e ↦ at_same x v.0 v.1 c d e k
              | inr later ↦ absurd (none c d later k)
            ];
          },
        )
        | inr n ↦ inr (λ c d at k. elim (Contains-cases x c xs at) [
          | inl e ↦ n d (subst (λ z. Is z d) e k)
          | inr later ↦ none c d later k
        ])
      ]
    ]
