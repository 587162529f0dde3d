-- There is one change tree, and saddles that agree on the pits give the same.
use Rattle.std.proofs.Common.{◌≡◌, ◌≢◌, inl, inr, Bool, true, List, [], ◌∷◌, refl, sym, ◌∙◌, ap, subst}
use Rattle.std.specs.Prelude.{Contains, AllPairs, ◌↔◌}
use Rattle.hd_map.specs.declared.types.Rank.{Rank}
use Rattle.hd_map.specs.ChangeTree.{Joining, AreTogether, IsSaddleOfPits, IsPart, IsJoining, IsTree}
use Rattle.hd_map.specs.Order.{IsStrictOrder}
pub use Rattle.hd_map.proofs.Items.{AllPairs-first, AllPairs-tail}
use Rattle.hd_map.proofs.Items.{Contains-head, Contains-tail, Contains-cases, Contains-none}
use Rattle.hd_map.proofs.Levels.{same_or_not}
use Rattle.hd_map.proofs.Order.{below-not_above}

module _ {X : Type 0} (R : X → X → Type 0) where
  -- lists in order with the same items are one
  pub same_in_order : ((x y : X) → R x y → R y x → ⊥) → (xs ys : List X) → AllPairs R xs → AllPairs R ys → ((z : X) → Contains xs z ↔ Contains ys z) → xs ≡ ys
  same_in_order one_way [] [] hx hy same = refl
  same_in_order one_way [] (y ∷ ys) hx hy same = absurd (Contains-none y ((same y).1 (Contains-head y ys)))
  same_in_order one_way (x ∷ xs) [] hx hy same = absurd (Contains-none x ((same x).0 (Contains-head x xs)))
  same_in_order one_way (x ∷ xs) (y ∷ ys) hx hy same =
      ap (λ z. z ∷ xs) heads ∙ ap (λ zs. y ∷ zs) (same_in_order one_way xs ys (AllPairs-tail R x xs hx) (AllPairs-tail R y ys hy) (λ z. (
        λ h. elim (Contains-cases y z ys ((same z).0 (Contains-tail x z xs h))) [
          | inl e ↦ absurd (let r : R x x = subst (λ w. R x w) (e ∙ sym heads) (AllPairs-first R x z xs hx h) in one_way x x r r)
          | inr later ↦ later
        ],
        λ h. elim (Contains-cases x z xs ((same z).1 (Contains-tail y z ys h))) [
          | inl e ↦ absurd (let r : R y y = subst (λ w. R y w) (e ∙ heads) (AllPairs-first R y z ys hy h) in one_way y y r r)
          | inr later ↦ later
        ],
      )))
    where
      heads : x ≡ y
      heads = elim (Contains-cases y x ys ((same x).0 (Contains-head x xs))) [
        | inl e ↦ e
        | inr later ↦ elim (Contains-cases x y xs ((same y).1 (Contains-head y ys))) [
          | inl e ↦ sym e
          | inr after ↦ absurd (one_way x y (AllPairs-first R x y xs hx after) (AllPairs-first R y x ys hy later))
        ]
      ]

module _ (below : Rank → Rank → Bool) (order : IsStrictOrder below) (Has : Rank → Rank → Rank → Type 0) (Pit : Rank → Type 0) where
  one_way : (a b : Rank) → below a b ≡ true → below b a ≡ true → ⊥
  one_way a b h k = (let f = below-not_above below order a b h in cc)

  same_joining : (x y : Joining) → x.saddle ≡ y.saddle → x.parts ≡ y.parts → x ≡ y
  same_joining x y e f = ap (λ s. record { saddle = s; parts = x.parts }) e ∙ ap (λ ps. record { saddle = y.saddle; parts = ps }) f

  joinings_of_one_saddle : (x y : Joining) → x.saddle ≡ y.saddle → IsJoining below Has Pit x → IsJoining below Has Pit y → x ≡ y
  joinings_of_one_saddle x y e hx hy = same_joining x y e (same_in_order (λ a b. below a b ≡ true) one_way x.parts y.parts hx.in_order hy.in_order (λ r. (
    λ h. (hy.exactly r).1 (subst (λ s. IsPart below Has Pit s r) e ((hx.exactly r).0 h)),
    λ h. (hx.exactly r).1 (subst (λ s. IsPart below Has Pit s r) (sym e) ((hy.exactly r).0 h)),
  )))

  goes_over : (A B : List Joining) → IsTree below Has Pit A → IsTree below Has Pit B → (x : Joining) → Contains A x → Contains B x
  goes_over A B ha hb x at =
      let there = (hb.saddles x.saddle).1 ((ha.saddles x.saddle).0 (x, at, refl)) in
      subst (λ y. Contains B y) (joinings_of_one_saddle there.0 x there.2 (hb.each there.0 there.1) (ha.each x at)) there.1

  -- there is one tree at most
  pub tree-unique : (A B : List Joining) → IsTree below Has Pit A → IsTree below Has Pit B → A ≡ B
  tree-unique A B ha hb =
      same_in_order (λ (a : Joining) (b : Joining). below a.saddle b.saddle ≡ true) (λ a b h k. one_way a.saddle b.saddle h k) A B ha.in_order hb.in_order
      (λ x. (goes_over A B ha hb x, goes_over B A hb ha x))

module _ (below : Rank → Rank → Bool) (order : IsStrictOrder below) where
  -- the two kinds of pit are the same, and the two kinds of saddle are the same for different pits
  pub record Agree (S T : Rank → Rank → Rank → Type 0) (P Q : Rank → Type 0) : Type 0 where
    pub pits : (p : Rank) → P p ↔ Q p
    pub saddles : (p q s : Rank) → P p → P q → p ≢ q → S p q s ↔ T p q s

  pub agree-back : (S T : Rank → Rank → Rank → Type 0) (P Q : Rank → Type 0) → Agree S T P Q → Agree T S Q P
  agree-back S T P Q h = record {
    pits = λ p. ((h.pits p).1, (h.pits p).0);
    saddles = λ p q s hp hq ne. (let r = h.saddles p q s ((h.pits p).1 hp) ((h.pits q).1 hq) ne in (r.1, r.0));
  }

  module _ (S T : Rank → Rank → Rank → Type 0) (P Q : Rank → Type 0) (agree : Agree S T P Q) where
    together-agrees : (s p q : Rank) → P p → P q → AreTogether below S P s p q → AreTogether below T Q s p q
    together-agrees s p q hp hq (inl e) = inl e
    together-agrees s p q hp hq (inr h) = elim (same_or_not below order p q) [
      | inl e ↦ inl e
      | inr ne ↦ inr (h.0, (agree.saddles p q h.0 hp hq ne).0 h.1, h.2)
    ]

    saddle_of_pits-agrees : (p q s : Rank) → IsSaddleOfPits below S P p q s → IsSaddleOfPits below T Q p q s
    saddle_of_pits-agrees p q s h = record {
      first = (agree.pits p).0 h.first;
      second = (agree.pits q).0 h.second;
      different = h.different;
      saddle = (agree.saddles p q s h.first h.second h.different).0 h.saddle;
    }

  -- so are the parts
  pub part-agrees : (S T : Rank → Rank → Rank → Type 0) (P Q : Rank → Type 0) → Agree S T P Q → (s r : Rank) → IsPart below S P s r → IsPart below T Q s r
  part-agrees S T P Q agree s r h =
      let back = agree-back S T P Q agree in
      let pit : Q r = (agree.pits r).0 h.is_pit in
      record {
        is_pit = pit;
        lowest = λ q at t. h.lowest q ((agree.pits q).1 at) (together-agrees T S Q P back s r q pit at t);
        joined = (let j = h.joined in (j.0, j.1, together-agrees S T P Q agree s r j.0 h.is_pit j.3.first j.2, saddle_of_pits-agrees S T P Q agree j.0 j.1 s j.3));
      }

  -- so is the tree
  pub tree-agrees : (S T : Rank → Rank → Rank → Type 0) (P Q : Rank → Type 0) → Agree S T P Q → (joins : List Joining) → IsTree below S P joins → IsTree below T Q joins
  tree-agrees S T P Q agree joins h =
      let back = agree-back S T P Q agree in
      record {
        saddles = λ s. (
          λ x. (let r = (h.saddles s).0 x in (r.0, r.1, saddle_of_pits-agrees S T P Q agree r.0 r.1 s r.2)),
          λ r. (h.saddles s).1 (r.0, r.1, saddle_of_pits-agrees T S Q P back r.0 r.1 s r.2),
        );
        each = λ x at. record {
          exactly = λ r. (λ p. part-agrees S T P Q agree x.saddle r (((h.each x at).exactly r).0 p), λ p. ((h.each x at).exactly r).1 (part-agrees T S Q P back x.saddle r p));
          in_order = (h.each x at).in_order;
        };
        in_order = h.in_order;
      }
