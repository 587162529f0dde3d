-- How many pairs there are, and the lowest of their higher points: after one more pair.
use Rattle.std.proofs.Common.{◌≡◌, ◌≢◌, ◌<◌, ◌≤◌, ◌+◌, ◌*◌, ◌⊎◌, ◌∙◌, ℕ, true, false, cond, inl, inr, [], ◌∷◌, ◌++◌, length, get_or, refl, sym, ap, subst, arith}
use Rattle.std.specs.Prelude.{◌↔◌, Contains}
use Rattle.std.proofs.Math.Nat.{mul-le-mul_right}
use Rattle.std.proofs.lemmas.List.{length_push}
use Rattle.std.proofs.lemmas.List.Elements.{Contains-append_left, Contains-push, Contains-push_cases, Contains-get_or}
use Rattle.std.proofs.lemmas.List.Quantifiers.{all_pairs_push}
use Rattle.std.proofs.lemmas.Nat.{same_from_place}
use Rattle.hd_map.specs.declared.types.Rank.{Rank}
use Rattle.hd_map.specs.declared.types.SideName.{SideName}
use Rattle.hd_map.specs.Map.{Map, IsMap}
use Rattle.hd_map.specs.Order.{IsNotAbove}
use Rattle.hd_map.specs.Rank.{IsPoint, below_by}
use Rattle.hd_map.specs.SideLaws.{below_by-order}
use Rattle.hd_map.proofs.Apart.{length-le_from_apart}
use Rattle.hd_map.proofs.Depth.{point_limits}
use Rattle.hd_map.proofs.Items.{Contains-cases, Contains-head, Contains-none}
use Rattle.hd_map.proofs.Points.{same_index}
use Rattle.hd_map.proofs.Order.{below-not_above, not_above-refl, not_above-trans}
use Rattle.hd_steep.specs.Pairs.{AreCounted, Pair, higher_of}
use Rattle.hd_steep.proofs.Once.{length-from_once}

pub same_pair : (p q : Pair) → p.from ≡ q.from → p.to ≡ q.to → p ≡ q
same_pair p q e f = let make : Rank → Rank → Pair = λ x y. record { from = x; to = y } in ap (λ x. make x p.to) e ∙ ap (λ y. make q.from y) f

module _ (side : SideName) where
  -- the same pairs by another property
  pub counted-as : (Of Of' : Pair → Type 0) → ((p : Pair) → Of p ↔ Of' p) → (n : ℕ) (w : Rank) → AreCounted side Of n w → AreCounted side Of' n w
  counted-as Of Of' same n w h = record {
    list = h.list;
    exactly = λ p. (λ at. (same p).0 ((h.exactly p).0 at), λ of. (h.exactly p).1 ((same p).1 of));
    different = h.different;
    many = h.many;
    reached = (h.reached.0, (same h.reached.0).0 h.reached.1, h.reached.2);
    least = λ p of. h.least p ((same p).1 of);
  }

  -- the number of the pairs and the pass are determined
  pub counted-unique : (Of : Pair → Type 0) (n k : ℕ) (v w : Rank) → AreCounted side Of n v → AreCounted side Of k w → (n ≡ k) × (v ≡ w)
  counted-unique Of n k v w g h = (
    g.many ∙ length-from_once g.list h.list g.different h.different (λ p. (λ at. (h.exactly p).1 ((g.exactly p).0 at), λ at. (g.exactly p).1 ((h.exactly p).0 at))) ∙ sym h.many,
    (below_by-order side).total v w
        (subst (λ t. IsNotAbove (below_by side) w t) (sym g.reached.2) (h.least g.reached.0 g.reached.1))
        (subst (λ t. IsNotAbove (below_by side) v t) (sym h.reached.2) (g.least h.reached.0 h.reached.1)),
  )

  -- one pair alone
  pub counted-one : (Of : Pair → Type 0) (p : Pair) → ((q : Pair) → Of q ↔ (q ≡ p)) → AreCounted side Of 1 (higher_of side p)
  counted-one Of p only = record {
    list = p ∷ [];
    exactly = λ q. (
      λ at. elim (Contains-cases p q [] at) [ inl e ↦ (only q).1 e | inr later ↦ absurd (Contains-none q later) ],
      λ of. subst (λ r. Contains (p ∷ []) r) (sym ((only q).0 of)) (Contains-head p []),
    );
    different = λ i j d less inside. absurd (omega arith);
    many = refl;
    reached = (p, (only p).1 refl, refl);
    least = λ q of. subst (λ r. IsNotAbove (below_by side) (higher_of side p) (higher_of side r)) (sym ((only q).0 of)) (not_above-refl (below_by side) (below_by-order side) (higher_of side p));
  }

  -- the lower of two
  abbrev lower : Rank → Rank → Rank
  lower v w = cond (below_by side v w) v w

  lower-first : (v w : Rank) → IsNotAbove (below_by side) (lower v w) v
  lower-first v w = elim (below_by side v w) as (λ b. below_by side v w ≡ b → IsNotAbove (below_by side) (cond b v w) v) [
    | true ↦ λ e. not_above-refl (below_by side) (below_by-order side) v
    | false ↦ λ e. e
  ] refl

  lower-second : (v w : Rank) → IsNotAbove (below_by side) (lower v w) w
  lower-second v w = elim (below_by side v w) as (λ b. below_by side v w ≡ b → IsNotAbove (below_by side) (cond b v w) w) [
    | true ↦ λ e. below-not_above (below_by side) (below_by-order side) v w e
    | false ↦ λ e. not_above-refl (below_by side) (below_by-order side) w
  ] refl

  -- with one more pair
  pub counted-more : (Of Of' : Pair → Type 0) (p : Pair) → (Of p → ⊥) → ((q : Pair) → Of' q ↔ (Of q ⊎ (q ≡ p))) → (n : ℕ) (w : Rank) → AreCounted side Of n w
      → AreCounted side Of' (n + 1) (lower (higher_of side p) w)
  counted-more Of Of' p fresh more n w h = record {
    list = h.list ++ p ∷ [];
    exactly = λ q. (
      λ at. (more q).1 (elim (Contains-push_cases h.list p q at) [ inl old ↦ inl ((h.exactly q).0 old) | inr e ↦ inr (sym e) ]),
      λ of. elim ((more q).0 of) [
        | inl old ↦ Contains-append_left h.list (p ∷ []) q ((h.exactly q).1 old)
        | inr e ↦ subst (λ r. Contains (h.list ++ p ∷ []) r) (sym e) (Contains-push h.list p)
      ],
    );
    different = all_pairs_push (λ (q : Pair) (r : Pair). q ≢ r) h.list p h.different (λ k d inside e. fresh (subst Of e ((h.exactly (get_or h.list k d)).0 (Contains-get_or h.list k d inside))));
    many = ap (λ k. k + 1) h.many ∙ sym (length_push h.list p);
    reached = elim (below_by side (higher_of side p) w) as (λ b. (q : Pair) × Of' q × (cond b (higher_of side p) w ≡ higher_of side q)) [
      | true ↦ (p, (more p).1 (inr refl), refl)
      | false ↦ (h.reached.0, (more h.reached.0).1 (inl h.reached.1), h.reached.2)
    ];
    least = λ q of. elim ((more q).0 of) [
      | inl old ↦ not_above-trans (below_by side) (below_by-order side) (lower (higher_of side p) w) w (higher_of side q) (lower-second (higher_of side p) w) (h.least q old)
      | inr e ↦ subst (λ r. IsNotAbove (below_by side) (lower (higher_of side p) w) (higher_of side r)) (sym e) (lower-first (higher_of side p) w)
    ];
  }

  module _ (m : Map) (whole : IsMap m) (Of : Pair → Type 0) (points : (p : Pair) → Of p → IsPoint m p.from × IsPoint m p.to) where
    abbrev number : Pair → ℕ
    number p = p.from.index * 4194304 + p.to.index

    one_number : (p q : Pair) → Of p → Of q → number p ≡ number q → p ≡ q
    one_number p q of of' e =
        let a = points p of in
        let b = points q of' in
        let at = same_from_place p.from.index p.to.index q.from.index q.to.index 4194304 (point_limits m p.to whole a.1).index (point_limits m q.to whole b.1).index e in
        same_pair p q (same_index m p.from q.from a.0 b.0 at.0) (same_index m p.to q.to a.1 b.1 at.1)

    small_number : (p : Pair) → Of p → number p < 17592186044416
    small_number p of =
        let a = points p of in
        let from : p.from.index + 1 ≤ 4194304 = (let less = (point_limits m p.from whole a.0).index in omega arith) in
        omega (arith, mul-le-mul_right 4194304 from, (point_limits m p.to whole a.1).index)

    -- there are no more pairs of points than a map has
    pub counted-few : (n : ℕ) (w : Rank) → AreCounted side Of n w → n ≤ 17592186044416
    counted-few n w h =
        let most : length h.list ≤ 17592186044416 = length-le_from_apart number 17592186044416 h.list
        (λ i j d less inside e. h.different i j d less inside (one_number (get_or h.list i d) (get_or h.list j d)
        ((h.exactly (get_or h.list i d)).0 (Contains-get_or h.list i d (omega arith))) ((h.exactly (get_or h.list j d)).0 (Contains-get_or h.list j d inside)) e))
        (λ p at. small_number p ((h.exactly p).0 at)) in
        let many = h.many in
        omega arith
