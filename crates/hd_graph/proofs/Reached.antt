-- How the water goes on from part to part.
use Rattle.std.proofs.Common.{◌≡◌, ◌⊎◌, ℕ, zero, suc, ◌+◌, ◌-◌, ◌*◌, ◌<◌, ◌≤◌, inl, inr, Bool, true, false, List, [], ◌∷◌, length, Some, refl, sym, ◌∙◌, ap, subst, arith, replicate, set, slice_get}
use Rattle.std.specs.Prelude.{if◌then◌else◌}
use Rattle.std.proofs.lemmas.Bool.{cases_Bool, cases_eq, true_from_ne_false}
use Rattle.std.proofs.lemmas.List.{get_or-set_other, get_or-set_same}
use Rattle.std.proofs.lemmas.Option.{same_Some, slice_get_within}
use Rattle.hd_map.proofs.Levels.{here, reach-crosses, reach-trans, step}
use Rattle.hd_map.specs.declared.types.Link.{Link}
use Rattle.hd_graph.specs.Flood.{AreWhole, IsReached, is_done}
use Rattle.hd_graph.specs.Links.{IsBetween}
use Rattle.hd_graph.specs.Onward.{AreJoined, FirstStep, IsOnward}
use Rattle.hd_graph.proofs.Connected.{joined-more, joined-sym}
use Rattle.hd_map.proofs.Places.{less_same_more}

-- one more low is done
module _ (done : List Bool) (o : ℕ) (inside : o < length done) where
  pub done-set : is_done (set done o true) o ≡ true
  done-set = get_or-set_same done o true false inside

  pub done-kept : (v : ℕ) → is_done done v ≡ true → is_done (set done o true) v ≡ true
  done-kept v h = elim (cases_eq v o) [ inl e ↦ subst (λ i. is_done (set done o true) i ≡ true) (sym e) done-set | inr ne ↦ get_or-set_other done o v true false ne ∙ h ]

  pub done-cases : (v : ℕ) → is_done (set done o true) v ≡ true → (v ≡ o) ⊎ (is_done done v ≡ true)
  done-cases v h = elim (cases_eq v o) [ inl e ↦ inl e | inr ne ↦ inr (sym (get_or-set_other done o v true false ne) ∙ h) ]

  done-not : (v : ℕ) → is_done (set done o true) v ≡ false → is_done done v ≡ false
  done-not v h = elim (cases_eq v o) [
    | inl e ↦ absurd (let wet = subst (λ i. is_done (set done o true) i ≡ true) (sym e) done-set in cc)
    | inr ne ↦ sym (get_or-set_other done o v true false ne) ∙ h
  ]

-- at first no low is done
pub none-done : (n v : ℕ) → is_done (replicate n false) v ≡ false
none-done zero v = refl
none-done (suc n) zero = refl
none-done (suc n) (suc v) = none-done n v

-- how many lows are not done
abbrev pub undone : List Bool → ℕ
undone [] = 0
undone (d ∷ ds) = (if d then 0 else 1) + undone ds

pub undone-set : (done : List Bool) (o : ℕ) → o < length done → is_done done o ≡ false → suc (undone (set done o true)) ≡ undone done
undone-set [] o inside dry = absurd (omega arith)
undone-set (true ∷ ds) zero inside dry = absurd (cc dry)
undone-set (false ∷ ds) zero inside dry = omega arith
undone-set (d ∷ ds) (suc o) inside dry = (let r = undone-set ds o (omega arith) dry in omega arith)

-- one less that is not done counts more than any place
pub undone-less : (u v m p q : ℕ) → suc u ≡ v → u * (m + 1) + (m - q) < v * (m + 1) + (m - p)
undone-less u v m p q e = subst (λ i. u * (m + 1) + (m - q) < i * (m + 1) + (m - p)) e (omega arith)

module _ (links : List Link) where
  alone : {a b : ℕ} → AreJoined links 0 a b → a ≡ b
  alone here = refl
  alone (step s r) = absurd (let less = s.2 in omega arith)

  -- a low is reached to which links from those that are done lead as well
  reached-new : (done : List Bool) (o : ℕ) → o < length done → ((n y v : ℕ) → is_done done y ≡ true → is_done done v ≡ false → AreJoined links n y v → AreJoined links n y o)
      → IsReached links (set done o true) o 0
  reached-new done o inside leads = record {
    whole = λ v h. subst (λ i. is_done (set done o true) i ≡ true) (alone h) (done-set done o inside);
    around = λ n y v wet dry h. elim (done-cases done o inside y wet) [
      | inl same ↦ subst (λ i. AreJoined links n y i) same here
      | inr was ↦ leads n y v was (done-not done o inside v dry) h
    ];
  }

  -- the first low of a whole part
  pub reached-first : (done : List Bool) (o : ℕ) → o < length done → AreWhole links done → IsReached links (set done o true) o 0
  reached-first done o inside whole = reached-new done o inside (λ n y v wet dry h. absurd (whole n y v wet dry h))

  module _ (done : List Bool) (x t p : ℕ) (reached : IsReached links done x t) (onward : IsOnward links x t p) where
    -- only links from p on lead out of what is done
    leads_out : (n y v : ℕ) → is_done done y ≡ true → is_done done v ≡ false → AreJoined links n y v → p < n
    leads_out n y v wet dry h = elim (less_same_more p n) [
      | inl less ↦ less
      | inr o ↦ absurd (
          let le : n ≤ p = elim o [ inl e ↦ omega arith | inr more ↦ omega arith ] in
          let away : AreJoined links n x v = reach-trans (FirstStep links n) (joined-sym links n (reached.around n y v wet dry h)) h in
          let wet_too = reached.whole v (onward.whole v (joined-more links n p le away)) in
          cc)
    ]

    pub link-out : (k : ℕ) (l : Link) (y v : ℕ) → slice_get links k ≡ Some l → IsBetween l y v → is_done done y ≡ true → is_done done v ≡ false → p ≤ k
    link-out k l y v at between wet dry = (let less = leads_out (k + 1) y v wet dry (step (k, l, omega arith, at, between) here) in omega arith)

    -- where no link leads on, the part is whole
    pub reached-all : length links ≤ p → AreWhole links done
    reached-all past n y v wet dry h =
        let c = reach-crosses (FirstStep links n) (is_done done) h wet dry in
        let s = c.4 in
        let le = link-out s.0 s.1 c.0 c.1 s.3 s.4 c.2 c.3 in
        let inside = slice_get_within links s.0 s.1 s.3 in
        omega arith

    module _ (l : Link) (at : slice_get links p ≡ Some l) where
      over : (n : ℕ) → p < n → AreJoined links n l.a l.b
      over n less = step (p, l, less, at, inl (refl, refl)) here

      to_ends : (n : ℕ) → p < n → AreJoined links n x l.a × AreJoined links n x l.b
      to_ends n less =
          let later = onward.later in
          elim (onward.leads l at) [
            | inl h ↦ (let a : AreJoined links n x l.a = joined-more links t n (omega arith) h in (a, reach-trans (FirstStep links n) a (over n less)))
            | inr h ↦ (let b : AreJoined links n x l.b = joined-more links t n (omega arith) h in (reach-trans (FirstStep links n) b (joined-sym links n (over n less)), b))
          ]

      -- where both ends are done, so is all that the link joins
      both_done : is_done done l.a ≡ true → is_done done l.b ≡ true → IsReached links done l.a (p + 1)
      both_done wet_a wet_b = record {
        whole = λ v h. true_from_ne_false (is_done done v) (λ dry.
            let c = reach-crosses (FirstStep links (p + 1)) (is_done done) h wet_a dry in
            let s = c.4 in
            let le = link-out s.0 s.1 c.0 c.1 s.3 s.4 c.2 c.3 in
            let less = s.2 in
            let same : p ≡ s.0 = omega arith in
            let is : l ≡ s.1 = same_Some l s.1 (sym at ∙ ap (λ i. slice_get links i) same ∙ s.3) in
            let end : is_done done c.1 ≡ true = elim (s.4) [
              | inl e ↦ subst (λ i. is_done done i ≡ true) (ap (λ (k : Link). k.b) is ∙ e.1) wet_b
              | inr e ↦ subst (λ i. is_done done i ≡ true) (ap (λ (k : Link). k.a) is ∙ e.0) wet_a
            ] in
            let not = c.3 in
            cc);
        around = λ n y v wet dry h. reach-trans (FirstStep links n) (reached.around n y v wet dry h) (to_ends n (leads_out n y v wet dry h)).0;
      }

      module _ (low : ℕ) (far : low ≡ (if is_done done l.a then l.b else l.a)) where
        -- the link leads to its far end from one that is done
        pub far-from : (d : ℕ) × (is_done done d ≡ true) × IsBetween l d low
        far-from = elim (cases_Bool (is_done done l.a)) [
          | inl wet ↦ (l.a, wet, inl (refl, sym (far ∙ rw wet refl)))
          | inr dry ↦ elim (onward.leads l at) [
            | inl h ↦ absurd (let wet = reached.whole l.a h in cc)
            | inr h ↦ (l.b, reached.whole l.b h, inr (sym (far ∙ rw dry refl), refl))
          ]
        ]

        -- where that is done as well, all that the link joins is
        pub reached-over : is_done done low ≡ true → IsReached links done l.a (p + 1)
        reached-over wet = elim (far-from.2) [
          | inl e ↦ both_done (subst (λ i. is_done done i ≡ true) (sym e.0) far-from.1) (subst (λ i. is_done done i ≡ true) (sym e.1) wet)
          | inr e ↦ both_done (subst (λ i. is_done done i ≡ true) (sym e.0) wet) (subst (λ i. is_done done i ≡ true) (sym e.1) far-from.1)
        ]

        -- and else it comes next
        pub reached-next : low < length done → IsReached links (set done low true) low 0
        reached-next inside = reached-new done low inside (λ n y v wet dry h.
            let ends = to_ends n (leads_out n y v wet dry h) in
            let to : AreJoined links n x low = elim (far-from.2) [ inl e ↦ subst (λ i. AreJoined links n x i) e.1 ends.1 | inr e ↦ subst (λ i. AreJoined links n x i) e.0 ends.0 ] in
            reach-trans (FirstStep links n) (reached.around n y v wet dry h) to)
