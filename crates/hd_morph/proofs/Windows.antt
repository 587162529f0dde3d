-- The greatest of the values near a place, by strides.
use Rattle.std.proofs.Common.{◌≡◌, ◌<◌, ◌≤◌, ◌+◌, ◌-◌, ◌*◌, ◌/◌, ◌%◌, ℕ, ℤ, List, length, slice_set, length-set, get_or-set_same, get_or-set_other}
use Rattle.std.proofs.Common.{Option, None, inl, inr, refl, ap, subst, sym, ◌∙◌, arith}
use Rattle.std.proofs.lemmas.Int.{ints}
use Rattle.std.proofs.lemmas.Bool.{cases_lt}
use Rattle.std.proofs.Math.Nat.{mul-le-mul_right}
use Rattle.hd_morph.specs.Greatest.{larger}
use Rattle.hd_morph.specs.Plain.{value_at}
use Rattle.hd_morph.specs.Window.{IsNearby, AreWindowGreatests, IsStridesOff, AreStrideGreatests, IsAhead, AreAheadGreatests, IsWidened, AreWidened}
use Rattle.hd_morph.specs.Window.{IsBehind, IsLookedBackAt, IsLookedBack, AreLookedBack}
use Rattle.hd_morph.proofs.Greatest.{IsGreatest-same_values, IsGreatest-join}

-- one value ahead is that of the place itself
pub AreAheadGreatests-one : (values : List (Option ℤ)) (stride : ℕ) → AreAheadGreatests values stride 1 values
AreAheadGreatests-one values stride = record {
  whole = refl;
  each = λ place. record {
    attained = λ z e. record { steps = 0; to = omega arith; is = (let here : place + 0 * stride ≡ place = omega arith in rw here e) };
    reached = λ z near. let none : near.steps ≡ 0 = omega (arith, near.to) in let here : place + near.steps * stride ≡ place = rw none (omega arith) in (z, rw here at near.is, omega (arith, ints));
  };
}

-- strides one after another
strides_sum : (from i j all stride : ℕ) → i + j ≡ all → (from + i * stride) + j * stride ≡ from + all * stride
strides_sum from i j all stride e = rw (← e) (omega arith)

strides_same : (from at i j all stride : ℕ) → i + j ≡ all → from + all * stride ≡ at + i * stride → from + j * stride ≡ at
strides_same from at i j all stride e same = let sum = strides_sum from i j all stride e in omega arith

-- no value of a place's own column lies more strides back than there are
back_steps : (stride reach place from at steps : ℕ) (b : IsBehind stride reach place from) → steps ≤ reach → at + steps * stride ≡ place → steps ≤ b.steps
back_steps stride reach place from at steps b near back = elim (cases_lt b.steps steps) [
  | inr fewer ↦ fewer
  | inl more ↦ elim b.far [
    | inl far ↦ omega (arith, near)
    | inr first ↦ absurd (omega (arith, b.back, back, first, mul-le-mul_right stride (let h : b.steps + 1 ≤ steps = omega arith in h)))
  ]
]

-- two stretches that leave no value between them out are one
pub AreAheadGreatests-join : (values old new : List (Option ℤ)) (stride seen step : ℕ) → step ≤ seen → AreAheadGreatests values stride seen old → IsWidened old (step * stride) new
    → AreAheadGreatests values stride (seen + step) new
AreAheadGreatests-join values old new stride seen step joined before now = record {
  whole = omega (arith, before.whole, now.whole);
  each = λ place. rw (now.each place) (IsGreatest-join (IsAhead values stride seen place) (IsAhead values stride seen (place + step * stride)) (IsAhead values stride (seen + step) place)
      (value_at old place) (value_at old (place + step * stride))
      (λ z a. record { steps = a.steps; to = omega (arith, a.to); is = a.is })
      (λ z a. record {
        steps = step + a.steps;
        to = omega (arith, a.to);
        is = (let here : place + (step + a.steps) * stride ≡ (place + step * stride)
            + a.steps * stride = omega arith in rw here a.is);
      })
      (λ z a. elim (cases_lt a.steps seen) [
        | inl here ↦ inl (record { steps = a.steps; to = here; is = a.is })
        | inr later ↦ inr (record {
          steps = a.steps - step;
          to = omega (arith, a.to);
          is = (let here : (place + step * stride) + (a.steps - step) * stride ≡ place
              + a.steps * stride = strides_sum place step (a.steps - step) a.steps stride (omega arith) in rw here a.is);
        })
      ])
      (before.each place) (before.each (place + step * stride)));
}

-- the values ahead of a place, and ahead of one that is reach strides behind it, are those near it
pub AreStrideGreatests-join : (values old new : List (Option ℤ)) (stride reach : ℕ) → AreAheadGreatests values stride (reach + 1) old → IsLookedBack old stride reach new
    → AreStrideGreatests values stride reach new
AreStrideGreatests-join values old new stride reach before now = record {
  whole = omega (arith, before.whole, now.whole);
  each = λ place inside.
      let seen = now.each place (omega (arith, before.whole)) in
      let b = seen.behind in
      rw seen.is (IsGreatest-join (IsAhead values stride (reach + 1) place) (IsAhead values stride (reach + 1) seen.from) (IsStridesOff values stride reach place)
      (value_at old place) (value_at old seen.from)
      (λ z a. record { at = place + a.steps * stride; steps = a.steps; near = omega (arith, a.to); side = inl refl; is = a.is })
      (λ z a. elim (cases_lt a.steps b.steps) [
        | inl less ↦ record {
          at = seen.from + a.steps * stride;
          steps = b.steps - a.steps;
          near = omega (arith, b.near);
          side = inr (strides_sum seen.from a.steps (b.steps - a.steps) b.steps stride (omega arith) ∙ b.back);
          is = a.is;
        }
        | inr more ↦ record {
          at = seen.from + a.steps * stride;
          steps = a.steps - b.steps;
          near = omega (arith, a.to);
          side = inl (sym (strides_sum seen.from b.steps (a.steps - b.steps) a.steps stride (omega arith)) ∙ ap (λ t. t + (a.steps - b.steps) * stride) b.back);
          is = a.is;
        }
      ])
      (λ z a. elim a.side [
        | inl after ↦ inl (record { steps = a.steps; to = omega (arith, a.near); is = rw after at a.is })
        | inr back ↦
            let fewer : a.steps ≤ b.steps = back_steps stride reach place seen.from a.at a.steps b a.near back in
            let same : seen.from + (b.steps - a.steps) * stride ≡ a.at = strides_same seen.from a.at a.steps (b.steps - a.steps) b.steps stride (omega arith) (b.back ∙ sym back) in
            inr (record { steps = b.steps - a.steps; to = omega (arith, b.near); is = rw same a.is })
      ])
      (before.each place) (before.each seen.from));
}

-- the place in the first stretch, where fewer strides are behind
pub IsBehind-first : (stride reach place : ℕ) → 0 < stride → place < reach * stride → IsBehind stride reach place (place % stride)
IsBehind-first stride reach place some few = record {
  steps = place / stride;
  near = elim (cases_lt (place / stride) (reach + 1)) [
    | inl near ↦ omega arith
    | inr far ↦ absurd (omega (arith, few, mul-le-mul_right stride far))
  ];
  back = omega (arith, some);
  far = inr (omega (arith, some));
}

-- strides of one step are places
pub AreWindowGreatests-near : (values tops : List (Option ℤ)) (reach : ℕ) → AreStrideGreatests values 1 reach tops → AreWindowGreatests values reach tops
AreWindowGreatests-near values tops reach was = record {
  whole = was.whole;
  each = λ place inside. IsGreatest-same_values (IsStridesOff values 1 reach place) (IsNearby values reach place) (value_at tops place)
      (λ z a. elim a.side [
        | inl after ↦ record { at = a.at; not_after = omega (arith, a.near, after); not_before = omega (arith, a.near, after); is = a.is }
        | inr back ↦ record { at = a.at; not_after = omega (arith, a.near, back); not_before = omega (arith, a.near, back); is = a.is }
      ])
      (λ z a. elim (cases_lt a.at place) [
        | inl back ↦ record { at = a.at; steps = place - a.at; near = omega (arith, a.not_before); side = inr (omega arith); is = a.is }
        | inr after ↦ record { at = a.at; steps = a.at - place; near = omega (arith, a.not_after); side = inl (omega arith); is = a.is }
      ])
      (was.each place inside);
}

-- nothing is widened at first
pub AreWidened-none : (old : List (Option ℤ)) (step from to : ℕ) → to ≤ from → AreWidened old step from to old
AreWidened-none old step from to none = record { whole = refl; inside = λ k after before. absurd (omega arith); below = λ k before. refl; above = λ k after. refl }

-- one place more is widened
pub AreWidened-more : (old now : List (Option ℤ)) (step from place : ℕ) (new : Option ℤ) → from ≤ place → place < length old → new ≡ larger (value_at now place) (value_at now (place + step))
    → AreWidened old step from place now → AreWidened old step from (place + 1) (slice_set now place new)
AreWidened-more old now step from place new after room is was = record {
  whole = length-set now place new ∙ was.whole;
  inside = λ k more less. elim (cases_lt k place) [
    | inl before ↦ get_or-set_other now place k new None (omega arith) ∙ was.inside k more before
    | inr not ↦
        let same : place ≡ k = omega arith in
        let now_is : value_at (slice_set now place new) place ≡ larger (value_at old place) (value_at old (place + step)) =
        get_or-set_same now place new None (omega (arith, was.whole)) ∙ is ∙ rw (was.above place (omega arith), was.above (place + step) (omega arith)) in
        subst (λ (i : ℕ). value_at (slice_set now place new) i ≡ larger (value_at old i) (value_at old (i + step))) same now_is
  ];
  below = λ k before. get_or-set_other now place k new None (omega arith) ∙ was.below k before;
  above = λ k past. get_or-set_other now place k new None (omega arith) ∙ was.above k (omega arith);
}

-- a further run is widened
pub AreWidened-join : (old now new : List (Option ℤ)) (step from mid to : ℕ) → from ≤ mid → mid ≤ to → AreWidened old step from mid now → AreWidened now step mid to new
    → AreWidened old step from to new
AreWidened-join old now new step from mid to low high was is = record {
  whole = is.whole ∙ was.whole;
  inside = λ k more less. elim (cases_lt k mid) [
    | inl before ↦ is.below k before ∙ was.inside k more before
    | inr after ↦ is.inside k after less ∙ rw (was.above k after, was.above (k + step) (omega arith))
  ];
  below = λ k before. is.below k (omega arith) ∙ was.below k before;
  above = λ k past. is.above k past ∙ was.above k (omega arith);
}

-- nothing is looked back from at first
pub AreLookedBack-none : (old : List (Option ℤ)) (step from to : ℕ) → to ≤ from → AreLookedBack old step from to old
AreLookedBack-none old step from to none = record { whole = refl; inside = λ k after before. absurd (omega arith); below = λ k before. refl; above = λ k after. refl }

-- one place more is looked back from
pub AreLookedBack-more : (old now : List (Option ℤ)) (step place next to : ℕ) (new : Option ℤ) → next ≡ place + 1 → step ≤ place → place < to → place < length old
    → new ≡ larger (value_at now place) (value_at now (place - step)) → AreLookedBack old step next to now → AreLookedBack old step place to (slice_set now place new)
AreLookedBack-more old now step place next to new onward far before room is was = record {
  whole = length-set now place new ∙ was.whole;
  inside = λ k more less. elim (cases_lt place k) [
    | inl after ↦ get_or-set_other now place k new None (omega arith) ∙ was.inside k (omega arith) less
    | inr not ↦
        let same : place ≡ k = omega arith in
        let now_is : value_at (slice_set now place new) place ≡ larger (value_at old place) (value_at old (place - step)) =
        get_or-set_same now place new None (omega (arith, was.whole)) ∙ is ∙ rw (was.below place (omega arith), was.below (place - step) (omega arith)) in
        subst (λ (i : ℕ). value_at (slice_set now place new) i ≡ larger (value_at old i) (value_at old (i - step))) same now_is
  ];
  below = λ k less. get_or-set_other now place k new None (omega arith) ∙ was.below k (omega arith);
  above = λ k past. get_or-set_other now place k new None (omega arith) ∙ was.above k past;
}

-- a further run of at most a step is looked back from
pub AreLookedBack-join : (old now new : List (Option ℤ)) (step from mid to : ℕ) → step ≤ from → from ≤ mid → mid ≤ to → mid ≤ from + step → 0 < step
    → AreLookedBack old step mid to now → AreLookedBack now step from mid new
    → AreLookedBack old step from to new
AreLookedBack-join old now new step from mid to far low high run some was is = record {
  whole = is.whole ∙ was.whole;
  inside = λ k more less. elim (cases_lt k mid) [
    | inl before ↦ is.inside k more before ∙ rw (was.below k before, was.below (k - step) (omega arith))
    | inr after ↦ is.above k after ∙ was.inside k after less
  ];
  below = λ k before. is.below k before ∙ was.below k (omega arith);
  above = λ k past. is.above k (omega arith) ∙ was.above k past;
}

-- the values from a place on are looked back from by strides
pub record LookedBackFrom (old : List (Option ℤ)) (stride reach place : ℕ) (now : List (Option ℤ)) : Type 0 where
  pub whole : length now ≡ length old
  pub done : (k : ℕ) → place ≤ k → k < length old → IsLookedBackAt old stride reach k (value_at now k)
  pub left : (k : ℕ) → k < place → value_at now k ≡ value_at old k

-- those that have as many strides behind them are looked back from
pub LookedBackFrom-far : (old now : List (Option ℤ)) (stride reach place : ℕ) → place ≤ reach * stride → ((k : ℕ) → place ≤ k → k < length old → reach * stride ≤ k)
    → AreLookedBack old (reach * stride) (reach * stride) (length old) now
    → LookedBackFrom old stride reach place now
LookedBackFrom-far old now stride reach place low far was = record {
  whole = was.whole;
  done = λ k more less.
      let room : reach * stride ≤ k = far k more less in
      record { from = k - reach * stride; behind = record { steps = reach; near = omega arith; back = omega arith; far = inl refl }; is = was.inside k room less };
  left = λ k before. was.below k (omega arith);
}

-- one place more is looked back from, to the first stretch
pub LookedBackFrom-more : (old now : List (Option ℤ)) (stride reach place : ℕ) (new : Option ℤ) → 0 < stride → 0 < place → place - 1 < length old → place - 1 < reach * stride
    → new ≡ larger (value_at now (place - 1)) (value_at now ((place - 1) % stride))
    → LookedBackFrom old stride reach place now → LookedBackFrom old stride reach (place - 1) (slice_set now (place - 1) new)
LookedBackFrom-more old now stride reach place new some more inside near is was =
    let at : ℕ = place - 1 in
    let room : at < length now = omega (arith, was.whole) in
    let here : value_at now at ≡ value_at old at = was.left at (omega arith) in
    let there : value_at now (at % stride) ≡ value_at old (at % stride) = was.left (at % stride) (omega arith) in
    record {
      whole = length-set now at new ∙ was.whole;
      done = λ k above within. elim (cases_lt at k) [
        | inl later ↦ rw (get_or-set_other now at k new None (omega arith)) (was.done k (omega arith) within)
        | inr not ↦
            let same : at ≡ k = omega arith in
            let is_at : IsLookedBackAt old stride reach at (value_at (slice_set now at new) at) =
            record { from = at % stride; behind = IsBehind-first stride reach at some near; is = get_or-set_same now at new None room ∙ is ∙ rw (here, there) } in
            subst (λ (i : ℕ). IsLookedBackAt old stride reach i (value_at (slice_set now at new) i)) same is_at
      ];
      left = λ k less. get_or-set_other now at k new None (omega arith) ∙ was.left k (omega arith);
    }
