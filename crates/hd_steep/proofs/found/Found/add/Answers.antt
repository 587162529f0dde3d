use Rattle.std.proofs.Common.{◌≡◌, ◌∙◌, ℕ, inr, List, length, set, slice_get, Some, refl, sym, ap, subst, arith}
use Rattle.hd_map.proofs.Places.{get-from_read}
use Rattle.hd_steep.specs.declared.border.Border.{Border}
use Rattle.hd_steep.specs.Found.{AreIndexed, of_pair}
use Rattle.hd_steep.proofs.Indexed.{indexed-few, indexed-push, slot-none}
use Rattle.hd_steep.proofs.found.Found.add.Given.{Over}
use Rattle.hd_steep.proofs.found.Found.add.Goals as goal
use Rattle.hd_steep.proofs.found.Found.add.Goals.{In_ok-push, else-slot-len-via-then-slot-len+else-index-b, else-slot-len-via-else-slot-len}

-- no border is of the greater place yet
none-there : (g : Over) (c : In_ok-push g) → (k : ℕ) (l : Border) → slice_get c.args.self.now.borders.items k ≡ Some l → l.b ≡ c.args.b → ⊥
none-there g c =
    let slots : List ℕ = c.args.self.now.slots.items in
    let borders : List Border = c.args.self.now.borders.items in
    let there : slice_get slots c.args.b ≡ Some c.index.result.now = get-from_read slots c.args.b _ _ c.requires.inside (sym c.index.ensures) in
    elim c.else-slot-len.branch [
      | else-slot-len-via-then-slot-len+else-index-b w ↦ slot-none slots borders c.requires.indexed c.args.b c.index.result.now w.index-then-slot-len.result.now there
          (λ inside e. w.if-index-b.false (ap (λ (z : Border). z.b) w.index-then-slot-len.ensures ∙ e))
      | else-slot-len-via-else-slot-len w ↦ slot-none slots borders c.requires.indexed c.args.b c.index.result.now (of_pair 0 0 c.args.higher) there
          (λ inside e. (let past = w.if-slot-len.false in absurd (omega (arith, past, inside, c.len.ensures, c.args.self.now.borders.ok.0))))
    ]

pub overflow_cast-len : goal.overflow_cast-len
overflow_cast-len g c = (let few = indexed-few c.args.self.now.slots.items c.args.self.now.borders.items c.requires.indexed in omega
    (arith, few, c.requires.room, c.len-2.ensures, c.args.self.now.borders.ok.0))

pub returns-clause-adds : goal.returns-clause-adds
returns-clause-adds g c = inr (record { none = none-there g (goal.at.returns-clause-adds g c).In_ok-push; is = c.in_ok-push.ensures.items })

pub returns-clause-indexed : goal.returns-clause-indexed
returns-clause-indexed g c =
    let slots : List ℕ = c.args.self.now.slots.items in
    let borders : List Border = c.args.self.now.borders.items in
    let long : length borders ≡ c.len-2.result = omega (arith, c.len-2.ensures, c.args.self.now.borders.ok.0) in
    subst (λ n. AreIndexed (set slots c.args.b n) c.push.new.self.items) long
    (subst (λ (ls : List Border). AreIndexed (set slots c.args.b (length borders)) ls) (sym c.in_ok-push.ensures.items)
    (indexed-push slots borders c.requires.indexed c.args.b (of_pair c.args.a c.args.b c.args.higher) c.requires.inside refl (none-there g (goal.at.returns-clause-indexed g c).In_ok-push)))
