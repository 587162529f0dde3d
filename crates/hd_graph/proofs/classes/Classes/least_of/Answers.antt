use Rattle.std.proofs.Common.{◌≡◌, ◌≢◌, ◌≤◌, ◌∙◌, inl, inr, refl, sym, ap, arith, List, ℕ, slice_get, set, Some}
use Rattle.std.proofs.lemmas.Bool.{cases_eq}
use Rattle.std.proofs.lemmas.List.{length-set}
use Rattle.std.proofs.lemmas.Option.{same_Some}
use Rattle.hd_map.proofs.Levels.{here}
use Rattle.hd_map.proofs.Places.{get-from_read, get-set_same, get-set_other}
use Rattle.hd_graph.proofs.AreOneClass.{class-trans, refines-further, refines-same, refines-set, refines-within, falling-set}
use Rattle.hd_graph.proofs.classes.Classes.least_of.Goals as goal

pub loop-least-init : goal.loop-least-init
loop-least-init c = record {
  inside = c.requires.inside;
  long = refl;
  falling = c.requires.falling;
  one = here;
  so = refines-same c.args.self.now.parents.items;
  back = refines-same c.args.self.now.parents.items;
  leasts = λ x. (λ h. h, λ h. h);
}

pub index-next-requires : goal.index-next-requires
index-next-requires c =
    let inside = c.loop-least.invariant.inside in
    let at = get-from_read c.loop-least.self.parents.items c.loop-least.least _ _ inside (sym c.index-parent.ensures) in
    let falls = c.loop-least.invariant.falling c.loop-least.least c.index-parent.result.now at in
    omega (arith, inside, falls, c.loop-least.self.parents.ok.0)

pub loop-least-smaller : goal.loop-least-smaller
loop-least-smaller c =
    let parents : List ℕ = c.loop-least.self.parents.items in
    let inside = c.loop-least.invariant.inside in
    let tested : slice_get parents c.loop-least.least ≡ Some c.index.result.now = get-from_read parents c.loop-least.least _ _ inside (sym c.index.ensures) in
    let at : slice_get parents c.loop-least.least ≡ Some c.index-parent.result.now = get-from_read parents c.loop-least.least _ _ inside (sym c.index-parent.ensures) in
    let same : c.index.result.now ≡ c.index-parent.result.now = same_Some c.index.result.now c.index-parent.result.now (sym tested ∙ at) in
    let first = c.loop-least.invariant.falling c.loop-least.least c.index-parent.result.now at in
    let at_parent : slice_get parents c.index-parent.result.now ≡ Some c.index-next.result.now = get-from_read parents c.index-parent.result.now _ _ (omega (arith, inside, first))
    (sym c.index-next.ensures) in
    let second = c.loop-least.invariant.falling c.index-parent.result.now c.index-next.result.now at_parent in
    omega (arith, same, first, second, c.loop-least-test.true)

pub loop-least-preserved : goal.loop-least-preserved
loop-least-preserved c =
    let old : List ℕ = c.args.self.now.parents.items in
    let parents : List ℕ = c.loop-least.self.parents.items in
    let least : ℕ = c.loop-least.least in
    let parent : ℕ = c.index-parent.result.now in
    let next : ℕ = c.index-next.result.now in
    let inv = c.loop-least.invariant in
    let inside = inv.inside in
    let at : slice_get parents least ≡ Some parent = get-from_read parents least _ _ inside (sym c.index-parent.ensures) in
    let first = inv.falling least parent at in
    let at_parent : slice_get parents parent ≡ Some next = get-from_read parents parent _ _ (omega (arith, inside, first)) (sym c.index-next.ensures) in
    let second = inv.falling parent next at_parent in
    let less : next ≤ least = omega (arith, first, second) in
    let same = length-set parents least next in
    let tested : slice_get parents least ≡ Some c.index.result.now = get-from_read parents least _ _ inside (sym c.index.ensures) in
    let is : c.index.result.now ≡ parent = same_Some c.index.result.now parent (sym tested ∙ at) in
    let apart : parent ≢ least = λ e. (omega (arith, is, e, c.loop-least-test.true)) in
    let below : next ≢ least = λ e. apart (omega (arith, e, first, second)) in
    let further = class-trans old least parent next (inv.so least parent at) (inv.so parent next at_parent) in
    record {
      inside = omega (arith, same, less, inside);
      long = same ∙ inv.long;
      falling = falling-set old parents inv.so inv.falling least next parent at less;
      one = class-trans old c.args.number least next inv.one further;
      so = refines-set old parents inv.so inv.falling least next parent at further;
      back = λ x y h. refines-within (set parents least next) parents (refines-further parents least parent next at at_parent apart) x y (inv.back x y h);
      leasts = λ x. (
        λ h. elim (cases_eq least x) [
          | inl e ↦ absurd (below (same_Some next least (sym (get-set_same parents least next parent at) ∙ ap (λ k. slice_get (set parents least next) k) e ∙ h ∙ ap Some (sym e))))
          | inr ne ↦ (inv.leasts x).0 (sym (get-set_other parents least x next ne) ∙ h)
        ],
        λ h.
            let was : slice_get parents x ≡ Some x = (inv.leasts x).1 h in
            get-set_other parents least x next (λ e. apart (same_Some parent least (sym at ∙ ap (λ k. slice_get parents k) e ∙ was ∙ ap Some (sym e)))) ∙ was,
      );
    }

pub returns-clause-least : goal.returns-clause-least
returns-clause-least c = get-from_read c.loop-least.self.parents.items c.loop-least.least _ _ c.loop-least.invariant.inside (sym c.index.ensures ∙ c.loop-least-test.false)

pub returns-clause-same : goal.returns-clause-same
returns-clause-same c = λ x y. (
  refines-within c.args.self.now.parents.items c.loop-least.self.parents.items c.loop-least.invariant.so x y,
  refines-within c.loop-least.self.parents.items c.args.self.now.parents.items c.loop-least.invariant.back x y,
)
