use Rattle.std.proofs.Common.{◌==◌, false, true≢false, ◌<◌, ◌+◌, ◌++◌, ◌∷◌, [], ◌≡◌, ◌∙◌, ℕ, ap, sym, subst, arith, length, length-append, vec_len}
use Rattle.std.proofs.lemmas.Bool.{eqb-true}
use Rattle.std.proofs.lemmas.List.{nil_from_length}
use Rattle.hd_edit.specs.declared.change.Change.{Change}
use Rattle.hd_edit.specs.declared.change.Was.TheVariants as was
use Rattle.hd_edit.specs.NewNotes.{NewNotesState}
use Rattle.hd_edit.specs.SevenBytes.{widened}
use Rattle.hd_edit.specs.Notes.{BeginsUnfit, changes_after, last_after}
use Rattle.hd_edit.proofs.HeightNotes.{changes_after-noted, last_after-push, changes_after-length, BeginsUnfit-none, BeginsUnfit-push}
use Rattle.hd_edit.proofs.notes.NewNotes.push_low.Goals as goal

pub invariant_of-self : goal.invariant_of-self
invariant_of-self c =
    let inside = c.self.inside in
    let some : inside.others.items ≡ [] → ⊥ = λ none. (
    let e : vec_len inside.others ≡ 0 = inside.others.ok.0 ∙ ap length none in
    true≢false (sym (subst (λ (n : ℕ). false ≡ (n == 0)) e c.if-not-is_empty.ensures))) in (
      c.self.invariant.0,
      c.push_reserved.ensures.capacity ∙ c.self.invariant.1,
      subst (BeginsUnfit inside.last) (sym c.push_reserved.ensures.items) (BeginsUnfit-push inside.last inside.others.items _ (λ none. absurd (some none)) c.self.invariant.2),
    )

pub push_reserved-requires-2 : goal.push_reserved-requires-2
push_reserved-requires-2 c =
    let inside = c.self.inside in
    let few = subst (λ (s : NewNotesState). length s.changes < s.room) (sym c.self.view_is) c.requires in
    omega (arith, few, length-append (changes_after inside.first inside.heights.items) inside.others.items, changes_after-length inside.first inside.heights.items, inside.heights.ok.0)

pub invariant_of-self-2 : goal.invariant_of-self-2
invariant_of-self-2 c =
    let inside = c.self.inside in
    let none : inside.others.items ≡ [] = nil_from_length inside.others.items (sym inside.others.ok.0 ∙ eqb-true (vec_len inside.others) 0 (sym c.if-not-is_empty.ensures)) in (
      sym c.in-Some.ensures ∙ ap (λ (i : ℕ). i + c.in-Some.distance) c.self.invariant.0
          ∙ sym (last_after-push inside.first inside.heights.items (record { distance = c.in-Some.distance; over = c.args.over })) ∙ sym (ap (last_after inside.first) c.push_reserved-2.ensures.items),
      c.self.invariant.1 ∙ sym c.push_reserved-2.ensures.capacity,
      subst (BeginsUnfit c.args.index) (sym none) (BeginsUnfit-none c.args.index),
    )

pub returns-clause-changes : goal.returns-clause-changes
returns-clause-changes c =
    let inside = c.self.inside in
    let change : Change = record { index = c.args.index; was = was.Height (widened c.args.over) } in
    let none : inside.others.items ≡ [] = nil_from_length inside.others.items (sym inside.others.ok.0 ∙ eqb-true (vec_len inside.others) 0 (sym c.if-not-is_empty.ensures)) in
    let at : ℕ → Change = λ i. record { index = i; was = was.Height (widened c.args.over) } in
    let told = ap at c.in-Some.ensures in
    changes_after-noted inside.first inside.last inside.heights.items c.push_reserved-2.new.self.items inside.others.items
    (record { distance = c.in-Some.distance; over = c.args.over }) change c.self.invariant.0 c.push_reserved-2.ensures.items told none
    ∙ ap (λ (s : NewNotesState). s.changes ++ change ∷ []) c.self.view_is
