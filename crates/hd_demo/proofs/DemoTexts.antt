-- The lines of a summary, one after another, and what a demo determines.
use Rattle.std.proofs.Common.{◌≡◌, ◌+◌, ◌++◌, ◌∙◌, ℕ, zero, suc, List, [], ◌∷◌, Result, Ok, Err, refl, sym, ap, subst, arith, append_assoc, append-nil}
use Rattle.std.specs.Prelude.{IfOk}
use Rattle.hd_session.specs.State.{State, IsState}
use Rattle.hd_session.specs.Answers.{IsAnswer}
use Rattle.hd_session.specs.Reply.{Reply}
use Rattle.hd_words.specs.declared.demo.Demo.{Demo}
use Rattle.hd_demo.specs.DemoText.{AddsRow, AddsRows, AddsTold, AreEdits, AreRowTexts, IsDemoText, IsRowText, IsTheDemoText, IsTold, Row, demo_state}
use Rattle.hd_demo.specs.DemoText.{edits_line, row_text, summary_rows, title, value_in}
use Rattle.hd_demo.specs.Generator.{drawn_edit}

-- no lines
pub AddsRows-none : (s : State) (text : List ℕ) → AddsRows s [] text text s
AddsRows-none s text = ([], (refl, refl), sym (append-nil text))

-- a line, and then others
pub AddsRows-then : (s middle after : State) (r : Row) (rows : List Row) (old mid new : List ℕ) → AddsRow s r old mid middle → AddsRows middle rows mid new after → AddsRows s (r ∷ rows) old new after
AddsRows-then s middle after r rows old mid new (told, is, e) (others, are, f) =
    (told ++ others, (told, middle, others, is, are, refl), f ∙ ap (λ t. t ++ others) e ∙ append_assoc old told others)

-- one more edit
pub AreEdits-more : (demo : Demo) (s middle after : State) (n : ℕ) (line : List ℕ) (reply : Reply) → AreEdits demo s n middle → line ≡ drawn_edit demo.size demo.number n
    → IsAnswer middle 1 line reply after
    → AreEdits demo s (n + 1) after
AreEdits-more demo s middle after n line reply are line_is is =
    let e : suc n ≡ n + 1 = omega arith in
    subst (λ (k : ℕ). AreEdits demo s k after) e (middle, reply, are, subst (λ (xs : List ℕ). IsAnswer middle 1 xs reply after) line_is is)

-- both summaries, and the line between them
pub AddsTold-lines : (demo : Demo) (s shown edited last : State) (old before between new : List ℕ) → AddsRows s summary_rows old before shown → AreEdits demo shown demo.edits edited
    → between ≡ before ++ edits_line demo → AddsRows edited summary_rows between new last → AddsTold demo s old new
AddsTold-lines demo s shown edited last old before between new (first, are, e) edits line_is (second, are', f) = (
  first ++ edits_line demo ++ second,
  record {
    before = first;
    shown = shown;
    summary_before = are;
    edited = edited;
    edits = edits;
    later = second;
    last = last;
    summary_after = are';
    text_is = refl;
  },
  f ∙ ap (λ t. t ++ second) (line_is ∙ ap (λ t. t ++ edits_line demo) e ∙ append_assoc old first (edits_line demo)) ∙ append_assoc old (first ++ edits_line demo) second,
)

-- what is told after the title
demo_is : (demo : Demo) (s : State) (text : List ℕ) → s ≡ demo_state demo → AddsTold demo s (title demo) text → IsDemoText demo text
demo_is demo s text state (told, is, e) = (told, subst (λ (t : State). IsTold demo t told) state is, e)

-- and it is the one text, where a demo prints one
pub IsTheDemoText-told : {E : Type 0} (demo : Demo) (s : State) (result : Result (List ℕ) E) → s ≡ demo_state demo → ((a b : List ℕ) → IsDemoText demo a → IsDemoText demo b → a ≡ b)
    → IfOk result (λ text. AddsTold demo s (title demo) text) → IfOk result (λ text. IsTheDemoText demo text)
IsTheDemoText-told demo s (Ok text) state one told = let is = demo_is demo s text state told in record { is = is; only = λ other h. one other text h is }
IsTheDemoText-told demo s (Err error) state one told = tt

-- two texts and the states after them agree
pub record Agree (a b : List ℕ) (s' s'' : State) : Type 0 where
  pub texts : a ≡ b
  pub states : s' ≡ s''
  pub is_state : IsState s'

-- that a line has one answer on a state and one state after it, and leaves maps
pub record OneAnswer : Type 0 where
  pub one : (s : State) (number : ℕ) (line : List ℕ) (a b : Reply) (s' s'' : State) → IsState s → IsAnswer s number line a s' → IsAnswer s number line b s'' → (a ≡ b) × (s' ≡ s'')
  pub keeps : (s : State) (number : ℕ) (line : List ℕ) (a : Reply) (s' : State) → IsState s → IsAnswer s number line a s' → IsState s'

module _ (known : OneAnswer) where
  -- a line of a summary is one text
  row-one : (s : State) (r : Row) (a b : List ℕ) (s' s'' : State) → IsState s → IsRowText s r a s' → IsRowText s r b s'' → Agree a b s' s''
  row-one s r a b s' s'' whole (reply, is, e) (reply', is', e') =
      let same = known.one s 1 r.question reply reply' s' s'' whole is is' in record {
        texts = e ∙ ap (λ (t : Reply). row_text r.label (value_in t.text)) same.0 ∙ sym e';
        states = same.1;
        is_state = known.keeps s 1 r.question reply s' whole is;
      }

  -- and so are some lines
  rows-one : (s : State) (rows : List Row) (a b : List ℕ) (s' s'' : State) → IsState s → AreRowTexts s rows a s' → AreRowTexts s rows b s'' → Agree a b s' s''
  rows-one s [] a b s' s'' whole (e, f) (e', f') = record { texts = e ∙ sym e'; states = f ∙ sym f'; is_state = subst IsState (sym f) whole }
  rows-one s (r ∷ rows) a b s' s'' whole (told, middle, others, is, are, e) (told', middle', others', is', are', e') =
      let first = row-one s r told told' middle middle' whole is is' in
      let onward : AreRowTexts middle rows others' s'' = subst (λ (t : State). AreRowTexts t rows others' s'') (sym first.states) are' in
      let rest = rows-one middle rows others others' s' s'' first.is_state are onward in record {
        texts = e ∙ ap (λ t. t ++ others) first.texts ∙ ap (λ t. told' ++ t) rest.texts ∙ sym e';
        states = rest.states;
        is_state = rest.is_state;
      }

  -- the edits leave one state
  edits-one : (demo : Demo) (s : State) (n : ℕ) (s' s'' : State) → IsState s → AreEdits demo s n s' → AreEdits demo s n s'' → (s' ≡ s'') × IsState s'
  edits-one demo s zero s' s'' whole e e' = (e ∙ sym e', subst IsState (sym e) whole)
  edits-one demo s (suc n) s' s'' whole (middle, reply, are, is) (middle', reply', are', is') =
      let before = edits-one demo s n middle middle' whole are are' in
      let line = drawn_edit demo.size demo.number n in
      let onward : IsAnswer middle 1 line reply' s'' = subst (λ (t : State). IsAnswer t 1 line reply' s'') (sym before.0) is' in
      ((known.one middle 1 line reply reply' s' s'' before.1 is onward).1, known.keeps middle 1 line reply s' before.1 is)

  -- both summaries are one text
  told-one : (demo : Demo) (s : State) (a b : List ℕ) → IsState s → IsTold demo s a → IsTold demo s b → a ≡ b
  told-one demo s a b whole x y =
      let first = rows-one s summary_rows x.before y.before x.shown y.shown whole x.summary_before y.summary_before in
      let edits : AreEdits demo x.shown demo.edits y.edited = subst (λ (t : State). AreEdits demo t demo.edits y.edited) (sym first.states) y.edits in
      let edited = edits-one demo x.shown demo.edits x.edited y.edited first.is_state x.edits edits in
      let later : AreRowTexts x.edited summary_rows y.later y.last = subst (λ (t : State). AreRowTexts t summary_rows y.later y.last) (sym edited.0) y.summary_after in
      let second = rows-one x.edited summary_rows x.later y.later x.last y.last edited.1 x.summary_after later in
      x.text_is ∙ ap (λ t. t ++ edits_line demo ++ x.later) first.texts ∙ ap (λ t. y.before ++ edits_line demo ++ t) second.texts ∙ sym y.text_is

  -- a demo prints one text
  pub IsDemoText-unique : (demo : Demo) (a b : List ℕ) → IsState (demo_state demo) → IsDemoText demo a → IsDemoText demo b → a ≡ b
  IsDemoText-unique demo a b whole (told, is, e) (told', is', e') = e ∙ ap (λ t. title demo ++ t) (told-one demo (demo_state demo) told told' whole is is') ∙ sym e'
