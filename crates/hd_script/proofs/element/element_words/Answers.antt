use Rattle.std.proofs.Common.{◌≡◌, ◌∷◌, ◌∙◌, ◌-◌, take, drop, length, map, ap, inl, inr, sym, arith}
use Rattle.std.proofs.lemmas.List.{take_rest}
use Rattle.std.proofs.lemmas.List.Elements.{All-drop}
use Rattle.hd_num.specs.Span.{IsPart, text_at}
use Rattle.hd_script.specs.CommandWords.{element_words}
use Rattle.hd_script.proofs.ElementWords.{words-three, element_words-fewer}
use Rattle.hd_script.proofs.element.element_words.Goals as goal

pub text-name-requires : goal.text-name-requires
text-name-requires c = c.requires.parts 0 (record { start = 0; end = 0 }) (omega (arith, c.in-len3-up.len_at_least))

pub text-width-requires : goal.text-width-requires
text-width-requires c = c.requires.parts 1 (record { start = 0; end = 0 }) (omega (arith, c.in-len3-up.len_at_least))

pub text-height-requires : goal.text-height-requires
text-height-requires c = c.requires.parts 2 (record { start = 0; end = 0 }) (omega (arith, c.in-len3-up.len_at_least))

pub element_command-requires-clause-parts : goal.element_command-requires-clause-parts
element_command-requires-clause-parts c = rw (take_rest c.args.words.now 3) (All-drop (IsPart c.args.line.now) 3 c.args.words.now c.requires.parts)

pub returns-in_default-clause-value : goal.returns-in_default-clause-value
returns-in_default-clause-value c = inr (sym (element_words-fewer c.args.line.now c.args.words.now c.in_default.len_below))

pub returns-clause-value : goal.returns-clause-value
returns-clause-value c =
    let line = c.args.line.now in
    let words = c.args.words.now in
    let all = words-three line words (record { start = 0; end = 0 }) c.in-len3-up.len_at_least in
    let same : c.text-name.result.now ∷ c.text-width.result.now ∷ c.text-height.result.now ∷ map (text_at line) (take (length words - 3) (drop 3 words)) ≡ map (text_at line) words = cc in
    elim c.element_command.ensures.value [
      | inl refused ↦ inl refused
      | inr is ↦ inr (is ∙ ap element_words same)
    ]
