use Rattle.hd_demo.proofs.Drawings.{IsMap-drawn_map}
use Rattle.hd_demo.proofs.DemoTexts.{OneAnswer, IsDemoText-unique}
use Rattle.hd_demo.specs.Generator.{drawn_file}
use Rattle.hd_demo.proofs.demo.demo_text_is_determined.Goals as goal

pub returns : goal.returns
returns c = λ demo a b within x y.
    let known : OneAnswer = record { one = c.answer_is_determined.ensures; keeps = c.answer_keeps_a_state.ensures.kept } in
    IsDemoText-unique known demo a b (c.answer_keeps_a_state.ensures.first (drawn_file demo.size demo.number) (IsMap-drawn_map demo.size demo.number within.size)) x y
