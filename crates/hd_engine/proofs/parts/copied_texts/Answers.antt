use Rattle.hd_engine.proofs.parts.copied_texts.Goals as goal

pub invariant_of-result : goal.invariant_of-result
invariant_of-result c = record {
  forms = λ m. rw (
    c.in_ok-origin.ensures.0,
    c.in_ok-origin.ensures.1,
    c.in_ok-origin.ensures.2,
    c.in_ok-scales.ensures.0,
    c.in_ok-scales.ensures.1,
    c.in_ok-scales.ensures.2,
    c.in_ok-scales.ensures.3,
    c.in_ok-extra.ensures,
    c.as_slice.ensures,
    c.in_ok-trailer.ensures,
  ) (c.args.texts.now.forms m);
}
