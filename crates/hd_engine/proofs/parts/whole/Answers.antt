use Rattle.hd_engine.proofs.parts.whole.Goals as goal

pub invariant_of-result : goal.invariant_of-result
invariant_of-result c = record { forms = c.args.texts.forms _ }
