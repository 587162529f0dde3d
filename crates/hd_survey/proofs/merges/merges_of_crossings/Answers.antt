use Rattle.hd_survey.proofs.merges.merges_of_crossings.Goals as goal

pub merges_of_linked_pits-requires : goal.merges_of_linked_pits-requires
merges_of_linked_pits-requires g c = record {
  pits = c.args.pits.now;
  are_pits = c.requires.pits;
  are_lows = c.in_ok-lows.ensures;
  ends = c.requires.ends;
  crossings = c.requires.passes;
}
