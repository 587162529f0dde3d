use Rattle.hd_session.proofs.Determined.{IsAnswer-unique}
use Rattle.hd_session.proofs.laws.answer_is_determined.Goals as goal

pub returns : goal.returns
returns c = λ s number line a b s' s'' whole x y.
    IsAnswer-unique (record {
      edits = c.edit_is_determined.ensures;
      regions = c.region_sizes_are_determined.ensures;
      trees = c.change_tree_is_determined.ensures;
      prunings = c.pruned_regions_are_determined.ensures;
      borders = c.pruned_lines_are_determined.ensures;
      audits = c.shown_pruning_certificate_is_determined.ensures;
      kept = c.kept_pits_are_determined.ensures;
      fills = c.further_values_are_determined.ensures.fills;
      features = c.features_are_determined.ensures;
      counts = c.further_values_are_determined.ensures.counts;
      shares = c.further_values_are_determined.ensures.shares;
      heights = c.further_values_are_determined.ensures.heights;
      notations = c.values_are_determined.ensures.notations;
      parameters = c.values_are_determined.ensures.parameters;
      roots = c.root_is_determined.ensures;
      saddles = c.saddle_is_determined.ensures;
      certificates = c.shown_certificate_is_determined.ensures;
    }) s number a b s' s'' whole line x y
