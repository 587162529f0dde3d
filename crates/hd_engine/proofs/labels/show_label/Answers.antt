use Rattle.hd_engine.proofs.labels.show_label.Goals as goal

pub root_of-requires-clause-follows : goal.root_of-requires-clause-follows
root_of-requires-clause-follows g c = rw c.grid-tiles.ensures c.requires.follows

pub returns-in_err-pit-clause-follows : goal.returns-in_err-pit-clause-follows
returns-in_err-pit-clause-follows g c = rw c.grid-tiles.ensures at c.root_of.ensures.follows

pub returns-in_err-text-clause-follows : goal.returns-in_err-text-clause-follows
returns-in_err-text-clause-follows g c = rw c.grid-tiles.ensures at c.root_of.ensures.follows

pub returns-clause-follows : goal.returns-clause-follows
returns-clause-follows g c = rw c.grid-tiles.ensures at c.root_of.ensures.follows
