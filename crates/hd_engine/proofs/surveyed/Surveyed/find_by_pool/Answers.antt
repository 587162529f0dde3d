use Rattle.hd_engine.proofs.surveyed.Surveyed.find_by_pool.Goals as goal

pub find_by_pool-requires-clause-follows : goal.find_by_pool-requires-clause-follows
find_by_pool-requires-clause-follows g c = rw c.grid-tiles.ensures c.self.invariant.dales

pub invariant_of-self : goal.invariant_of-self
invariant_of-self g c =
    let were = c.self.invariant.survey in
    record {
      survey = record {
        presence = rw c.grid-tiles.ensures at c.find_by_pool.ensures.presence;
        sums = were.sums;
        dales = rw c.grid-tiles.ensures at c.find_by_pool.ensures.findings;
        hills = were.hills;
      };
      dales = rw c.grid-tiles.ensures at c.find_by_pool.ensures.follows;
      hills = c.self.invariant.hills;
    }

pub find_by_pool-requires-in-Hills-clause-follows : goal.find_by_pool-requires-in-Hills-clause-follows
find_by_pool-requires-in-Hills-clause-follows g c = rw c.grid-tiles.ensures c.self.invariant.hills

pub invariant_of-self-in-Hills : goal.invariant_of-self-in-Hills
invariant_of-self-in-Hills g c =
    let were = c.self.invariant.survey in
    record {
      survey = record {
        presence = rw c.grid-tiles.ensures at c.find_by_pool-in-Hills.ensures.presence;
        sums = were.sums;
        dales = were.dales;
        hills =
            rw c.grid-tiles.ensures at c.find_by_pool-in-Hills.ensures.findings;
      };
      dales = c.self.invariant.dales;
      hills = rw c.grid-tiles.ensures at c.find_by_pool-in-Hills.ensures.follows;
    }
