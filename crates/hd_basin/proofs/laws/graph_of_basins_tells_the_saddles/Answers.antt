use Rattle.hd_basin.specs.Basin.{IsSinkOf}
use Rattle.hd_graph.proofs.Basins.{least-is_saddle, line-tells_saddles, pit-own}
use Rattle.hd_graph.proofs.AgreeingMerges.{merges-tell_saddles}
use Rattle.hd_basin.proofs.PoolGraph.{graph-crossings}
use Rattle.hd_basin.proofs.laws.graph_of_basins_tells_the_saddles.Goals as goal

pub returns : goal.returns
returns c = record {
  walks = λ m side t net is p q one other apart s.
      least-is_saddle m side (IsSinkOf m side t) is.basins net.passes (graph-crossings m side t net is) p q
      (pit-own m side (IsSinkOf m side t) is.basins p one) (pit-own m side (IsSinkOf m side t) is.basins q other) apart s;
  line = λ m side t net line is flooded.
      line-tells_saddles m side (IsSinkOf m side t) is.basins net.passes (graph-crossings m side t net is) net.lows is.lows line flooded;
  merges = λ m side t net merges is are.
      merges-tell_saddles m side (IsSinkOf m side t) is.basins net.passes (graph-crossings m side t net is) net.lows is.lows merges are;
}
