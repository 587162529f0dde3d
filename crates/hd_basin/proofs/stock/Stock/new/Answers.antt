use Rattle.std.proofs.Common.{◌≡◌, ◌++◌, ◌∷◌, [], arith, refl}
use Rattle.std.proofs.lemmas.List.{length_push}
use Rattle.std.proofs.lemmas.List.Elements.{All-nil, All-push}
use Rattle.hd_basin.proofs.Stocked.{IsBlank, blank-stocked, blank-unseen}
use Rattle.hd_basin.proofs.stock.Stock.new.Goals as goal

pub loop-tile-init : goal.loop-tile-init
loop-tile-init c = record { count = rw c.new-tiles.ensures.items refl; blank = rw c.new-tiles.ensures.items (All-nil IsBlank) }

pub loop-tile-preserved : goal.loop-tile-preserved
loop-tile-preserved c =
    let e : c.push.new.self.items ≡ c.loop-tile.tiles.items ++ c.unseen.result ∷ [] = c.in_ok-push.ensures.items in
    record {
      count = rw e (let n = length_push c.loop-tile.tiles.items c.unseen.result in let k = c.loop-tile.invariant.count in omega (arith, n, k));
      blank = rw e (All-push IsBlank c.loop-tile.tiles.items c.unseen.result c.loop-tile.invariant.blank
          (record {
            seen = c.unseen.ensures.seen;
            keys = c.unseen.ensures.keys;
            labels = c.unseen.ensures.labels;
            joins = c.unseen.ensures.joins;
            seams =
                c.unseen.ensures.seams;
          }));
    }

pub invariant_of-result : goal.invariant_of-result
invariant_of-result c = blank-stocked c.new.result c.loop-tile.tiles.items c.loop-tile.invariant.blank c.new.ensures.empty

pub returns-clause-unseen : goal.returns-clause-unseen
returns-clause-unseen c = blank-unseen c.new.result c.loop-tile.tiles.items c.loop-tile.invariant.blank
