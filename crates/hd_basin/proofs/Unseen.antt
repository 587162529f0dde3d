-- A pool that has seen no tile is in step with every map of its size.
use Rattle.std.proofs.Common.{◌≡◌, ℕ, List, length, map, Some, None, sym, subst, arith, slice_get}
use Rattle.std.specs.Prelude.{All, AllPairs, Contains}
use Rattle.hd_map.proofs.Items.{Contains-none}
use Rattle.hd_basin.specs.declared.part.Seam.{Seam}
use Rattle.std.proofs.lemmas.List.Elements.{All-contains}
use Rattle.hd_map.specs.declared.types.SideName.{SideName}
use Rattle.hd_map.specs.Map.{Map}
use Rattle.hd_tiles.specs.Tile.{tile_count}
use Rattle.hd_basin.specs.declared.node.Node.{Node}
use Rattle.hd_basin.specs.declared.part.Join.{Join}
use Rattle.hd_basin.specs.declared.part.Part.{Part}
use Rattle.hd_basin.specs.InStep.{IsInStep}
use Rattle.hd_basin.specs.Parts.{pass_named, JoinOthers, Pool, HasNode, IsFresh, IsSound}
use Rattle.hd_basin.specs.Stock.{IsUnseen}
use Rattle.hd_basin.proofs.PointRoots.{read-contains}

module _ (pool : Pool) (unseen : All IsUnseen pool.parts) where
  none_at : (tile : ℕ) (part : Part) → slice_get pool.parts tile ≡ Some part → IsUnseen part
  none_at tile part at = All-contains IsUnseen pool.parts part unseen (read-contains pool.parts tile part at)

  none_seen : (tile seen : ℕ) (part : Part) → slice_get pool.parts tile ≡ Some part → part.seen ≡ Some seen → ⊥
  none_seen tile seen part at is = let e = (none_at tile part at).seen in cc

  none_fresh : (stamps : List ℕ) (tile : ℕ) → IsFresh stamps pool.parts tile → ⊥
  none_fresh stamps tile fresh = none_seen tile fresh.stamp fresh.part fresh.at fresh.seen

  pub unseen-empty : (tile : ℕ) (n : Node) → HasNode pool.parts tile n → ⊥
  unseen-empty tile n has = Contains-none n (subst (λ (xs : List Node). Contains xs n) (none_at tile has.part has.at).nodes has.has)

  pub unseen-none : (tile : ℕ) (part : Part) → slice_get pool.parts tile ≡ Some part → part.seen ≡ None
  unseen-none tile part at = (none_at tile part at).seen

  pub unseen-sound : length pool.parts ≡ tile_count pool.size pool.side → IsSound pool
  unseen-sound whole = record {
    whole = whole;
    names = λ tile part at. record {
      labels = λ label has. absurd (Contains-none label (subst (λ (xs : List ℕ). Contains xs label) (none_at tile part at).labels has));
      passes = λ j has. absurd (Contains-none j (subst (λ (js : List Join). Contains js j) (none_at tile part at).joins has));
    };
    keyed = λ tile n has. absurd (unseen-empty tile n has);
    inside = λ tile part pass at has. absurd (Contains-none pass (subst (λ (js : List Join). Contains (map (pass_named part.nodes) js) pass) (none_at tile part at).joins has));
    across = λ tile part seam at has. absurd (no_seam tile part seam at has);
    joined = λ tile part other seam at has. absurd (no_seam tile part seam at has);
    since = λ tile part seam at has. absurd (no_seam tile part seam at has);
    once = record {
      inside = λ tile part at. subst (λ (js : List Join). AllPairs (λ p q. JoinOthers p q) (map (pass_named part.nodes) js)) (sym (none_at tile part at).joins)
          (λ i j d less below. absurd (omega arith));
      across = λ tile part at. subst (λ (xs : List Seam). AllPairs (λ (s u : Seam). JoinOthers s.pass u.pass) xs) (sym (none_at tile part at).seams) (λ i j d less below. absurd (omega arith));
      one_way = λ i j p q s u at there has other. absurd (no_seam i p s at has);
    };
  }
    where
      no_seam : (tile : ℕ) (part : Part) (seam : Seam) → slice_get pool.parts tile ≡ Some part → Contains part.seams seam → ⊥
      no_seam tile part seam at has = Contains-none seam (subst (λ (xs : List Seam). Contains xs seam) (none_at tile part at).seams has)

  pub unseen-in_step : (m : Map) (side : SideName) (stamps : List ℕ) → pool.size ≡ m.size → IsInStep m side stamps pool
  unseen-in_step m side stamps size = record {
    size = size;
    not_ahead = λ tile seen now part at is there. absurd (none_seen tile seen part at is);
    has = record {
      right = record {
        nodes = λ tile n fresh has. absurd (none_fresh stamps tile fresh);
        sinks = λ s fresh sink. absurd (none_fresh stamps _ fresh);
        labels = λ p inside fresh. absurd (none_fresh stamps _ fresh);
        passes = λ a b w one other has. absurd (none_fresh stamps _ one);
        meetings = λ a b u one other apart meet. absurd (none_fresh stamps _ one);
      };
      once = λ tile part fresh at. absurd (none_fresh stamps tile fresh);
    };
  }
