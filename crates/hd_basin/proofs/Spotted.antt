-- Nodes by their tiles and numbers, and their places among all.
use Rattle.std.proofs.Common.{◌≡◌, ◌<◌, ◌+◌, ◌++◌, ◌∙◌, ℕ, List, [], ◌∷◌, length, length-append, get_or, take, Option, Some, None, refl, sym, ap, subst, arith, slice_get}
use Rattle.std.specs.Prelude.{Contains}
use Rattle.std.proofs.lemmas.Grind.{get_or_default_zero}
use Rattle.std.proofs.lemmas.List.Concat.{get_or-flat_map}
use Rattle.std.proofs.lemmas.List.Folds.{length-flat_map-take}
use Rattle.std.proofs.lemmas.Option.{get_or_from_slice_get, slice_get-get_or, slice_get_within}
use Rattle.hd_basin.specs.declared.node.Node.{Node}
use Rattle.hd_basin.specs.declared.part.Part.{Part}
use Rattle.hd_basin.specs.declared.spot.Spot.{Spot}
use Rattle.hd_basin.specs.Extents.{nodes_in}
use Rattle.hd_basin.specs.Parts.{HasNode}
use Rattle.hd_basin.specs.Roots.{AreFirsts, all_nodes, nodes_before}
use Rattle.hd_basin.specs.Spots.{IsSpot, node_in, node_named, place_of_node}
use Rattle.hd_basin.proofs.FlatLists.{Contains-flat, flat-Contains, flat-more}
use Rattle.hd_basin.proofs.PointRoots.{read-contains}

-- the tile of a node that is there
part-named : (o : Option Part) (k : ℕ) (n : Node) → node_in o k ≡ Some n → (part : Part) × (o ≡ Some part) × (slice_get part.nodes k ≡ Some n)
part-named None k n e = absurd cc
part-named (Some part) k n e = (part, refl, e)

module _ (parts : List Part) (tile number : ℕ) (part : Part) (n : Node) (at : slice_get parts tile ≡ Some part) (has : slice_get part.nodes number ≡ Some n) where
  -- the node of a number in a tile, at its place
  pub place-has : slice_get (all_nodes parts) (nodes_before parts tile + number) ≡ Some n
  place-has =
      let inside : tile < length parts = slice_get_within parts tile part at in
      let item : get_or parts tile part ≡ part = get_or_from_slice_get parts tile part part at in
      let below : number < length part.nodes = slice_get_within part.nodes number n has in
      let below' : number < length (nodes_in (get_or parts tile part)) = subst (λ (p : Part). number < length p.nodes) (sym item) below in
      let read : get_or (all_nodes parts) (nodes_before parts tile + number) n ≡ get_or (nodes_in (get_or parts tile part)) number n =
      get_or-flat_map nodes_in parts tile number part n inside below' in
      let room = length-flat_map-take nodes_in parts tile part inside in
      slice_get-get_or (all_nodes parts) (nodes_before parts tile + number) n (omega (arith, room, below'))
      ∙ ap (λ (u : Node). Some u) (read ∙ ap (λ (p : Part). get_or p.nodes number n) item ∙ get_or_from_slice_get part.nodes number n n has)

-- the tile after has as many nodes more before it as the tile has
pub before-more : (parts : List Part) (tile : ℕ) (part : Part) → slice_get parts tile ≡ Some part → nodes_before parts (tile + 1) ≡ nodes_before parts tile + length part.nodes
before-more parts tile part at =
    let inside : tile < length parts = slice_get_within parts tile part at in
    let piece : part.nodes ≡ nodes_in (get_or parts tile part) = ap (λ (p : Part). p.nodes) (sym (get_or_from_slice_get parts tile part part at)) in
    let flat : all_nodes (take tile parts) ++ part.nodes ≡ all_nodes (take (tile + 1) parts) =
    flat-more nodes_in [] (all_nodes (take tile parts)) (all_nodes (take tile parts) ++ part.nodes) parts tile part part.nodes inside piece refl refl in
    ap length (sym flat) ∙ length-append (all_nodes (take tile parts)) part.nodes

module _ (parts : List Part) (s : Spot) (n : Node) (is : node_named parts s ≡ Some n) where
  pub spot-part : (part : Part) × (slice_get parts s.tile ≡ Some part) × (slice_get part.nodes s.number ≡ Some n)
  spot-part = part-named (slice_get parts s.tile) s.number n is

  pub spot-had : HasNode parts s.tile n
  spot-had = (let p = spot-part in record { part = p.0; at = p.1; has = read-contains p.0.nodes s.number n p.2 })

  pub spot-place : slice_get (all_nodes parts) (place_of_node parts s) ≡ Some n
  spot-place = (let p = spot-part in place-has parts s.tile s.number p.0 n p.1 p.2)

-- what is at a place is a node of a tile, and each such node is at a place
pub place-had : (parts : List Part) (place : ℕ) (n : Node) → slice_get (all_nodes parts) place ≡ Some n → (tile : ℕ) × HasNode parts tile n
place-had parts place n at =
    let f = Contains-flat nodes_in parts n (read-contains (all_nodes parts) place n at) in
    (f.0, record { part = f.1; at = f.2; has = f.3 })

pub all-listed : (parts : List Part) (tile : ℕ) (n : Node) → HasNode parts tile n → Contains (all_nodes parts) n
all-listed parts tile n h = flat-Contains nodes_in parts tile h.part n h.at h.has

-- where the first node of a tile is read
pub first-read : (parts : List Part) (firsts : List ℕ) → AreFirsts parts firsts → (tile x : ℕ) → tile < length parts → x ≡ get_or firsts tile x → x ≡ nodes_before parts tile
first-read parts firsts are tile x inside read = read ∙ get_or_default_zero firsts tile x (subst (λ n. tile < n) (sym are.whole) inside) ∙ are.each tile inside

pub spot-read : (parts : List Part) (firsts : List ℕ) → AreFirsts parts firsts → (s : Spot) (n : Node) → node_named parts s ≡ Some n → (x : ℕ) → x ≡ get_or firsts s.tile x
    → x + s.number ≡ place_of_node parts s
spot-read parts firsts are s n is x read =
    let p = spot-part parts s n is in
    ap (λ k. k + s.number) (first-read parts firsts are s.tile x (slice_get_within parts s.tile p.0 p.1) read)

-- the number of a node is read in the list of all
pub spot-inside : (parts : List Part) (s : Spot) (n : Node) → node_named parts s ≡ Some n → place_of_node parts s < length (all_nodes parts)
spot-inside parts s n is = slice_get_within (all_nodes parts) (place_of_node parts s) n (spot-place parts s n is)

-- there is a node of each number below a tile's count
pub named-of : (parts : List Part) (tile number : ℕ) (part : Part) → slice_get parts tile ≡ Some part → number < length part.nodes → IsSpot parts (record { tile = tile; number = number })
named-of parts tile number part at below = node-of part.nodes below (λ n e. ap (λ (o : Option Part). node_in o number) at ∙ e)
  where
    node-of : (nodes : List Node) → number < length nodes → ((n : Node) → slice_get nodes number ≡ Some n → node_in (slice_get parts tile) number ≡ Some n)
        → IsSpot parts (record { tile = tile; number = number })
    node-of [] less read = absurd (omega arith)
    node-of (n ∷ nodes) less read = (get_or (n ∷ nodes) number n, read (get_or (n ∷ nodes) number n) (slice_get-get_or (n ∷ nodes) number n less))
