-- How the nodes of all tiles are stored: in one slab, each under a key that its tile lists.
use Rattle.std.specs.Prelude.{◌≡◌, ◌≢◌, ℕ, List, [], Some, None, Option, AllPairs, Contains, filter_map, slice_get}
use Rattle.slab.specs.Slab.{Slab, ContainsKey, get}
use Rattle.hd_basin.specs.declared.kept.Kept.{Kept}
use Rattle.hd_basin.specs.declared.node.Node.{Node}
use Rattle.hd_basin.specs.declared.part.Part.{Part}

-- the nodes under these keys, in the order of the keys
abbrev pub nodes_under : Slab Node → List ℕ → List Node
nodes_under nodes keys = filter_map (get nodes) keys

-- a tile with the nodes under its keys
abbrev pub part_of : Slab Node → Kept → Part
part_of nodes kept = record { seen = kept.seen; nodes = nodes_under nodes kept.keys.items; labels = kept.labels; joins = kept.joins; seams = kept.seams }

-- under each of these keys stands a node
abbrev pub HaveNodes : Slab Node → List ℕ → Type 0
HaveNodes nodes keys = (key : ℕ) → Contains keys key → ContainsKey nodes key

-- a tile lists the key
pub record IsListed (tiles : List Kept) (key : ℕ) : Type 0 where
  pub tile : ℕ
  pub kept : Kept
  pub at : slice_get tiles tile ≡ Some kept
  pub has : Contains kept.keys.items key

-- under each key that a tile lists stands a node, no key is listed twice, by one tile or by two, and each node stands
-- under a key that is listed
pub record AreStocked (nodes : Slab Node) (tiles : List Kept) : Type 0 where
  pub there : (tile : ℕ) (kept : Kept) → slice_get tiles tile ≡ Some kept → HaveNodes nodes kept.keys.items
  pub once : (tile : ℕ) (kept : Kept) → slice_get tiles tile ≡ Some kept → AllPairs (λ a b. a ≢ b) kept.keys.items
  pub apart : (i j : ℕ) (k l : Kept) (key : ℕ) → slice_get tiles i ≡ Some k → slice_get tiles j ≡ Some l
      → Contains k.keys.items key → Contains l.keys.items key → i ≡ j
  pub listed : (key : ℕ) → ContainsKey nodes key → IsListed tiles key

-- nodes were put under these keys, which were free, and under every other key stands what stood there
pub record ArePut (old new : Slab Node) (keys : List ℕ) (nodes : List Node) : Type 0 where
  pub under : nodes_under new keys ≡ nodes
  pub there : HaveNodes new keys
  pub free : (key : ℕ) → Contains keys key → get old key ≡ None
  pub once : AllPairs (λ a b. a ≢ b) keys
  pub others : (key : ℕ) → (Contains keys key → ⊥) → get new key ≡ get old key

-- the nodes under these keys were taken out, and no others
pub record AreTakenOut (old new : Slab Node) (keys : List ℕ) : Type 0 where
  pub gone : (key : ℕ) → Contains keys key → get new key ≡ None
  pub others : (key : ℕ) → (Contains keys key → ⊥) → get new key ≡ get old key

-- the stamp that a tile was seen with, and none where there is no tile
abbrev pub seen_of : Option Part → Option ℕ
seen_of None = None
seen_of (Some part) = part.seen

-- a tile that was not seen has no nodes and no passes
pub record IsUnseen (part : Part) : Type 0 where
  pub seen : part.seen ≡ None
  pub nodes : part.nodes ≡ []
  pub labels : part.labels.items ≡ []
  pub joins : part.joins ≡ []
  pub seams : part.seams ≡ []
