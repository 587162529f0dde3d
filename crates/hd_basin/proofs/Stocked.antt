-- What stands under keys: how it is read, put in, taken out, and replaced for a tile.
use Rattle.std.proofs.Common.{◌≡◌, ◌≢◌, ◌<◌, ◌+◌, ℕ, zero, suc, ◌⊎◌, inl, inr, List, [], ◌∷◌, ◌++◌, get_or, length, map, set, take, Option, Some, None}
use Rattle.std.proofs.Common.{is_some, IsSome, option_and_then, option_map, slice_get, slice_index_or, refl, sym, ◌∙◌, ap, ap₂, subst, arith}
use Rattle.std.proofs.lemmas.List.{length-map, take_more}
use Rattle.std.specs.Prelude.{All, Contains, AllPairs}
use Rattle.std.specs.List.{cons_option}
use Rattle.std.proofs.lemmas.Bool.{cases_eq, false≢true}
use Rattle.std.proofs.lemmas.List.Elements.{All-contains, All-map, All-weaker, Contains-append_left, Contains-push, Contains-push_cases, filter_map-append}
use Rattle.std.proofs.lemmas.Option.{same_Some, slice_get-map}
use Rattle.hd_map.proofs.Items.{Contains-head, Contains-tail, Contains-cases, Contains-none}
use Rattle.hd_tiles.proofs.Stamping.{slice_get-set_same, slice_get-set_other}
use Rattle.slab.specs.Slab.{Slab, ContainsKey, Updates, get}
use Rattle.hd_basin.specs.declared.kept.Kept.{Kept}
use Rattle.hd_basin.specs.declared.node.Node.{Node}
use Rattle.hd_basin.specs.declared.part.Part.{Part}
use Rattle.hd_basin.specs.Stock.{ArePut, AreStocked, AreTakenOut, HaveNodes, IsListed, IsUnseen, nodes_under, part_of, seen_of}
use Rattle.hd_basin.proofs.FlatLists.{AllPairs-append}
use Rattle.hd_basin.proofs.PointRoots.{read-contains}

some-of : (o : Option Node) → IsSome o → (n : Node) × (o ≡ Some n)
some-of None h = absurd (false≢true h)
some-of (Some n) h = (n, refl)

-- the node under a key that has one
node-there : (nodes : Slab Node) (key : ℕ) → ContainsKey nodes key → (n : Node) × (get nodes key ≡ Some n)
node-there nodes key has = some-of (get nodes key) has

-- a key has a node or none
none-key : (nodes : Slab Node) (key : ℕ) → get nodes key ≡ None → ContainsKey nodes key → ⊥
none-key nodes key none has = false≢true (sym (ap (λ (o : Option Node). is_some o) none) ∙ has)

-- what a key had, it has where the same stands under it
key-kept : (old new : Slab Node) (key : ℕ) → get new key ≡ get old key → ContainsKey old key → ContainsKey new key
key-kept old new key same has = ap (λ (o : Option Node). is_some o) same ∙ has

module _ (nodes : Slab Node) where
  -- there are as many nodes as keys
  under-length : (keys : List ℕ) → HaveNodes nodes keys → length (nodes_under nodes keys) ≡ length keys
  under-length [] have = refl
  under-length (key ∷ keys) have =
      let here = node-there nodes key (have key (Contains-head key keys)) in
      ap (λ (o : Option Node). length (cons_option o (nodes_under nodes keys))) here.1 ∙ ap suc (under-length keys (λ k has. have k (Contains-tail key k keys has)))

  -- and each has the number of its key
  under-get : (keys : List ℕ) → HaveNodes nodes keys → (i : ℕ) → slice_get (nodes_under nodes keys) i ≡ option_and_then (get nodes) (slice_get keys i)
  under-get [] have i = refl
  under-get (key ∷ keys) have zero =
      let here = node-there nodes key (have key (Contains-head key keys)) in
      ap (λ (o : Option Node). slice_get (cons_option o (nodes_under nodes keys)) zero) here.1 ∙ sym here.1
  under-get (key ∷ keys) have (suc i) =
      let here = node-there nodes key (have key (Contains-head key keys)) in
      ap (λ (o : Option Node). slice_get (cons_option o (nodes_under nodes keys)) (suc i)) here.1 ∙ under-get keys (λ k has. have k (Contains-tail key k keys has)) i

-- of a tile that is seen as this part
module _ (nodes : Slab Node) (kept : Kept) (have : HaveNodes nodes kept.keys.items) (part : Part) (view : part_of nodes kept ≡ part) where
  -- there are as many nodes as keys
  pub shown-length : length part.nodes ≡ length kept.keys.items
  shown-length = ap (λ (p : Part). length p.nodes) (sym view) ∙ under-length nodes kept.keys.items have

  -- and each has the number of its key
  pub shown-get : (i : ℕ) → slice_get part.nodes i ≡ option_and_then (get nodes) (slice_get kept.keys.items i)
  shown-get i = ap (λ (p : Part). slice_get p.nodes i) (sym view) ∙ under-get nodes kept.keys.items have i

-- the nodes under keys are the same where the same stands under each of them
under-same : (old new : Slab Node) (keys : List ℕ) → ((key : ℕ) → Contains keys key → get new key ≡ get old key) → nodes_under new keys ≡ nodes_under old keys
under-same old new [] same = refl
under-same old new (key ∷ keys) same =
    ap (λ (o : Option Node). cons_option o (nodes_under new keys)) (same key (Contains-head key keys))
    ∙ ap (cons_option (get old key)) (under-same old new keys (λ k has. same k (Contains-tail key k keys has)))

-- one key more
under-push : (nodes : Slab Node) (keys : List ℕ) (key : ℕ) (n : Node) → get nodes key ≡ Some n → nodes_under nodes (keys ++ key ∷ []) ≡ nodes_under nodes keys ++ n ∷ []
under-push nodes keys key n at = filter_map-append (get nodes) keys (key ∷ []) ∙ ap (λ (o : Option Node). nodes_under nodes keys ++ cons_option o []) at

-- a key is among others or not
contains-or_not : (keys : List ℕ) (key : ℕ) → Contains keys key ⊎ (Contains keys key → ⊥)
contains-or_not [] key = inr (λ has. Contains-none key has)
contains-or_not (k ∷ keys) key = elim (cases_eq key k) [
  | inl same ↦ inl (subst (λ (j : ℕ). Contains (k ∷ keys) j) (sym same) (Contains-head k keys))
  | inr other ↦ elim (contains-or_not keys key) [
    | inl later ↦ inl (Contains-tail k key keys later)
    | inr none ↦ inr (λ has. elim (Contains-cases k key keys has) [ inl e ↦ other e | inr later ↦ none later ])
  ]
]

-- a key that is not among some keys and one more is another one
other-key : (keys : List ℕ) (key k : ℕ) → (Contains (keys ++ key ∷ []) k → ⊥) → k ≢ key
other-key keys key k none same = none (subst (λ (j : ℕ). Contains (keys ++ key ∷ []) j) (sym same) (Contains-push keys key))

-- no node is put in yet
pub put-none : (old new : Slab Node) (keys : List ℕ) → new.slots ≡ old.slots → keys ≡ [] → ArePut old new keys []
put-none old new keys same empty = subst (λ (ks : List ℕ). ArePut old new ks []) (sym empty) (record {
  under = refl;
  there = λ key has. absurd (Contains-none key has);
  free = λ key has. absurd (Contains-none key has);
  once = λ i j d less below. absurd (omega arith);
  others = λ key none. ap (λ (slots : List (Option Node)). slice_index_or slots key None) same;
})

-- one more is
module _ (old mid new : Slab Node) (keys : List ℕ) (nodes : List Node) (key : ℕ) (n : Node) (so_far : ArePut old mid keys nodes) (free : get mid key ≡ None)
    (updates : Updates mid new key (Some n)) where
  apart : (k : ℕ) → Contains keys k → k ≢ key
  apart k has same = none-key mid k (ap (get mid) same ∙ free) (so_far.there k has)

  stays : (k : ℕ) → Contains keys k → get new k ≡ get mid k
  stays k has = updates.others k (apart k has)

  pub put-more : ArePut old new (keys ++ key ∷ []) (nodes ++ n ∷ [])
  put-more = record {
    under = under-push new keys key n updates.changed ∙ ap (λ (ns : List Node). ns ++ n ∷ []) (under-same mid new keys stays ∙ so_far.under);
    there = λ k has. elim (Contains-push_cases keys key k has) [
      | inl early ↦ key-kept mid new k (stays k early) (so_far.there k early)
      | inr same ↦ ap (λ (o : Option Node). is_some o) (ap (get new) (sym same) ∙ updates.changed)
    ];
    free = λ k has. elim (Contains-push_cases keys key k has) [
      | inl early ↦ so_far.free k early
      | inr same ↦ ap (get old) (sym same) ∙ sym (so_far.others key (λ had. apart key had refl)) ∙ free
    ];
    once = AllPairs-append (λ a b. a ≢ b) keys (key ∷ []) so_far.once (λ i j d less below. absurd (omega arith))
        (λ x y before here same. apart x before (elim (Contains-cases key y [] here) [ inl e ↦ same ∙ e | inr none ↦ absurd (Contains-none y none) ]));
    others = λ k none. updates.others k (other-key keys key k none) ∙ so_far.others k (λ has. none (Contains-append_left keys (key ∷ []) k has));
  }

-- the next of some nodes is
pub put-next : (old mid new : Slab Node) (keys all : List ℕ) (nodes : List Node) (i : ℕ) (d : Node) (key : ℕ) → i < length nodes → ArePut old mid keys (take i nodes)
    → get mid key ≡ None → Updates mid new key (Some (get_or nodes i d))
    → all ≡ keys ++ key ∷ [] → ArePut old new all (take (i + 1) nodes)
put-next old mid new keys all nodes i d key inside so_far free updates is =
    subst (λ (ks : List ℕ). ArePut old new ks (take (i + 1) nodes)) (sym is)
    (subst (λ (ns : List Node). ArePut old new (keys ++ key ∷ []) ns) (sym (take_more nodes i d inside)) (put-more old mid new keys (take i nodes) key (get_or nodes i d) so_far free updates))

-- no node is taken out yet
pub out-none : (slab : Slab Node) → AreTakenOut slab slab []
out-none slab = record { gone = λ key has. absurd (Contains-none key has); others = λ key none. refl }

-- one more is
pub out-more : (old mid new : Slab Node) (keys : List ℕ) (key : ℕ) → AreTakenOut old mid keys → Updates mid new key None → AreTakenOut old new (keys ++ key ∷ [])
out-more old mid new keys key so_far updates = record {
  gone = λ k has. elim (cases_eq k key) [
    | inl same ↦ ap (get new) same ∙ updates.changed
    | inr other ↦ updates.others k other ∙ elim (Contains-push_cases keys key k has) [ inl early ↦ so_far.gone k early | inr same ↦ absurd (other (sym same)) ]
  ];
  others = λ k none. updates.others k (other-key keys key k none) ∙ so_far.others k (λ has. none (Contains-append_left keys (key ∷ []) k has));
}

-- two functions that agree on a list map it to one list
map-agree : {X Y : Type 0} (f g : X → Y) (xs : List X) → ((j : ℕ) (x : X) → slice_get xs j ≡ Some x → f x ≡ g x) → map f xs ≡ map g xs
map-agree f g [] agree = refl
map-agree f g (x ∷ xs) agree = ap₂ (λ v vs. v ∷ vs) (agree 0 x refl) (map-agree f g xs (λ j y at. agree (suc j) y at))

-- and where they agree but at one place, which is set
map-set : {X Y : Type 0} (f g : X → Y) (xs : List X) (i : ℕ) (x : X) (y : Y) → f x ≡ y → ((j : ℕ) (z : X) → j ≢ i → slice_get xs j ≡ Some z → f z ≡ g z) → map f (set xs i x) ≡ set (map g xs) i y
map-set f g [] i x y here agree = refl
map-set f g (z ∷ xs) zero x y here agree = ap₂ (λ v vs. v ∷ vs) here (map-agree f g xs (λ j w at. agree (suc j) w (λ e. absurd (omega (arith, e))) at))
map-set f g (z ∷ xs) (suc i) x y here agree = ap₂ (λ v vs. v ∷ vs) (agree 0 z (λ e. absurd (omega (arith, e))) refl)
    (map-set f g xs i x y here (λ j w far at. agree (suc j) w (λ e. far (omega (arith, e))) at))

-- a tile with these nodes
abbrev pub with_nodes : Kept → List Node → Part
with_nodes k ns = record { seen = k.seen; nodes = ns; labels = k.labels; joins = k.joins; seams = k.seams }

-- where the same stands in all slots, the tiles are the same
module _ (old new : Slab Node) (tiles : List Kept) (same : new.slots ≡ old.slots) where
  same-key : (key : ℕ) → get new key ≡ get old key
  same-key key = ap (λ (slots : List (Option Node)). slice_index_or slots key None) same

  pub same-view : map (part_of new) tiles ≡ map (part_of old) tiles
  same-view = map-agree (part_of new) (part_of old) tiles (λ j k at. ap (with_nodes k) (under-same old new k.keys.items (λ key has. same-key key)))

  pub same-stocked : AreStocked old tiles → AreStocked new tiles
  same-stocked was = record {
    there = λ j k at key has. key-kept old new key (same-key key) (was.there j k at key has);
    once = was.once;
    apart = was.apart;
    listed = λ key has. was.listed key (key-kept new old key (sym (same-key key)) has);
  }

-- of a stock that is seen as these parts
module _ (nodes : Slab Node) (tiles : List Kept) (parts : List Part) (view : map (part_of nodes) tiles ≡ parts) where
  -- there are as many tiles as parts
  pub tile-inside : (tile : ℕ) → tile < length parts → tile < length tiles
  tile-inside tile inside = (let count : length parts ≡ length tiles = ap (λ (ps : List Part). length ps) (sym view) ∙ length-map tiles (part_of nodes) in omega (arith, count, inside))

  -- and each has its stamp
  pub seen-stored : (tile : ℕ) → seen_of (slice_get parts tile) ≡ option_and_then (λ (k : Kept). k.seen) (slice_get tiles tile)
  seen-stored tile = ap (λ (ps : List Part). seen_of (slice_get ps tile)) (sym view) ∙ ap seen_of (slice_get-map (part_of nodes) tiles tile) ∙ of (slice_get tiles tile)
    where
      of : (o : Option Kept) → seen_of (option_map (part_of nodes) o) ≡ option_and_then (λ (k : Kept). k.seen) o
      of None = refl
      of (Some k) = refl

-- for one tile its nodes were taken out, after others were put in
module _ (old mid new : Slab Node) (tiles : List Kept) (tile : ℕ) (was kept : Kept) (part : Part) (stocked : AreStocked old tiles) (inside : tile < length tiles) (at : slice_get tiles tile ≡ Some was)
    (put : ArePut old mid kept.keys.items part.nodes) (out : AreTakenOut mid new was.keys.items) where
  abbrev after : List Kept
  after = set tiles tile kept

  here : slice_get after tile ≡ Some kept
  here = slice_get-set_same tiles tile kept inside

  away : (j : ℕ) → j ≢ tile → slice_get after j ≡ slice_get tiles j
  away j far = slice_get-set_other tiles tile j kept far

  -- what is read at the tile is the new one
  new_kept : (j : ℕ) (k : Kept) → j ≡ tile → slice_get after j ≡ Some k → k ≡ kept
  new_kept j k e there = same_Some k kept (sym there ∙ ap (slice_get after) e ∙ here)

  -- a key that a tile listed was not free
  not_free : (j : ℕ) (k : Kept) (key : ℕ) → slice_get tiles j ≡ Some k → Contains k.keys.items key → Contains kept.keys.items key → ⊥
  not_free j k key there before has = none-key old key (put.free key has) (stocked.there j k there key before)

  -- the new nodes stay
  own : (key : ℕ) → Contains kept.keys.items key → get new key ≡ get mid key
  own key has = out.others key (λ before. not_free tile was key at before has)

  -- and those of the other tiles
  others_stay : (j : ℕ) (k : Kept) (key : ℕ) → j ≢ tile → slice_get tiles j ≡ Some k → Contains k.keys.items key → get new key ≡ get old key
  others_stay j k key far there has =
      out.others key (λ before. far (stocked.apart j tile k was key there at has before)) ∙ put.others key (λ among. not_free j k key there has among)

  -- a node that is left stands under a key that is listed
  still_listed : (key : ℕ) → ContainsKey new key → IsListed after key
  still_listed key has = elim (contains-or_not kept.keys.items key) [
    | inl among ↦ record { tile = tile; kept = kept; at = here; has = among }
    | inr none ↦ elim (contains-or_not was.keys.items key) [
      | inl before ↦ absurd (none-key new key (out.gone key before) has)
      | inr not_before ↦ (
          let same : get old key ≡ get new key = sym (out.others key not_before ∙ put.others key none) in
          let l = stocked.listed key (key-kept new old key same has) in
          let far : l.tile ≢ tile = λ e. not_before (subst (λ (k : Kept). Contains k.keys.items key) (same_Some l.kept was (sym l.at ∙ ap (slice_get tiles) e ∙ at)) l.has) in
          record { tile = l.tile; kept = l.kept; at = away l.tile far ∙ l.at; has = l.has })
    ]
  ]

  pub replaced-stocked : AreStocked new after
  replaced-stocked = record {
    there = λ j k there key has. elim (cases_eq j tile) [
      | inl e ↦ (let among : Contains kept.keys.items key = subst (λ (x : Kept). Contains x.keys.items key) (new_kept j k e there) has in key-kept mid new key (own key among) (put.there key among))
      | inr far ↦ (let before : slice_get tiles j ≡ Some k = sym (away j far) ∙ there in key-kept old new key (others_stay j k key far before has) (stocked.there j k before key has))
    ];
    once = λ j k there. elim (cases_eq j tile) [
      | inl e ↦ subst (λ (x : Kept). AllPairs (λ a b. a ≢ b) x.keys.items) (sym (new_kept j k e there)) put.once
      | inr far ↦ stocked.once j k (sym (away j far) ∙ there)
    ];
    apart = λ i j k l key one other has had. elim (cases_eq i tile) [
      | inl e ↦ elim (cases_eq j tile) [
        | inl f ↦ e ∙ sym f
        | inr far ↦ absurd (not_free j l key (sym (away j far) ∙ other) had (subst (λ (x : Kept). Contains x.keys.items key) (new_kept i k e one) has))
      ]
      | inr far ↦ elim (cases_eq j tile) [
        | inl f ↦ absurd (not_free i k key (sym (away i far) ∙ one) has (subst (λ (x : Kept). Contains x.keys.items key) (new_kept j l f other) had))
        | inr apart ↦ stocked.apart i j k l key (sym (away i far) ∙ one) (sym (away j apart) ∙ other) has had
      ]
    ];
    listed = still_listed;
  }

  -- the tile's part has the new nodes, and those of the other tiles are as they were
  pub replaced-view : map (part_of new) after ≡ set (map (part_of old) tiles) tile (with_nodes kept part.nodes)
  replaced-view = map-set (part_of new) (part_of old) tiles tile kept (with_nodes kept part.nodes)
      (ap (with_nodes kept) (under-same mid new kept.keys.items own ∙ put.under))
      (λ j k far there. ap (with_nodes k) (under-same old new k.keys.items (λ key has. others_stay j k key far there has)))

-- what is stored of a tile that was not seen
pub record IsBlank (kept : Kept) : Type 0 where
  pub seen : kept.seen ≡ None
  pub keys : kept.keys.items ≡ []
  pub labels : kept.labels.items ≡ []
  pub joins : kept.joins ≡ []
  pub seams : kept.seams ≡ []

module _ (nodes : Slab Node) (tiles : List Kept) (blank : All IsBlank tiles) where
  lists_none : (tile : ℕ) (kept : Kept) (key : ℕ) → slice_get tiles tile ≡ Some kept → Contains kept.keys.items key → ⊥
  lists_none tile kept key at has = Contains-none key (subst (λ (ks : List ℕ). Contains ks key) (All-contains IsBlank tiles kept blank (read-contains tiles tile kept at)).keys has)

  -- no node stands in an empty slab, and no tile lists a key
  pub blank-stocked : nodes.slots ≡ [] → AreStocked nodes tiles
  blank-stocked empty = record {
    there = λ tile kept at key has. absurd (lists_none tile kept key at has);
    once = λ tile kept at. subst (λ (ks : List ℕ). AllPairs (λ a b. a ≢ b) ks) (sym (All-contains IsBlank tiles kept blank (read-contains tiles tile kept at)).keys)
        (λ i j d less below. absurd (omega arith));
    apart = λ i j k l key at there has had. absurd (lists_none i k key at has);
    listed = λ key has. absurd (none-key nodes key (ap (λ (slots : List (Option Node)). slice_index_or slots key None) empty) has);
  }

  pub blank-unseen : All IsUnseen (map (part_of nodes) tiles)
  blank-unseen = All-map IsUnseen (part_of nodes) tiles (All-weaker IsBlank (λ k. IsUnseen (part_of nodes k))
      (λ k b. record { seen = b.seen; nodes = ap (nodes_under nodes) b.keys; labels = b.labels; joins = b.joins; seams = b.seams }) tiles blank)
