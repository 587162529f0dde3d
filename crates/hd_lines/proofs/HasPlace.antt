-- The places of owners: a point has the place of the kept pit that owns it.
use Rattle.std.proofs.Common.{◌≡◌, ◌≢◌, ◌<◌, ◌≤◌, ◌∙◌, ℕ, inl, inr, List, [], ◌∷◌, length, get_or, map, slice_get, Some, None, sym, ap, subst, arith}
use Rattle.std.specs.Prelude.{All, AllPairs, Contains, pos}
use Rattle.std.proofs.lemmas.List.{get_or-map, length-map}
use Rattle.std.proofs.lemmas.List.Elements.{Contains-get_or}
use Rattle.std.specs.Option.{option_map}
use Rattle.std.proofs.lemmas.Option.{get_or_from_slice_get, same_Some, slice_get-get_or, slice_get-map, slice_get_within}
use Rattle.hd_map.specs.declared.types.Rank.{Rank}
use Rattle.hd_map.specs.declared.types.SideName.{SideName}
use Rattle.hd_map.specs.Map.{IsMap, Map, cell_count}
use Rattle.hd_map.specs.Passes.{higher_by}
use Rattle.hd_map.specs.Rank.{IsPoint, Near}
use Rattle.hd_map.specs.Region.{IsPit, IsRoot}
use Rattle.hd_map.proofs.Apart.{length-le_from_apart}
use Rattle.hd_map.proofs.Items.{Contains-map, map-Contains}
use Rattle.hd_map.proofs.Nexts.{root-is_pit, root-pit, root-unique}
use Rattle.hd_map.proofs.Points.{Near-from, point_inside}
use Rattle.hd_map.proofs.Prunings.{pits-unique}
use Rattle.hd_map.proofs.Places.{at_place, less_same_more, one_place, place_of as place_in}
use Rattle.hd_prune.specs.declared.step.Kept.{Kept}
use Rattle.hd_prune.specs.declared.step.Owned.{Owned}
use Rattle.hd_prune.specs.declared.step.Step.{Step}
use Rattle.hd_prune.specs.Answer.{IsPruned}
use Rattle.hd_prune.specs.Pruned.{leavings_of, owned_by}
use Rattle.hd_steep.specs.Numbering.{AreNumbered, Numbering}
use Rattle.hd_steep.proofs.Numbered.{number_of_point, numbers_whole, pit_of_point}
use Rattle.hd_prune.proofs.JoinedByPaths.{JoinedBy}
use Rattle.hd_lines.specs.Lines.{IsOwnedBy}
use Rattle.hd_steep.specs.Found.{HasPlace}
use Rattle.hd_lines.specs.Places.{AreOwnerPlaces, IsNumbered}
use Rattle.hd_steep.proofs.Seen.{place-one}
use Rattle.hd_lines.proofs.Owners.{AreOwners, JoinedBy-neighbours, AreOwners-pruned}

-- what has a root is a point
pub IsRoot-point : (m : Map) (side : SideName) (x r : Rank) → IsRoot m side x r → IsPoint m x
IsRoot-point m side x r ([], nexts) = nexts.1.point
IsRoot-point m side x r ((q ∷ path), nexts) = Near-from m x q nexts.0.lower.near

-- the pit of a place
abbrev pub pit_at : List Kept → ℕ → Rank
pit_at kept i = (get_or kept i (record { pit = record { height = pos 0; index = 0 }; nearest = None })).pit

pub pit_at-is : (kept : List Kept) (i : ℕ) (k : Kept) → slice_get kept i ≡ Some k → pit_at kept i ≡ k.pit
pit_at-is kept i k at = ap (λ (z : Kept). z.pit) (get_or_from_slice_get kept i k _ at)

module _ (m : Map) (whole : IsMap m) (side : SideName) (thousandths : ℕ) (steps : List Step) (kept : List Kept) (owners : List Owned) (pruned : IsPruned m side thousandths steps kept owners) where
  pub AreOwners-kept : AreOwners m side pruned.last pruned.owner
  AreOwners-kept = AreOwners-pruned m side thousandths (leavings_of steps) pruned.last pruned.owner pruned.pruning

  -- the kept pits are those of the last set
  pub kept-last : (k : Kept) → Contains kept k → Contains pruned.last k.pit
  kept-last k at = subst (λ (ps : List Rank). Contains ps k.pit) pruned.are_kept.pits (map-Contains (λ (z : Kept). z.pit) kept k at)

  pub last-kept : (p : Rank) → Contains pruned.last p → (i : ℕ) × (k : Kept) × (slice_get kept i ≡ Some k) × (k.pit ≡ p)
  last-kept p at =
      let k = Contains-map (λ (z : Kept). z.pit) kept p (subst (λ (ps : List Rank). Contains ps p) (sym pruned.are_kept.pits) at) in
      let i = place_in kept k.0 k.1 in
      (i.0, k.0, i.1, k.2)

  kept-pit : (k : Kept) → Contains kept k → IsPit m side k.pit
  kept-pit k at = AreOwners-kept.among k.pit (kept-last k at)

  -- they stand in position order
  pub kept-rises : AllPairs (λ a b. a.pit.index < b.pit.index) kept
  kept-rises i j d less inside =
      let pit : Kept → Rank = λ k. k.pit in
      let ordered : AllPairs (λ (a : Rank) (b : Rank). a.index < b.index) (map pit kept) = subst (λ (ps : List Rank). AllPairs (λ (a : Rank) (b : Rank). a.index < b.index) ps)
      (sym pruned.are_kept.pits) AreOwners-kept.in_order in
      let read : (k : ℕ) → k < length kept → get_or (map pit kept) k d.pit ≡ (get_or kept k d).pit = λ k within. get_or-map pit kept k d d.pit within in
      let h = ordered i j d.pit less (subst (λ n. j < n) (sym (length-map kept pit)) inside) in
      subst (λ (a : Rank). a.index < (get_or kept j d).pit.index) (read i (omega arith)) (subst (λ (b : Rank). (get_or (map pit kept) i d.pit).index < b.index) (read j inside) h)

  pub kept-once : AllPairs (λ a b. a.pit.index ≢ b.pit.index) kept
  kept-once i j d less inside e = (let h = kept-rises i j d less inside in omega arith)

  pub kept-few : length kept ≤ 4194304
  kept-few =
      let most = length-le_from_apart (λ (k : Kept). k.pit.index) (cell_count m.size) kept kept-once (λ k at. point_inside m k.pit (kept-pit k at).point) in
      let cells = whole.size.cells in
      omega arith

  -- by place the indexes rise, and the other way round
  pub rises-at : (i j : ℕ) (a b : Kept) → i < j → slice_get kept i ≡ Some a → slice_get kept j ≡ Some b → a.pit.index < b.pit.index
  rises-at i j a b less at_a at_b =
      let h = kept-rises i j a less (slice_get_within kept j b at_b) in
      subst (λ (z : Kept). z.pit.index < b.pit.index) (get_or_from_slice_get kept i a a at_a)
      (subst (λ (z : Kept). (get_or kept i a).pit.index < z.pit.index) (get_or_from_slice_get kept j b a at_b) h)

  pub place-rises : (i j : ℕ) (a b : Kept) → a.pit.index < b.pit.index → slice_get kept i ≡ Some a → slice_get kept j ≡ Some b → i < j
  place-rises i j a b less at_a at_b = elim (less_same_more i j) [
    | inl h ↦ h
    | inr o ↦ elim o [
      | inl e ↦ absurd (let same : a.pit.index ≡ b.pit.index = ap (λ (z : Kept). z.pit.index) (same_Some a b (sym at_a ∙ ap (slice_get kept) e ∙ at_b)) in omega arith)
      | inr more ↦ absurd (let h = rises-at j i b a more at_b at_a in omega arith)
    ]
  ]

  -- each owner is a pit
  owner-pit : (o : Owned) → Contains owners o → IsPit m side o.owner
  owner-pit o at =
      let p = Contains-map (λ (q : Rank). record { pit = q; owner = pruned.owner q }) pruned.pruning.pits o (subst (λ (os : List Owned). Contains os o) pruned.owned at) in
      subst (λ (z : Owned). IsPit m side z.owner) p.2 (AreOwners-kept.among (pruned.owner p.0) (AreOwners-kept.kept_owner p.0 ((pruned.pruning.are_pits.exactly p.0).0 p.1)))

  module _ (regions : Numbering) (numbered : AreNumbered m side regions) where
    -- the pits of the regions stand with their owners, in the same order
    owners-listed : owners ≡ owned_by pruned.owner regions.pits
    owners-listed = pruned.owned ∙ ap (owned_by pruned.owner) (pits-unique m side pruned.pruning.pits regions.pits pruned.pruning.are_pits numbered.pits)

    pub owners-whole : length owners ≡ length regions.pits
    owners-whole = ap length owners-listed ∙ length-map regions.pits (λ (p : Rank). record { pit = p; owner = pruned.owner p })

    number-inside : (x : Rank) → IsPoint m x → x.index < length regions.numbers
    number-inside x point = subst (λ n. x.index < n) (sym (numbers_whole m side regions numbered)) (point_inside m x point)

    pit-numbered : (p : Rank) → IsPit m side p → IsNumbered regions p.index
    pit-numbered p pit = record { inside = number-inside p pit.point; below = (number_of_point m side regions numbered p pit.point).0 }

    pub IsNumbered-kept : All (λ k. IsNumbered regions k.pit.index) kept
    IsNumbered-kept k d inside = pit-numbered (get_or kept k d).pit (kept-pit (get_or kept k d) (Contains-get_or kept k d inside))

    pub IsNumbered-owners : All (λ o. IsNumbered regions o.owner.index) owners
    IsNumbered-owners k d inside = pit-numbered (get_or owners k d).owner (owner-pit (get_or owners k d) (Contains-get_or owners k d inside))

    -- a pit is the one with its number, so two pits have two numbers
    number-pit : (p : Rank) → IsPit m side p → slice_get regions.pits (get_or regions.numbers p.index 0) ≡ Some p
    number-pit p pit = (let found = pit_of_point m side regions numbered p pit.point in found.2 ∙ ap Some (root-unique m side p found.0 p found.1 (root-pit m side p pit)))

    pub kept-numbers : AllPairs (λ a b. get_or regions.numbers a.pit.index 0 ≢ get_or regions.numbers b.pit.index 0) kept
    kept-numbers i j d less inside e =
        let a : Rank = (get_or kept i d).pit in
        let b : Rank = (get_or kept j d).pit in
        let pit : (k : ℕ) → k < length kept → IsPit m side (get_or kept k d).pit = λ k within. kept-pit (get_or kept k d) (Contains-get_or kept k d within) in
        let same : a ≡ b = same_Some a b (sym (number-pit a (pit i (omega arith))) ∙ ap (slice_get regions.pits) e ∙ number-pit b (pit j inside)) in
        kept-once i j d less inside (ap (λ (z : Rank). z.index) same)

    module _ (places : List ℕ) (are : AreOwnerPlaces kept owners regions.numbers places) where
      -- a point has the place of the owner of its root
      place-is : (x r : Rank) (i : ℕ) (k : Kept) → IsPoint m x → IsRoot m side x r → slice_get kept i ≡ Some k → k.pit ≡ pruned.owner r → HasPlace m places x i
      place-is x r i k point root at e =
          let found = pit_of_point m side regions numbered x point in
          let number : ℕ = get_or regions.numbers x.index 0 in
          let same : found.0 ≡ r = root-unique m side x found.0 r found.1 root in
          let owned : slice_get owners number ≡ Some (record { pit = r; owner = pruned.owner r }) =
          ap (λ (os : List Owned). slice_get os number) owners-listed ∙ slice_get-map (λ (p : Rank). record { pit = p; owner = pruned.owner p }) regions.pits number
          ∙ ap (option_map (λ (p : Rank). record { pit = p; owner = pruned.owner p })) (found.2 ∙ ap Some same) in
          record {
            point = point;
            place = are.each x.index number i (record { pit = r; owner = pruned.owner r }) k (slice_get-get_or regions.numbers x.index 0 (number-inside x point)) owned at
                (ap (λ (z : Rank). z.index) e);
          }

      -- and there is one
      pub HasPlace-found : (x : Rank) → IsPoint m x → (i : ℕ) × HasPlace m places x i
      HasPlace-found x point =
          let found = pit_of_point m side regions numbered x point in
          let k = last-kept (pruned.owner found.0) (AreOwners-kept.kept_owner found.0 (root-is_pit m side x found.0 found.1)) in
          (k.0, place-is x found.0 k.0 k.1 point found.1 k.2 k.3)

      -- what has a place is owned by the kept pit there
      pub HasPlace-owner : (x : Rank) (i : ℕ) → HasPlace m places x i → (k : Kept) × (slice_get kept i ≡ Some k) × IsOwnedBy m side pruned.owner x k.pit
      HasPlace-owner x i h =
          let found = pit_of_point m side regions numbered x h.point in
          let k = last-kept (pruned.owner found.0) (AreOwners-kept.kept_owner found.0 (root-is_pit m side x found.0 found.1)) in
          let same : k.0 ≡ i = place-one m places x k.0 i (place-is x found.0 k.0 k.1 h.point found.1 k.2 k.3) h in
          (k.1, subst (λ j. slice_get kept j ≡ Some k.1) same k.2, record { root = found.0; is_root = found.1; owned = sym k.3 })

      pub HasPlace-owned : (x : Rank) (i : ℕ) (k : Kept) → slice_get kept i ≡ Some k → HasPlace m places x i → IsOwnedBy m side pruned.owner x k.pit
      HasPlace-owned x i k at h = (let o = HasPlace-owner x i h in subst (λ (z : Kept). IsOwnedBy m side pruned.owner x z.pit) (same_Some o.0 k (sym o.1 ∙ at)) o.2)

      pub HasPlace-of_owned : (x : Rank) (i : ℕ) (k : Kept) → slice_get kept i ≡ Some k → IsOwnedBy m side pruned.owner x k.pit → HasPlace m places x i
      HasPlace-of_owned x i k at o = place-is x o.root i k (IsRoot-point m side x o.root o.is_root) o.is_root at (sym o.owned)

      -- a kept pit has its own place
      pub HasPlace-own : (i : ℕ) (k : Kept) → slice_get kept i ≡ Some k → HasPlace m places k.pit i
      HasPlace-own i k at =
          let last = kept-last k (at_place kept i k at) in
          let pit = AreOwners-kept.among k.pit last in
          place-is k.pit k.pit i k pit.point (root-pit m side k.pit pit) at (sym (AreOwners-kept.own k.pit last))

      -- neighbours of two places join the pits there
      pub HasPlace-joined : (x y : Rank) (i j : ℕ) → Near m x y → HasPlace m places x i → HasPlace m places y j → i ≢ j → JoinedBy m side (higher_by side x y) (pit_at kept i) (pit_at kept j)
      HasPlace-joined x y i j near h h' apart =
          let a = HasPlace-owner x i h in
          let b = HasPlace-owner y j h' in
          let ra = a.2 in
          let rb = b.2 in
          let different : pruned.owner ra.root ≢ pruned.owner rb.root = λ e. apart
          (one_place (λ (z : Kept). z.pit.index) kept kept-once i j a.0 b.0 a.1 b.1 (ap (λ (z : Rank). z.index) (sym ra.owned ∙ e ∙ rb.owned))) in
          subst (λ (z : Rank). JoinedBy m side (higher_by side x y) z (pit_at kept j)) (ra.owned ∙ sym (pit_at-is kept i a.0 a.1))
          (subst (λ (z : Rank). JoinedBy m side (higher_by side x y) (pruned.owner ra.root) z) (rb.owned ∙ sym (pit_at-is kept j b.0 b.1))
          (JoinedBy-neighbours m side pruned.last pruned.owner AreOwners-kept x y ra.root rb.root near ra.is_root rb.is_root different))
