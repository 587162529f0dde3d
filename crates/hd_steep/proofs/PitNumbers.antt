-- Numbers of pits, as they are written at the indexes of the pits.
use Rattle.std.proofs.Common.{◌≡◌, ◌≢◌, ◌<◌, ◌≤◌, ◌+◌, ◌⊎◌, ℕ, List, length, get_or, set, slice_index, Some, None, inl, inr, refl, sym, ap, ◌∙◌, subst, arith}
use Rattle.std.specs.Option.{option_map}
use Rattle.std.proofs.Math.ListN.{length-set}
use Rattle.std.proofs.lemmas.Bool.{cases_eq, cases_lt}
use Rattle.std.proofs.lemmas.List.{get_or_default, get_or-set_same, get_or-set_other}
use Rattle.std.proofs.lemmas.List.Elements.{Contains-get_or}
use Rattle.std.proofs.lemmas.Option.{slice_get-get_or, slice_get_past}
use Rattle.hd_map.specs.declared.types.Pos.{Pos}
use Rattle.hd_map.specs.declared.types.Rank.{Rank}
use Rattle.hd_map.specs.declared.types.SideName.{SideName}
use Rattle.hd_map.specs.Map.{Map, IsMap, Present, position_at, cell_count}
use Rattle.hd_map.specs.Pruning.{ArePits}
use Rattle.hd_map.specs.Rank.{rank}
use Rattle.hd_map.specs.Region.{IsPit}
use Rattle.hd_map.proofs.Nexts.{root-pit, root-is_pit}
use Rattle.hd_map.proofs.Points.{rank_position, point_inside}
use Rattle.hd_steep.specs.Links.{no_link, AreLinks, IsRootAt}
use Rattle.hd_steep.specs.Numbering.{root_of, AreWrittenAtPits}
use Rattle.hd_steep.proofs.Following.{link_at, way_start, way_end}
use Rattle.hd_steep.proofs.Pits.{rising_apart}

-- the pit of a number
pub root_at : (pits : List Rank) (n : ℕ) (d : Rank) → n < length pits → root_of pits n ≡ Some (get_or pits n d).index
root_at pits n d below = ap (option_map (λ (pit : Rank). pit.index)) (slice_get-get_or pits n d below)

-- a number past the pits has none
pub root_past : (pits : List Rank) (n : ℕ) → length pits ≤ n → root_of pits n ≡ None
root_past pits n past = ap (option_map (λ (pit : Rank). pit.index)) (slice_get_past pits n past)

-- a number that has one is not past them
pub root_below : (pits : List Rank) (n k : ℕ) → root_of pits n ≡ Some k → n < length pits
root_below pits n k is = elim (cases_lt n (length pits)) [
  | inl below ↦ below
  | inr past ↦ absurd (let none = root_past pits n (omega (arith, past)) in cc)
]

module _ (m : Map) (side : SideName) where
  -- what is its own root is a pit
  pub own_pit : (k : ℕ) → IsRootAt m side k k → (p : Rank) × IsPit m side p × (p.index ≡ k)
  own_pit k is = (is.to, root-is_pit m side is.at is.to is.is_root, sym is.root_is)

  -- a pit is its own root
  pub pit_own : (k : ℕ) (p : Rank) → IsPit m side p → p.index ≡ k → IsRootAt m side k k
  pit_own k p pit e = record { at = p; point = pit.point; index_is = sym e; to = p; is_root = root-pit m side p pit; root_is = sym e }

  -- where a point is its own root, its position is that of a pit
  pub own_position : (k : ℕ) → IsRootAt m side k k → Present m (position_at m.size k) × IsPit m side (rank m (position_at m.size k)) × ((rank m (position_at m.size k)).index ≡ k)
  own_position k is =
      let (p, pit, e) = own_pit k is in
      let at : position_at m.size k ≡ pit.point.at = ap (position_at m.size) (sym e) ∙ rank_position m p pit.point.at pit.point.present pit.point.rank_is in
      let same : p ≡ rank m (position_at m.size k) = pit.point.rank_is ∙ ap (rank m) (sym at) in
      (subst (λ (q : Pos). Present m q) (sym at) pit.point.present, subst (IsPit m side) same pit, ap (λ (r : Rank). r.index) (sym same) ∙ e)

  module _ (links : List ℕ) (are_links : AreLinks m side links) where
    -- a pit has its own index as its link
    pub own_stays : (k : ℕ) → IsRootAt m side k k → slice_index links k ≡ k
    own_stays k own =
        let (p, pit, e) = own_pit k own in
        let l = link_at m side links are_links k p pit.point (sym e) in
        l.index_is ∙ ap (λ (r : Rank). r.index) (l.onward.stays.1 pit) ∙ e

    module _ (whole : IsMap m) where
      -- what has its own index as its link is a pit
      pub own_link : (k : ℕ) → k < length links → slice_index links k ≡ k → IsRootAt m side k k
      own_link k inside stays =
          let some : slice_index links k ≡ no_link → ⊥ = λ none. (let long = are_links.whole in let cells = whole.size.cells in omega (arith, inside, long, cells, stays, none)) in
          way_end m side links are_links whole k k (way_start m side links are_links whole k inside some) stays

      -- each index is that of a pit, or not
      pub own_or_not : (k : ℕ) → k < length links → IsRootAt m side k k ⊎ (IsRootAt m side k k → ⊥)
      own_or_not k inside = elim (cases_eq (slice_index links k) k) [
        | inl stays ↦ inl (own_link k inside stays)
        | inr moves ↦ inr (λ own. moves (own_stays k own))
      ]

  -- the pits of lesser number have their numbers, counted from the first one, and what stood at the other indexes stays
  pub record AreNumbersTo (i : ℕ) (pits : List Rank) (first : ℕ) (old new : List ℕ) : Type 0 where
    pub whole : length new ≡ length old
    pub before : (j : ℕ) (d : Rank) → j < i → j < length pits → slice_index new (get_or pits j d).index ≡ first + j
    pub after : (k : ℕ) → ((j : ℕ) (d : Rank) → j < i → j < length pits → (get_or pits j d).index ≢ k) → slice_index new k ≡ slice_index old k

  module _ (pits : List Rank) (are : ArePits m side pits) where
    -- a pit by its number
    pub listed_pit : (j : ℕ) (d : Rank) → j < length pits → IsPit m side (get_or pits j d)
    listed_pit j d inside = (are.exactly (get_or pits j d)).0 (Contains-get_or pits j d inside)

    module _ (first : ℕ) where
      pub numbers_none : (old : List ℕ) → AreNumbersTo 0 pits first old old
      numbers_none old = record { whole = refl; before = λ j d below inside. absurd (omega arith); after = λ k not. refl }

      -- one more pit is numbered
      pub numbers_more : (i : ℕ) (c : Rank) (old new : List ℕ) → i < length pits → length old ≡ cell_count m.size → AreNumbersTo i pits first old new
          → AreNumbersTo (i + 1) pits first old (set new (get_or pits i c).index (first + i))
      numbers_more i c old new here long to =
          let at : ℕ = (get_or pits i c).index in
          let there : at < length new = rw (to.whole, long) (point_inside m (get_or pits i c) (listed_pit i c here).point) in
          record {
            whole = length-set new at (first + i) ∙ to.whole;
            before = λ j d below inside. elim (cases_eq (get_or pits j d).index at) [
              | inl same ↦
                  let e : j ≡ i = rising_apart pits are.in_order j i d inside here (same ∙ ap (λ (r : Rank). r.index) (get_or_default pits i c d here)) in
                  rw (same, get_or-set_same new at (first + i) 0 there) (ap (λ n. first + n) (sym e))
              | inr other ↦
                  let less : j < i = elim (cases_eq j i) [
                    | inl e ↦ absurd (other (ap (λ n. (get_or pits n d).index) e ∙ ap (λ (r : Rank). r.index) (get_or_default pits i d c here)))
                    | inr e ↦ omega (arith, e, below)
                  ] in
                  rw (get_or-set_other new at (get_or pits j d).index (first + i) 0 other) (to.before j d less inside)
            ];
            after = λ k not.
                let other : k ≢ at = λ e. not i c (omega arith) here (sym e) in
                rw (get_or-set_other new at k (first + i) 0 other) (to.after k (λ j d below inside. not j d (omega (arith, below)) inside));
          }

      -- all pits are numbered
      pub numbers_all : (i : ℕ) (old new : List ℕ) → length pits ≤ i → AreNumbersTo i pits first old new → AreWrittenAtPits m side pits first old new
      numbers_all i old new last to = record {
        whole = to.whole;
        own = λ k own.
            let (p, pit, e) = own_pit k own in
            let (j, within, at) = (are.exactly p).1 pit in
            let index : (get_or pits j p).index ≡ k = ap (λ (r : Rank). r.index) at ∙ e in
            (j, ap (slice_index new) (sym index) ∙ to.before j p (omega (arith, within, last)) within, root_at pits j p within ∙ ap Some index);
        other = λ k none. to.after k (λ j d below within e. none (pit_own k (get_or pits j d) (listed_pit j d within) e));
      }
