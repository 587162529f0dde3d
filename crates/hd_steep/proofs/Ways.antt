-- Ways down that pass over some of the nexts.
use Rattle.std.proofs.Common.{◌≡◌, ◌<◌, ℕ, true, inl, inr, ap, ◌∙◌, sym, subst}
use Rattle.std.proofs.lemmas.Bool.{cases_eq}
use Rattle.hd_map.specs.declared.types.Pos.{Pos}
use Rattle.hd_map.specs.declared.types.Rank.{Rank}
use Rattle.hd_map.specs.declared.types.SideName.{SideName}
use Rattle.hd_map.specs.Map.{Map, IsMap, Present, position_at}
use Rattle.hd_map.specs.Rank.{rank, below_by, IsPoint}
use Rattle.hd_map.specs.Region.{IsNext, IsPit, IsRoot}
use Rattle.hd_map.specs.SideLaws.{below_by-order}
use Rattle.hd_map.proofs.Order.{below-apart}
use Rattle.hd_map.proofs.Points.{Near-to, same_index, position_at-of}
use Rattle.hd_map.proofs.Depth.{depth_by, depth_falls}
use Rattle.hd_map.proofs.Nexts.{root-pit, root-step, root-next, root-is_pit, root-unique, root-of_pit, root-below}
use Rattle.hd_steep.specs.Links.{IsOnward}

module _ (m : Map) (side : SideName) where
  -- the next is onward
  pub onward-next : (p q : Rank) → IsNext m side p q → IsOnward m side p q
  onward-next p q n = record {
    point = Near-to m p q n.lower.near;
    same_root = λ r. (root-next m side p q r n, root-step m side p q r n);
    below = λ other. n.lower.below;
    stays = (λ e. absurd (below-apart (below_by side) (below_by-order side) q p n.lower.below e), λ pit. absurd (pit.alone q n.lower));
  }

  -- the root is onward
  pub onward-root : (p r : Rank) → IsRoot m side p r → IsOnward m side p r
  onward-root p r root =
      let pit = root-is_pit m side p r root in
      let own = root-pit m side r pit in
      record {
        point = pit.point;
        same_root = λ s. (λ h. subst (λ (t : Rank). IsRoot m side r t) (root-unique m side p r s root h) own, λ h. subst (λ (t : Rank). IsRoot m side p t) (root-unique m side r r s own h) root);
        below = λ other. elim (root-below m side p r root) [ inl e ↦ absurd (other e) | inr h ↦ h ];
        stays = (λ e. subst (λ (t : Rank). IsPit m side t) e pit, λ is. root-of_pit m side p r is root);
      }

  -- onward from a point, and then onward again
  pub onward-trans : (p q r : Rank) → IsPoint m p → IsOnward m side p q → IsOnward m side q r → IsOnward m side p r
  onward-trans p q r point one two = elim (cases_eq q.index p.index) [
    | inl e ↦ subst (λ (s : Rank). IsOnward m side s r) (same_index m q p one.point point e) two
    | inr e ↦
        let laws = below_by-order side in
        let lower : below_by side q p ≡ true = one.below (λ same. e (ap (λ (s : Rank). s.index) same)) in
        let falls : below_by side r p ≡ true = elim (cases_eq r.index q.index) [
          | inl f ↦ subst (λ (s : Rank). below_by side s p ≡ true) (sym (same_index m r q two.point one.point f)) lower
          | inr f ↦ laws.transitive r q p (two.below (λ same. f (ap (λ (s : Rank). s.index) same))) lower
        ] in
        record {
          point = two.point;
          same_root = λ s. (λ h. (two.same_root s).0 ((one.same_root s).0 h), λ h. (one.same_root s).1 ((two.same_root s).1 h));
          below = λ other. falls;
          stays = (
            λ same. absurd (below-apart (below_by side) laws r p falls same),
            λ pit. absurd (below-apart (below_by side) laws q p lower (one.stays.1 pit)),
          );
        }
  ]

  -- the depth at an index
  abbrev pub depth_at : ℕ → ℕ
  depth_at k = depth_by side (rank m (position_at m.size k))

  -- the depth at the index of a point is its own
  depth_at-of : (p : Rank) → IsPoint m p → depth_at p.index ≡ depth_by side p
  depth_at-of p point =
      let e : position_at m.size p.index ≡ point.at = ap (λ (r : Rank). position_at m.size r.index) point.rank_is ∙ position_at-of m.size point.at point.present.in_grid in
      ap (λ (q : Pos). depth_by side (rank m q)) e ∙ ap (depth_by side) (sym point.rank_is)

  -- the index of a point onward is less deep, unless it is the point itself
  pub onward-falls : (p q : Rank) (k next : ℕ) → IsMap m → IsPoint m p → IsOnward m side p q → k ≡ p.index → next ≡ q.index → (q ≡ p → ⊥) → depth_at next < depth_at k
  onward-falls p q k next whole point onward e f other =
      rw (e, f, depth_at-of q onward.point, depth_at-of p point) (depth_falls m side q p whole onward.point point (onward.below other))

  -- a present point on the way from p to its root
  pub record IsWalk (p q : Pos) : Type 0 where
    pub present : Present m q
    pub onward : (r : Rank) → IsRoot m side (rank m q) r → IsRoot m side (rank m p) r

  -- a walk goes on to the next
  pub walk_step : (p q s : Pos) → IsWalk p q → Present m s → IsNext m side (rank m q) (rank m s) → IsWalk p s
  walk_step p q s walk there n = record { present = there; onward = λ r root. walk.onward r (root-step m side (rank m q) (rank m s) r n root) }
