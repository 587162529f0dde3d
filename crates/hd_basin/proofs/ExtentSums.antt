-- The sums of two sets together that share no member.
use Rattle.std.proofs.Common.{◌<◌, ◌≤◌, ℕ, ℤ, length, get_or, Option, Some, None, inl, inr, sym, subst, arith}
use Rattle.std.specs.Prelude.{◌↔◌, MatchOption}
use Rattle.std.proofs.lemmas.List.Elements.{Contains-get_or}
use Rattle.hd_map.specs.declared.types.Rank.{Rank}
use Rattle.hd_map.specs.Map.{Map, IsMap, most_cells}
use Rattle.hd_map.specs.Rank.{IsPoint}
use Rattle.hd_map.proofs.Apart.{length-le_from_apart}
use Rattle.hd_map.proofs.Depth.{point_limits}
use Rattle.hd_map.proofs.Points.{same_index}
use Rattle.hd_basin.specs.declared.extent.Extent.{Extent}
use Rattle.hd_basin.specs.declared.node.Node.{Node}
use Rattle.hd_basin.specs.Adding.{IsGreater, IsLesser}
use Rattle.hd_basin.specs.Extents.{IsOfBoth, JoinsBasin}
use Rattle.hd_map.specs.Sums.{IsCount, IsGreatest, IsLeast, EdgeMember, AreSums}
use Rattle.hd_basin.proofs.Sums.{Either, count-merge, greatest-first, greatest-second, least-first, least-second, greatest-by, least-by}

-- the least height of edge points, and the greatest, where there are such points
abbrev EdgeLow : (Rank → Type 0) → (Rank → Type 0) → Option ℤ → Type 0
EdgeLow Member Edge o = MatchOption o ((r : Rank) → EdgeMember Member Edge r → ⊥) (IsLeast (EdgeMember Member Edge))

abbrev EdgeHigh : (Rank → Type 0) → (Rank → Type 0) → Option ℤ → Type 0
EdgeHigh Member Edge o = MatchOption o ((r : Rank) → EdgeMember Member Edge r → ⊥) (IsGreatest (EdgeMember Member Edge))

-- of the same members the sums are the same
module _ (P Q Edge : Rank → Type 0) (same : (x : Rank) → P x ↔ Q x) where
  edges-by : (x : Rank) → EdgeMember P Edge x ↔ EdgeMember Q Edge x
  edges-by x = (λ e. ((same x).0 e.0, e.1), λ e. ((same x).1 e.0, e.1))

  edge_low-by : (o : Option ℤ) → EdgeLow P Edge o → EdgeLow Q Edge o
  edge_low-by None none = λ x e. none x ((edges-by x).1 e)
  edge_low-by (Some h) least = least-by (EdgeMember P Edge) (EdgeMember Q Edge) edges-by h least

  edge_high-by : (o : Option ℤ) → EdgeHigh P Edge o → EdgeHigh Q Edge o
  edge_high-by None none = λ x e. none x ((edges-by x).1 e)
  edge_high-by (Some h) greatest = greatest-by (EdgeMember P Edge) (EdgeMember Q Edge) edges-by h greatest

  pub sums-by : (n : ℕ) (high least : ℤ) (edge_low edge_high : Option ℤ) → AreSums P Edge n high least edge_low edge_high → AreSums Q Edge n high least edge_low edge_high
  sums-by n high least edge_low edge_high sums = record {
    counted = record {
      ranks = sums.counted.ranks;
      lists = record { all = λ r. (λ c. (same r).0 ((sums.counted.lists.all r).0 c), λ q. (sums.counted.lists.all r).1 ((same r).1 q)); once = sums.counted.lists.once };
      count_is = sums.counted.count_is;
    };
    highest = greatest-by P Q same high sums.highest;
    lowest = least-by P Q same least sums.lowest;
    lowest_edge = edge_low-by edge_low sums.lowest_edge;
    highest_edge = edge_high-by edge_high sums.highest_edge;
  }

-- the greater of the greatest heights, and the lesser of the least
greatest-both : (A B : Rank → Type 0) (g h c : ℤ) → IsGreatest A g → IsGreatest B h → IsGreater g h c → IsGreatest (Either A B) c
greatest-both A B g h c one other greater = elim greater [
  | inl e ↦ subst (IsGreatest (Either A B)) (sym e.0) (greatest-first A B g h one other e.1)
  | inr e ↦ subst (IsGreatest (Either A B)) (sym e.0) (greatest-second A B g h one other e.1)
]

least-both : (A B : Rank → Type 0) (g h c : ℤ) → IsLeast A g → IsLeast B h → IsLesser g h c → IsLeast (Either A B) c
least-both A B g h c one other lesser = elim lesser [
  | inl e ↦ subst (IsLeast (Either A B)) (sym e.0) (least-first A B g h one other e.1)
  | inr e ↦ subst (IsLeast (Either A B)) (sym e.0) (least-second A B g h one other e.1)
]

module _ (A B Edge : Rank → Type 0) (apart : (r : Rank) → A r → B r → ⊥) where
  -- an edge point of one of the two sets
  both-edges : (x : Rank) → Either (EdgeMember A Edge) (EdgeMember B Edge) x ↔ EdgeMember (Either A B) Edge x
  both-edges x = (
    λ h. elim h [ inl a ↦ (inl a.0, a.1) | inr b ↦ (inr b.0, b.1) ],
    λ e. elim (e.0) [ inl a ↦ inl (a, e.1) | inr b ↦ inr (b, e.1) ],
  )

  only-first : ((r : Rank) → EdgeMember B Edge r → ⊥) → (x : Rank) → EdgeMember A Edge x ↔ EdgeMember (Either A B) Edge x
  only-first none x = (λ a. (inl a.0, a.1), λ e. elim (e.0) [ inl a ↦ (a, e.1) | inr b ↦ absurd (none x (b, e.1)) ])

  only-second : ((r : Rank) → EdgeMember A Edge r → ⊥) → (x : Rank) → EdgeMember B Edge x ↔ EdgeMember (Either A B) Edge x
  only-second none x = (λ b. (inr b.0, b.1), λ e. elim (e.0) [ inl a ↦ absurd (none x (a, e.1)) | inr b ↦ (b, e.1) ])

  no-edges : ((r : Rank) → EdgeMember A Edge r → ⊥) → ((r : Rank) → EdgeMember B Edge r → ⊥) → (x : Rank) → EdgeMember (Either A B) Edge x → ⊥
  no-edges one other x e = elim (e.0) [ inl a ↦ one x (a, e.1) | inr b ↦ other x (b, e.1) ]

  edge_low-both : (o p q : Option ℤ) → IsOfBoth IsLesser o p q → EdgeLow A Edge o → EdgeLow B Edge p → EdgeLow (Either A B) Edge q
  edge_low-both None None q e one other = subst (EdgeLow (Either A B) Edge) (sym e) (no-edges one other)
  edge_low-both None (Some b) q e one other = subst (EdgeLow (Either A B) Edge) (sym e) (least-by (EdgeMember B Edge) (EdgeMember (Either A B) Edge) (only-second one) b other)
  edge_low-both (Some a) None q e one other = subst (EdgeLow (Either A B) Edge) (sym e) (least-by (EdgeMember A Edge) (EdgeMember (Either A B) Edge) (only-first other) a one)
  edge_low-both (Some a) (Some b) None e one other = absurd e
  edge_low-both (Some a) (Some b) (Some c) e one other = least-by (Either (EdgeMember A Edge) (EdgeMember B Edge)) (EdgeMember (Either A B) Edge) both-edges c
      (least-both (EdgeMember A Edge) (EdgeMember B Edge) a b c one other e)

  edge_high-both : (o p q : Option ℤ) → IsOfBoth IsGreater o p q → EdgeHigh A Edge o → EdgeHigh B Edge p → EdgeHigh (Either A B) Edge q
  edge_high-both None None q e one other = subst (EdgeHigh (Either A B) Edge) (sym e) (no-edges one other)
  edge_high-both None (Some b) q e one other = subst (EdgeHigh (Either A B) Edge) (sym e) (greatest-by (EdgeMember B Edge) (EdgeMember (Either A B) Edge) (only-second one) b other)
  edge_high-both (Some a) None q e one other = subst (EdgeHigh (Either A B) Edge) (sym e) (greatest-by (EdgeMember A Edge) (EdgeMember (Either A B) Edge) (only-first other) a one)
  edge_high-both (Some a) (Some b) None e one other = absurd e
  edge_high-both (Some a) (Some b) (Some c) e one other = greatest-by (Either (EdgeMember A Edge) (EdgeMember B Edge)) (EdgeMember (Either A B) Edge) both-edges c
      (greatest-both (EdgeMember A Edge) (EdgeMember B Edge) a b c one other e)

  pub sums-both : (old new : Extent) (n : Node) → JoinsBasin old n new → AreSums A Edge old.points old.high old.least old.edge_low old.edge_high
      → AreSums B Edge n.points n.high n.least n.edge_low n.edge_high → AreSums (Either A B) Edge new.points new.high new.least new.edge_low new.edge_high
  sums-both old new n joins one other = record {
    counted = subst (IsCount (Either A B)) (sym joins.points) (count-merge A B apart old.points n.points one.counted other.counted);
    highest = greatest-both A B old.high n.high new.high one.highest other.highest joins.high;
    lowest = least-both A B old.least n.least new.least one.lowest other.lowest joins.least;
    lowest_edge = edge_low-both old.edge_low n.edge_low new.edge_low joins.edge_low one.lowest_edge other.lowest_edge;
    highest_edge = edge_high-both old.edge_high n.edge_high new.edge_high joins.edge_high one.highest_edge other.highest_edge;
  }

-- there are no more members than a map may have points
pub count-few : (m : Map) (Member : Rank → Type 0) (n : ℕ) → IsMap m → ((r : Rank) → Member r → IsPoint m r) → IsCount Member n → n ≤ most_cells
count-few m Member n whole points count =
    let few = length-le_from_apart (λ (r : Rank). r.index) most_cells count.ranks
    (λ i j d less below same. (
    let x : Rank = get_or count.ranks i d in
    let y : Rank = get_or count.ranks j d in
    let early : i < length count.ranks = omega arith in
    count.lists.once i j d less below (same_index m x y (points x ((count.lists.all x).0 (Contains-get_or count.ranks i d early)))
    (points y ((count.lists.all y).0 (Contains-get_or count.ranks j d below))) same)))
    (λ r at. (point_limits m r whole (points r ((count.lists.all r).0 at))).index) in
    subst (λ k. k ≤ most_cells) (sym count.count_is) few
