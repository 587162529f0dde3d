-- The kept pits and the owners of all pits determine the list of border lines.
use Rattle.std.proofs.Common.{◌≡◌, ◌<◌, ◌⊎◌, ◌∙◌, ℕ, Bool, true, false, inl, inr, List, refl, sym, subst, arith}
use Rattle.std.specs.Prelude.{◌↔◌, Contains}
use Rattle.hd_map.specs.declared.types.Rank.{Rank}
use Rattle.hd_map.specs.declared.types.SideName.{SideName}
use Rattle.hd_map.specs.Map.{Map}
use Rattle.hd_map.specs.Region.{IsPit}
use Rattle.hd_map.specs.Saddle.{IsSaddle}
use Rattle.hd_map.proofs.Nexts.{root-is_pit}
use Rattle.hd_map.proofs.Trees.{same_in_order}
use Rattle.hd_lines.specs.declared.line.BorderLine.{BorderLine}
use Rattle.hd_steep.specs.Pairs.{AreCounted, IsAcross, Pair}
use Rattle.hd_lines.specs.Lines.{AreBorderLines, IsBorderLine, IsOwnedBy}
use Rattle.hd_steep.proofs.Counted.{counted-as, counted-unique}

-- a test is determined by what it tells
same_test : (b c : Bool) → ((b ≡ true) ↔ (c ≡ true)) → b ≡ c
same_test true c h = sym (h.0 refl)
same_test false true h = h.1 refl
same_test false false h = refl

same_line : (a b v c d w : Rank) (n k : ℕ) (s t : Bool) → a ≡ c → b ≡ d → n ≡ k → v ≡ w → s ≡ t
    → ◌≡◌ {A = BorderLine} (record { a = a; b = b; pairs = n; pass = v; on_saddle = s }) (record { a = c; b = d; pairs = k; pass = w; on_saddle = t })
same_line a b v c d w n k s t e f g h i = cc

-- of two pairs of numbers one alone comes before the other
one_way : (i j k l : ℕ) → (i < k) ⊎ ((i ≡ k) × (j < l)) → (k < i) ⊎ ((k ≡ i) × (l < j)) → ⊥
one_way i j k l (inl p) (inl q) = omega arith
one_way i j k l (inl p) (inr q) = omega (arith, q.0)
one_way i j k l (inr p) (inl q) = omega (arith, p.0)
one_way i j k l (inr p) (inr q) = omega (arith, p.1, q.1)

module _ (m : Map) (side : SideName) (kept : List Rank) where
  -- owners that agree on the pits own the same points
  owned-as : (mine yours : Rank → Rank) → ((r : Rank) → IsPit m side r → mine r ≡ yours r) → (x a : Rank) → IsOwnedBy m side mine x a → IsOwnedBy m side yours x a
  owned-as mine yours agree x a h = record { root = h.root; is_root = h.is_root; owned = sym (agree h.root (root-is_pit m side x h.root h.is_root)) ∙ h.owned }

  across-as : (mine yours : Rank → Rank) → ((r : Rank) → IsPit m side r → mine r ≡ yours r) → (a b : Rank) (p : Pair) → IsAcross m (IsOwnedBy m side mine) a b p
      → IsAcross m (IsOwnedBy m side yours) a b p
  across-as mine yours agree a b p h = record { near = h.near; from_in = owned-as mine yours agree p.from a h.from_in; to_in = owned-as mine yours agree p.to b h.to_in }

  saddle-along : (a b s c d t : Rank) → a ≡ c → b ≡ d → s ≡ t → IsSaddle m side a b s → IsSaddle m side c d t
  saddle-along a b s c d t e f g h = subst (λ (z : Rank). IsSaddle m side z d t) e (subst (λ (z : Rank). IsSaddle m side a z t) f (subst (λ (z : Rank). IsSaddle m side a b z) g h))

  -- two kept pits have one border line
  border_line-determined : (owner : Rank → Rank) (x y : BorderLine) → IsBorderLine m side kept owner x → IsBorderLine m side kept owner y → x.a ≡ y.a → x.b ≡ y.b → x ≡ y
  border_line-determined owner x y h k a b =
      let counted : AreCounted side (IsAcross m (IsOwnedBy m side owner) x.a x.b) y.pairs y.pass =
      subst (λ (z : Rank). AreCounted side (IsAcross m (IsOwnedBy m side owner) z x.b) y.pairs y.pass) (sym a)
      (subst (λ (z : Rank). AreCounted side (IsAcross m (IsOwnedBy m side owner) y.a z) y.pairs y.pass) (sym b) k.pairs) in
      let same = counted-unique side (IsAcross m (IsOwnedBy m side owner) x.a x.b) x.pairs y.pairs x.pass y.pass h.pairs counted in
      same_line x.a x.b x.pass y.a y.b y.pass x.pairs y.pairs x.on_saddle y.on_saddle a b same.0 same.1 (same_test x.on_saddle y.on_saddle (
        λ e. k.on_saddle.1 (saddle-along x.a x.b x.pass y.a y.b y.pass a b same.1 (h.on_saddle.0 e)),
        λ e. h.on_saddle.1 (saddle-along y.a y.b y.pass x.a x.b x.pass (sym a) (sym b) (sym same.1) (k.on_saddle.0 e)),
      ))

  module _ (mine yours : Rank → Rank) (agree : (r : Rank) → IsPit m side r → mine r ≡ yours r) where
    -- a border line is one for owners that agree
    line-as : (x : BorderLine) → IsBorderLine m side kept mine x → IsBorderLine m side kept yours x
    line-as x h = record {
      first = h.first;
      second = h.second;
      lesser = h.lesser;
      pairs = counted-as side (IsAcross m (IsOwnedBy m side mine) x.a x.b) (IsAcross m (IsOwnedBy m side yours) x.a x.b)
          (λ p. (across-as mine yours agree x.a x.b p, across-as yours mine (λ r pit. sym (agree r pit)) x.a x.b p)) x.pairs x.pass h.pairs;
      on_saddle = h.on_saddle;
    }

    -- and stands in a list of those
    goes_over : (xs ys : List BorderLine) → AreBorderLines m side kept mine xs → AreBorderLines m side kept yours ys → (x : BorderLine) → Contains xs x → Contains ys x
    goes_over xs ys hx hy x at =
        let is = line-as x (hx.each x at) in
        let pair = is.pairs.reached in
        let there = hy.all x.a x.b pair.0 is.first is.second is.lesser pair.1 in
        subst (λ (z : BorderLine). Contains ys z) (border_line-determined yours there.0 x (hy.each there.0 there.1) is there.2 there.3) there.1

  -- there is one list of border lines at most
  pub AreBorderLines-unique : (mine yours : Rank → Rank) (xs ys : List BorderLine) → ((r : Rank) → IsPit m side r → mine r ≡ yours r) → AreBorderLines m side kept mine xs
      → AreBorderLines m side kept yours ys → xs ≡ ys
  AreBorderLines-unique mine yours xs ys agree hx hy =
      same_in_order (λ (x : BorderLine) (y : BorderLine). (x.a.index < y.a.index) ⊎ ((x.a.index ≡ y.a.index) × (x.b.index < y.b.index)))
      (λ x y. one_way x.a.index x.b.index y.a.index y.b.index) xs ys hx.in_order hy.in_order
      (λ x. (goes_over mine yours agree xs ys hx hy x, goes_over yours mine (λ r pit. sym (agree r pit)) ys xs hy hx x))
