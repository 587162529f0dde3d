-- A shown certificate is right, and a map has one of a side and a percent.
use Rattle.std.proofs.Common.{◌≡◌, ◌∙◌, ◌<◌, ◌≤◌, ℕ, zero, suc, ℤ, List, length, Option, Some, None, inl, inr, sym, ap, subst, arith}
use Rattle.std.specs.Prelude.{AllPairs}
use Rattle.std.proofs.lemmas.Bool.{cases_lt}
use Rattle.std.proofs.lemmas.List.{ext_get_or}
use Rattle.std.proofs.lemmas.List.Kept.{AllPairs-filter}
use Rattle.hd_map.specs.declared.types.Adjacency.{Adjacency}
use Rattle.hd_map.specs.declared.types.Pos.{Pos}
use Rattle.hd_map.specs.declared.types.Rank.{Rank}
use Rattle.hd_map.specs.declared.types.SideName.{SideName}
use Rattle.hd_map.specs.Map.{Map, IsMap, place_of, position_at}
use Rattle.hd_map.specs.Neighbour.{Neighbour}
use Rattle.hd_map.specs.Pruning.{Leaving, Prunes, IsPruning, over, goes_on, differ}
use Rattle.hd_map.specs.Rank.{rank, below_by}
use Rattle.hd_map.specs.Sets.{under}
use Rattle.hd_map.specs.SideLaws.{below_by-order}
use Rattle.hd_map.proofs.Points.{same_point}
use Rattle.hd_map.proofs.Prunings.{pruning-unique, sz-unique}
use Rattle.hd_num.specs.declared.percent.Percent.{Percent}
use Rattle.hd_check.specs.declared.types.Verdict.TheVariants.{Yes}
use Rattle.hd_prune.proofs.Nested.{keeps-undercut}
use Rattle.hd_audit.specs.declared.types.Audit.{Audit}
use Rattle.hd_audit.specs.declared.types.AuditLine.{AuditLine}
use Rattle.hd_audit.specs.Lines.{line_at, point_at, rank_at}
use Rattle.hd_audit.specs.Rules.{IsTried, IsRight}
use Rattle.hd_audit.specs.Shown.{AreShownLines, CutIs, IsShown}
use Rattle.hd_audit.proofs.AreFirm.{AreFirm}
use Rattle.hd_audit.proofs.ShownLines.{IsNextTo-moved}
use Rattle.hd_audit.proofs.CutIs.{rank-none, CutIs-unique}
use Rattle.hd_audit.proofs.ShownRules.{IsNewPoint-shown, IsListed-present, IsEarlierNeighbour-shown, IsKeptPit-shown, IsCutOf-shown, IsLeak-none}
use Rattle.hd_audit.proofs.ShownChains.{IsChainWithin-shown}

-- what is left keeps the order of the pits
left-in_order : {m : Map} {side : SideName} {thousandths : ℕ} {sz : ℤ} {kept last : List Rank} {owner ends : Rank → Rank} {steps : List Leaving}
    → Prunes m side thousandths sz kept owner steps last ends
    → AllPairs (λ (a : Rank) (b : Rank). a.index < b.index) kept → AllPairs (λ (a : Rank) (b : Rank). a.index < b.index) last
left-in_order (over none) h = h
left-in_order {side = side} {kept = kept} (goes_on {x = x} step rest) h = left-in_order rest (AllPairs-filter (λ (a : Rank) (b : Rank). a.index < b.index) (λ q. differ (below_by side) x.pit q) kept h)

module _ (m : Map) (whole : IsMap m) (side : SideName) (thousandths : ℕ) (steps : List Leaving) (last : List Rank) (owner : Rank → Rank) (pruning : IsPruning m side thousandths steps last owner) where
  -- the kept pits are those that none undercuts
  pub AreFirm-kept : AreFirm m side thousandths pruning.sz last
  AreFirm-kept = keeps-undercut m side thousandths pruning.sz steps last owner whole pruning pruning.sz_is

  -- and stand in order
  pub kept-in_order : AllPairs (λ (a : Rank) (b : Rank). a.index < b.index) last
  kept-in_order = left-in_order pruning.prunes pruning.are_pits.in_order

rules : (m : Map) (a : Audit) → IsMap m → IsShown m a.side a.percent a → IsTried m a Yes
rules m a whole h =
    let sz = h.pruning.sz in
    let firm = AreFirm-kept m whole a.side a.percent.thousandths h.steps h.last h.owner h.pruning in
    let rises = kept-in_order m whole a.side a.percent.thousandths h.steps h.last h.owner h.pruning in
    let t = a.percent.thousandths in
    record {
      sz = sz;
      sz_is = h.pruning.sz_is;
      tried = (
        IsNewPoint-shown m whole a.side t sz h.last firm rises a.lines h.lines,
        (
          IsListed-present m whole a.side t sz h.last firm rises a.lines h.lines,
          (
            IsEarlierNeighbour-shown m whole a.side t sz h.last firm rises a.lines h.lines,
            (
              IsKeptPit-shown m whole a.side t sz h.last firm rises a.lines h.lines,
              (
                IsCutOf-shown m whole a.side t sz h.last firm rises a.lines h.lines,
                (
                  IsLeak-none m whole a.side t sz h.last firm rises a.lines h.lines,
                  (IsChainWithin-shown m whole a.side t sz h.last firm rises a.lines h.lines, tt),
                ),
              ),
            ),
          ),
        ),
      );
    }

-- a shown certificate is right
pub IsRight-shown : (m : Map) (side : SideName) (percent : Percent) (a : Audit) → IsMap m → IsShown m side percent a → IsRight m a
IsRight-shown m side percent a whole h =
    let own : IsShown m a.side a.percent a = subst (λ (s : SideName). IsShown m s a.percent a) (sym h.side_is) (subst (λ (p : Percent). IsShown m side p a) (sym h.percent_is) h) in
    subst (λ (d : Adjacency). IsTried (under d m) a Yes) (sym h.adjacency_is) (rules m a whole own)

same_line : (x y : AuditLine) → x.index ≡ y.index → x.parent ≡ y.parent → x.cut ≡ y.cut → x ≡ y
same_line x y a b c = line x.index y.index x.parent y.parent x.cut y.cut a b c
  where
    line : (i j : ℕ) (p q c d : Option ℕ) → i ≡ j → p ≡ q → c ≡ d → ◌≡◌ {A = AuditLine} (record { index = i; parent = p; cut = c }) (record { index = j; parent = q; cut = d })
    line i j p q c d e f g = cc

module _ (m : Map) (whole : IsMap m) (side : SideName) (thousandths : ℕ) (sz : ℤ) (kept : List Rank) (firm : AreFirm m side thousandths sz kept) where
  module _ (xs ys : List AuditLine) (one : AreShownLines m side thousandths sz kept xs) (other : AreShownLines m side thousandths sz kept ys) where
    abbrev AgreeTo : ℕ → Type 0
    AgreeTo n = (i : ℕ) → i < n → line_at ys i ≡ line_at xs i

    -- where the lines before agree, so do the indexes and the parents
    heads-same : (k : ℕ) → k < length xs → k < length ys → AgreeTo k → ((line_at ys k).index ≡ (line_at xs k).index) × ((line_at ys k).parent ≡ (line_at xs k).parent)
    heads-same k in_xs in_ys same = elim (cases_lt k (length kept)) [
      | inl less ↦ ((other.pits k less).index rank-none ∙ sym ((one.pits k less).index rank-none), (other.pits k less).parent ∙ sym (one.pits k less).parent)
      | inr more ↦
          let a = one.others k more in_xs in
          let b = other.others k more in_ys in
          let back : (i : ℕ) → i < k → line_at xs i ≡ line_at ys i = λ i less. sym (same i less) in
          let low = b.lowest a.point (IsNextTo-moved m side thousandths sz kept xs ys k same k a.point (omega arith) a.next_to) in
          let low' = a.lowest b.point (IsNextTo-moved m side thousandths sz kept ys xs k back k b.point (omega arith) b.next_to) in
          let ranks : rank m b.point ≡ rank m a.point = (below_by-order side).total (rank m b.point) (rank m a.point) low' low in
          let points : b.point ≡ a.point = same_point m b.point a.point b.next_to.neighbour.from a.next_to.neighbour.from ranks in
          let i : ℕ = a.next_to.listed in
          let j : ℕ = b.next_to.listed in
          let i_before : i < k = a.next_to.before in
          let j_before : j < k = b.next_to.before in
          let index : (l : ℕ) → l < k → (line_at ys l).index ≡ (line_at xs l).index = λ l less. ap (λ (x : AuditLine). x.index) (same l less) in
          let in_b : Neighbour m b.point (point_at m ys i) = subst (λ (p : Pos). Neighbour m p (point_at m ys i)) (sym points)
          (subst (λ (p : Pos). Neighbour m a.point p) (ap (position_at m.size) (sym (index i i_before))) a.next_to.neighbour) in
          let in_a : Neighbour m a.point (point_at m xs j) = subst (λ (p : Pos). Neighbour m p (point_at m xs j)) points
          (subst (λ (p : Pos). Neighbour m b.point p) (ap (position_at m.size) (index j j_before)) b.next_to.neighbour) in
          let places : j ≡ i = elim (cases_lt i j) [
            | inl less ↦ absurd (b.first i less in_b)
            | inr le ↦ elim (cases_lt j i) [ inl less ↦ absurd (a.first j less in_a) | inr ge ↦ omega arith ]
          ] in (
            b.index ∙ ap (place_of m.size) points ∙ sym a.index,
            b.parent ∙ ap (λ l. Some l) (index j j_before) ∙ ap (λ l. Some (line_at xs l).index) places ∙ sym a.parent,
          )
    ]

    line-same : (k : ℕ) → k < length xs → k < length ys → AgreeTo k → line_at ys k ≡ line_at xs k
    line-same k in_xs in_ys same =
        let heads = heads-same k in_xs in_ys same in
        let cuts = CutIs-unique m whole side thousandths sz kept firm (rank_at m (line_at xs k).index) (line_at ys k).cut (line_at xs k).cut
        (subst (λ i. CutIs m side thousandths sz kept (rank_at m i) (line_at ys k).cut) heads.0 (other.cuts k in_ys)) (one.cuts k in_xs) in
        same_line (line_at ys k) (line_at xs k) heads.0 heads.1 cuts

    agree_to : (n : ℕ) → n ≤ length xs → n ≤ length ys → AgreeTo n
    agree_to zero le le' = λ i less. absurd (omega arith)
    agree_to (suc n) le le' = λ i less. elim (cases_lt i n) [
      | inl before ↦ agree_to n (omega arith) (omega arith) i before
      | inr last ↦
          let e : n ≡ i = omega arith in
          subst (λ k. line_at ys k ≡ line_at xs k) e (line-same n (omega arith) (omega arith) (agree_to n (omega arith) (omega arith)))
    ]

    -- the second is not longer
    not_longer : length xs < length ys → ⊥
    not_longer less =
        let same = agree_to (length xs) (omega arith) (omega arith) in
        let line = other.others (length xs) one.enough less in
        one.all line.point (IsNextTo-moved m side thousandths sz kept ys xs (length xs) (λ i before. sym (same i before)) (length xs) line.point (omega arith) line.next_to)

  -- two shown certificates have the same lines
  pub AreShownLines-unique : (xs ys : List AuditLine) → AreShownLines m side thousandths sz kept xs → AreShownLines m side thousandths sz kept ys → xs ≡ ys
  AreShownLines-unique xs ys one other =
      let longs : length xs ≡ length ys = elim (cases_lt (length xs) (length ys)) [
        | inl less ↦ absurd (not_longer xs ys one other less)
        | inr le ↦ elim (cases_lt (length ys) (length xs)) [ inl less ↦ absurd (not_longer ys xs other one less) | inr ge ↦ omega arith ]
      ] in
      ext_get_or (record { index = 0; parent = None; cut = None }) xs ys longs (λ k below. sym (agree_to xs ys one other (length xs) (omega arith) (omega arith) k below))

same_audit : (a b : Audit) → a.side ≡ b.side → a.percent ≡ b.percent → a.adjacency ≡ b.adjacency → a.lines ≡ b.lines → a ≡ b
same_audit a b p q r s = audit a.side b.side a.percent b.percent a.adjacency b.adjacency a.lines b.lines p q r s
  where
    audit : (i j : SideName) (p q : Percent) (c d : Adjacency) (xs ys : List AuditLine) → i ≡ j → p ≡ q → c ≡ d → xs ≡ ys
        → ◌≡◌ {A = Audit} (record { side = i; percent = p; adjacency = c; lines = xs }) (record { side = j; percent = q; adjacency = d; lines = ys })
    audit i j p q c d xs ys e f g h = cc

-- a map has one shown certificate of a side and a percent
pub IsShown-unique : (m : Map) (side : SideName) (percent : Percent) (a b : Audit) → IsMap m → IsShown m side percent a → IsShown m side percent b → a ≡ b
IsShown-unique m side percent a b whole h k =
    let t = percent.thousandths in
    let sz : k.pruning.sz ≡ h.pruning.sz = sz-unique m k.pruning.sz h.pruning.sz k.pruning.sz_is h.pruning.sz_is in
    let last : k.last ≡ h.last = (pruning-unique m side t k.steps h.steps k.last h.last k.owner h.owner k.pruning h.pruning).1 in
    let firm = AreFirm-kept m whole side t h.steps h.last h.owner h.pruning in
    let other : AreShownLines m side t h.pruning.sz h.last b.lines = subst (λ z. AreShownLines m side t z h.last b.lines) sz
    (subst (λ (ls : List Rank). AreShownLines m side t k.pruning.sz ls b.lines) last k.lines) in
    same_audit a b (h.side_is ∙ sym k.side_is) (h.percent_is ∙ sym k.percent_is) (h.adjacency_is ∙ sym k.adjacency_is)
    (AreShownLines-unique m whole side t h.pruning.sz h.last firm a.lines b.lines h.lines other)
