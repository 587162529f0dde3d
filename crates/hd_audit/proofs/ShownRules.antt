-- A shown certificate keeps the rules 12 to 17.
use Rattle.std.proofs.Common.{◌≡◌, ◌∙◌, ◌<◌, ℕ, ℤ, List, [], ◌∷◌, length, get_or, Option, Some, None, inl, inr, refl, sym, ap, subst, arith}
use Rattle.std.specs.Prelude.{AllPairs, MatchOption}
use Rattle.std.proofs.lemmas.Bool.{cases_lt}
use Rattle.std.proofs.lemmas.Option.{none-some}
use Rattle.std.proofs.lemmas.List.Elements.{All-nil, Contains-get_or}
use Rattle.hd_map.specs.declared.types.Pos.{Pos}
use Rattle.hd_map.specs.declared.types.Rank.{Rank}
use Rattle.hd_map.specs.declared.types.SideName.{SideName}
use Rattle.hd_map.specs.Map.{Map, IsMap, Present, cell_count, place_of, position_at}
use Rattle.hd_map.specs.Neighbour.{Neighbour}
use Rattle.hd_map.specs.Order.{IsNotAbove}
use Rattle.hd_map.specs.Path.{Leads}
use Rattle.hd_map.specs.Rank.{IsPoint, Near, rank, below_by}
use Rattle.hd_map.specs.Region.{IsPit}
use Rattle.hd_map.proofs.Points.{Near-at, place_inside, point_at as point_of, position_at-place, rank_position}
use Rattle.hd_audit.specs.declared.types.AuditLine.{AuditLine}
use Rattle.hd_audit.specs.Lines.{line_at, point_at, rank_at, IsLineOf, IsListed}
use Rattle.hd_audit.specs.Listing.{AreShownTo}
use Rattle.hd_audit.specs.Rules.{IsWithin, IsNewPoint, IsEarlierNeighbour, IsKeptPit, IsCutOf, IsLeak}
use Rattle.hd_audit.specs.Shown.{AreShownLines, CutIs, IsReachedWithin}
use Rattle.hd_audit.proofs.Within.{ReachesWithin-from_reached, IsReachedWithin-from_reach, ReachesWithin-more}
use Rattle.hd_audit.proofs.AreFirm.{AreFirm, LowerNeighbour-none, Undercuts-none, ReachesWithin-not_below}
use Rattle.hd_audit.proofs.ShownLines.{IsAmong, IsLineAt, IsAmong-or_not, rank_at-index, IsLineAt-position, IsKeptLine-rank, IsAmong-kept, IsReachedLine-at}
use Rattle.hd_audit.proofs.CutIs.{rank-none, IsPit-kept, rank_at-kept, CutIs-unique, IsLineAt-listed}

-- the line at a place is one of the lines
pub IsLineOf-line : (lines : List AuditLine) (k i : ℕ) → k < length lines → (line_at lines k).index ≡ i → IsLineOf lines i (line_at lines k)
IsLineOf-line lines k i inside e = record { listed = Contains-get_or lines k (record { index = 0; parent = None; cut = None }) inside; index = e }

module _ (m : Map) (whole : IsMap m) (side : SideName) (thousandths : ℕ) (sz : ℤ) (kept : List Rank) (firm : AreFirm m side thousandths sz kept)
    (in_order : AllPairs (λ (a : Rank) (b : Rank). a.index < b.index) kept)
    (lines : List AuditLine) (shown : AreShownLines m side thousandths sz kept lines) where
  pub AreShownTo-all : AreShownTo m side thousandths sz kept lines (length lines)
  AreShownTo-all = record { enough = shown.enough; pits = shown.pits; others = shown.others; cuts = shown.cuts }

  pub IsLineAt-shown : (k : ℕ) → k < length lines → (p : Pos) × IsLineAt m lines k p
  IsLineAt-shown k inside = IsLineAt-listed m whole side thousandths sz kept firm lines (length lines) AreShownTo-all k inside

  -- 12
  pub IsNewPoint-shown : (k : ℕ) → k < length lines → IsNewPoint m lines k
  IsNewPoint-shown k inside =
      let at = IsLineAt-shown k inside in
      let line = at.1 in
      record {
        inside = subst (λ i. i < cell_count m.size) (sym line.index) (place_inside m.size at.0 line.present.in_grid);
        present = subst (Present m) (sym (IsLineAt-position m lines k at.0 line)) line.present;
        new = λ i before e. elim (cases_lt k (length kept)) [
          | inl less ↦
              let one = (shown.pits i (omega arith)).index rank-none in
              let other = (shown.pits k less).index rank-none in
              let rises = in_order i k rank-none before less in
              omega (arith, one, other, rises, e)
          | inr more ↦
              let reached = shown.others k more inside in
              reached.next_to.unlisted i before (e ∙ reached.index)
        ];
      }

  -- what is near a listed point is listed
  closed : (x y : Rank) → Near m x y → IsAmong lines (length lines) y.index → (IsAmong lines (length lines) x.index → ⊥) → ⊥
  closed x y near at not =
      let place : point_at m lines at.0 ≡ near.to = ap (position_at m.size) at.2 ∙ rank_position m y near.to near.neighbour.to near.to_rank in
      shown.all near.from (record {
        unlisted = λ i less e. not (i, less, e ∙ ap (λ (r : Rank). r.index) (sym near.from_rank));
        listed = at.0;
        before = at.1;
        neighbour = subst (λ (p : Pos). Neighbour m near.from p) (sym place) near.neighbour;
      })

  not-along : (a : Rank) (xs : List Rank) (b : Rank) → Leads (Near m) a xs b → (IsAmong lines (length lines) a.index → ⊥) → IsAmong lines (length lines) b.index → ⊥
  not-along a [] b l not = subst (λ (r : Rank). IsAmong lines (length lines) r.index → ⊥) l not
  not-along a (x ∷ xs) b l not = not-along x xs b l.1 (λ at. closed a x l.0 at not)

  -- each point is listed
  pub IsAmong-all : (x : Rank) → IsPoint m x → IsAmong lines (length lines) x.index
  IsAmong-all x point = elim (IsAmong-or_not lines (length lines) x.index) [
    | inl at ↦ at
    | inr not ↦ absurd (LowerNeighbour-none m side whole (λ y. IsAmong lines (length lines) y.index → ⊥) (λ y z q l at. closed y z l.near at q)
        (λ p pit q. Undercuts-none m side thousandths sz whole kept firm (λ y. IsAmong lines (length lines) y.index → ⊥)
        (λ p u pit no under. not-along p under.is_saddle.reached.0 u under.is_saddle.reached.1.leads no)
        (λ r in_kept no. no (IsAmong-kept m side thousandths sz kept lines (length lines) shown.enough shown.pits r in_kept)) p pit q)
        x point not)
  ]

  -- 13
  pub IsListed-present : (i : ℕ) → i < cell_count m.size → Present m (position_at m.size i) → IsListed lines i
  IsListed-present i inside here =
      let at = IsAmong-all (rank m (position_at m.size i)) (point_of m (position_at m.size i) here) in
      (line_at lines at.0, IsLineOf-line lines at.0 i at.1 (at.2 ∙ position_at-place m.size i whole.size.some_points))

  -- 14
  pub IsEarlierNeighbour-shown : (k : ℕ) → k < length lines → MatchOption (line_at lines k).parent (Unit {0}) (IsEarlierNeighbour m lines k)
  IsEarlierNeighbour-shown k inside = elim (cases_lt k (length kept)) [
    | inl less ↦ subst (λ o. MatchOption o (Unit {0}) (IsEarlierNeighbour m lines k)) (sym (shown.pits k less).parent) tt
    | inr more ↦
        let reached = shown.others k more inside in
        let l = reached.next_to.listed in
        let place = IsLineAt-position m lines k reached.point (IsReachedLine-at m side thousandths sz kept lines k reached) in
        subst (λ o. MatchOption o (Unit {0}) (IsEarlierNeighbour m lines k)) (sym reached.parent) (record {
          earlier = l;
          before = reached.next_to.before;
          index = refl;
          near = subst (λ (p : Pos). Neighbour m p (point_at m lines l)) (sym place) reached.next_to.neighbour;
        })
  ]

  -- 15
  pub IsKeptPit-shown : (k : ℕ) → k < length lines → (line_at lines k).parent ≡ None → IsKeptPit m side (line_at lines k)
  IsKeptPit-shown k inside none = elim (cases_lt k (length kept)) [
    | inl less ↦
        let r : Rank = get_or kept k rank-none in
        let pit = IsPit-kept m whole side thousandths sz kept firm k less in
        let x : Rank = rank_at m (line_at lines k).index in
        let is : x ≡ r = IsKeptLine-rank m side thousandths sz kept lines k rank-none (shown.pits k less) pit.point in
        let own : CutIs m side thousandths sz kept x (Some (line_at lines k).index) =
        (r, Contains-get_or kept k rank-none less, sym ((shown.pits k less).index rank-none), record { points = []; leads = sym is; within = All-nil (IsWithin side thousandths sz r) }) in
        record {
          pit = subst (IsPit m side) (sym is) pit;
          own = CutIs-unique m whole side thousandths sz kept firm x (line_at lines k).cut (Some (line_at lines k).index) (shown.cuts k inside) own;
        }
    | inr more ↦ absurd (let reached = shown.others k more inside in none-some (line_at lines reached.next_to.listed).index (sym none ∙ reached.parent))
  ]

  -- a cut is that of a kept pit, which is not above the point
  cut_of : (x : AuditLine) (o : Option ℕ) → CutIs m side thousandths sz kept (rank_at m x.index) o → MatchOption o (Unit {0}) (IsCutOf m side lines x)
  cut_of x None h = tt
  cut_of x (Some c) h =
      let r : Rank = h.0 in
      let i : ℕ = h.1.0 in
      let less : i < length kept = h.1.1 in
      let line = shown.pits i less in
      let inside : i < length lines = (let enough = shown.enough in omega arith) in
      let index : (line_at lines i).index ≡ c = line.index r ∙ ap (λ (r : Rank). r.index) h.1.2 ∙ h.2 in
      record {
        kept = (line_at lines i, IsLineOf-line lines i c inside index, line.parent);
        not_below = subst (λ (z : Rank). IsNotAbove (below_by side) z (rank_at m x.index)) (sym (rank_at-kept m whole side thousandths sz kept firm c r h.1 h.2))
            (ReachesWithin-not_below m side thousandths sz whole kept firm r (rank_at m x.index) h.1 (ReachesWithin-from_reached m side thousandths sz r (rank_at m x.index) h.3));
      }

  -- 16
  pub IsCutOf-shown : (k : ℕ) → k < length lines → MatchOption (line_at lines k).cut (Unit {0}) (IsCutOf m side lines (line_at lines k))
  IsCutOf-shown k inside = cut_of (line_at lines k) (line_at lines k).cut (shown.cuts k inside)

  -- 17
  pub IsLeak-none : (k : ℕ) → k < length lines → (q : Pos) → IsLeak m side thousandths sz lines k q → ⊥
  IsLeak-none k inside q leak =
      let c : ℕ = leak.cut in
      let x : Rank = rank_at m (line_at lines k).index in
      let y : Rank = rank m q in
      let h : CutIs m side thousandths sz kept x (Some c) = subst (λ o. CutIs m side thousandths sz kept x o) leak.cut_is (shown.cuts k inside) in
      let r : Rank = h.0 in
      let w = subst (λ (z : Rank). IsWithin side thousandths sz z y) (rank_at-kept m whole side thousandths sz kept firm c r h.1 h.2) leak.within in
      let reached : IsReachedWithin m side thousandths sz r y = IsReachedWithin-from_reach m side thousandths sz r y
      (ReachesWithin-more m side thousandths sz r r x y (ReachesWithin-from_reached m side thousandths sz r x h.3) (Near-at m (point_at m lines k) q leak.neighbour) w) in
      let point = point_of m q leak.neighbour.to in
      let at = IsAmong-all y point in
      let is : rank_at m (line_at lines at.0).index ≡ y = ap (rank_at m) at.2 ∙ rank_at-index m y point in
      let there : CutIs m side thousandths sz kept (rank_at m (line_at lines at.0).index) (Some c) = subst (λ (z : Rank). CutIs m side thousandths sz kept z (Some c)) (sym is)
      (r, h.1, h.2, reached) in
      leak.outside (
        line_at lines at.0,
        IsLineOf-line lines at.0 (place_of m.size q) at.1 at.2,
        CutIs-unique m whole side thousandths sz kept firm (rank_at m (line_at lines at.0).index) (line_at lines at.0).cut (Some c) (shown.cuts at.0 at.1) there,
      )
