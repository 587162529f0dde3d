-- The shown certificate is right.
use Rattle.std.proofs.Common.{◌≡◌, ◌<◌, ◌+◌, true, List, [], ◌∷◌, length, map, Option, Some, None, ap, ◌∙◌, sym, subst, arith}
use Rattle.std.specs.Prelude.{Contains, AllPairs, MatchOption}
use Rattle.std.proofs.lemmas.List.{length-map}
use Rattle.std.proofs.lemmas.List.Elements.{All-get_or}
use Rattle.hd_map.specs.declared.types.Adjacency.{Adjacency}
use Rattle.hd_map.specs.declared.types.Pos.{Pos}
use Rattle.hd_map.specs.declared.types.Rank.{Rank}
use Rattle.hd_map.specs.declared.types.SideName.{SideName}
use Rattle.hd_map.specs.Map.{Map, Present}
use Rattle.hd_map.specs.Rank.{rank}
use Rattle.hd_map.proofs.Items.{Contains-map, map-Contains}
use Rattle.hd_map.proofs.Points.{same_point}
use Rattle.hd_check.specs.declared.types.Certificate.{Certificate}
use Rattle.hd_check.specs.Rules.{IsRight}
use Rattle.hd_check.proofs.Searching.{Contains-place}
use Rattle.hd_reach.specs.Reached.{IsReachedLow}
use Rattle.hd_reach.specs.Within.{LiesWithin}
use Rattle.hd_reach.proofs.ReachedBelow.{IsLow-end, IsReachedBelow-low, IsReachedLow-below}
use Rattle.hd_cert.specs.Routes.{IsRouteOver, IsRouteCut}
use Rattle.hd_cert.specs.Shown.{AreTwoPits, IsPathAt, IsCutAt, IsShownCertificate}
use Rattle.hd_cert.proofs.Determined.{rank-same_positions}
use Rattle.hd_cert.proofs.RoutesAsPaths.{Present-all, IsRouteOver-path, rank-place}
use Rattle.hd_cert.proofs.Shown.{LiesWithin-pit}
use Rattle.hd_cert.proofs.IsRight.{IsRight-path_and_cut, Present-route}

-- the shown path is a path of positions over the saddle
path_over : (m : Map) (side : SideName) (a b : Pos) (s : Rank) (path : List Pos) → Present m a → Present m b → IsPathAt m side a b s path → IsRouteOver m side a b s path
path_over m side a b s path here there at =
    let route = IsRouteOver-path m side a b s here there at.points at.shown.over in
    let whole : List Pos = a ∷ route.0 in
    let all = Present-all m whole (Present-route m side a b s whole here route.1) in
    let ranks : map (rank m) whole ≡ map (rank m) path = ap (λ (xs : List Rank). rank m a ∷ xs) route.2 ∙ at.stand.1 in
    subst (IsRouteOver m side a b s) (rank-same_positions m whole path all at.stand.0 ranks) route.1

path_or_none : (m : Map) (side : SideName) (a b : Pos) (saddle : Option Rank) (path : List Pos) → Present m a → Present m b → MatchOption saddle (path ≡ []) (λ s. IsPathAt m side a b s path)
    → MatchOption saddle (path ≡ []) (λ s. IsRouteOver m side a b s path)
path_or_none m side a b None path here there none = none
path_or_none m side a b (Some s) path here there at = path_over m side a b s path here there at

module _ (m : Map) (side : SideName) (a b : Pos) (saddle : Option Rank) (cut : List Pos) (low : LiesWithin m side saddle true a) (at : IsCutAt m side a b saddle cut) where
  listed_present : (p : Pos) → Contains cut p → Present m p
  listed_present p c = let f = Contains-place cut p c in subst (Present m) f.2 (All-get_or (Present m) cut f.0 (record { x = 0; y = 0 }) f.1 at.stand.0)

  -- what is listed is reached
  listed_reached : (p : Pos) → Contains cut p → IsReachedLow m side saddle a p
  listed_reached p c =
      let reached = (at.shown.exactly (rank m p)).0 (subst (λ (xs : List Rank). Contains xs (rank m p)) (sym at.stand.1) (map-Contains (rank m) cut p c)) in
      let q = IsReachedLow-below m side saddle a (rank m p) low.present reached in
      subst (IsReachedLow m side saddle a) (same_point m q.0 p (IsLow-end m side saddle a (q.2).0 q.0 low (q.2).1).present (listed_present p c) q.1) q.2

  -- what is reached is listed
  reached_listed : (p : Pos) → IsReachedLow m side saddle a p → Contains cut p
  reached_listed p w =
      let q = Contains-map (rank m) cut (rank m p) (subst (λ (xs : List Rank). Contains xs (rank m p)) at.stand.1 ((at.shown.exactly (rank m p)).1 (IsReachedBelow-low m side saddle a p low w))) in
      subst (Contains cut) (same_point m q.0 p (listed_present q.0 q.1) (IsLow-end m side saddle a w.0 p low w.1).present q.2) q.1

  -- the shown cut is the points that are reached below the saddle, by positions
  cut_of : IsRouteCut m side saddle a cut
  cut_of = record {
    rises = λ k inside.
        (let ordered = subst (λ (xs : List Rank). AllPairs (λ p q. p.index < q.index) xs) at.stand.1 at.shown.in_order in
        let d : Rank = rank m a in
        let l : length (map (rank m) cut) ≡ length cut = length-map cut (rank m) in
        let first = rank-place m cut k d (omega (arith, inside)) in
        let second = rank-place m cut (k + 1) d (omega (arith, inside)) in
        let up = ordered k (k + 1) d (omega arith) (omega (arith, inside, l)) in
        omega (arith, first, second, up));
    low = low;
    all = λ p. (listed_reached p, reached_listed p);
  }

-- the certificate that is shown of two pits and their saddle is right
pub IsRight-shown : (m : Map) (side : SideName) (a b : Pos) (saddle : Option Rank) (c : Certificate) → AreTwoPits m side a b → IsShownCertificate m side a b saddle c → IsRight m c
IsRight-shown m side a b saddle c pits shown =
    let is = shown.cut.shown.saddle_is in
    let low = LiesWithin-pit m side a b saddle pits.here pits.there pits.pit pits.apart is in
    let path = path_or_none m side a b saddle c.path pits.here pits.there shown.path in
    let cut = cut_of m side a b saddle c.cut low shown.cut in
    let at : IsRight m (record { side = side; adjacency = m.adjacency; from = a; to = b; saddle = c.saddle; path = c.path; cut = c.cut }) =
    IsRight-path_and_cut m side a b saddle c.saddle c.path c.cut pits.here pits.there pits.pit pits.other pits.apart is shown.saddle_is path cut in
    let with : SideName → Adjacency → Pos → Pos → Certificate = λ d y p q. record { side = d; adjacency = y; from = p; to = q; saddle = c.saddle; path = c.path; cut = c.cut } in
    subst (λ (d : SideName). IsRight m (with d c.adjacency c.from c.to)) (sym shown.side_is)
    (subst (λ (y : Adjacency). IsRight m (with side y c.from c.to)) (sym shown.setting_is)
    (subst (λ (p : Pos). IsRight m (with side m.adjacency p c.to)) (sym shown.from_is)
    (subst (λ (q : Pos). IsRight m (with side m.adjacency a q)) (sym shown.to_is) at)))
