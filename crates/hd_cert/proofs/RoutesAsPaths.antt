-- Routes of positions as paths of ranks.
use Rattle.std.proofs.Common.{◌≡◌, ◌<◌, ◌≤◌, ◌+◌, ◌-◌, ℕ, zero, suc, List, [], ◌∷◌, length, get_or, map, Option, Some, None, inl, inr, ap, ◌∙◌, refl, sym, subst, arith}
use Rattle.std.specs.Prelude.{All, Contains, MatchOption}
use Rattle.std.proofs.lemmas.List.{length-map}
use Rattle.std.proofs.lemmas.List.Elements.{All-nil, All-cons, Contains-get_or}
use Rattle.hd_map.specs.declared.types.Pos.{Pos}
use Rattle.hd_map.specs.declared.types.Rank.{Rank}
use Rattle.hd_map.specs.declared.types.SideName.{SideName}
use Rattle.hd_map.specs.Map.{Map, Present, place_of}
use Rattle.hd_map.specs.Neighbour.{Neighbour}
use Rattle.hd_map.specs.Path.{Leads, IsTop}
use Rattle.hd_map.specs.Rank.{rank, below_by, Near}
use Rattle.hd_map.specs.Saddle.{IsSaddle, SaddleIs}
use Rattle.hd_map.specs.Shown.{IsNotAfter, IsPathOver, IsReachedBelow, indexes_of}
use Rattle.hd_map.proofs.Items.{Contains-map, map-Contains}
use Rattle.hd_map.proofs.Points.{same_point, point_at}
use Rattle.hd_check.specs.declared.types.Certificate.{Certificate}
use Rattle.hd_check.specs.Rules.{point_of}
use Rattle.hd_check.proofs.Paths.{Leads-path}
use Rattle.hd_check.proofs.Searching.{place_at, Rises-far}
use Rattle.hd_reach.proofs.ReachedBelow.{IsLow-end, IsReachedBelow-low, IsReachedLow-below}
use Rattle.hd_cert.specs.Routes.{IsRouteOver, IsShownRoute, IsRouteCut, IsMade}
use Rattle.hd_cert.specs.Shown.{AreTwoPits, IsPathAt, IsCutAt, IsShownCertificate}
use Rattle.hd_cert.proofs.IsRight.{Present-route}

-- a path of ranks between two positions is one of positions
pub Leads-route : (m : Map) (a : Pos) (xs : List Rank) (b : Pos) → Present m a → Present m b → Leads (Near m) (rank m a) xs (rank m b)
    → (ps : List Pos) × Leads (Neighbour m) a ps b × (map (rank m) ps ≡ xs)
Leads-route m a [] b here there l = ([], same_point m a b here there l, refl)
Leads-route m a (x ∷ xs) b here there l =
    let near = l.0 in
    let same : near.from ≡ a = same_point m near.from a near.neighbour.from here (sym near.from_rank) in
    let rest = Leads-route m near.to xs b near.neighbour.to there (subst (λ (r : Rank). Leads (Near m) r xs (rank m b)) near.to_rank l.1) in
    let is : map (rank m) rest.0 ≡ xs = rest.2 in
    (near.to ∷ rest.0, (subst (λ (p : Pos). Neighbour m p near.to) same near.neighbour, rest.1), ap (λ (r : Rank). r ∷ map (rank m) rest.0) (sym near.to_rank) ∙ ap (λ (ys : List Rank). x ∷ ys) is)

-- its steps, one by one
route_steps : (m : Map) (a : Pos) (ps : List Pos) (b : Pos) → Leads (Neighbour m) a ps b → (k : ℕ) → k < length (a ∷ ps) - 1 → Neighbour m (point_of (a ∷ ps) k) (point_of (a ∷ ps) (k + 1))
route_steps m a [] b l k inside = absurd (omega (arith, inside))
route_steps m a (p ∷ ps) b l zero inside = l.0
route_steps m a (p ∷ ps) b l (suc k) inside =
    let e : suc (k + 1) ≡ suc k + 1 = omega arith in
    subst (λ (j : ℕ). Neighbour m (point_of (p ∷ ps) k) (point_of (a ∷ p ∷ ps) j)) e (route_steps m p ps b l.1 k (omega (arith, inside)))

route_end : (m : Map) (a : Pos) (ps : List Pos) (b : Pos) → Leads (Neighbour m) a ps b → point_of (a ∷ ps) (length (a ∷ ps) - 1) ≡ b
route_end m a [] b l = l
route_end m a (p ∷ ps) b l =
    let e : suc (length (p ∷ ps) - 1) ≡ length (a ∷ p ∷ ps) - 1 = omega arith in
    ap (point_of (a ∷ p ∷ ps)) (sym e) ∙ route_end m p ps b l.1

-- the indexes of positions
indexes_map : (m : Map) (ps : List Pos) → indexes_of (map (rank m) ps) ≡ map (place_of m.size) ps
indexes_map m [] = refl
indexes_map m (p ∷ ps) = ap (λ (is : List ℕ). place_of m.size p ∷ is) (indexes_map m ps)

-- all of the positions are present
pub Present-all : (m : Map) (ps : List Pos) → ((k : ℕ) → k < length ps → Present m (point_of ps k)) → All (Present m) ps
Present-all m [] h = All-nil (Present m)
Present-all m (p ∷ ps) h = All-cons (Present m) p ps (h 0 (omega arith)) (Present-all m ps (λ k inside. h (suc k) (omega (arith, inside))))

module _ (m : Map) (side : SideName) (a b : Pos) (s : Rank) (here : Present m a) (there : Present m b) where
  -- a path of ranks over the saddle is a route over it
  pub IsRouteOver-path : (ys : List Rank) → IsPathOver m side (rank m a) (rank m b) s ys → (qs : List Pos) × IsRouteOver m side a b s (a ∷ qs) × (map (rank m) qs ≡ ys)
  IsRouteOver-path ys over =
      let r = Leads-route m a ys b here there over.path.leads in
      let is : map (rank m) r.0 ≡ ys = r.2 in (
        r.0,
        record {
          some = omega arith;
          begins = refl;
          ends = route_end m a r.0 b r.1;
          steps = route_steps m a r.0 b r.1;
          top = subst (λ (zs : List Rank). IsTop (below_by side) s (rank m a ∷ zs)) (sym is) over.top;
        },
        is,
      )

  -- what is not after another list from one first place on
  after_same : (i j : ℕ) (is js : List ℕ) → i ≡ j → IsNotAfter (i ∷ is) (j ∷ js) → IsNotAfter is js
  after_same i j is js e h = elim h [ inl less ↦ absurd (omega (arith, less, e)) | inr rest ↦ rest.1 ]

  -- the shown route is the shown path
  pub IsPathAt-route : IsSaddle m side (rank m a) (rank m b) s → (path : List Pos) → IsShownRoute m side a b s path → IsPathAt m side a b s path
  IsPathAt-route saddle [] shown = let some = shown.over.some in absurd (omega (arith, some))
  IsPathAt-route saddle (p ∷ ps) shown =
      let begins : p ≡ a = shown.over.begins in
      let first : rank m p ≡ rank m a = ap (rank m) begins in
      let leads : Leads (Near m) (rank m a) (map (rank m) ps) (rank m b) =
      subst (λ (x : Rank). Leads (Near m) x (map (rank m) ps) (rank m b)) first
      (subst (λ (y : Rank). Leads (Near m) (rank m p) (map (rank m) ps) y) (ap (rank m) shown.over.ends) (Leads-path m p ps shown.over.steps)) in
      record {
        points = map (rank m) ps;
        shown = record {
          saddle = saddle;
          over = record {
            path = record { point = point_at m a here; leads = leads };
            top = subst (λ (x : Rank). IsTop (below_by side) s (x ∷ map (rank m) ps)) first shown.over.top;
          };
          fewest = λ ys over.
              (let q = IsRouteOver-path ys over in
              let few : length (p ∷ ps) ≤ length (a ∷ q.0) = shown.fewest (a ∷ q.0) q.1 in
              let l : length (map (rank m) ps) ≡ length ps = length-map ps (rank m) in
              let k : length (map (rank m) q.0) ≡ length q.0 = length-map q.0 (rank m) in
              let e : length (map (rank m) q.0) ≡ length ys = ap length q.2 in
              omega (arith, few, l, k, e));
          first = λ ys over same.
              (let q = IsRouteOver-path ys over in
              let l : length (map (rank m) ps) ≡ length ps = length-map ps (rank m) in
              let k : length (map (rank m) q.0) ≡ length q.0 = length-map q.0 (rank m) in
              let e : length (map (rank m) q.0) ≡ length ys = ap length q.2 in
              let long : length (a ∷ q.0) ≡ length (p ∷ ps) = omega (arith, same, l, k, e) in
              let rest : IsNotAfter (map (place_of m.size) ps) (map (place_of m.size) q.0) =
              after_same (place_of m.size p) (place_of m.size a) (map (place_of m.size) ps) (map (place_of m.size) q.0) (ap (place_of m.size) begins) (shown.first (a ∷ q.0) q.1 long) in
              subst (λ (zs : List Rank). IsNotAfter (indexes_of (map (rank m) ps)) (indexes_of zs)) q.2
              (subst (λ (is : List ℕ). IsNotAfter is (indexes_of (map (rank m) q.0))) (sym (indexes_map m ps))
              (subst (λ (is : List ℕ). IsNotAfter (map (place_of m.size) ps) is) (sym (indexes_map m q.0)) rest)));
        };
        stand = (Present-all m (p ∷ ps) (Present-route m side a b s (p ∷ ps) here shown.over), ap (λ (x : Rank). x ∷ map (rank m) ps) (sym first));
      }

-- the index of the rank at a place
pub rank-place : (m : Map) (ps : List Pos) (k : ℕ) (d : Rank) → k < length ps → (get_or (map (rank m) ps) k d).index ≡ place_at m.size ps k
rank-place m [] k d inside = absurd (omega (arith, inside))
rank-place m (p ∷ ps) zero d inside = refl
rank-place m (p ∷ ps) (suc k) d inside = rank-place m ps k d (omega (arith, inside))

module _ (m : Map) (side : SideName) (a b : Pos) (saddle : Option Rank) (here : Present m a) (is : SaddleIs m side (rank m a) (rank m b) saddle) (cut : List Pos)
    (shown : IsRouteCut m side saddle a cut) where
  rises_more : (i j : ℕ) → i < j → j < length cut → place_at m.size cut i < place_at m.size cut j
  rises_more i j less inside =
      let next = shown.rises i (omega (arith, less, inside)) in
      let far = Rises-far m.size cut shown.rises (i + 1) j (omega (arith, less)) inside in
      omega (arith, next, far)

  -- what is listed is reached
  route-reached_of : (x : Rank) → Contains (map (rank m) cut) x → IsReachedBelow m side saddle (rank m a) x
  route-reached_of x c =
      let q = Contains-map (rank m) cut x c in
      subst (λ (r : Rank). IsReachedBelow m side saddle (rank m a) r) q.2 (IsReachedBelow-low m side saddle a q.0 shown.low ((shown.all q.0).0 q.1))

  -- what is reached is listed
  listed_of : (x : Rank) → IsReachedBelow m side saddle (rank m a) x → Contains (map (rank m) cut) x
  listed_of x r = let q = IsReachedLow-below m side saddle a x here r in subst (Contains (map (rank m) cut)) q.1 (map-Contains (rank m) cut q.0 ((shown.all q.0).1 q.2))

  -- the cut by positions is the shown cut
  pub IsCutAt-route_cut : IsCutAt m side a b saddle cut
  IsCutAt-route_cut = record {
    points = map (rank m) cut;
    shown = record {
      saddle_is = is;
      exactly = λ x. (route-reached_of x, listed_of x);
      in_order = λ i j d less inside.
          (let l : length (map (rank m) cut) ≡ length cut = length-map cut (rank m) in
          let first = rank-place m cut i d (omega (arith, less, inside, l)) in
          let second = rank-place m cut j d (omega (arith, inside, l)) in
          let up = rises_more i j less (omega (arith, inside, l)) in
          omega (arith, first, second, up));
    };
    stand = (
      Present-all m cut (λ k inside. (let w = (shown.all (point_of cut k)).0 (Contains-get_or cut k (record { x = 0; y = 0 }) inside) in
          (IsLow-end m side saddle a w.0 (point_of cut k) shown.low w.1).present)),
      refl,
    );
  }

path_made : (m : Map) (side : SideName) (a b : Pos) (saddle : Option Rank) (path : List Pos) → Present m a → Present m b → SaddleIs m side (rank m a) (rank m b) saddle
    → MatchOption saddle (path ≡ []) (λ s. IsShownRoute m side a b s path) → MatchOption saddle (path ≡ []) (λ s. IsPathAt m side a b s path)
path_made m side a b None path here there is none = none
path_made m side a b (Some s) path here there is shown = IsPathAt-route m side a b s here there is path shown

-- what is made by positions is the shown certificate
pub IsShownCertificate-made : (m : Map) (side : SideName) (a b : Pos) (saddle : Option Rank) (c : Certificate) → AreTwoPits m side a b → SaddleIs m side (rank m a) (rank m b) saddle
    → IsMade m side a b saddle c → IsShownCertificate m side a b saddle c
IsShownCertificate-made m side a b saddle c pits is made = record {
  side_is = made.side_is;
  setting_is = made.setting_is;
  from_is = made.from_is;
  to_is = made.to_is;
  saddle_is = made.saddle_is;
  path = path_made m side a b saddle c.path pits.here pits.there is made.path;
  cut = IsCutAt-route_cut m side a b saddle pits.here is c.cut made.cut;
}
