-- A certificate with a path over the saddle and the cut below it is right.
use Rattle.std.proofs.Common.{◌≡◌, ◌<◌, ◌+◌, ℕ, zero, suc, true, List, [], ◌∷◌, length, map, Option, Some, None, ap, ◌∙◌, refl, sym, subst, arith}
use Rattle.std.specs.Prelude.{ℤ, MatchOption}
use Rattle.std.specs.List.{Contains}
use Rattle.std.proofs.lemmas.Bool.{false≢true}
use Rattle.std.proofs.lemmas.List.Elements.{All-contains, Contains-get_or}
use Rattle.hd_map.specs.declared.types.Pos.{Pos}
use Rattle.hd_map.specs.declared.types.Rank.{Rank}
use Rattle.hd_map.specs.declared.types.SideName.{SideName}
use Rattle.hd_map.specs.Map.{Map, Present}
use Rattle.hd_map.proofs.Items.{Contains-map}
use Rattle.hd_map.proofs.Levels.{NoneAbove, top_of}
use Rattle.hd_map.specs.Rank.{rank, below_by}
use Rattle.hd_map.specs.Region.{IsPit}
use Rattle.hd_map.proofs.Points.{same_point}
use Rattle.hd_map.specs.SideLaws.{below_by-order}
use Rattle.hd_check.specs.Certified.{position_only}
use Rattle.hd_check.specs.Rules.{point_of, IsBelowLevel, IsLeak, IsRight}
use Rattle.hd_check.proofs.Searching.{Contains-place}
use Rattle.hd_map.specs.Saddle.{SaddleIs}
use Rattle.hd_map.specs.Shown.{IsBelowSaddle}
use Rattle.hd_reach.specs.Reached.{IsLowStep, IsReachedLow}
use Rattle.hd_reach.specs.Within.{LiesWithin, within}
use Rattle.hd_reach.proofs.ReachedBelow.{IsReachedLow-trans, IsLow-end, IsReachedBelow-low}
use Rattle.hd_cert.specs.Routes.{IsRouteOver, IsRouteCut}
use Rattle.hd_cert.specs.Shown.{IsWritten}
use Rattle.hd_cert.proofs.Shown.{NoneAbove-at}

-- no low path joins two points with this saddle
not_joined : (m : Map) (side : SideName) (a b : Pos) (saddle : Option Rank) → SaddleIs m side (rank m a) (rank m b) saddle → LiesWithin m side saddle true a → IsReachedLow m side saddle a b → ⊥
not_joined m side a b None is low w = let r = IsReachedBelow-low m side None a b low w in is r.points r.path
not_joined m side a b (Some s) is low w =
    let r = IsReachedBelow-low m side (Some s) a b low w in
    let t = top_of (below_by side) (below_by-order side) (rank m a) r.points in
    let down : below_by side t.0 s ≡ true = All-contains (IsBelowSaddle side (Some s)) (rank m a ∷ r.points) t.0 r.below t.1.one_of in
    false≢true (sym (is.least r.points t.0 r.path t.1) ∙ down)

-- a listed rank stands at a place
listed_rank : (m : Map) (p : Pos) (ps : List Pos) → Present m p → ((k : ℕ) → k < length ps → Present m (point_of ps k)) → Contains (map (rank m) ps) (rank m p) → Contains ps p
listed_rank m p ps here all at =
    let q = Contains-map (rank m) ps (rank m p) at in
    let place = Contains-place ps q.0 q.1 in
    subst (Contains ps) (same_point m q.0 p (subst (Present m) place.2 (all place.0 place.1)) here q.2) q.1

-- the level of a written saddle
level_same : (m : Map) (side : SideName) (saddle : Option Rank) (written : Option (Pos × ℤ)) (p : Pos) → IsWritten m saddle written → within side saddle true (rank m p) ≡ true
    → IsBelowLevel m side (position_only written) p
level_same m side None None p w h = tt
level_same m side (Some s) (Some x) p w h = subst (λ (t : Rank). below_by side (rank m p) t ≡ true) (sym w.1) h
level_same m side None (Some x) p w h = absurd w
level_same m side (Some s) None p w h = absurd w

level_back : (m : Map) (side : SideName) (saddle : Option Rank) (written : Option (Pos × ℤ)) (p : Pos) → IsWritten m saddle written → IsBelowLevel m side (position_only written) p
    → within side saddle true (rank m p) ≡ true
level_back m side None None p w h = refl
level_back m side (Some s) (Some x) p w h = subst (λ (t : Rank). below_by side (rank m p) t ≡ true) w.1 h
level_back m side None (Some x) p w h = absurd w
level_back m side (Some s) None p w h = absurd w

module _ (m : Map) (side : SideName) (a b : Pos) (saddle : Option Rank) (written : Option (Pos × ℤ)) (cut : List Pos) (is_written : IsWritten m saddle written)
    (shown : IsRouteCut m side saddle a cut) where
  joined : (k : ℕ) → k < length cut → IsReachedLow m side saddle a (point_of cut k)
  joined k inside = (shown.all (point_of cut k)).0 (Contains-get_or cut k (record { x = 0; y = 0 }) inside)

  joined_low : (k : ℕ) → k < length cut → LiesWithin m side saddle true (point_of cut k)
  joined_low k inside = let w = joined k inside in IsLow-end m side saddle a w.0 (point_of cut k) shown.low w.1

  cut_present : (k : ℕ) → k < length cut → Present m (point_of cut k)
  cut_present k inside = (joined_low k inside).present

  cut_low : (k : ℕ) → k < length cut → IsBelowLevel m side (position_only written) (point_of cut k)
  cut_low k inside = level_same m side saddle written (point_of cut k) is_written (joined_low k inside).low

  cut_begins : Contains cut a
  cut_begins = (shown.all a).1 ([], refl)

  cut_ends : SaddleIs m side (rank m a) (rank m b) saddle → Contains cut b → ⊥
  cut_ends is c = not_joined m side a b saddle is shown.low ((shown.all b).0 c)

  cut_closed : (k : ℕ) → k < length cut → (q : Pos) → IsLeak m side (position_only written) cut (point_of cut k) q → ⊥
  cut_closed k inside q leak =
      let step : IsLowStep m side saddle (point_of cut k) q = record {
        neighbour = leak.neighbour;
        from = joined_low k inside;
        to = record { present = leak.neighbour.to; low = level_back m side saddle written q is_written leak.below };
      } in
      leak.outside ((shown.all q).1 (IsReachedLow-trans m side saddle a (point_of cut k) q (joined k inside) (q ∷ [], (step, refl))))

-- the points of a path are present
pub Present-route : (m : Map) (side : SideName) (a b : Pos) (s : Rank) (path : List Pos) → Present m a → IsRouteOver m side a b s path → (k : ℕ) → k < length path → Present m (point_of path k)
Present-route m side a b s path here over zero inside = subst (Present m) (sym over.begins) here
Present-route m side a b s path here over (suc j) inside =
    let e : j + 1 ≡ suc j = omega arith in
    subst (λ (k : ℕ). Present m (point_of path k)) e (over.steps j (omega (arith, inside))).to

-- where a path goes over the saddle, and a cut is the points reached below it, all rules hold
pub IsRight-path_and_cut : (m : Map) (side : SideName) (a b : Pos) (saddle : Option Rank) (written : Option (Pos × ℤ)) (path cut : List Pos) → Present m a → Present m b
    → IsPit m side (rank m a) → IsPit m side (rank m b) → (a ≡ b → ⊥)
    → SaddleIs m side (rank m a) (rank m b) saddle → IsWritten m saddle written → MatchOption saddle (path ≡ []) (λ s. IsRouteOver m side a b s path) → IsRouteCut m side saddle a cut
    → IsRight m (record { side = side; adjacency = m.adjacency; from = a; to = b; saddle = written; path = path; cut = cut })
IsRight-path_and_cut m side a b None None path cut here there pit pit' apart is w none shown =
    let empty : length path ≡ 0 = ap length none in (
      (here, (there, (tt, ((λ k inside. absurd (omega (arith, inside, empty))), cut_present m side a b None None cut w shown)))),
      (
        (pit, (pit', apart)),
        (
          tt,
          (
            tt,
            (
              tt,
              (
                tt,
                (
                  tt,
                  (
                    shown.rises,
                    (
                      (cut_begins m side a b None None cut w shown, cut_ends m side a b None None cut w shown is),
                      (cut_low m side a b None None cut w shown, (cut_closed m side a b None None cut w shown, tt)),
                    ),
                  ),
                ),
              ),
            ),
          ),
        ),
      ),
    )
IsRight-path_and_cut m side a b (Some s) (Some (p, h)) path cut here there pit pit' apart is w over shown =
    let present = Present-route m side a b s path here over in
    let on = subst (Contains (map (rank m) path)) (sym w.1) over.top.one_of in
    let none = subst (λ (t : Rank). NoneAbove (below_by side) t (map (rank m) path)) (sym w.1) over.top.none_above in (
      (here, (there, (w.0, (present, cut_present m side a b (Some s) (Some (p, h)) cut w shown)))),
      (
        (pit, (pit', apart)),
        (
          w.2 ∙ ap (λ (r : Rank). r.height) (sym w.1),
          (
            (over.some, (over.begins, over.ends)),
            (
              over.steps,
              (
                listed_rank m p path w.0 present on,
                (
                  NoneAbove-at m side (rank m p) path none,
                  (
                    shown.rises,
                    (
                      (cut_begins m side a b (Some s) (Some (p, h)) cut w shown, cut_ends m side a b (Some s) (Some (p, h)) cut w shown is),
                      (cut_low m side a b (Some s) (Some (p, h)) cut w shown, (cut_closed m side a b (Some s) (Some (p, h)) cut w shown, tt)),
                    ),
                  ),
                ),
              ),
            ),
          ),
        ),
      ),
    )
IsRight-path_and_cut m side a b None (Some x) path cut here there pit pit' apart is w none shown = absurd w
IsRight-path_and_cut m side a b (Some s) None path cut here there pit pit' apart is w none shown = absurd w
