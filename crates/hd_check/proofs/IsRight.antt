-- A right certificate tells the saddle.
use Rattle.std.proofs.Common.{◌≡◌, ◌-◌, true, List, [], ◌∷◌, length, map, Option, Some, None, ap, ◌∙◌, refl, sym, subst, arith}
use Rattle.std.specs.Prelude.{ℤ}
use Rattle.std.specs.List.{Contains}
use Rattle.hd_map.specs.declared.types.Adjacency.{Adjacency}
use Rattle.hd_map.specs.Sets.{under}
use Rattle.hd_map.specs.declared.types.Pos.{Pos}
use Rattle.hd_map.specs.declared.types.Rank.{Rank}
use Rattle.hd_map.specs.declared.types.SideName.{SideName}
use Rattle.hd_map.specs.Map.{Map, Present, place_of}
use Rattle.hd_map.specs.Neighbour.{Neighbour}
use Rattle.hd_map.specs.Path.{Leads, IsTop}
use Rattle.hd_map.specs.Rank.{rank, below_by, Near}
use Rattle.hd_map.proofs.Points.{same_point, point_at}
use Rattle.hd_map.proofs.Order.{not_above-trans}
use Rattle.hd_map.proofs.Items.{map-Contains}
use Rattle.hd_map.specs.SideLaws.{below_by-order}
use Rattle.hd_check.specs.declared.types.Certificate.{Certificate}
use Rattle.hd_check.specs.declared.types.Verdict.TheVariants.{Yes}
use Rattle.hd_check.specs.Judged.{TriedFrom}
use Rattle.hd_check.specs.Rules.{point_of, IsBelowLevel, IsCutClosed, IsRight, all_rules}
use Rattle.hd_map.specs.Saddle.{IsSaddle, SaddleIs}
use Rattle.hd_check.specs.Certified.{saddle_of, written_rank}
use Rattle.hd_check.proofs.ClosedCuts.{Leads-closed, IsTop-closed}
use Rattle.hd_check.proofs.Paths.{Leads-path, NoneAbove-listed}
use Rattle.hd_check.proofs.Searching.{Contains-place}

-- the point x lies in the cut, as far as it can be told without looking
record IsInCut (m : Map) (cut : List Pos) (x : Rank) : Type 0 where
  at : Pos
  present : Present m at
  listed : (Contains cut at → ⊥) → ⊥
  rank_is : x ≡ rank m at

module _ (m : Map) (side : SideName) (level : Option Pos) (cut : List Pos) (closed : IsCutClosed m side level cut None) where
  -- what is near a point of a closed cut and below the saddle lies in the cut
  cut_step : (x y : Rank) → IsInCut m cut x → Near m x y → ((q : Pos) → y ≡ rank m q → IsBelowLevel m side level q) → IsInCut m cut y
  cut_step x y h n low =
      let same : n.from ≡ h.at = same_point m n.from h.at n.neighbour.from h.present (sym n.from_rank ∙ h.rank_is) in
      let near : Neighbour m h.at n.to = subst (λ (p : Pos). Neighbour m p n.to) same n.neighbour in
      record {
        at = n.to;
        present = n.neighbour.to;
        listed = λ out. h.listed (λ c.
            let f = Contains-place cut h.at c in
            closed f.0 f.1 n.to (record { neighbour = subst (λ (p : Pos). Neighbour m p n.to) (sym f.2) near; below = low n.to n.to_rank; outside = out }));
        rank_is = n.to_rank;
      }

-- a listed point lies in the cut
in_cut : (m : Map) (cut : List Pos) (p : Pos) → Present m p → Contains cut p → IsInCut m cut (rank m p)
in_cut m cut p here c = record { at = p; present = here; listed = λ out. out c; rank_is = refl }

-- a point that is not listed lies outside it
out_of_cut : (m : Map) (cut : List Pos) (p : Pos) → Present m p → (Contains cut p → ⊥) → IsInCut m cut (rank m p) → ⊥
out_of_cut m cut p here out h = h.listed (λ c. out (subst (Contains cut) (same_point m h.at p h.present here (sym h.rank_is)) c))

-- where all rules hold on a map, the saddle is that of its two pits
right_at : (m : Map) (side : SideName) (adjacency : Adjacency) (from to : Pos) (saddle : Option (Pos × ℤ)) (path cut : List Pos)
    → TriedFrom 1 (all_rules m (record { side = side; adjacency = adjacency; from = from; to = to; saddle = saddle; path = path; cut = cut })) Yes
    → SaddleIs m side (rank m from) (rank m to) (written_rank m saddle)
right_at m side adjacency from to None path cut (present, (pits, (height, (ends, (steps, (on, (low, (rises, (parts, (cut_low, (closed, _))))))))))) = λ xs p.
    out_of_cut m cut to present.1.0 parts.1 (Leads-closed (Near m) (IsInCut m cut) (λ x y h n. cut_step m side None cut closed x y h n (λ q e. tt)) (rank m from) (rank m to) xs p.leads
    (in_cut m cut from present.0 parts.0))
right_at m side adjacency from to (Some (s, h)) [] cut (present, (pits, (height, (ends, _)))) = absurd (omega (arith, ends.0))
right_at m side adjacency from to (Some (s, h)) (p ∷ ps) cut (present, (pits, (height, (ends, (steps, (on, (low, (rises, (parts, (cut_low, (closed, _))))))))))) =
    let written : rank m s ≡ record { height = h; index = place_of m.size s } = ap (λ (z : ℤ). record { height = z; index = place_of m.size s }) (sym height) in
    let begins : rank m p ≡ rank m from = ap (rank m) ends.1.0 in
    let stops : rank m (point_of (p ∷ ps) (length (p ∷ ps) - 1)) ≡ rank m to = ap (rank m) ends.1.1 in
    let top : IsTop (below_by side) (rank m s) (map (rank m) (p ∷ ps)) = record {
      one_of = map-Contains (rank m) (p ∷ ps) s on;
      none_above = NoneAbove-listed m side (rank m s) (p ∷ ps) low;
    } in
    let leads : Leads (Near m) (rank m from) (map (rank m) ps) (rank m to) =
    subst (λ (a : Rank). Leads (Near m) a (map (rank m) ps) (rank m to)) begins (subst (λ (b : Rank). Leads (Near m) (rank m p) (map (rank m) ps) b) stops (Leads-path m p ps steps)) in
    let tops : IsTop (below_by side) (rank m s) (rank m from ∷ map (rank m) ps) = subst (λ (a : Rank). IsTop (below_by side) (rank m s) (a ∷ map (rank m) ps)) begins top in
    subst (λ (t : Rank). IsSaddle m side (rank m from) (rank m to) t) written (record {
      reached = (map (rank m) ps, record { point = point_at m from present.0; leads = leads }, tops);
      least = λ xs t path u. IsTop-closed (Near m) (below_by side) (not_above-trans (below_by side) (below_by-order side)) (rank m s) (IsInCut m cut)
          (λ x y h n below. cut_step m side (Some s) cut closed x y h n (λ q e. subst (λ (r : Rank). below_by side r (rank m s) ≡ true) e below))
          (rank m from) (rank m to) (in_cut m cut from present.0 parts.0) (out_of_cut m cut to present.1.0 parts.1) xs t path.leads u;
    })

pub IsRight-saddle : (m : Map) (c : Certificate) → IsRight m c → SaddleIs (under c.adjacency m) c.side (rank m c.from) (rank m c.to) (saddle_of m c)
IsRight-saddle m c h = right_at (under c.adjacency m) c.side c.adjacency c.from c.to c.saddle c.path c.cut h
