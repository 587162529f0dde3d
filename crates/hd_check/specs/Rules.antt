-- The eleven rules of a saddle certificate.
use Rattle.std.specs.Prelude.{◌≡◌, ◌<◌, ◌≤◌, ◌+◌, ◌-◌, ℕ, ℤ, true, List, [], ◌∷◌, length, slice_index_or, Option, Some, None, MatchOption}
use Rattle.std.specs.List.{Contains}
use Rattle.hd_map.specs.declared.types.Pos.{Pos}
use Rattle.hd_map.specs.declared.types.SideName.{SideName}
use Rattle.hd_map.specs.Map.{Map, Present, place_of}
use Rattle.hd_map.specs.Neighbour.{Neighbour}
use Rattle.hd_map.specs.Order.{IsNotAbove}
use Rattle.hd_map.specs.Rank.{rank, below_by}
use Rattle.hd_map.specs.Region.{IsPit}
use Rattle.hd_map.specs.Sets.{under}
use Rattle.hd_check.specs.declared.types.Certificate.{Certificate}
use Rattle.hd_check.specs.declared.types.Verdict.{Verdict}
use Rattle.hd_check.specs.declared.types.Verdict.TheVariants.{Yes}
use Rattle.hd_check.specs.Certified.{level_of}
use Rattle.hd_check.specs.Judged.{Asks, AsksEach, Then, Skipped, TriedFrom}

-- the point at a place of a list
abbrev pub point_of : List Pos → ℕ → Pos
point_of ps k = slice_index_or ps k (record { x = 0; y = 0 })

-- each point of the list has the property, else the first that has not it is named
abbrev pub AsksPoints : List Pos → (Pos → Type 0) → Option Pos → Type 0
AsksPoints ps P = AsksEach (λ k. P (point_of ps k)) (point_of ps) (length ps)

-- each two consecutive points of the list are so related, else the second of the first pair that are not is named
abbrev pub AsksPairs : List Pos → (Pos → Pos → Type 0) → Option Pos → Type 0
AsksPairs ps R = AsksEach (λ k. R (point_of ps k) (point_of ps (k + 1))) (λ k. point_of ps (k + 1)) (length ps - 1)

-- asked of the saddle, if there is one
abbrev pub AsksSaddle : Certificate → (Pos → ℤ → Option Pos → Type 0) → Option Pos → Type 0
AsksSaddle c R o = MatchOption c.saddle (Skipped o) (λ s. R s.0 s.1 o)

-- below the saddle; every point is where there is none
abbrev pub IsBelowLevel : Map → SideName → Option Pos → Pos → Type 0
IsBelowLevel m side level p = MatchOption level (Unit {0}) (λ s. below_by side (rank m p) (rank m s) ≡ true)

-- q is a neighbour of p that is below the saddle and not in the cut
pub record IsLeak (m : Map) (side : SideName) (level : Option Pos) (cut : List Pos) (p q : Pos) : Type 0 where
  pub neighbour : Neighbour m p q
  pub below : IsBelowLevel m side level q
  pub outside : Contains cut q → ⊥

-- where a point has leaks, q is the first of them in position order
abbrev pub FirstLeak : Map → SideName → Option Pos → List Pos → Pos → Option Pos → Type 0
FirstLeak m side level cut p None = (q : Pos) → IsLeak m side level cut p q → ⊥
FirstLeak m side level cut p (Some q) = IsLeak m side level cut p q × ((r : Pos) → IsLeak m side level cut p r → place_of m.size q ≤ place_of m.size r)

-- 1: all points that are named are in the grid and present
abbrev pub AllPresent : Map → Certificate → Option Pos → Type 0
AllPresent m c = Then (Asks (Present m c.from) c.from) (Then (Asks (Present m c.to) c.to)
    (Then (AsksSaddle c (λ s h. Asks (Present m s) s)) (Then (AsksPoints c.path (Present m)) (AsksPoints c.cut (Present m)))))

-- 2: the ends are two different pits
abbrev pub TwoPits : Map → Certificate → Option Pos → Type 0
TwoPits m c = Then (Asks (IsPit m c.side (rank m c.from)) c.from)
    (Then (Asks (IsPit m c.side (rank m c.to)) c.to) (Asks (c.from ≡ c.to → ⊥) c.to))

-- 3: the written height is that of the saddle
abbrev pub TrueHeight : Map → Certificate → Option Pos → Type 0
TrueHeight m c = AsksSaddle c (λ s h. Asks (h ≡ (rank m s).height) s)

-- 4: the path is not empty, begins at from and ends at to
abbrev pub PathEnds : Map → Certificate → Option Pos → Type 0
PathEnds m c = AsksSaddle c (λ _ _. Then (Asks (1 ≤ length c.path) c.from)
    (Then (Asks (point_of c.path 0 ≡ c.from) (point_of c.path 0))
    (Asks (point_of c.path (length c.path - 1) ≡ c.to) (point_of c.path (length c.path - 1)))))

-- 5: consecutive path points are neighbours
abbrev pub PathSteps : Map → Certificate → Option Pos → Type 0
PathSteps m c = AsksSaddle c (λ _ _. AsksPairs c.path (Neighbour m))

-- 6: the saddle stands on the path
abbrev pub SaddleOnPath : Map → Certificate → Option Pos → Type 0
SaddleOnPath m c = AsksSaddle c (λ s _. Asks (Contains c.path s) s)

-- 7: no path point is above the saddle
abbrev pub PathLow : Map → Certificate → Option Pos → Type 0
PathLow m c = AsksSaddle c (λ s _. AsksPoints c.path (λ p. IsNotAbove (below_by c.side) (rank m p) (rank m s)))

-- 8: the cut is strictly rising in position order
abbrev pub CutRises : Map → Certificate → Option Pos → Type 0
CutRises m c = AsksPairs c.cut (λ p q. place_of m.size p < place_of m.size q)

-- 9: from is in the cut, to is not
abbrev pub CutParts : Map → Certificate → Option Pos → Type 0
CutParts m c = Then (Asks (Contains c.cut c.from) c.from) (Asks (Contains c.cut c.to → ⊥) c.to)

-- 10: each cut point is below the saddle
abbrev pub CutLow : Map → Certificate → Option Pos → Type 0
CutLow m c = AsksPoints c.cut (IsBelowLevel m c.side (level_of c))

-- each neighbour of a cut point is in the cut or is not below the saddle, else for the first cut point
-- with a leak its first leak is named
abbrev pub IsCutClosed : Map → SideName → Option Pos → List Pos → Option Pos → Type 0
IsCutClosed m side level cut None = (k : ℕ) → k < length cut → FirstLeak m side level cut (point_of cut k) None
IsCutClosed m side level cut (Some q) = (k : ℕ) × (k < length cut) × ((i : ℕ) → i < k → FirstLeak m side level cut (point_of cut i) None)
    × FirstLeak m side level cut (point_of cut k) (Some q)

-- 11: the cut is closed
abbrev pub CutClosed : Map → Certificate → Option Pos → Type 0
CutClosed m c o = IsCutClosed m c.side (level_of c) c.cut o

-- the rules of the cut
abbrev pub cut_rules : Map → Certificate → List (Option Pos → Type 0)
cut_rules m c = CutRises m c ∷ CutParts m c ∷ CutLow m c ∷ CutClosed m c ∷ []

-- all rules, in order
abbrev pub all_rules : Map → Certificate → List (Option Pos → Type 0)
all_rules m c = AllPresent m c ∷ TwoPits m c ∷ TrueHeight m c ∷ PathEnds m c ∷ PathSteps m c ∷ SaddleOnPath m c ∷ PathLow m c ∷ cut_rules m c

-- yes exactly where all eleven rules hold on the map under the setting that the certificate names, else the first
-- that fails and the position where it fails
abbrev pub IsVerdict : Map → Certificate → Verdict → Type 0
IsVerdict m c v = TriedFrom 1 (all_rules (under c.adjacency m) c) v

-- all eleven rules hold
abbrev pub IsRight : Map → Certificate → Type 0
IsRight m c = IsVerdict m c Yes
