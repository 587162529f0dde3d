-- The first leak of a line, found among the neighbours of its point.
use Rattle.std.proofs.Common.{◌≡◌, ◌<◌, ℕ, ℤ, List, Option, Some, None, inl, inr, sym, ap, ◌∙◌, subst, arith}
use Rattle.std.specs.Prelude.{◌↔◌}
use Rattle.std.specs.List.{AllPairs, Contains}
use Rattle.std.proofs.lemmas.Bool.{cases_lt, cases_eq}
use Rattle.std.proofs.lemmas.Option.{none-some, same_Some}
use Rattle.hd_map.specs.declared.types.Pos.{Pos}
use Rattle.hd_map.specs.declared.types.SideName.{SideName}
use Rattle.hd_map.specs.Map.{Map, place_of}
use Rattle.hd_map.specs.Neighbour.{Neighbour}
use Rattle.hd_check.specs.Rules.{point_of}
use Rattle.hd_check.proofs.Pits.{Neighbour-listed}
use Rattle.hd_check.proofs.Searching.{Contains-place}
use Rattle.hd_audit.specs.declared.types.AuditLine.{AuditLine}
use Rattle.hd_audit.specs.Leaks.{FirstLeakRound, FirstLeaking, LeaksTo}
use Rattle.hd_audit.specs.Lines.{line_at, point_at}
use Rattle.hd_audit.specs.Rules.{FirstLeak}

module _ (m : Map) (side : SideName) (thousandths : ℕ) (sz : ℤ) (lines : List AuditLine) where
  -- the first of all neighbours that the cut leaks to
  pub FirstLeakRound-leak : (cut : ℕ) (at : Pos) (round : List Pos) → ((q : Pos) → Contains round q ↔ Neighbour m at q) → AllPairs (λ a b. place_of m.size a < place_of m.size b) round
      → (o : Option Pos) → FirstLeaking m side thousandths sz lines cut round o → FirstLeakRound m side thousandths sz lines cut at o
  FirstLeakRound-leak cut at round all ordered None none = λ q near leak.
      (let f = Contains-place round q ((all q).1 near) in none f.0 f.1 (subst (LeaksTo m side thousandths sz lines cut) (sym f.2) leak))
  FirstLeakRound-leak cut at round all ordered (Some q) (j, inside, before, leak, is) = (
    subst (Neighbour m at) (sym is) (Neighbour-listed m at round all j inside),
    leak,
    λ r near leak'. (
        let f = Contains-place round r ((all r).1 near) in
        let within = f.1 in
        elim (cases_lt f.0 j) [
          | inl early ↦ absurd (before f.0 early (subst (LeaksTo m side thousandths sz lines cut) (sym f.2) leak'))
          | inr late ↦ elim (cases_eq j f.0) [
            | inl same ↦ (let e : place_of m.size q ≡ place_of m.size r = ap (place_of m.size) (is ∙ ap (point_of round) same ∙ f.2) in omega (arith, e))
            | inr other ↦
                let rise = ordered j f.0 (record { x = 0; y = 0 }) (omega (arith, late, other)) within in
                let a : place_of m.size q ≡ place_of m.size (point_of round j) = ap (place_of m.size) is in
                let b : place_of m.size (point_of round f.0) ≡ place_of m.size r = ap (place_of m.size) f.2 in
                omega (arith, rise, a, b)
          ]
        ]),
  )

  -- a line with a cut leaks where its cut does
  pub FirstLeak-line : (k cut : ℕ) → (line_at lines k).cut ≡ Some cut → (o : Option Pos) → FirstLeakRound m side thousandths sz lines cut (point_at m lines k) o
      → FirstLeak m side thousandths sz lines k o
  FirstLeak-line k cut is None none = λ q leak.
      (let same : leak.cut ≡ cut = same_Some leak.cut cut (sym leak.cut_is ∙ is) in
      none q leak.neighbour (subst (λ (c : ℕ). LeaksTo m side thousandths sz lines c q) same (record { within = leak.within; outside = leak.outside })))
  FirstLeak-line k cut is (Some q) (near, leak, first) = (
    record { cut = cut; cut_is = is; neighbour = near; within = leak.within; outside = leak.outside },
    λ r other.
        (let same : other.cut ≡ cut = same_Some other.cut cut (sym other.cut_is ∙ is) in
        first r other.neighbour (subst (λ (c : ℕ). LeaksTo m side thousandths sz lines c r) same (record { within = other.within; outside = other.outside }))),
  )
