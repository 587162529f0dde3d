-- What the parts of the checker found, as rules of the certificate.
use Rattle.std.proofs.Common.{◌≡◌, ◌<◌, List, Option, None, inr, subst}
use Rattle.std.specs.List.{Contains}
use Rattle.hd_map.specs.declared.types.Pos.{Pos}
use Rattle.hd_map.specs.declared.types.Size.{Size}
use Rattle.hd_map.specs.Map.{Map, place_of}
use Rattle.hd_check.specs.declared.types.Certificate.{Certificate}
use Rattle.hd_check.specs.declared.types.Verdict.{Verdict}
use Rattle.hd_check.specs.declared.types.Verdict.TheVariants.{Yes, No}
use Rattle.hd_check.specs.Judged.{Asks, Then, TriedFrom}
use Rattle.hd_check.specs.Certified.{level_of}
use Rattle.hd_check.specs.Rules.{AsksPoints, AsksPairs, IsBelowLevel, IsCutClosed, CutRises, CutParts, CutLow, CutClosed, cut_rules, all_rules}
use Rattle.hd_check.specs.Rules.{AllPresent, TwoPits, TrueHeight, PathEnds, PathSteps, SaddleOnPath, PathLow}

module _ (m : Map) (c : Certificate) (cut : List Pos) (is_cut : cut ≡ c.cut) (o : Option Pos) where
  pub CutRises-rule : (size : Size) → size ≡ m.size → AsksPairs cut (λ p q. place_of size p < place_of size q) o → CutRises m c o
  CutRises-rule size e h = subst (λ ps. AsksPairs ps (λ p q. place_of m.size p < place_of m.size q) o) is_cut
      (subst (λ (s : Size). AsksPairs cut (λ p q. place_of s p < place_of s q) o) e h)

  pub CutParts-rule : Then (Asks (Contains cut c.from) c.from) (Asks (Contains cut c.to → ⊥) c.to) o → CutParts m c o
  CutParts-rule h = subst (λ ps. Then (Asks (Contains ps c.from) c.from) (Asks (Contains ps c.to → ⊥) c.to) o) is_cut h

  pub CutLow-rule : (level : Option Pos) → level ≡ level_of c → AsksPoints cut (IsBelowLevel m c.side level) o → CutLow m c o
  CutLow-rule level e h = subst (λ ps. AsksPoints ps (IsBelowLevel m c.side (level_of c)) o) is_cut (subst (λ l. AsksPoints cut (IsBelowLevel m c.side l) o) e h)

  pub CutClosed-rule : (level : Option Pos) → level ≡ level_of c → IsCutClosed m c.side level cut o → CutClosed m c o
  CutClosed-rule level e h = subst (λ ps. IsCutClosed m c.side (level_of c) ps o) is_cut (subst (λ l. IsCutClosed m c.side l cut o) e h)

-- the rules of the cut after the others
pub all_rules-before : (m : Map) (c : Certificate) (v : Verdict) → AllPresent m c None → TwoPits m c None → TrueHeight m c None → PathEnds m c None → PathSteps m c None
    → SaddleOnPath m c None → PathLow m c None
    → TriedFrom 8 (cut_rules m c) v → TriedFrom 1 (all_rules m c) v
all_rules-before m c Yes r1 r2 r3 r4 r5 r6 r7 h = (r1, (r2, (r3, (r4, (r5, (r6, (r7, h)))))))
all_rules-before m c (No rule p) r1 r2 r3 r4 r5 r6 r7 h = inr (r1, inr (r2, inr (r3, inr (r4, inr (r5, inr (r6, inr (r7, h)))))))
