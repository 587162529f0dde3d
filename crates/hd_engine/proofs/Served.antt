-- Distributions and shares over regions that serve a notation.
use Rattle.std.proofs.Common.{◌≡◌, ℕ, ℤ, true, List, map, Option, inl, inr, subst}
use Rattle.hd_feature.specs.declared.notation.Notation.{Notation}
use Rattle.hd_feature.specs.declared.region.Region.{Region}
use Rattle.hd_feature.specs.HeightsAlone.{height_alone, heights_serve}
use Rattle.hd_map.specs.Map.{Map}
use Rattle.hd_num.specs.declared.frac.Frac.{Frac}
use Rattle.hd_stats.specs.Distribution.{IsHist, IsPerc}
use Rattle.hd_survey.specs.Values.{AreServing}
use Rattle.hd_session.specs.Distributions.{AreNotationCounts, IsNotationShare}

-- what holds over regions that serve holds over the regions after pruning
over_features : (n : Notation) (P : List Region → Type 0) → ((rs : List Region) → heights_serve n ≡ true → P (map height_alone rs) → P rs)
    → (m : Map) (list : List Region) (served : AreServing m n list) → P list → P served.features
over_features n P law m list served holds = elim served.serve [
  | inl same ↦ subst P same holds
  | inr alone ↦ law served.features alone.0 (subst P alone.1 holds)
]

pub served_counts : ((n : Notation) (rs : List Region) (bins : ℕ) (counts : Option (List ℕ)) → heights_serve n ≡ true → IsHist n (map height_alone rs) bins counts → IsHist n rs bins counts)
    → (m : Map) (n : Notation) (list : List Region) (bins : ℕ) (counts : Option (List ℕ)) → AreServing m n list → IsHist n list bins counts → AreNotationCounts m n bins counts
served_counts law m n list bins counts served is = record {
  features = served.features;
  are = served.are;
  is = over_features n (λ rs. IsHist n rs bins counts) (λ rs. law n rs bins counts) m list served is;
}

pub served_share : ((n : Notation) (rs : List Region) (above : ℤ) (share : Option Frac) → heights_serve n ≡ true → IsPerc n (map height_alone rs) above share → IsPerc n rs above share)
    → (m : Map) (n : Notation) (list : List Region) (above : ℤ) (share : Option Frac) → AreServing m n list → IsPerc n list above share → IsNotationShare m n above share
served_share law m n list above share served is = record {
  features = served.features;
  are = served.are;
  is = over_features n (λ rs. IsPerc n rs above share) (λ rs. law n rs above share) m list served is;
}
