-- The answers that tell distributions and shares of the attributes of features.
use Rattle.std.specs.Prelude.{◌++◌, ℕ, ℤ, List, Option, Result, Ok, Err, codes}
use Rattle.hd_feature.specs.declared.notation.Notation.{Notation}
use Rattle.hd_feature.specs.declared.notation.NotationError.{NotationError}
use Rattle.hd_feature.specs.declared.region.Region.{Region}
use Rattle.hd_feature.specs.Notation.{notation_of}
use Rattle.hd_map.specs.Map.{Map}
use Rattle.hd_num.specs.declared.frac.Frac.{Frac}
use Rattle.hd_stats.specs.Distribution.{IsHist, IsPerc}
use Rattle.hd_regions.specs.Features.{AreFeatures}
use Rattle.hd_regions.specs.Values.{side_of}
use Rattle.hd_report.specs.Distributions.{hist_line, perc_line}
use Rattle.hd_report.specs.Notations.{notation_text}
use Rattle.hd_session.specs.Reply.{Reply, Reports, Refuses, accepted_with}
use Rattle.hd_session.specs.State.{State}

-- the counts of the attributes of a notation over the regions after its pruning
pub record AreNotationCounts (m : Map) (n : Notation) (bins : ℕ) (counts : Option (List ℕ)) : Type 0 where
  pub features : List Region
  pub are : AreFeatures m (side_of n.kind) n.percent.thousandths features
  pub is : IsHist n features bins counts

-- the share of these attributes above a value
pub record IsNotationShare (m : Map) (n : Notation) (above : ℤ) (share : Option Frac) : Type 0 where
  pub features : List Region
  pub are : AreFeatures m (side_of n.kind) n.percent.thousandths features
  pub is : IsPerc n features above share

-- a word is read as the first five parts of a notation, whose statistic is the sum
abbrev pub sum_notation_of : List ℕ → Result Notation NotationError
sum_notation_of word = notation_of (word ++ codes ";Sum")

-- the counts are told
pub record TellsCounts (s : State) (bins : ℕ) (word : List ℕ) (n : Notation) (reply : Reply) (after : State) : Type 0 where
  pub counts : Option (List ℕ)
  pub are : AreNotationCounts s.map n bins counts
  pub answer : Reports s after (accepted_with (hist_line bins word counts)) reply

-- the answer by the notation that a word is read as
abbrev pub AreCountsOf : State → ℕ → ℕ → List ℕ → Result Notation NotationError → Reply → State → Type 0
AreCountsOf s number bins word (Ok n) reply after = TellsCounts s bins word n reply after
AreCountsOf s number bins word (Err error) reply after = Refuses s number (notation_text error) reply after

-- the counts are told, or the word is refused
abbrev pub IsHistAnswer : State → ℕ → ℕ → List ℕ → Reply → State → Type 0
IsHistAnswer s number bins word reply after = AreCountsOf s number bins word (sum_notation_of word) reply after

-- the share is told
pub record TellsShare (s : State) (above : ℤ) (word : List ℕ) (n : Notation) (reply : Reply) (after : State) : Type 0 where
  pub share : Option Frac
  pub is : IsNotationShare s.map n above share
  pub answer : Reports s after (accepted_with (perc_line above word share)) reply

-- the answer by the notation that a word is read as
abbrev pub IsShareOf : State → ℕ → ℤ → List ℕ → Result Notation NotationError → Reply → State → Type 0
IsShareOf s number above word (Ok n) reply after = TellsShare s above word n reply after
IsShareOf s number above word (Err error) reply after = Refuses s number (notation_text error) reply after

-- the share is told, or the word is refused
abbrev pub IsPercAnswer : State → ℕ → ℤ → List ℕ → Reply → State → Type 0
IsPercAnswer s number above word reply after = IsShareOf s number above word (sum_notation_of word) reply after
