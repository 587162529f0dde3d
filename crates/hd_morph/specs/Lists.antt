-- The heights of a map before and after a filter, as numbers that stand for them.
use Rattle.std.specs.Prelude.{List, Result, MatchResult}
use Rattle.hd_map.specs.Map.{Map}
use Rattle.hd_map.specs.Encoding.{Encoding, most_filtered, narrow, wide, values_of}
use Rattle.hd_morph.specs.declared.errors.MorphError.{MorphError}
use Rattle.hd_morph.specs.declared.new_heights.OldAndNew.{OldAndNew}
use Rattle.hd_morph.specs.declared.new_heights.OldAndNew.TheVariants.{Narrow, Wide}
use Rattle.hd_morph.specs.Element.{ElementTable}
use Rattle.hd_morph.specs.declared.filter.Filter.{Filter}
use Rattle.hd_morph.specs.Filter.{IsFiltered, relief_of}
use Rattle.hd_morph.specs.Answer.{IsFilterRefusal}
use Rattle.hd_morph.specs.Listed.{AreHeightsOf}
use Rattle.hd_morph.specs.NewHeights.{AreNewHeights}
use Rattle.hd_morph.specs.Plain.{ArePlain, relief}

-- the plain numbers stand for what a filter makes of the heights of a map
pub record AreFilteredFrom {L : Type 0} (code : Encoding L) (filter : Filter) (m : Map) (e : ElementTable) (numbers : List L) : Type 0 where
  pub filtered : IsFiltered filter m.size e (relief_of m) (relief m.size (values_of code numbers))
  pub plain : ArePlain code m.size (most_filtered code) numbers

-- plain numbers stand for the heights of a map, and others for its new ones
pub record AreListsOf {L : Type 0} (code : Encoding L) (filter : Filter) (m : Map) (e : ElementTable) (olds news : List L) : Type 0 where
  pub held : AreHeightsOf code m olds
  pub made : AreNewHeights filter m e (values_of code news)
  pub plain : ArePlain code m.size (most_filtered code) news

-- the same of lists of either type
abbrev pub AreOldAndNew : Filter → Map → ElementTable → OldAndNew → Type 0
AreOldAndNew filter m e (Narrow lists) = AreListsOf narrow filter m e lists.before.items lists.after.items
AreOldAndNew filter m e (Wide lists) = AreListsOf wide filter m e lists.before.items lists.after.items

-- the heights before and after a filter, or why it has none
abbrev pub MakesLists : Filter → Map → ElementTable → Result OldAndNew MorphError → Type 0
MakesLists filter m e result = MatchResult result (AreOldAndNew filter m e) (IsFilterRefusal filter m e)
