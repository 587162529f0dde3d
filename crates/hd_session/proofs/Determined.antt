-- A line, and a script, has one answer.
use Rattle.std.specs.Prelude.{ℤ, codes}
use Rattle.std.proofs.Common.{◌≡◌, ◌+◌, ◌++◌, ◌&&◌, ◌∙◌, ℕ, List, [], ◌∷◌, Option, Some, None, Result, Ok, Err, inl, inr, length, map, refl, sym, ap, ap₂, subst, arith}
use Rattle.std.proofs.lemmas.List.{length-map}
use Rattle.hd_map.specs.declared.types.Pos.{Pos}
use Rattle.hd_map.specs.declared.types.Rank.{Rank}
use Rattle.hd_map.specs.declared.types.RegionSize.{RegionSize}
use Rattle.hd_map.specs.declared.types.SideName.{SideName}
use Rattle.hd_map.specs.Map.{Map, IsMap}
use Rattle.hd_map.specs.Rank.{rank}
use Rattle.hd_map.specs.ChangeTree.{Joining, IsChangeTree}
use Rattle.hd_map.specs.Pruning.{Leaving}
use Rattle.hd_map.specs.Region.{IsRoot}
use Rattle.hd_map.specs.Saddle.{IsSaddle}
use Rattle.hd_map.proofs.Points.{same_point}
use Rattle.hd_edit.specs.declared.edit.Edit.{Edit}
use Rattle.hd_edit.specs.declared.edit.EditError.{EditError}
use Rattle.hd_morph.specs.declared.errors.ElementError.{ElementError}
use Rattle.hd_morph.specs.Element.{ElementTable}
use Rattle.hd_edit.specs.Board.{IsEdited}
use Rattle.hd_feature.specs.declared.notation.Notation.{Notation}
use Rattle.hd_feature.specs.declared.notation.NotationError.{NotationError}
use Rattle.hd_feature.specs.declared.notation.Parameter.{Parameter}
use Rattle.hd_feature.specs.Notation.{notation_of}
use Rattle.hd_feature.specs.Parameters.{parameter_of}
use Rattle.hd_num.specs.declared.frac.Frac.{Frac}
use Rattle.hd_num.specs.Frac.{frac_text}
use Rattle.hd_check.specs.declared.types.Certificate.{Certificate}
use Rattle.hd_cert.specs.Shown.{IsShownCertificate}
use Rattle.hd_script.specs.declared.command.Command.{Command}
use Rattle.hd_script.specs.declared.command.Command.TheVariants as command
use Rattle.hd_script.specs.declared.command.LineError.{LineError}
use Rattle.hd_script.specs.Line.{script_line}
use Rattle.std.specs.Fmt.{signed_decimal}
use Rattle.hd_audit.specs.declared.types.Audit.{Audit}
use Rattle.hd_audit.specs.Shown.{IsShown}
use Rattle.hd_audit.specs.Text.{audit_text}
use Rattle.hd_feature.specs.declared.region.Region.{Region}
use Rattle.hd_feature.specs.Value.{AreSameValues}
use Rattle.hd_map.specs.declared.types.Size.{Size}
use Rattle.hd_num.specs.declared.percent.Percent.{Percent}
use Rattle.hd_prune.specs.declared.step.Kept.{Kept}
use Rattle.hd_prune.specs.Staying.{AreKeptAlone}
use Rattle.hd_stats.specs.declared.name.HeightName.{HeightName}
use Rattle.hd_stats.specs.Distribution.{IsHist, IsPerc}
use Rattle.hd_stats.specs.Fill.{AreFills, AreSameFills}
use Rattle.hd_stats.specs.Heights.{IsHeightValue}
use Rattle.hd_stats.specs.Names.{height_name_of}
use Rattle.hd_regions.specs.Features.{AreFeatures}
use Rattle.hd_regions.specs.Lines.{ArePrunedLines}
use Rattle.hd_regions.specs.Owned.{ArePrunedRegions}
use Rattle.hd_regions.specs.Regions.{AreRegionSizes}
use Rattle.hd_regions.specs.Values.{IsNotationValue, IsParameterValue, side_of}
use Rattle.hd_lines.specs.declared.line.BorderLine.{BorderLine}
use Rattle.hd_report.specs.Borders.{borders_text}
use Rattle.hd_report.specs.Distributions.{hist_line}
use Rattle.hd_report.specs.Place.{point_text}
use Rattle.hd_report.specs.Prunings.{prune_text}
use Rattle.hd_report.specs.Regions.{label_text, regions_text}
use Rattle.hd_report.specs.Trees.{tree_text}
use Rattle.hd_report.specs.Values.{height_text, value_text}
use Rattle.hd_report.specs.Volumes.{fill_heading, fill_text, volume_lines}
use Rattle.hd_session.specs.Answers.{IsCommandAnswer, IsReadAnswer, IsAnswer, AreAnswers}
use Rattle.hd_session.specs.Edits.{IsOutcomeAnswer, IsEditAnswer, IsUndoAnswer}
use Rattle.hd_session.specs.Elements.{IsElementAnswer, IsMadeAnswer}
use Rattle.hd_session.specs.Audits.{IsAuditAnswer}
use Rattle.hd_session.specs.Borders.{IsBordersAnswer}
use Rattle.hd_session.specs.Distributions.{AreCountsOf, IsShareOf, sum_notation_of}
use Rattle.hd_session.specs.Heights.{IsHeightOf}
use Rattle.hd_session.specs.Prunings.{IsPruneAnswer}
use Rattle.hd_session.specs.Regions.{IsRegionsAnswer, IsLabelAnswer, TellsRoot}
use Rattle.hd_session.specs.Reply.{Reply, Reports, Becomes, accepted_with}
use Rattle.hd_session.specs.State.{State, IsState}
use Rattle.hd_session.specs.Trees.{IsTreeAnswer}
use Rattle.hd_session.specs.Values.{IsNamedAnswer, IsNotationAnswer}
use Rattle.hd_session.specs.Volumes.{IsVolumesAnswer}
use Rattle.hd_session.proofs.MakesElement.{MakesElement-unique}
use Rattle.hd_session.proofs.SaddleAnswers.{IsSaddleAnswer-unique}

-- an answer is the reply, and the state after it
abbrev Agrees : (a b : Reply) (s' s'' : State) → Type 0
Agrees a b s' s'' = (a ≡ b) × (s' ≡ s'')

-- one reply to one state
reports-one : (s s' s'' : State) (wanted a b : Reply) → Reports s s' wanted a → Reports s s'' wanted b → Agrees a b s' s''
reports-one s s' s'' wanted a b one other = (one.reply ∙ sym other.reply, one.state ∙ sym other.state)

becomes-one : (number : ℕ) (next s' s'' : State) (a b : Reply) → Becomes number next s' a → Becomes number next s'' b → Agrees a b s' s''
becomes-one number next s' s'' a b one other = (one.reply ∙ sym other.reply, one.state ∙ sym other.state)

-- two replies of one form
reports-same : (s s' s'' : State) (x y a b : Reply) → x ≡ y → Reports s s' x a → Reports s s'' y b → Agrees a b s' s''
reports-same s s' s'' x y a b e one other = (one.reply ∙ e ∙ sym other.reply, one.state ∙ sym other.state)

-- one value has one text
same_text : (a b : Option Frac) → AreSameValues a b → value_text a ≡ value_text b
same_text (Some f) (Some g) same = ap (λ n. frac_text n f.den) same.0 ∙ ap (λ d. frac_text g.num d) same.1
same_text (Some f) None same = absurd same
same_text None (Some g) same = absurd same
same_text None None same = refl

-- as many kept pits as there are volumes
length-mapped : (fs gs : List (Kept × Option Frac)) → map (λ f. f.0) fs ≡ map (λ f. f.0) gs → length fs ≡ length gs
length-mapped fs gs pits = sym (length-map fs (λ (f : Kept × Option Frac). f.0)) ∙ ap length pits ∙ length-map gs (λ (f : Kept × Option Frac). f.0)

-- the same kept pits with the same volumes have the same lines
same_lines : (size : Size) (fs gs : List (Kept × Option Frac)) → map (λ f. f.0) fs ≡ map (λ f. f.0) gs → AreSameFills (map (λ f. f.1) fs) (map (λ f. f.1) gs)
    → volume_lines size fs ≡ volume_lines size gs
same_lines size [] [] pits same = refl
same_lines size [] (g ∷ gs) pits same = absurd same
same_lines size (f ∷ fs) [] pits same = absurd same
same_lines size (f ∷ fs) (g ∷ gs) pits same =
    let pit : f.0 ≡ g.0 = cc in
    let others : map (λ (f : Kept × Option Frac). f.0) fs ≡ map (λ (f : Kept × Option Frac). f.0) gs = cc in
    ap₂ (λ (k : Kept) (text : List ℕ). (codes "volume " ++ point_text size k.pit ++ 32 ∷ [] ++ text ++ 10 ∷ []) ++ volume_lines size fs) pit (same_text f.1 g.1 same.0)
    ∙ ap (λ (rest : List ℕ). (codes "volume " ++ point_text size g.0.pit ++ 32 ∷ [] ++ value_text g.1 ++ 10 ∷ []) ++ rest) (same_lines size fs gs others same.1)

-- what the layers below determine
pub record Determine : Type 0 where
  pub edits : (elements : List ElementTable) (m : Map) (edit : Edit) (x y : Result Map EditError) → IsMap m → IsEdited elements m edit x → IsEdited elements m edit y → x ≡ y
  pub regions : (m : Map) (side : SideName) (a b : List RegionSize) → IsMap m → AreRegionSizes m side a → AreRegionSizes m side b → a ≡ b
  pub trees : (m : Map) (side : SideName) (a b : List Joining) → IsChangeTree m side a → IsChangeTree m side b → a ≡ b
  pub prunings : (m : Map) (side : SideName) (thousandths : ℕ) (xs ys : List Leaving) (a b : List RegionSize) → IsMap m
      → ArePrunedRegions m side thousandths xs a → ArePrunedRegions m side thousandths ys b → (xs ≡ ys) × (a ≡ b)
  pub borders : (m : Map) (side : SideName) (thousandths : ℕ) (xs ys : List BorderLine) → IsMap m → ArePrunedLines m side thousandths xs → ArePrunedLines m side thousandths ys → xs ≡ ys
  pub roots : (m : Map) (side : SideName) (p r s : Rank) → IsRoot m side p r → IsRoot m side p s → r ≡ s
  pub saddles : (m : Map) (side : SideName) (a b s t : Rank) → IsSaddle m side a b s → IsSaddle m side a b t → s ≡ t
  pub certificates : (m : Map) (side : SideName) (a b : Pos) (saddle : Option Rank) (c d : Certificate) → IsShownCertificate m side a b saddle c → IsShownCertificate m side a b saddle d → c ≡ d
  pub notations : (m : Map) (n : Notation) (a b : Option Frac) → IsMap m → IsNotationValue m n a → IsNotationValue m n b → AreSameValues a b
  pub audits : (m : Map) (side : SideName) (percent : Percent) (a b : Audit) → IsMap m → IsShown m side percent a → IsShown m side percent b → a ≡ b
  pub kept : (m : Map) (side : SideName) (thousandths : ℕ) (a b : List Kept) → AreKeptAlone m side thousandths a → AreKeptAlone m side thousandths b → a ≡ b
  pub fills : (m : Map) (side : SideName) (kept : List Kept) (a b : List (Option Frac)) → AreFills m side kept a → AreFills m side kept b → AreSameFills a b
  pub features : (m : Map) (side : SideName) (thousandths : ℕ) (a b : List Region) → IsMap m → AreFeatures m side thousandths a → AreFeatures m side thousandths b → a ≡ b
  pub counts : (n : Notation) (regions : List Region) (bins : ℕ) (a b : Option (List ℕ)) → IsHist n regions bins a → IsHist n regions bins b → a ≡ b
  pub shares : (n : Notation) (regions : List Region) (above : ℤ) (a b : Option Frac) → IsPerc n regions above a → IsPerc n regions above b → AreSameValues a b
  pub heights : (m : Map) (name : HeightName) (a b : Option Frac) → IsHeightValue m name a → IsHeightValue m name b → AreSameValues a b
  pub parameters : (m : Map) (p : Parameter) (a b : Option Frac) → IsMap m → IsParameterValue m p a → IsParameterValue m p b → AreSameValues a b

module _ (one : Determine) (s : State) (number : ℕ) (a b : Reply) (s' s'' : State) (whole : IsState s) where
  outcome-one : (outcome : Result Map EditError) → IsOutcomeAnswer s number outcome a s' → IsOutcomeAnswer s number outcome b s'' → Agrees a b s' s''
  outcome-one (Ok m) x y = becomes-one number _ s' s'' a b x y
  outcome-one (Err error) x y = reports-one s s' s'' _ a b x y

  edit-one : (edit : Edit) → IsEditAnswer s number edit a s' → IsEditAnswer s number edit b s'' → Agrees a b s' s''
  edit-one edit x y =
      let same = one.edits s.elements s.map edit y.outcome x.outcome whole.map y.edited x.edited in
      outcome-one x.outcome x.answer (subst (λ o. IsOutcomeAnswer s number o b s'') same y.answer)

  undo-one : (n : ℕ) → IsUndoAnswer s number n a s' → IsUndoAnswer s number n b s'' → Agrees a b s' s''
  undo-one n (inl x) (inl y) = becomes-one number _ s' s'' a b x.1 y.1
  undo-one n (inl x) (inr y) = absurd (omega (arith, x.0, y.0))
  undo-one n (inr x) (inl y) = absurd (omega (arith, x.0, y.0))
  undo-one n (inr x) (inr y) = reports-one s s' s'' _ a b x.1 y.1

  regions-one : (side : SideName) → IsRegionsAnswer s side a s' → IsRegionsAnswer s side b s'' → Agrees a b s' s''
  regions-one side x y =
      let same : x.regions ≡ y.regions = one.regions s.map side x.regions y.regions whole.map x.are y.are in
      reports-same s s' s'' _ _ a b (ap (λ regions. accepted_with (regions_text side s.map.size regions)) same) x.answer y.answer

  root-one : (side : SideName) (at : Pos) → TellsRoot s side at a s' → TellsRoot s side at b s'' → Agrees a b s' s''
  root-one side at x y =
      let same : x.root ≡ y.root = same_point s.map x.root y.root x.root_present y.root_present (one.roots s.map side (rank s.map at) (rank s.map x.root) (rank s.map y.root) x.is_root y.is_root) in
      reports-same s s' s'' _ _ a b (ap (λ root. accepted_with (label_text side at root)) same) x.answer y.answer

  label-one : (side : SideName) (at : Pos) → IsLabelAnswer s number side at a s' → IsLabelAnswer s number side at b s'' → Agrees a b s' s''
  label-one side at (inl x) (inl y) = reports-one s s' s'' _ a b x.1 y.1
  label-one side at (inl x) (inr (inl y)) = absurd (x.0 y.0)
  label-one side at (inl x) (inr (inr y)) = absurd (x.0 y.present.in_grid)
  label-one side at (inr (inl x)) (inl y) = absurd (y.0 x.0)
  label-one side at (inr (inl x)) (inr (inl y)) = reports-one s s' s'' _ a b x.2 y.2
  label-one side at (inr (inl x)) (inr (inr y)) = absurd (x.1 y.present)
  label-one side at (inr (inr x)) (inl y) = absurd (y.0 x.present.in_grid)
  label-one side at (inr (inr x)) (inr (inl y)) = absurd (y.1 x.present)
  label-one side at (inr (inr x)) (inr (inr y)) = root-one side at x y

  made-one : (made : Result ElementTable ElementError) → IsMadeAnswer s number made a s' → IsMadeAnswer s number made b s'' → Agrees a b s' s''
  made-one (Ok element) x y = becomes-one number _ s' s'' a b x y
  made-one (Err error) x y = reports-one s s' s'' _ a b x y

  element-one : (table : ElementTable) → IsElementAnswer s number table a s' → IsElementAnswer s number table b s'' → Agrees a b s' s''
  element-one table x y =
      let same = MakesElement-unique table y.made x.made y.makes x.makes in
      made-one x.made x.answer (subst (λ made. IsMadeAnswer s number made b s'') same y.answer)

  tree-one : (side : SideName) → IsTreeAnswer s side a s' → IsTreeAnswer s side b s'' → Agrees a b s' s''
  tree-one side x y =
      let same : x.joins ≡ y.joins = one.trees s.map side x.joins y.joins x.tree y.tree in
      reports-same s s' s'' _ _ a b (ap (λ joins. accepted_with (tree_text side s.map.size joins)) same) x.answer y.answer

  prune-one : (side : SideName) (thousandths : ℕ) → IsPruneAnswer s side thousandths a s' → IsPruneAnswer s side thousandths b s'' → Agrees a b s' s''
  prune-one side thousandths x y =
      let same = one.prunings s.map side thousandths x.steps y.steps x.kept y.kept whole.map x.are y.are in
      reports-same s s' s'' _ _ a b
      (ap (λ steps. accepted_with (prune_text side thousandths s.map.size steps x.kept)) same.0 ∙ ap (λ kept. accepted_with (prune_text side thousandths s.map.size y.steps kept)) same.1)
      x.answer y.answer

  borders-one : (side : SideName) (thousandths : ℕ) → IsBordersAnswer s side thousandths a s' → IsBordersAnswer s side thousandths b s'' → Agrees a b s' s''
  borders-one side thousandths x y =
      let same : x.lines ≡ y.lines = one.borders s.map side thousandths x.lines y.lines whole.map x.are y.are in
      reports-same s s' s'' _ _ a b (ap (λ lines. accepted_with (borders_text side thousandths s.map.size lines)) same) x.answer y.answer

  param-one : (name : List ℕ) (height : Option ℤ) (p : Result Parameter NotationError) → IsNamedAnswer s number name height p a s' → IsNamedAnswer s number name height p b s'' → Agrees a b s' s''
  param-one name height (Ok p) x y =
      let same = one.parameters s.map p x.value y.value whole.map x.is y.is in
      reports-same s s' s'' _ _ a b (ap (λ text. accepted_with (codes "param " ++ name ++ height_text height ++ 32 ∷ [] ++ text ++ 10 ∷ [])) (same_text x.value y.value same)) x.answer y.answer
  param-one name height (Err error) x y = reports-one s s' s'' _ a b x y

  feature-one : (word : List ℕ) (n : Result Notation NotationError) → IsNotationAnswer s number word n a s' → IsNotationAnswer s number word n b s'' → Agrees a b s' s''
  feature-one word (Ok n) x y =
      let same = one.notations s.map n x.value y.value whole.map x.is y.is in
      reports-same s s' s'' _ _ a b (ap (λ text. accepted_with (codes "feature " ++ word ++ 32 ∷ [] ++ text ++ 10 ∷ [])) (same_text x.value y.value same)) x.answer y.answer
  feature-one word (Err error) x y = reports-one s s' s'' _ a b x y

  audit-one : (side : SideName) (percent : Percent) → IsAuditAnswer s side percent a s' → IsAuditAnswer s side percent b s'' → Agrees a b s' s''
  audit-one side percent x y =
      let same : x.audit ≡ y.audit = one.audits s.map side percent x.audit y.audit whole.map x.shown y.shown in
      reports-same s s' s'' _ _ a b (ap (λ (c : Audit). accepted_with (audit_text c)) same) x.answer y.answer

  volumes-one : (side : SideName) (thousandths : ℕ) → IsVolumesAnswer s side thousandths a s' → IsVolumesAnswer s side thousandths b s'' → Agrees a b s' s''
  volumes-one side thousandths x y =
      let kept : x.kept ≡ y.kept = one.kept s.map side thousandths x.kept y.kept x.are_kept y.are_kept in
      let volumes = one.fills s.map side y.kept x.volumes y.volumes (subst (λ (ks : List Kept). AreFills s.map side ks x.volumes) kept x.are) y.are in
      let pits : map (λ (f : Kept × Option Frac). f.0) x.fills ≡ map (λ (f : Kept × Option Frac). f.0) y.fills = x.with_volumes.pits ∙ kept ∙ sym y.with_volumes.pits in
      let same = subst (λ (vs : List (Option Frac)). AreSameFills (map (λ (f : Kept × Option Frac). f.1) x.fills) vs) (sym y.with_volumes.values)
      (subst (λ (vs : List (Option Frac)). AreSameFills vs y.volumes) (sym x.with_volumes.values) volumes) in
      reports-same s s' s'' _ _ a b
      (ap₂ (λ (n : ℕ) (lines : List ℕ). accepted_with (fill_heading side thousandths n ++ lines)) (length-mapped x.fills y.fills pits) (same_lines s.map.size x.fills y.fills pits same))
      x.answer y.answer

  height-one : (name : List ℕ) (c : Option ℤ) (p : Result HeightName NotationError) → IsHeightOf s number name c p a s' → IsHeightOf s number name c p b s'' → Agrees a b s' s''
  height-one name c (Ok p) x y =
      let same = one.heights s.map p x.value y.value x.is y.is in
      reports-same s s' s'' _ _ a b (ap (λ text. accepted_with (codes "height " ++ name ++ height_text c ++ 32 ∷ [] ++ text ++ 10 ∷ [])) (same_text x.value y.value same)) x.answer y.answer
  height-one name c (Err error) x y = reports-one s s' s'' _ a b x y

  counts-one : (bins : ℕ) (word : List ℕ) (n : Result Notation NotationError) → AreCountsOf s number bins word n a s' → AreCountsOf s number bins word n b s'' → Agrees a b s' s''
  counts-one bins word (Ok n) x y =
      let features = one.features s.map (side_of n.kind) n.percent.thousandths x.are.features y.are.features whole.map x.are.are y.are.are in
      let same = one.counts n y.are.features bins x.counts y.counts (subst (λ (rs : List Region). IsHist n rs bins x.counts) features x.are.is) y.are.is in
      reports-same s s' s'' _ _ a b (ap (λ counts. accepted_with (hist_line bins word counts)) same) x.answer y.answer
  counts-one bins word (Err error) x y = reports-one s s' s'' _ a b x y

  share-one : (above : ℤ) (word : List ℕ) (n : Result Notation NotationError) → IsShareOf s number above word n a s' → IsShareOf s number above word n b s'' → Agrees a b s' s''
  share-one above word (Ok n) x y =
      let features = one.features s.map (side_of n.kind) n.percent.thousandths x.is.features y.is.features whole.map x.is.are y.is.are in
      let same = one.shares n y.is.features above x.share y.share (subst (λ (rs : List Region). IsPerc n rs above x.share) features x.is.is) y.is.is in
      reports-same s s' s'' _ _ a b (ap (λ text. accepted_with (codes "perc " ++ signed_decimal above ++ 32 ∷ [] ++ word ++ 32 ∷ [] ++ text ++ 10 ∷ []))
      (same_text x.share y.share same)) x.answer y.answer
  share-one above word (Err error) x y = reports-one s s' s'' _ a b x y

  command-one : (asked : Command) → IsCommandAnswer s number asked a s' → IsCommandAnswer s number asked b s'' → Agrees a b s' s''
  command-one (command.Do edit) x y = edit-one edit x y
  command-one (command.Undo n) x y = undo-one n x y
  command-one (command.Element name width height table) x y = element-one _ x y
  command-one command.Elements x y = reports-one s s' s'' _ a b x y
  command-one (command.Neighbours adjacency) x y = becomes-one number _ s' s'' a b x y
  command-one command.Info x y = reports-one s s' s'' _ a b x y
  command-one command.Dales x y = regions-one _ x y
  command-one command.Hills x y = regions-one _ x y
  command-one (command.Label side at) x y = label-one side at x y
  command-one (command.Saddle side p q) x y = IsSaddleAnswer-unique (record { roots = one.roots; saddles = one.saddles; certificates = one.certificates }) s s' s'' number side p q a b x y
  command-one (command.Tree side) x y = tree-one side x y
  command-one (command.Prune name percent) x y = prune-one name percent.thousandths x y
  command-one (command.Lines name percent) x y = borders-one name percent.thousandths x y
  command-one (command.Audit name percent) x y = audit-one name percent x y
  command-one (command.Fill name percent) x y = volumes-one name percent.thousandths x y
  command-one (command.Param name height) x y = param-one name height (parameter_of name height) x y
  command-one (command.Feature word) x y = feature-one word (notation_of word) x y
  command-one (command.HeightValue name c) x y = height-one name c (height_name_of name c) x y
  command-one (command.Hist bins word) x y = counts-one bins word (sum_notation_of word) x y
  command-one (command.Perc above word) x y = share-one above word (sum_notation_of word) x y

  read-one : (read : Result (Option Command) LineError) → IsReadAnswer s number read a s' → IsReadAnswer s number read b s'' → Agrees a b s' s''
  read-one (Err error) x y = reports-one s s' s'' _ a b x y
  read-one (Ok None) x y = reports-one s s' s'' _ a b x y
  read-one (Ok (Some asked)) x y = command-one asked x y

  -- a line has one answer on a state
  pub IsAnswer-unique : (line : List ℕ) → IsAnswer s number line a s' → IsAnswer s number line b s'' → Agrees a b s' s''
  IsAnswer-unique line x y = read-one (script_line line) x y

-- what is known of one line
pub record OneLine : Type 0 where
  pub one : (s : State) (number : ℕ) (line : List ℕ) (a b : Reply) (s' s'' : State) → IsState s → IsAnswer s number line a s' → IsAnswer s number line b s'' → Agrees a b s' s''
  pub keeps : (s : State) (number : ℕ) (line : List ℕ) (a : Reply) (s' : State) → IsState s → IsAnswer s number line a s' → IsState s'

-- the lines of a script have one answer on a state
pub AreAnswers-unique : OneLine → (s : State) (number : ℕ) (lines : List (List ℕ)) (a b : Reply) (s' s'' : State) → IsState s → AreAnswers s number lines a s'
    → AreAnswers s number lines b s'' → Agrees a b s' s''
AreAnswers-unique known s number [] a b s' s'' whole x y = reports-one s s' s'' _ a b x y
AreAnswers-unique known s number (line ∷ lines) a b s' s'' whole (first, middle, others, is, are, reply) (first', middle', others', is', are', reply') =
    let same = known.one s number line first first' middle middle' whole is is' in
    let onward : AreAnswers middle (number + 1) lines others' s'' = subst (λ (t : State). AreAnswers t (number + 1) lines others' s'') (sym same.1) are' in
    let rest = AreAnswers-unique known middle (number + 1) lines others others' s' s'' (known.keeps s number line first middle whole is) are onward in
    let join : Reply → Reply → Reply = λ r t. record { accepted = r.accepted && t.accepted; text = r.text ++ t.text } in (
      reply ∙ ap (λ r. join r others) same.0 ∙ ap (λ t. join first' t) rest.0 ∙ sym reply',
      rest.1,
    )
