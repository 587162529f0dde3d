-- A line leaves maps: the present one, and each earlier one.
use Rattle.std.proofs.Common.{ℕ, List, Option, Some, None, Result, Ok, Err, inl, inr, sym, subst}
use Rattle.std.specs.Prelude.{All, ℤ}
use Rattle.std.proofs.lemmas.List.Elements.{All-map, All-weaker}
use Rattle.hd_map.specs.Map.{Map, IsMap}
use Rattle.hd_map.specs.SettingLaws.{under-whole}
use Rattle.hd_map.specs.Sets.{under}
use Rattle.hd_edit.specs.declared.edit.Edit.{Edit}
use Rattle.hd_edit.specs.declared.edit.EditError.{EditError}
use Rattle.hd_morph.specs.declared.errors.ElementError.{ElementError}
use Rattle.hd_morph.specs.Element.{ElementTable}
use Rattle.hd_edit.specs.Board.{IsEdited, kept_after, map_before, earlier_before}
use Rattle.hd_feature.specs.declared.notation.Notation.{Notation}
use Rattle.hd_feature.specs.declared.notation.NotationError.{NotationError}
use Rattle.hd_feature.specs.declared.notation.Parameter.{Parameter}
use Rattle.hd_feature.specs.Notation.{notation_of}
use Rattle.hd_feature.specs.Parameters.{parameter_of}
use Rattle.hd_script.specs.declared.command.Command.{Command}
use Rattle.hd_script.specs.declared.command.Command.TheVariants as command
use Rattle.hd_script.specs.declared.command.LineError.{LineError}
use Rattle.hd_script.specs.Line.{script_line}
use Rattle.hd_session.specs.Answers.{IsCommandAnswer, IsReadAnswer, IsAnswer}
use Rattle.hd_session.specs.Edits.{IsOutcomeAnswer, IsUndoAnswer}
use Rattle.hd_session.specs.Elements.{IsMadeAnswer}
use Rattle.hd_stats.specs.declared.name.HeightName.{HeightName}
use Rattle.hd_stats.specs.Names.{height_name_of}
use Rattle.hd_session.specs.Distributions.{AreCountsOf, IsShareOf, sum_notation_of}
use Rattle.hd_session.specs.Heights.{IsHeightOf}
use Rattle.hd_session.specs.Regions.{IsLabelAnswer}
use Rattle.hd_session.specs.Reply.{Reply, Reports}
use Rattle.hd_session.specs.Values.{IsNamedAnswer, IsNotationAnswer}
use Rattle.hd_session.specs.State.{State, IsState}

-- a state that stays is one still
stays : (s after : State) (wanted got : Reply) → IsState s → Reports s after wanted got → IsState after
stays s after wanted got whole is = subst IsState (sym is.state) whole

-- what the board keeps of maps
pub record KeepsMaps : Type 0 where
  pub edits : (elements : List ElementTable) (m new : Map) (edit : Edit) → IsMap m → IsEdited elements m edit (Ok new) → IsMap new
  pub logs : (earlier : List Map) (m : Map) → All IsMap earlier → IsMap m → All IsMap (kept_after earlier m)
  pub back : (n : ℕ) (earlier : List Map) (m : Map) → All IsMap earlier → IsMap m → IsMap (map_before n earlier m)
  pub left : (n : ℕ) (earlier : List Map) → All IsMap earlier → All IsMap (earlier_before n earlier)

module _ (keeps : KeepsMaps) (s : State) (number : ℕ) (reply : Reply) (after : State) (whole : IsState s) where
  outcome-keeps : (edit : Edit) (outcome : Result Map EditError) → IsEdited s.elements s.map edit outcome → IsOutcomeAnswer s number outcome reply after → IsState after
  outcome-keeps edit (Ok m) edited is =
      subst IsState (sym is.state) (record { map = keeps.edits s.elements s.map m edit whole.map edited; earlier = keeps.logs s.earlier s.map whole.earlier whole.map })
  outcome-keeps edit (Err error) edited is = stays s after _ reply whole is

  undo-keeps : (n : ℕ) → IsUndoAnswer s number n reply after → IsState after
  undo-keeps n (inl (kept, is)) =
      subst IsState (sym is.state) (record { map = keeps.back n s.earlier s.map whole.earlier whole.map; earlier = keeps.left n s.earlier whole.earlier })
  undo-keeps n (inr (kept, is)) = stays s after _ reply whole is

  made-keeps : (made : Result ElementTable ElementError) → IsMadeAnswer s number made reply after → IsState after
  made-keeps (Ok element) is = subst IsState (sym is.state) (record { map = whole.map; earlier = whole.earlier })
  made-keeps (Err error) is = stays s after _ reply whole is

  label-keeps : (side : _) (at : _) → IsLabelAnswer s number side at reply after → IsState after
  label-keeps side at (inl outside) = stays s after _ reply whole outside.1
  label-keeps side at (inr (inl absent)) = stays s after _ reply whole absent.2
  label-keeps side at (inr (inr root)) = stays s after _ reply whole root.answer

  param-keeps : (name : List ℕ) (height : Option ℤ) (p : Result Parameter NotationError) → IsNamedAnswer s number name height p reply after → IsState after
  param-keeps name height (Ok p) is = stays s after _ reply whole is.answer
  param-keeps name height (Err error) is = stays s after _ reply whole is

  feature-keeps : (word : List ℕ) (n : Result Notation NotationError) → IsNotationAnswer s number word n reply after → IsState after
  feature-keeps word (Ok n) is = stays s after _ reply whole is.answer
  feature-keeps word (Err error) is = stays s after _ reply whole is

  height-keeps : (name : List ℕ) (c : Option ℤ) (p : Result HeightName NotationError) → IsHeightOf s number name c p reply after → IsState after
  height-keeps name c (Ok p) is = stays s after _ reply whole is.answer
  height-keeps name c (Err error) is = stays s after _ reply whole is

  counts-keep : (bins : ℕ) (word : List ℕ) (n : Result Notation NotationError) → AreCountsOf s number bins word n reply after → IsState after
  counts-keep bins word (Ok n) is = stays s after _ reply whole is.answer
  counts-keep bins word (Err error) is = stays s after _ reply whole is

  share-keeps : (above : ℤ) (word : List ℕ) (n : Result Notation NotationError) → IsShareOf s number above word n reply after → IsState after
  share-keeps above word (Ok n) is = stays s after _ reply whole is.answer
  share-keeps above word (Err error) is = stays s after _ reply whole is

  command-keeps : (asked : Command) → IsCommandAnswer s number asked reply after → IsState after
  command-keeps (command.Do edit) is = outcome-keeps edit is.outcome is.edited is.answer
  command-keeps (command.Undo n) is = undo-keeps n is
  command-keeps (command.Element name width height table) is = made-keeps is.made is.answer
  command-keeps command.Elements is = stays s after _ reply whole is
  command-keeps (command.Neighbours adjacency) is =
      subst IsState (sym is.state) (record {
        map = under-whole adjacency s.map whole.map;
        earlier = All-map IsMap (under adjacency) s.earlier (All-weaker IsMap
            (λ m. IsMap (under adjacency m)) (under-whole adjacency) s.earlier whole.earlier);
      })
  command-keeps command.Info is = stays s after _ reply whole is
  command-keeps command.Dales is = stays s after _ reply whole is.answer
  command-keeps command.Hills is = stays s after _ reply whole is.answer
  command-keeps (command.Label side at) is = label-keeps side at is
  command-keeps (command.Saddle name a b) is = subst IsState (sym is.stays) whole
  command-keeps (command.Tree side) is = stays s after _ reply whole is.answer
  command-keeps (command.Prune name percent) is = stays s after _ reply whole is.answer
  command-keeps (command.Lines name percent) is = stays s after _ reply whole is.answer
  command-keeps (command.Audit name percent) is = stays s after _ reply whole is.answer
  command-keeps (command.Fill name percent) is = stays s after _ reply whole is.answer
  command-keeps (command.Param name height) is = param-keeps name height (parameter_of name height) is
  command-keeps (command.Feature word) is = feature-keeps word (notation_of word) is
  command-keeps (command.HeightValue name c) is = height-keeps name c (height_name_of name c) is
  command-keeps (command.Hist bins word) is = counts-keep bins word (sum_notation_of word) is
  command-keeps (command.Perc above word) is = share-keeps above word (sum_notation_of word) is

  read-keeps : (read : Result (Option Command) LineError) → IsReadAnswer s number read reply after → IsState after
  read-keeps (Err error) is = stays s after _ reply whole is
  read-keeps (Ok None) is = stays s after _ reply whole is
  read-keeps (Ok (Some asked)) is = command-keeps asked is

  -- a line leaves maps
  pub IsAnswer-keeps_state : (line : List ℕ) → IsAnswer s number line reply after → IsState after
  IsAnswer-keeps_state line is = read-keeps (script_line line) is
