-- The answer to an edit, from what the board did.
use Rattle.std.proofs.Common.{◌≡◌, ℕ, Result, Ok, Err, refl}
use Rattle.std.specs.Prelude.{IfOk}
use Rattle.hd_map.specs.Map.{Map}
use Rattle.hd_edit.specs.declared.edit.Edit.{Edit}
use Rattle.hd_edit.specs.declared.edit.EditError.{EditError}
use Rattle.hd_edit.specs.declared.edit.EditError.TheVariants.{Memory, Outside, HeightRange, EmptyRect, NoElement}
use Rattle.hd_edit.specs.Board.{Applies, IsEdited}
use Rattle.hd_report.specs.Edits.{edit_text}
use Rattle.hd_report.specs.Lines.{ok_line}
use Rattle.hd_session.specs.Edits.{IsEditAnswer, edited_state}
use Rattle.hd_session.specs.Reply.{Reply, accepted_with, refused_for}
use Rattle.hd_session.specs.State.{State}

-- what is told of a refusal that is no want of memory
told : (P : Result Map EditError → Type 0) (error : EditError) (old new : Map) → (error ≡ Memory → ⊥) → Applies P (Err error) old new → P (Err error)
told P Memory old new unlike is = absurd (unlike refl)
told P (Outside at) old new unlike is = is.0
told P (HeightRange at) old new unlike is = is.0
told P EmptyRect old new unlike is = is.0
told P NoElement old new unlike is = is.0

-- an accepted edit
pub edit_accepted : (s : State) (number : ℕ) (edit : Edit) (m : Map) (reply : Reply) (after : State)
    → IsEdited s.elements s.map edit (Ok m) → reply ≡ accepted_with (ok_line number) → after ≡ edited_state s m → IsEditAnswer s number edit reply after
edit_accepted s number edit m reply after edited is state = record { outcome = Ok m; edited = edited; answer = record { state = state; reply = is } }

-- a refused edit
pub edit_refused : (s : State) (number : ℕ) (edit : Edit) (error : EditError) (new : Map) (reply : Reply) (after : State) → (error ≡ Memory → ⊥)
    → Applies (IsEdited s.elements s.map edit) (Err error) s.map new → reply ≡ refused_for number (edit_text error) → after ≡ s → IsEditAnswer s number edit reply after
edit_refused s number edit error new reply after unlike applies is state =
    record { outcome = Err error; edited = told (IsEdited s.elements s.map edit) error s.map new unlike applies; answer = record { state = state; reply = is } }

-- what follows of an answer from two facts
pub if_both : {T E : Type 0} (r : Result T E) {P Q R : T → Type 0} → IfOk r P → IfOk r Q → ((x : T) → P x → Q x → R x) → IfOk r R
if_both (Ok x) p q f = f x p q
if_both (Err e) p q f = tt
