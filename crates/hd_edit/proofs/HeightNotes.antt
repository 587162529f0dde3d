-- Notes of heights, one more or one less.
use Rattle.std.proofs.Common.{◌≡◌, ◌+◌, ◌++◌, ◌∷◌, [], ◌∙◌, ℕ, List, All, length, append-nil, suc, refl, sym, ap, subst, arith}
use Rattle.std.proofs.lemmas.List.{get_or_append_left, length_push}
use Rattle.hd_edit.specs.declared.change.Change.{Change}
use Rattle.hd_edit.specs.declared.change.Was.TheVariants as was
use Rattle.hd_edit.specs.declared.notes.HeightNote.{HeightNote}
use Rattle.hd_edit.specs.Notes.{BeginsUnfit, FitsAfter, changes_after, last_after, note_at}
use Rattle.hd_edit.specs.SevenBytes.{widened}

-- one more is told from the last
pub changes_after-push : (i : ℕ) (notes : List HeightNote) (note : HeightNote) → changes_after i (notes ++ note ∷ []) ≡ changes_after i notes ++ note_at (last_after i notes) note ∷ []
changes_after-push i [] note = refl
changes_after-push i (n ∷ notes) note = ap (λ (cs : List Change). note_at i n ∷ cs) (changes_after-push (i + n.distance) notes note)

pub last_after-push : (i : ℕ) (notes : List HeightNote) (note : HeightNote) → last_after i (notes ++ note ∷ []) ≡ last_after i notes + note.distance
last_after-push i [] note = refl
last_after-push i (n ∷ notes) note = last_after-push (i + n.distance) notes note

-- what holds of a list and one more item holds of the list
pub All-before : {X : Type 0} (P : X → Type 0) (xs : List X) (x : X) → All P (xs ++ x ∷ []) → All P xs
All-before P xs x h k d below = subst P (get_or_append_left xs (x ∷ []) d k below) (h k d (omega (arith, below, length_push xs x)))

-- a height more is told as the last change, where no other change is noted
pub changes_after-noted : (first last : ℕ) (old new : List HeightNote) (others : List Change) (note : HeightNote) (change : Change) → last ≡ last_after first old
    → new ≡ old ++ note ∷ [] → note_at last note ≡ change → others ≡ []
    → changes_after first new ++ others ≡ (changes_after first old ++ others) ++ change ∷ []
changes_after-noted first last old new others note change at is told none =
    ap (λ (cs : List Change). changes_after first new ++ cs) none ∙ append-nil (changes_after first new)
    ∙ ap (changes_after first) is ∙ changes_after-push first old note
    ∙ ap (λ (x : Change). changes_after first old ++ x ∷ []) (ap (λ (i : ℕ). note_at i note) (sym at) ∙ told)
    ∙ ap (λ (cs : List Change). cs ++ change ∷ []) (sym (ap (λ (cs : List Change). changes_after first old ++ cs) none ∙ append-nil (changes_after first old)))

-- as many changes are told as are noted
pub changes_after-length : (i : ℕ) (notes : List HeightNote) → length (changes_after i notes) ≡ length notes
changes_after-length i [] = refl
changes_after-length i (n ∷ notes) = ap suc (changes_after-length (i + n.distance) notes)

-- the last note tells the last change
pub changes_after-popped : (first last : ℕ) (old new : List HeightNote) (others left : List Change) (note : HeightNote) → last ≡ last_after first old → old ≡ new ++ note ∷ [] → others ≡ [] → left ≡ []
    → changes_after first old ++ others ≡ (changes_after first new ++ left) ++ record { index = last; was = was.Height (widened note.over) } ∷ []
changes_after-popped first last old new others left note at is none none' =
    let same : last ≡ last_after first new + note.distance = at ∙ ap (last_after first) is ∙ last_after-push first new note in
    ap (λ (cs : List Change). changes_after first old ++ cs) none ∙ append-nil (changes_after first old)
    ∙ ap (changes_after first) is ∙ changes_after-push first new note
    ∙ ap (λ (i : ℕ). changes_after first new ++ record { index = i; was = was.Height (widened note.over) } ∷ []) (sym same)
    ∙ ap (λ (cs : List Change). cs ++ record { index = last; was = was.Height (widened note.over) } ∷ []) (sym (append-nil (changes_after first new))
    ∙ ap (λ (cs : List Change). changes_after first new ++ cs) (sym none'))

-- the first of further changes stays the first when one more comes, and when the last goes
pub BeginsUnfit-none : (last : ℕ) → BeginsUnfit last []
BeginsUnfit-none last = λ first more e. absurd (cc e)

pub BeginsUnfit-push : (last : ℕ) (others : List Change) (change : Change) → (others ≡ [] → FitsAfter last change → ⊥) → BeginsUnfit last others → BeginsUnfit last (others ++ change ∷ [])
BeginsUnfit-push last [] change unfit begins = λ first more e. (let same : change ≡ first = cc e in subst (λ (c : Change). FitsAfter last c → ⊥) same (unfit refl))
BeginsUnfit-push last (other ∷ others) change unfit begins = λ first more e. (let same : other ≡ first = cc e in begins first others (ap (λ (c : Change). c ∷ others) same))

pub BeginsUnfit-pop : (last : ℕ) (others : List Change) (change : Change) → BeginsUnfit last (others ++ change ∷ []) → BeginsUnfit last others
BeginsUnfit-pop last [] change begins = BeginsUnfit-none last
BeginsUnfit-pop last (other ∷ others) change begins = λ first more e. (let same : other ≡ first = cc e in begins first (others ++ change ∷ []) (ap (λ (c : Change). c ∷ (others ++ change ∷ [])) same))
