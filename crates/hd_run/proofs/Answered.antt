-- Answers to lines, one more line at a time.
use Rattle.std.proofs.Common.{◌≡◌, ◌+◌, ◌++◌, ◌&&◌, ◌≤◌, ℕ, zero, suc, Bool, true, false, List, [], ◌∷◌, length, take, drop, Option, Ok, Err, refl, sym}
use Rattle.std.proofs.Common.{ap, ◌∙◌, subst, arith, append_assoc, append-nil, take-append-drop, length-drop, length-take-le}
use Rattle.std.specs.Io.{StartsWith}
use Rattle.std.specs.Io.KnownBytes.{Appends}
use Rattle.std.proofs.KnownBytes.{Appends-trans, Appends-kept}
use Rattle.std.proofs.Math.Seq.{take-add}
use Rattle.std.proofs.lemmas.List.{drop-drop}
use Rattle.hd_base.proofs.Told.{AppendsPart-after, StartsWith-front}
use Rattle.hd_session.specs.State.{State, IsState}
use Rattle.hd_session.specs.Answers.{IsAnswer, AreAnswers}
use Rattle.hd_session.specs.Reply.{Reply}
use Rattle.hd_run.specs.declared.stop.Stop.{Stop}
use Rattle.hd_run.specs.declared.stop.Stop.TheVariants.{Memory, ReadFault, WriteFault, Refused}
use Rattle.hd_run.specs.WrittenAnswers.{reply_of, AnswersFirst, StopsInTurn, WritesAnswer, WritesAnswers}

-- no answers
abbrev pub nothing : Reply
nothing = record { accepted = true; text = [] }

-- some answers, and then others
abbrev pub joined : Reply → Reply → Reply
joined some others = record { accepted = some.accepted && others.accepted; text = some.text ++ others.text }

and_assoc : (a b c : Bool) → ((a && b) && c) ≡ (a && (b && c))
and_assoc true b c = refl
and_assoc false b c = refl

and_true : (a : Bool) → (a && true) ≡ a
and_true true = refl
and_true false = refl

joined_assoc : (a b c : Reply) → joined (joined a b) c ≡ joined a (joined b c)
joined_assoc a b c = ap (λ t. reply_of t ((a.text ++ b.text) ++ c.text)) (and_assoc a.accepted b.accepted c.accepted)
    ∙ ap (λ xs. reply_of (a.accepted && (b.accepted && c.accepted)) xs) (append_assoc a.text b.text c.text)

joined_nothing : (a : Reply) → joined a nothing ≡ a
joined_nothing a = ap (λ t. reply_of t (a.text ++ [])) (and_true a.accepted) ∙ ap (λ xs. reply_of a.accepted xs) (append-nil a.text)

-- the answers to some lines, and then that to one more
answers_then : (s : State) (number : ℕ) (lines : List (List ℕ)) (reply : Reply) (mid : State) (line : List ℕ) (last : Reply) (after : State) → AreAnswers s number lines reply mid
    → IsAnswer mid (number + length lines) line last after → AreAnswers s number (lines ++ line ∷ []) (joined reply last) after
answers_then s number [] reply mid line last after are is =
    let e : number + 0 ≡ number = omega arith in
    let here : IsAnswer s number line last after = subst (λ (t : State). IsAnswer t number line last after) are.state (subst (λ (n : ℕ). IsAnswer mid n line last after) e is) in
    (last, after, nothing, here, record { state = refl; reply = refl }, ap (λ (r : Reply). joined r last) are.reply ∙ sym (joined_nothing last))
answers_then s number (other ∷ lines) reply mid line last after (first, middle, others, is_first, are, reply_is) is =
    let e : number + length (other ∷ lines) ≡ (number + 1) + length lines = omega arith in
    let here : IsAnswer mid ((number + 1) + length lines) line last after = subst (λ (n : ℕ). IsAnswer mid n line last after) e is in (
      first,
      middle,
      joined others last,
      is_first,
      answers_then middle (number + 1) lines others mid line last after are here,
      ap (λ (r : Reply). joined r last) reply_is
          ∙ joined_assoc first others last,
    )

-- of the answers to all lines, those to the first few
first_answers : (s : State) (number : ℕ) (lines : List (List ℕ)) (n : ℕ) (reply : Reply) (after : State) → AreAnswers s number lines reply after
    → (first : Reply) × (mid : State) × (others : List ℕ) × AreAnswers s number (take n lines) first mid × (reply.text ≡ first.text ++ others)
first_answers s number lines zero reply after are = (nothing, s, reply.text, record { state = refl; reply = refl }, refl)
first_answers s number [] (suc n) reply after are = (reply, after, [], are, sym (append-nil reply.text))
first_answers s number (line ∷ lines) (suc n) reply after (first, middle, others, is_first, are, reply_is) =
    let some = first_answers middle (number + 1) lines n others after are in
    let few : Reply = some.0 in
    let more : List ℕ = some.2 in (
      joined first few,
      some.1,
      more,
      (first, middle, few, is_first, some.3, refl),
      ap (λ (r : Reply). r.text) reply_is ∙ ap (λ (t : List ℕ). first.text ++ t) some.4 ∙ sym (append_assoc first.text few.text more),
    )

-- that the lines of a script have one answer
abbrev pub AnswersAreDetermined : Type 0
AnswersAreDetermined = (s : State) (number : ℕ) (lines : List (List ℕ)) (a b : Reply) (s' s'' : State) → IsState s → AreAnswers s number lines a s'
    → AreAnswers s number lines b s'' → (a ≡ b) × (s' ≡ s'')

-- the answers to all lines begin with those to the first few
pub AnswersFirst-starts : AnswersAreDetermined → (s : State) (lines : List (List ℕ)) (text : List ℕ) (reply : Reply) (last : State) → IsState s → AnswersFirst s lines text
    → AreAnswers s 1 lines reply last
    → StartsWith reply.text text
AnswersFirst-starts law s lines text reply last whole first all =
    let some = first_answers s 1 lines first.count reply last all in
    let few : Reply = some.0 in
    let same = law s 1 (take first.count lines) (reply_of first.accepted text) few first.after some.1 whole first.answers some.3 in
    subst (λ (t : List ℕ). StartsWith t text) (ap (λ (r : Reply). r.text ++ some.2) same.0 ∙ sym some.4) (StartsWith-front text some.2)

-- the answers to the first no lines
pub AnswersFirst-none : (s : State) (lines : List (List ℕ)) → AnswersFirst s lines []
AnswersFirst-none s lines = record { count = 0; accepted = true; after = s; answers = record { state = refl; reply = refl } }

-- the answers to all lines are those to the first of them
pub AnswersFirst-all : (s : State) (lines : List (List ℕ)) (accepted : Bool) (text : List ℕ) (after : State) → AreAnswers s 1 lines (reply_of accepted text) after → AnswersFirst s lines text
AnswersFirst-all s lines accepted text after are =
    record { count = length lines; accepted = accepted; after = after; answers = subst (λ (xs : List (List ℕ)). AreAnswers s 1 xs (reply_of accepted text) after) (sym (take_all lines)) are } where
      take_all : (xs : List (List ℕ)) → take (length xs) xs ≡ xs
      take_all [] = refl
      take_all (x ∷ xs) = ap (λ ys. x ∷ ys) (take_all xs)

-- the lines before the rest are answered, and their texts are written
pub record AreAnswered (first : State) (all : List (List ℕ)) (s : State) (number : ℕ) (rest : List (List ℕ)) (accepted : Bool) (old new : Option (List ℕ)) : Type 0 where
  pub count : ℕ
  pub numbered : number ≡ count + 1
  pub rest_is : drop count all ≡ rest
  pub text : List ℕ
  pub answers : AreAnswers first 1 (take count all) (record { accepted = accepted; text = text }) s
  pub written : Appends old new text

module _ (start : State) (all : List (List ℕ)) (s : State) (number : ℕ) (line : List ℕ) (rest : List (List ℕ)) (accepted : Bool) (old mid : Option (List ℕ)) where
  within : (so_far : AreAnswered start all s number (line ∷ rest) accepted old mid) → so_far.count ≤ length all
  within so_far = let some : length (drop so_far.count all) ≡ suc (length rest) = ap length so_far.rest_is in omega (arith, some, length-drop so_far.count all)

  -- the answers with that to one more line
  answers_more : (first : Reply) (after : State) → IsAnswer s number line first after → (so_far : AreAnswered start all s number (line ∷ rest) accepted old mid)
      → AreAnswers start 1 (take (so_far.count + 1) all) (record { accepted = accepted && first.accepted; text = so_far.text ++ first.text }) after
  answers_more first after is so_far =
      let few : length (take so_far.count all) ≡ so_far.count = length-take-le so_far.count all (within so_far) in
      let place : number ≡ 1 + length (take so_far.count all) = omega (arith, so_far.numbered, few) in
      let lines : take (so_far.count + 1) all ≡ take so_far.count all ++ line ∷ [] = take-add so_far.count 1 all ∙ ap (λ xs. take so_far.count all ++ take 1 xs) so_far.rest_is in
      subst (λ (xs : List (List ℕ)). AreAnswers start 1 xs (joined (reply_of accepted so_far.text) first) after) (sym lines)
      (answers_then start 1 (take so_far.count all) (reply_of accepted so_far.text) s line first after so_far.answers (subst (λ (n : ℕ). IsAnswer s n line first after) place is))

  -- one more line is answered
  pub AreAnswered-more : (first : Reply) (after : State) (new : Option (List ℕ)) → IsAnswer s number line first after → Appends mid new first.text
      → AreAnswered start all s number (line ∷ rest) accepted old mid → AreAnswered start all after (number + 1) rest (accepted && first.accepted) old new
  AreAnswered-more first after new is written so_far = record {
    count = so_far.count + 1;
    numbered = ap (λ n. n + 1) so_far.numbered;
    rest_is = sym (drop-drop 1 so_far.count all) ∙ ap (drop 1) so_far.rest_is;
    text = so_far.text ++ first.text;
    answers = answers_more first after is so_far;
    written = Appends-trans old mid new so_far.text first.text so_far.written written;
  }

  -- a stop at the next line
  pub AreAnswered-stop : (stop : Stop) (after : State) (new : Option (List ℕ)) → WritesAnswer s number line (Err stop) after mid new
      → AreAnswered start all s number (line ∷ rest) accepted old mid → WritesAnswers start all (Err stop) after old new
  AreAnswered-stop Memory after new kept so_far =
      (so_far.text, record { count = so_far.count; accepted = accepted; after = s; answers = so_far.answers }, Appends-kept old mid new so_far.text so_far.written kept)
  AreAnswered-stop WriteFault after new (reply, is, part) so_far =
      let first : Reply = reply in (
        so_far.text ++ first.text,
        record { count = so_far.count + 1; accepted = accepted && first.accepted; after = after; answers = answers_more first after is so_far },
        AppendsPart-after old mid new so_far.text first.text so_far.written part,
      )
  AreAnswered-stop ReadFault after new h so_far = absurd h
  AreAnswered-stop (Refused refusal) after new h so_far = absurd h

  -- each answer before that one was written
  pub AreAnswered-turn : (stop : Stop) (after : State) (new : Option (List ℕ)) (asked : ℕ) → asked ≡ number → WritesAnswer s number line (Err stop) after mid new
      → AreAnswered start all s number (line ∷ rest) accepted old mid → StopsInTurn start all asked old new
  AreAnswered-turn Memory after new asked is kept so_far = record {
    count = so_far.count;
    one_more = is ∙ so_far.numbered;
    accepted = accepted;
    text = so_far.text;
    after = s;
    answers = so_far.answers;
    got = [];
    written = subst (λ (xs : List ℕ). Appends old new xs) (sym (append-nil so_far.text)) (Appends-kept old mid new so_far.text so_far.written kept);
  }
  AreAnswered-turn WriteFault after new asked is (reply, answer, part) so_far = record {
    count = so_far.count;
    one_more = is ∙ so_far.numbered;
    accepted = accepted;
    text = so_far.text;
    after = s;
    answers = so_far.answers;
    got = part.0;
    written = Appends-trans old mid new so_far.text part.0 so_far.written part.3;
  }
  AreAnswered-turn ReadFault after new asked is h so_far = absurd h
  AreAnswered-turn (Refused refusal) after new asked is h so_far = absurd h

-- all lines are answered
pub AreAnswered-all : (start : State) (all : List (List ℕ)) (s : State) (number : ℕ) (accepted : Bool) (old new : Option (List ℕ)) → AreAnswered start all s number [] accepted old new
    → WritesAnswers start all (Ok accepted) s old new
AreAnswered-all start all s number accepted old new so_far =
    let whole : take so_far.count all ≡ all = sym (append-nil (take so_far.count all)) ∙ ap (λ xs. take so_far.count all ++ xs) (sym so_far.rest_is) ∙ take-append-drop so_far.count all in
    (so_far.text, subst (λ (lines : List (List ℕ)). AreAnswers start 1 lines (reply_of accepted so_far.text) s) whole so_far.answers, so_far.written)

pub and-false : (a b c : Bool) → b ≡ false → c ≡ false → (a && b) ≡ c
and-false true b c e f = e ∙ sym f
and-false false b c e f = sym f

pub and-true : (a b c : Bool) → b ≡ true → c ≡ a → (a && b) ≡ c
and-true true b c e f = e ∙ sym f
and-true false b c e f = sym f
