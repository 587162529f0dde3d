use Rattle.std.proofs.Common.{◌≡◌, ◌<◌, ◌+◌, ◌∙◌, ℕ, List, ◌∷◌, ap, arith, drop, drop-cons, get_or, length, map, string_bytes, suc, sym}
use Rattle.hd_words.specs.GivenWords.{given_of}
use Rattle.hd_words.specs.WordSteps.{given_after}
use Rattle.hd_words.specs.declared.found.Stage.TheVariants.{Options}
use Rattle.hd_words.proofs.WordSteps.{followed_by-nothing}
use Rattle.hd_words.proofs.found.found_in.Goals as goal

left_item : {X Y : Type 0} (f : X → Y) (xs : List X) (i : ℕ) (x : X) → x ≡ get_or xs i x → i < length xs → map f (drop i xs) ≡ f x ∷ map f (drop (suc i) xs)
left_item f xs i x is within = ap (map f) (drop-cons xs i x within) ∙ ap (λ y. f y ∷ map f (drop (suc i) xs)) (sym is)

pub loop-word-init : goal.loop-word-init
loop-word-init c = followed_by-nothing (given_of Options (map string_bytes c.args.words.now))

pub loop-word-preserved : goal.loop-word-preserved
loop-word-preserved c =
    let words = c.args.words.now in
    let rest = map string_bytes (drop (suc c.loop-word.word-index) words) in
    let left = left_item string_bytes words c.loop-word.word-index c.word-item.result c.word-item.is c.loop-word-test.true in
    let text = ap (λ bytes. bytes ∷ rest) (sym c.as_str.ensures.value) in
    let next : suc c.loop-word.word-index ≡ c.loop-word.word-index + 1 = omega arith in
    c.loop-word.invariant ∙ ap (given_after c.loop-word.progress) (left ∙ text) ∙ c.in_ok-progress.ensures.some rest
    ∙ ap (λ i. given_after c.in_ok-progress.progress (map string_bytes (drop i words))) next

pub returns-in_err-progress-clause-none : goal.returns-in_err-progress-clause-none
returns-in_err-progress-clause-none c =
    let words = c.args.words.now in
    let rest = map string_bytes (drop (suc c.loop-word.word-index) words) in
    let left = left_item string_bytes words c.loop-word.word-index c.word-item.result c.word-item.is c.loop-word-test.true in
    let text = ap (λ bytes. bytes ∷ rest) (sym c.as_str.ensures.value) in
    let e : given_of Options (map string_bytes words) ≡ given_after c.loop-word.progress (c.as_str.result.now ∷ rest) =
    c.loop-word.invariant ∙ ap (given_after c.loop-word.progress) (left ∙ text) in
    rw (c.from_residual.ensures, e) (c.in_err-progress.ensures.none rest)
