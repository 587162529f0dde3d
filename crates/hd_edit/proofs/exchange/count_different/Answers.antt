use Rattle.std.proofs.Common.{◌≡◌, ◌<◌, ◌+◌, ◌∙◌, ℕ, Bool, true, false, None, get_or, length, ap, ap₂, refl, sym, arith}
use mir.Val.{bool_byte}
use Rattle.std.specs.Prelude.{if◌then◌else◌}
use Rattle.hd_map.specs.Encoding.{most_filtered, values_of}
use Rattle.hd_edit.specs.Exchange.{differs}
use Rattle.hd_morph.proofs.Encodings.{value_at-read}
use Rattle.hd_morph.proofs.PlainNumbers.{IsPlainNumber-read}
use Rattle.hd_edit.specs.Stroke.{count_below}
use Rattle.hd_edit.proofs.Strokes.{count_below-few, count_below-more}
use Rattle.hd_edit.proofs.exchange.count_different.Goals as goal

-- a test as a number
byte_is : (b : Bool) → bool_byte b ≡ (if b then 1 else 0)
byte_is true = refl
byte_is false = refl

pub differ-requires-clause-one : goal.differ-requires-clause-one
differ-requires-clause-one g c =
    let code = g.L.Lane.code in
    let k = c.loop-place.place in
    let inside : k < length c.args.olds.now = omega (arith, c.loop-place-test.true, c.requires.same) in
    IsPlainNumber-read code (most_filtered code) (most_filtered code) (omega arith) c.args.olds.now c.requires.olds.each k c.index-olds-place.result inside c.index-olds-place.is

pub differ-requires-clause-other : goal.differ-requires-clause-other
differ-requires-clause-other g c =
    let code = g.L.Lane.code in
    IsPlainNumber-read code (most_filtered code) (most_filtered code) (omega arith) c.args.news.now c.requires.news.each c.loop-place.place c.index-news-place.result
    c.loop-place-test.true c.index-news-place.is

pub loop-place-preserved : goal.loop-place-preserved
loop-place-preserved g c =
    let code = g.L.Lane.code in
    let olds = values_of code c.args.olds.now in
    let news = values_of code c.args.news.now in
    let k = c.loop-place.place in
    let inside : k < length c.args.olds.now = omega (arith, c.loop-place-test.true, c.requires.same) in
    let old = value_at-read code c.args.olds.now k c.index-olds-place.result inside c.index-olds-place.is in
    let new = value_at-read code c.args.news.now k c.index-news-place.result c.loop-place-test.true c.index-news-place.is in
    let is : c.differ.result ≡ differs (get_or olds k None) (get_or news k None) = c.differ.ensures ∙ ap₂ differs old new in
    let test : ℕ → Bool = λ i. differs (get_or olds i None) (get_or news i None) in
    let counted : c.loop-place.count + c.from-count.result ≡ count_below test (k + 1) =
    ap (λ (n : ℕ). c.loop-place.count + n) (c.from-count.ensures ∙ byte_is c.differ.result) ∙ ap (λ (b : Bool). c.loop-place.count + (if b then 1 else 0)) is
    ∙ ap (λ (n : ℕ). n + (if test k then 1 else 0)) c.loop-place.invariant.counted ∙ sym (count_below-more test k) in
    record { counted = counted; few = omega (arith, counted, count_below-few test (k + 1)) }
