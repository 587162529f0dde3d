use Rattle.std.proofs.Common.{◌≡◌, ◌<◌, ◌∙◌, ℕ, List, length, get_or, arith}
use Rattle.std.specs.Prelude.{pos, None}
use Rattle.std.proofs.lemmas.List.{length-set}
use Rattle.std.proofs.lemmas.List.Elements.{All-set}
use Rattle.hd_prune.specs.declared.step.Kept.{Kept}
use Rattle.hd_lines.proofs.AreWritten.{AreWritten-more}
use Rattle.hd_lines.proofs.places.kept_places.Goals as goal

abbrev none : Kept
none = record { pit = record { height = pos 0; index = 0 }; nearest = None }

pub pits-preserved : goal.pits-preserved
pits-preserved c =
    let numbers : List ℕ = c.args.regions.now.numbers in
    let places : List ℕ = c.pits.places.items in
    let n : ℕ = get_or numbers (get_or c.args.kept.now c.pits.place none).pit.index 0 in
    let same : c.number_at.result ≡ n = c.number_at.ensures.number in
    let room : n < length places = (let inside = c.number_at.ensures.inside in omega (arith, same, inside, c.pits.invariant.whole)) in
    rw same (record {
      whole = length-set places n c.pits.place ∙ c.pits.invariant.whole;
      are = AreWritten-more (λ (k : Kept). get_or numbers k.pit.index 0) (λ i k. i) c.args.kept.now c.requires.once c.pits.place none places c.pits.invariant.are c.pits-test.true room;
      within = λ most some long. All-set (λ p. p < most) places n c.pits.place (let less = c.pits-test.true in omega (arith, less, long)) (c.pits.invariant.within most some long);
    })
