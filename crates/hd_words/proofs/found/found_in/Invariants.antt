use Rattle.std.proofs.Common.{◌≡◌, map, drop, string_bytes}
use Rattle.hd_words.specs.GivenWords.{given_of}
use Rattle.hd_words.specs.WordSteps.{given_after}
use Rattle.hd_words.specs.declared.found.Stage.TheVariants.{Options}
use Rattle.hd_words.proofs.found.found_in.Given as goal

abbrev pub invariant-loop-word : goal.invariant-loop-word
invariant-loop-word l = given_of Options (map string_bytes l.words) ≡ given_after l.progress (map string_bytes (drop l.word-index l.words))
