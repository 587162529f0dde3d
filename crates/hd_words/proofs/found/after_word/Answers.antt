use Rattle.std.proofs.Common.{Option, None, Some, IfNone}
use Rattle.hd_words.proofs.found.after_word.Goals as goal

none_more : {X P Q : Type 0} (r : Option X) → (P → Q) → IfNone r P → IfNone r Q
none_more None more h = more h
none_more (Some x) more h = h

pub returns-in-TileValue-clause-none : goal.returns-in-TileValue-clause-none
returns-in-TileValue-clause-none c = none_more c.with_tile.result (λ h words. rw c.in-TileValue.is (h words)) c.with_tile.ensures.none

pub returns-in-SaveValue-clause-none : goal.returns-in-SaveValue-clause-none
returns-in-SaveValue-clause-none c = none_more c.with_save.result (λ h words. rw c.in-SaveValue.is (h words)) c.with_save.ensures.none
