use Rattle.std.proofs.Common.{◌+◌, ◌∙◌, refl, ap, arith}
use Rattle.std.proofs.lemmas.List.{length_push}
use Rattle.hd_graph.proofs.JoinedBelow.{classes_below-same, joined_first-next, told-least}
use Rattle.hd_graph.proofs.PitMerges.{few-lows}
use Rattle.hd_graph.proofs.joined.joined_lows.Goals as goal

pub classes_below-requires-clause-few : goal.classes_below-requires-clause-few
classes_below-requires-clause-few g c = (let h = c.requires.merges in let few = few-lows h.0 g.S.Side.NAME c.args.lows.now c.args.merges.now h.2 h.1 c.requires.different in omega (arith, few))

pub classes_below-requires-clause-within : goal.classes_below-requires-clause-within
classes_below-requires-clause-within g c k d inside = (let h = c.requires.merges in let x = h.2.at_saddles.each k d inside in (x.low, x.into))

pub loop-low-init : goal.loop-low-init
loop-low-init g c =
    let e = c.least_of-own.ensures in
    let old = c.in_ok-classes.classes.parents.items in
    let new = c.least_of-own.new.self.parents.items in
    record {
      falling = e.falling;
      long = e.long ∙ c.in_ok-classes.ensures.long;
      below = λ m whole is. classes_below-same m g.S.Side.NAME c.args.lows.now c.args.level old new e.same (c.in_ok-classes.ensures.below m whole is);
      least = e.least;
      own = (e.same c.args.from c.least_of-own.result).1 e.one;
      told = rw c.in_ok-joined.ensures.items refl;
      each = λ m whole is k less. absurd (omega (arith, less));
    }

pub overflow_cast-low : goal.overflow_cast-low
overflow_cast-low g c = (let h = c.requires.merges in let few = few-lows h.0 g.S.Side.NAME c.args.lows.now c.args.merges.now h.2 h.1 c.requires.different in omega (arith, few, c.loop-low-test.true))

pub loop-low-preserved : goal.loop-low-preserved
loop-low-preserved g c =
    let so = c.loop-low.invariant in
    let e = c.least_of-least.ensures in
    let old = c.loop-low.classes.parents.items in
    let new = c.least_of-least.new.self.parents.items in
    record {
      falling = e.falling;
      long = e.long ∙ so.long;
      below = λ m whole is. classes_below-same m g.S.Side.NAME c.args.lows.now c.args.level old new e.same (so.below m whole is);
      least = (e.leasts c.least_of-own.result).1 so.least;
      own = (e.same c.args.from c.least_of-own.result).1 so.own;
      told = rw c.in_ok-push.ensures.items (length_push c.loop-low.joined.items _ ∙ ap (λ k. k + 1) so.told);
      each = λ m whole is. rw c.in_ok-push.ensures.items (joined_first-next m g.S.Side.NAME c.args.lows.now c.args.level c.args.from c.loop-low.low c.loop-low.joined.items _ so.told
          (told-least m g.S.Side.NAME c.args.lows.now c.args.level new (classes_below-same m g.S.Side.NAME c.args.lows.now c.args.level old new e.same (so.below m whole is))
          c.args.from c.loop-low.low c.least_of-own.result c.least_of-least.result c.requires.from c.loop-low-test.true
          ((e.same c.args.from c.least_of-own.result).1 so.own) ((e.leasts c.least_of-own.result).1 so.least) ((e.same c.loop-low.low c.least_of-least.result).1 e.one) e.least)
          (so.each m whole is));
    }

pub returns : goal.returns
returns g c m whole is =
    let so = c.loop-low.invariant in
    record {
      whole = (let told = so.told in omega (arith, told, c.loop-low-test.false, c.loop-low.auto.low-end));
      each = λ k inside. so.each m whole is k (omega (arith, inside, c.loop-low-test.false));
    }
