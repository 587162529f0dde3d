use Rattle.std.proofs.Common.{◌≡◌, ◌∙◌, Bool, ℕ, ap, sym, subst, arith, false, length, map}
use Rattle.std.proofs.lemmas.List.{length-replicate}
use Rattle.hd_map.specs.Rank.{below_by}
use Rattle.hd_graph.specs.Flood.{is_done}
use Rattle.hd_graph.specs.Links.{pass_of}
use Rattle.hd_graph.proofs.Reached.{none-done}
use Rattle.hd_graph.proofs.LineSoFar.{line-all, line-none, link-ends}
use Rattle.hd_graph.proofs.flooding.visit_all.Goals as goal

pub loop-start-init : goal.loop-start-init
loop-start-init g c =
    let n = length c.args.lows.now in
    let clear = c.in_ok-done.ensures.items_if_clones_equal (λ _ e. e) in
    let dry = λ (v : ℕ). subst (λ ds. is_done ds v ≡ false) (sym clear) (none-done n v) in
    record {
      whole = λ k y v wet not h. absurd (let out = dry y in cc);
      line = rw c.in_ok-stops.ensures (line-none (below_by g.S.Side.NAME) c.args.lows.now (map (pass_of c.args.lows.now) c.args.links.now) c.in_ok-done.done.items
          (ap length clear ∙ length-replicate {A = Bool} n false) (λ v wet. (let out = dry v in cc)));
      all = λ v less. absurd (omega arith);
    }

pub returns : goal.returns
returns g c =
    line-all (below_by g.S.Side.NAME) c.args.lows.now c.requires.different (map (pass_of c.args.lows.now) c.args.links.now) c.loop-start.done.items c.loop-start.stops
    c.loop-start.invariant.line g.met.S.Side.order
    (λ v inside. c.loop-start.invariant.all v (omega (arith, inside, c.loop-start-test.false))) (link-ends c.args.lows.now c.args.links.now c.requires.within)
