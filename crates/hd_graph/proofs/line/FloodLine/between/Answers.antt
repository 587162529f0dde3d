use Rattle.std.proofs.Common.{◌≡◌, ◌<◌, ◌∙◌, sym, ap, List, length, arith, get_or}
use Rattle.std.proofs.lemmas.Option.{slice_get-get_or}
use Rattle.hd_map.specs.Rank.{below_by}
use Rattle.hd_graph.specs.declared.line.Stop.{Stop}
use Rattle.hd_graph.specs.Line.{rise_between}
use Rattle.hd_graph.proofs.Rises.{between-none, highest-first, highest-more, highest-all}
use Rattle.hd_graph.proofs.line.FloodLine.between.Goals as goal

pub returns-in_err-highest : goal.returns-in_err-highest
returns-in_err-highest g c =
    let line : List Stop = c.as_slice-stops.result.now in
    let is : line ≡ c.args.self.now = c.as_slice-stops.ensures ∙ c.self.view_is in
    let inside : c.args.j < length line = rw is c.requires.within in
    let none = between-none (below_by g.S.Side.NAME) g.met.S.Side.order line c.args.i c.args.j c.args.j (get_or line c.args.j _) c.requires.order (omega arith)
    (slice_get-get_or line c.args.j _ inside) c.in_err-highest.was in
    c.from_residual.ensures ∙ sym none ∙ ap (λ (xs : List Stop). rise_between (below_by g.S.Side.NAME) xs c.args.i c.args.j) is

pub loop-k-init : goal.loop-k-init
loop-k-init g c =
    let line : List Stop = c.as_slice-stops.result.now in
    let is : line ≡ c.args.self.now = c.as_slice-stops.ensures ∙ c.self.view_is in
    let inside : c.args.j < length line = rw is c.requires.within in
    highest-first (below_by g.S.Side.NAME) g.met.S.Side.order line c.args.i c.args.j (get_or line c.args.j _) c.in_ok-highest.highest c.requires.order
    (slice_get-get_or line c.args.j _ inside) c.in_ok-highest.was

pub returns-in_err-stops : goal.returns-in_err-stops
returns-in_err-stops g c =
    let line : List Stop = c.as_slice-stops.result.now in
    let is : line ≡ c.args.self.now = c.as_slice-stops.ensures ∙ c.self.view_is in
    let before : c.loop-k.k < c.args.j = c.loop-k-test.true in
    let within : c.args.j < length line = rw is c.requires.within in
    let inside : c.loop-k.k < length line = omega (arith, before, within) in
    let none = between-none (below_by g.S.Side.NAME) g.met.S.Side.order line c.args.i c.args.j c.loop-k.k (get_or line c.loop-k.k _) (omega (arith, c.loop-k.auto.k))
    (omega (arith, before)) (slice_get-get_or line c.loop-k.k _ inside) c.in_err-stops.was in
    c.from_residual-in_err-stops.ensures ∙ sym none ∙ ap (λ (xs : List Stop). rise_between (below_by g.S.Side.NAME) xs c.args.i c.args.j) is

pub loop-k-preserved : goal.loop-k-preserved
loop-k-preserved g c =
    let line : List Stop = c.as_slice-stops.result.now in
    let is : line ≡ c.args.self.now = c.as_slice-stops.ensures ∙ c.self.view_is in
    let before : c.loop-k.k < c.args.j = c.loop-k-test.true in
    let within : c.args.j < length line = rw is c.requires.within in
    let inside : c.loop-k.k < length line = omega (arith, before, within) in
    rw c.higher_of-highest.ensures (highest-more (below_by g.S.Side.NAME) g.met.S.Side.order line c.args.i c.args.j c.loop-k.k (get_or line c.loop-k.k _) c.loop-k.highest c.in_ok-stops.field-0
    (omega (arith, c.loop-k.auto.k)) before (slice_get-get_or line c.loop-k.k _ inside) c.in_ok-stops.was c.loop-k.invariant)

pub returns : goal.returns
returns g c =
    let line : List Stop = c.as_slice-stops.result.now in
    let is : line ≡ c.args.self.now = c.as_slice-stops.ensures ∙ c.self.view_is in
    let inside : c.args.j < length line = rw is c.requires.within in
    sym (highest-all (below_by g.S.Side.NAME) g.met.S.Side.order line c.args.i c.args.j c.loop-k.k c.loop-k.highest c.requires.order inside (omega (arith, c.loop-k-test.false)) c.loop-k.invariant)
    ∙ ap (λ (xs : List Stop). rise_between (below_by g.S.Side.NAME) xs c.args.i c.args.j) is
