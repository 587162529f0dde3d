use Rattle.std.specs.Prelude.{List, [], ◌∷◌, codes}
use Rattle.hd_demo.specs.DemoText.{Row, row}
use Rattle.hd_demo.proofs.DemoTexts.{AddsRows-none, AddsRows-then}
use Rattle.hd_demo.proofs.summary.push_summary.Goals as goal

pub returns-clause-summary : goal.returns-clause-summary
returns-clause-summary g c =
    let row-6 = row (codes "S10z") (codes "param S10z") in
    let row-5 = row (codes "Spd") (codes "param Spd") in
    let row-4 = row (codes "kept hills") (codes "prune H 5%") in
    let row-3 = row (codes "kept dales") (codes "prune D 5%") in
    let row-2 = row (codes "hills") (codes "hills") in
    let row-1 = row (codes "dales") (codes "dales") in
    let rows-6 : List Row = row-6 ∷ [] in
    let rows-5 : List Row = row-5 ∷ rows-6 in
    let rows-4 : List Row = row-4 ∷ rows-5 in
    let rows-3 : List Row = row-3 ∷ rows-4 in
    let rows-2 : List Row = row-2 ∷ rows-3 in
    let end = g.E.SurfaceSession.state c.push_row-6.new.session in
    let text = c.push_row-6.new.out in
    let from-6 = AddsRows-then (g.E.SurfaceSession.state c.push_row-5.new.session) (g.E.SurfaceSession.state c.push_row-6.new.session) end row-6
    [] c.push_row-5.new.out c.push_row-6.new.out text c.in_ok-push_row-6.ensures.row (AddsRows-none end text) in
    let from-5 = AddsRows-then (g.E.SurfaceSession.state c.push_row-4.new.session)
    (g.E.SurfaceSession.state c.push_row-5.new.session) end row-5 rows-6 c.push_row-4.new.out c.push_row-5.new.out text c.in_ok-push_row-5.ensures.row from-6 in
    let from-4 = AddsRows-then (g.E.SurfaceSession.state c.push_row-3.new.session)
    (g.E.SurfaceSession.state c.push_row-4.new.session) end row-4 rows-5 c.push_row-3.new.out c.push_row-4.new.out text c.in_ok-push_row-4.ensures.row from-5 in
    let from-3 = AddsRows-then (g.E.SurfaceSession.state c.push_row-2.new.session)
    (g.E.SurfaceSession.state c.push_row-3.new.session) end row-3 rows-4 c.push_row-2.new.out c.push_row-3.new.out text c.in_ok-push_row-3.ensures.row from-4 in
    let from-2 = AddsRows-then (g.E.SurfaceSession.state c.push_row.new.session) (g.E.SurfaceSession.state c.push_row-2.new.session) end row-2 rows-3 c.push_row.new.out
    c.push_row-2.new.out text c.in_ok-push_row-2.ensures.row from-3 in
    AddsRows-then (g.E.SurfaceSession.state c.args.session.now) (g.E.SurfaceSession.state c.push_row.new.session) end row-1 rows-2 c.args.out.now c.push_row.new.out text
    c.in_ok-push_row.ensures.row from-2
