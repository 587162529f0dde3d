use Rattle.std.proofs.Common.{◌≡◌, ◌∙◌, sym, ◌+◌, ◌&&◌, Bool, List, ℕ, drop, subst, arith}
use Rattle.hd_num.specs.Span.{text_at}
use Rattle.hd_num.specs.Lines.{lines_of}
use Rattle.hd_run.proofs.Answered.{AreAnswered, AreAnswered-more, AreAnswered-all, AreAnswered-stop, AreAnswered-turn, and-false, and-true}
use Rattle.hd_run.proofs.answers.answer_lines.Goals as goal
use Rattle.hd_run.proofs.answers.answer_lines.Goals.{then-not-is_accepted, else-not-is_accepted}

pub returns-in-Err-clause-answers : goal.returns-in-Err-clause-answers
returns-in-Err-clause-answers g c =
    let found = c.in-Some.ensures.line in
    let all = lines_of c.args.script.now in
    let old = g.W.Sink.written c.args.out.now in
    let mid = g.W.Sink.written c.lines.out in
    let so_far = subst (λ (more : List (List ℕ)). AreAnswered (g.E.SurfaceSession.state c.args.session.now) all
    (g.E.SurfaceSession.state c.lines.session) c.lines.number more c.lines.accepted old mid) found.lines c.lines.invariant.answered in
    AreAnswered-stop (g.E.SurfaceSession.state c.args.session.now) all (g.E.SurfaceSession.state c.lines.session) c.lines.number (text_at c.args.script.now c.in-Some.line)
    (lines_of (drop c.in-Some.next c.args.script.now)) c.lines.accepted old mid
    c.in-Err.stop (g.E.SurfaceSession.state c.answer_line.new.session) (g.W.Sink.written c.answer_line.new.out) c.in-Err.ensures.answer so_far

pub returns-in-Err-clause-turns : goal.returns-in-Err-clause-turns
returns-in-Err-clause-turns g c =
    let found = c.in-Some.ensures.line in
    let all = lines_of c.args.script.now in
    let old = g.W.Sink.written c.args.out.now in
    let mid = g.W.Sink.written c.lines.out in
    let so_far = subst (λ (more : List (List ℕ)). AreAnswered (g.E.SurfaceSession.state c.args.session.now) all
    (g.E.SurfaceSession.state c.lines.session) c.lines.number more c.lines.accepted old mid) found.lines c.lines.invariant.answered in
    AreAnswered-turn (g.E.SurfaceSession.state c.args.session.now) all (g.E.SurfaceSession.state c.lines.session) c.lines.number (text_at c.args.script.now c.in-Some.line)
    (lines_of (drop c.in-Some.next c.args.script.now)) c.lines.accepted old mid
    c.in-Err.stop (g.E.SurfaceSession.state c.answer_line.new.session) (g.W.Sink.written c.answer_line.new.out) (g.E.SurfaceSession.asked c.answer_line.new.session)
    (c.in-Err.ensures.asked ∙ sym c.lines.invariant.numbered) c.in-Err.ensures.answer so_far

pub lines-preserved : goal.lines-preserved
lines-preserved g c =
    let found = c.in-Some.ensures.line in
    let answer = c.in-Ok.ensures.answer in
    let all = lines_of c.args.script.now in
    let rest = lines_of (drop c.in-Some.next c.args.script.now) in
    let old = g.W.Sink.written c.args.out.now in
    let mid = g.W.Sink.written c.lines.out in
    let new = g.W.Sink.written c.answer_line.new.out in
    let so_far = subst (λ (more : List (List ℕ)). AreAnswered (g.E.SurfaceSession.state c.args.session.now) all
    (g.E.SurfaceSession.state c.lines.session) c.lines.number more c.lines.accepted old mid) found.lines c.lines.invariant.answered in
    let more = AreAnswered-more (g.E.SurfaceSession.state c.args.session.now) all (g.E.SurfaceSession.state c.lines.session) c.lines.number
    (text_at c.args.script.now c.in-Some.line) rest c.lines.accepted old mid _ (g.E.SurfaceSession.state c.answer_line.new.session) new answer.1 answer.2 so_far in
    let now = λ (e : (c.lines.accepted && c.in-Ok.is_accepted) ≡ c.if-not-is_accepted.accepted).
    subst (λ (accepted : Bool). AreAnswered (g.E.SurfaceSession.state c.args.session.now) all (g.E.SurfaceSession.state c.answer_line.new.session) (c.lines.number + 1) rest accepted old new) e more in
    record {
      still_open = c.in-Ok.ensures.open;
      within = found.within;
      numbered = omega (arith, c.lines.invariant.numbered, c.in-Ok.ensures.asked);
      few = omega (arith, c.lines.invariant.few, found.onward);
      faults = c.in-Ok.ensures.cause.no_fault (λ e. (cc)) ∙ c.lines.invariant.faults;
      answered = elim c.if-not-is_accepted.branch [
        | then-not-is_accepted w ↦ now (and-false c.lines.accepted c.in-Ok.is_accepted c.if-not-is_accepted.accepted w.if-not-is_accepted.true w.accepted-is)
        | else-not-is_accepted w ↦ now (and-true c.lines.accepted c.in-Ok.is_accepted c.if-not-is_accepted.accepted w.if-not-is_accepted.false w.accepted-is)
      ];
    }

pub returns-clause-answers : goal.returns-clause-answers
returns-clause-answers g c =
    let all = lines_of c.args.script.now in
    let old = g.W.Sink.written c.args.out.now in
    let mid = g.W.Sink.written c.lines.out in
    AreAnswered-all (g.E.SurfaceSession.state c.args.session.now) all (g.E.SurfaceSession.state c.lines.session) c.lines.number c.lines.accepted old mid
    (subst (λ (rest : List (List ℕ)). AreAnswered (g.E.SurfaceSession.state c.args.session.now) all
    (g.E.SurfaceSession.state c.lines.session) c.lines.number rest c.lines.accepted old mid) c.in_default.ensures.none c.lines.invariant.answered)
