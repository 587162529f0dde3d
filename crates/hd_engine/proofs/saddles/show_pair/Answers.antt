use Rattle.std.proofs.Common.{◌≡◌, ◌∙◌, inl, inr, sym, ap, subst}
use Rattle.hd_map.specs.declared.types.Pos.{Pos}
use Rattle.hd_map.specs.Rank.{rank}
use Rattle.hd_map.specs.Region.{IsRoot}
use Rattle.hd_map.proofs.Nexts.{root-is_pit}
use Rattle.hd_session.specs.Reply.{accepted_with, refused_for}
use Rattle.std.proofs.lemmas.Result.{IfOk-weaker}
use Rattle.hd_engine.proofs.Positions.{found_same, found_apart}
use Rattle.hd_engine.proofs.saddles.show_pair.Goals as goal

pub returns-then-eq-clause-answer : goal.returns-then-eq-clause-answer
returns-then-eq-clause-answer g c =
    let m = g.G.Heights.map c.args.grid.now in
    let side = g.S.Side.NAME in
    let same : c.in_ok-from.from ≡ c.in_ok-to.to = found_same c.in_ok-from.from c.in_ok-to.to c.if-eq.ensures in
    let second : IsRoot m side (rank m c.args.b) (rank m c.in_ok-from.from) = subst (λ (p : Pos). IsRoot m side (rank m c.args.b) (rank m p)) (sym same) c.in_ok-to.ensures.root in
    IfOk-weaker c.refused.result _ _
    (λ r is. inl (record { pit = rank m c.in_ok-from.from; first = c.in_ok-from.ensures.root; second = second }, is ∙ ap (λ t. refused_for c.args.number t) c.one_region_cause.ensures))
    c.refused.ensures

pub tell_saddle-requires-clause-pits : goal.tell_saddle-requires-clause-pits
tell_saddle-requires-clause-pits g c =
    let m = g.G.Heights.map c.args.grid.now in
    let side = g.S.Side.NAME in
    record {
      here = c.in_ok-from.ensures.present;
      there = c.in_ok-to.ensures.present;
      pit = root-is_pit m side (rank m c.args.a) (rank m c.in_ok-from.from) c.in_ok-from.ensures.root;
      other = root-is_pit m side (rank m c.args.b) (rank m c.in_ok-to.to) c.in_ok-to.ensures.root;
      apart = found_apart c.in_ok-from.from c.in_ok-to.to c.if-eq.ensures;
    }

pub returns-clause-answer : goal.returns-clause-answer
returns-clause-answer g c =
    let told = c.in_ok-text.ensures.text in
    inr (record {
      from = c.in_ok-from.from;
      to = c.in_ok-to.to;
      from_present = c.in_ok-from.ensures.present;
      to_present = c.in_ok-to.ensures.present;
      from_root = c.in_ok-from.ensures.root;
      to_root = c.in_ok-to.ensures.root;
      apart = found_apart c.in_ok-from.from c.in_ok-to.to c.if-eq.ensures;
      saddle = told.0;
      certificate = told.1;
      shown = told.2;
      printed = c.with_text.ensures ∙ ap accepted_with told.3;
    })
