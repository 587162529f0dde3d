use Rattle.std.proofs.Common.{◌≡◌, ◌≤◌, ◌+◌, ◌∙◌, rules, refl, ap, sym, subst, arith, List, [], ◌∷◌, ◌++◌, ℕ, length, Some}
use Rattle.std.proofs.lemmas.List.{length-append, length_push}
use Rattle.hd_map.specs.declared.types.Size.{Size}
use Rattle.hd_map.specs.Map.{InGrid, place_of, cell_count}
use Rattle.hd_reach.specs.Flood.{IsFlooding, IsMarking}
use Rattle.hd_reach.specs.Marks.{marking}
use Rattle.hd_reach.specs.Within.{LiesWithin}
use Rattle.hd_reach.proofs.Flooding.{IsFlooding-begin, IsFlooding-end, IsFlooding-next, IsFlooding-pass, IsFlooding-room, IsFlooding-stop, IsAtHead-behind}
use Rattle.hd_reach.proofs.breadth.flood.Given.{Over}
use Rattle.hd_reach.proofs.breadth.flood.Goals as goal
use Rattle.hd_reach.proofs.breadth.flood.Goals.{After-position_of-here}

pub loop-passed-init : goal.loop-passed-init
loop-passed-init g c =
    let m = g.G.Heights.map c.args.grid.now in
    let queue : c.push_back.new.self.items ≡ c.index_of-place.result ∷ [] = search rules in
    let place : c.index_of-place.result ≡ place_of m.size c.args.start = c.index_of-place.ensures.value ∙ ap (λ (s : Size). place_of s c.args.start) c.size-size.ensures in
    record {
      passed = [];
      count = refl;
      flooding = rw (queue, place) (IsFlooding-begin m (LiesWithin m g.S.Side.NAME c.args.bound.level c.args.bound.strict) c.args.start
          (marking g.M.FloodMark.blank g.M.FloodMark.after c.args.first c.args.marks.now.items) c.args.marks.now.items refl c.requires.whole c.requires.start.present c.requires.start);
    }

pub returns-in_default : goal.returns-in_default
returns-in_default g c =
    let m = g.G.Heights.map c.args.grid.now in
    let so = c.loop-passed.invariant in
    let none : length c.loop-passed.queue.items ≡ 0 = search rules in
    let more = length-append so.passed c.loop-passed.queue.items in
    IsFlooding-end m (LiesWithin m g.S.Side.NAME c.args.bound.level c.args.bound.strict) c.args.start
    (marking g.M.FloodMark.blank g.M.FloodMark.after c.args.first c.args.marks.now.items) c.loop-passed.marks.items
    (so.passed ++ c.loop-passed.queue.items) c.loop-passed._passed so.flooding (omega (arith, more, none, so.count)) c.args.goal

pub position_of-here-requires : goal.position_of-here-requires
position_of-here-requires g c =
    let m = g.G.Heights.map c.args.grid.now in
    let so = c.loop-passed.invariant in
    let IsOpen = LiesWithin m g.S.Side.NAME c.args.bound.level c.args.bound.strict in
    let how = marking g.M.FloodMark.blank g.M.FloodMark.after c.args.first c.args.marks.now.items in
    let below = IsFlooding-next m IsOpen c.args.start how c.loop-passed.marks.items so.passed c.loop-passed.queue.items c.pop_front.new.self.items c.in-Some.index c.in-Some.ensures.items
    (subst (IsFlooding m IsOpen c.args.start how c.loop-passed.marks.items (so.passed ++ c.loop-passed.queue.items)) (sym so.count) so.flooding) in
    rw c.size-size.ensures below

-- the point at the head lies in the grid, and is passed
passed_inside : (g : Over) (c : After-position_of-here g) → InGrid (g.G.Heights.map c.args.grid.now).size c.position_of-here.result
passed_inside g c = subst (λ (s : Size). InGrid s c.position_of-here.result) c.size-size.ensures c.position_of-here.ensures.in_grid

one_more : (g : Over) (c : After-position_of-here g) → let m = g.G.Heights.map c.args.grid.now in let here = c.position_of-here.result in
    IsFlooding m (LiesWithin m g.S.Side.NAME c.args.bound.level c.args.bound.strict) c.args.start
    (marking g.M.FloodMark.blank g.M.FloodMark.after c.args.first c.args.marks.now.items) c.loop-passed.marks.items
    ((c.loop-passed.invariant.passed ++ place_of m.size here ∷ []) ++ c.pop_front.new.self.items) (length c.loop-passed.invariant.passed)
one_more g c =
    let m = g.G.Heights.map c.args.grid.now in
    let here = c.position_of-here.result in
    let rest = c.pop_front.new.self.items in
    let left : c.loop-passed.queue.items ≡ place_of m.size here ∷ rest =
    c.in-Some.ensures.items ∙ ap (λ (n : ℕ). n ∷ rest) (sym c.position_of-here.ensures.place ∙ ap (λ (s : Size). place_of s here) c.size-size.ensures) in
    let so = c.loop-passed.invariant in
    let IsOpen = LiesWithin m g.S.Side.NAME c.args.bound.level c.args.bound.strict in
    let how = marking g.M.FloodMark.blank g.M.FloodMark.after c.args.first c.args.marks.now.items in
    IsFlooding-pass m IsOpen c.args.start how c.loop-passed.marks.items here so.passed c.loop-passed.queue.items rest left
    (subst (IsFlooding m IsOpen c.args.start how c.loop-passed.marks.items (so.passed ++ c.loop-passed.queue.items)) (sym so.count) so.flooding)

pub returns-then-eq : goal.returns-then-eq
returns-then-eq g c =
    let m = g.G.Heights.map c.args.grid.now in
    let here = c.position_of-here.result in
    let rest = c.pop_front.new.self.items in
    let passed = c.loop-passed.invariant.passed in
    let is : c.args.goal ≡ Some here = search rules in
    let at = goal.at.returns-then-eq g c in
    IsFlooding-stop m (LiesWithin m g.S.Side.NAME c.args.bound.level c.args.bound.strict) c.args.start
    (marking g.M.FloodMark.blank g.M.FloodMark.after c.args.first c.args.marks.now.items) c.loop-passed.marks.items
    ((passed ++ place_of m.size here ∷ []) ++ rest) (length passed) (one_more g at.After-position_of-here) here
    (IsAtHead-behind m.size here passed rest (passed_inside g at.After-position_of-here)) c.args.goal is

pub reach_round-requires-clause-whole : goal.reach_round-requires-clause-whole
reach_round-requires-clause-whole g c = c.loop-passed.invariant.flooding.whole

pub loop-passed-preserved : goal.loop-passed-preserved
loop-passed-preserved g c =
    let m = g.G.Heights.map c.args.grid.now in
    let IsOpen = LiesWithin m g.S.Side.NAME c.args.bound.level c.args.bound.strict in
    let how = marking g.M.FloodMark.blank g.M.FloodMark.after c.args.first c.args.marks.now.items in
    let so = c.loop-passed.invariant in
    let front : List ℕ = so.passed ++ place_of m.size c.position_of-here.result ∷ [] in
    let at = goal.at.loop-passed-preserved g c in
    let marks : IsMarking m IsOpen c.args.start how = record { begun = c.requires.first; marks = g.met.M.FloodMark.marks; free = c.requires.blank } in
    let on = c.in_ok-reach_round.ensures c.args.start c.args.first c.args.marks.now.items so.passed marks (passed_inside g at.After-position_of-here) (one_more g at.After-position_of-here) in
    record {
      passed = front;
      count = length_push so.passed (place_of m.size c.position_of-here.result) ∙ ap (λ (n : ℕ). n + 1) so.count;
      flooding = subst (λ (n : ℕ). IsFlooding m IsOpen c.args.start how c.reach_round.new.marks.items (front ++ c.reach_round.new.queue.items) (n + 1)) so.count on;
    }

pub returns : goal.returns
returns g c =
    let m = g.G.Heights.map c.args.grid.now in
    let IsOpen = LiesWithin m g.S.Side.NAME c.args.bound.level c.args.bound.strict in
    let how = marking g.M.FloodMark.blank g.M.FloodMark.after c.args.first c.args.marks.now.items in
    let so = c.loop-passed.invariant in
    let whole = so.passed ++ c.loop-passed.queue.items in
    let room = IsFlooding-room m IsOpen c.args.start how c.loop-passed.marks.items whole c.loop-passed._passed so.flooding in
    let past : cell_count m.size ≤ c.loop-passed._passed = subst (λ (s : Size). cell_count s ≤ c.loop-passed._passed) c.size-size.ensures c.loop-passed-test.false in
    IsFlooding-end m IsOpen c.args.start how c.loop-passed.marks.items whole c.loop-passed._passed so.flooding (omega (arith, room, past)) c.args.goal
