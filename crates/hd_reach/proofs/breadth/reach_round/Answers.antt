use Rattle.std.proofs.Common.{◌≡◌, ◌<◌, ◌+◌, ◌++◌, ◌∷◌, [], ◌∙◌, ℕ, List, ap, arith, length, get_or}
use Rattle.std.proofs.lemmas.List.{get_or_default}
use Rattle.hd_map.specs.declared.types.Size.{Size}
use Rattle.hd_map.specs.Map.{place_of}
use Rattle.hd_map.proofs.Points.{place_inside}
use Rattle.hd_reach.specs.Marks.{mark_at, mark_in, marking}
use Rattle.hd_reach.specs.Within.{LiesWithin}
use Rattle.hd_reach.proofs.Flooding.{IsAtHead-behind, ReachesAt-behind, IsRound-begin, IsRound-centre, IsRound-end, IsRound-more}
use Rattle.hd_reach.proofs.breadth.reach_round.Goals as goal

pub returns : goal.returns
returns g c start first before passed w in_grid f =
    let m = g.G.Heights.map c.args.grid.now in
    let blank = g.M.FloodMark.blank in
    let how = marking blank g.M.FloodMark.after first before in
    let here = c.args.here in
    let mark = c.after-mark.result in
    let marks = c.args.marks.now.items in
    let front : List ℕ = passed ++ place_of m.size here ∷ [] in
    let head = length passed in
    let at = IsAtHead-behind m.size here passed c.args.queue.now.items in_grid in
    let IsOpen = LiesWithin m g.S.Side.NAME c.args.bound.level c.args.bound.strict in
    let from = IsRound-begin m IsOpen start how here marks (front ++ c.args.queue.now.items) head f at in
    let n = from.0 in
    let place : c.index_of.result ≡ place_of m.size here = c.index_of.ensures.value ∙ ap (λ (s : Size). place_of s here) c.size.ensures in
    let whole : c.index_of.result < length marks = rw (place, c.requires.whole) (place_inside m.size here at.in_grid) in
    let read : c.index.result.now ≡ mark_at blank m.size marks here = c.index.ensures ∙ get_or_default marks c.index_of.result c.index.result.now blank whole ∙ ap (λ i. get_or marks i blank) place in
    let mark_is : mark ≡ mark_in how (n + 1) = c.after-mark.ensures ∙ ap g.M.FloodMark.after read ∙ from.1 in
    let round1 = IsRound-more m IsOpen start how w (λ p is_open. is_open.present) here n mark 0 c.reach_at.new.marks.items (front ++ c.reach_at.new.queue.items) mark_is
    (omega arith) (ReachesAt-behind m IsOpen blank here 0 0 mark marks c.reach_at.new.marks.items front c.args.queue.now.items c.reach_at.new.queue.items
    c.in_ok-reach_at.ensures.reaches) from.2 in
    let round2 = IsRound-more m IsOpen start how w (λ p is_open. is_open.present) here n mark 1 c.reach_at-2.new.marks.items (front ++ c.reach_at-2.new.queue.items) mark_is
    (omega arith) (ReachesAt-behind m IsOpen blank here 1 0 mark c.reach_at.new.marks.items c.reach_at-2.new.marks.items front c.reach_at.new.queue.items
    c.reach_at-2.new.queue.items c.in_ok-reach_at-2.ensures.reaches) round1 in
    let round3 = IsRound-more m IsOpen start how w (λ p is_open. is_open.present) here n mark 2 c.reach_at-3.new.marks.items (front ++ c.reach_at-3.new.queue.items) mark_is
    (omega arith) (ReachesAt-behind m IsOpen blank here 2 0 mark c.reach_at-2.new.marks.items c.reach_at-3.new.marks.items front c.reach_at-2.new.queue.items
    c.reach_at-3.new.queue.items c.in_ok-reach_at-3.ensures.reaches) round2 in
    let round4 = IsRound-more m IsOpen start how w (λ p is_open. is_open.present) here n mark 3 c.reach_at-4.new.marks.items (front ++ c.reach_at-4.new.queue.items) mark_is
    (omega arith) (ReachesAt-behind m IsOpen blank here 0 1 mark c.reach_at-3.new.marks.items c.reach_at-4.new.marks.items front c.reach_at-3.new.queue.items
    c.reach_at-4.new.queue.items c.in_ok-reach_at-4.ensures.reaches) round3 in
    let centre = IsRound-centre m IsOpen start how here n c.reach_at-4.new.marks.items (front ++ c.reach_at-4.new.queue.items) head 4 (omega arith) round4 in
    let round5 = IsRound-more m IsOpen start how w (λ p is_open. is_open.present) here n mark 5 c.reach_at-5.new.marks.items (front ++ c.reach_at-5.new.queue.items) mark_is
    (omega arith) (ReachesAt-behind m IsOpen blank here 2 1 mark c.reach_at-4.new.marks.items c.reach_at-5.new.marks.items front c.reach_at-4.new.queue.items
    c.reach_at-5.new.queue.items c.in_ok-reach_at-5.ensures.reaches) centre in
    let round6 = IsRound-more m IsOpen start how w (λ p is_open. is_open.present) here n mark 6 c.reach_at-6.new.marks.items (front ++ c.reach_at-6.new.queue.items) mark_is
    (omega arith) (ReachesAt-behind m IsOpen blank here 0 2 mark c.reach_at-5.new.marks.items c.reach_at-6.new.marks.items front c.reach_at-5.new.queue.items
    c.reach_at-6.new.queue.items c.in_ok-reach_at-6.ensures.reaches) round5 in
    let round7 = IsRound-more m IsOpen start how w (λ p is_open. is_open.present) here n mark 7 c.reach_at-7.new.marks.items (front ++ c.reach_at-7.new.queue.items) mark_is
    (omega arith) (ReachesAt-behind m IsOpen blank here 1 2 mark c.reach_at-6.new.marks.items c.reach_at-7.new.marks.items front c.reach_at-6.new.queue.items
    c.reach_at-7.new.queue.items c.in_ok-reach_at-7.ensures.reaches) round6 in
    let round8 = IsRound-more m IsOpen start how w (λ p is_open. is_open.present) here n mark 8 c.reach_at-8.new.marks.items (front ++ c.reach_at-8.new.queue.items) mark_is
    (omega arith) (ReachesAt-behind m IsOpen blank here 2 2 mark c.reach_at-7.new.marks.items c.reach_at-8.new.marks.items front c.reach_at-7.new.queue.items
    c.reach_at-8.new.queue.items c.in_ok-reach_at-8.ensures.reaches) round7 in
    IsRound-end m IsOpen start how here n c.reach_at-8.new.marks.items (front ++ c.reach_at-8.new.queue.items) head 9 (omega arith) round8
