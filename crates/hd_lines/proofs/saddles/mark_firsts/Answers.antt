use Rattle.std.proofs.Common.{◌≡◌, ◌≢◌, ◌∙◌, ℕ, List, Bool, true, eqb, not, Some, get_or, slice_get, sym, subst, arith}
use Rattle.std.specs.Prelude.{All, pos}
use Rattle.std.proofs.lemmas.Bool.Decides.{nat_tests}
use Rattle.std.proofs.lemmas.Option.{slice_get-get_or}
use Rattle.hd_map.specs.Rank.{below_by}
use Rattle.hd_lines.specs.declared.saddles.NumberedBorder.{NumberedBorder}
use Rattle.hd_lines.specs.NumberedBorders.{HasEnds, IsFirstOf}
use Rattle.hd_lines.proofs.NumberedBorders.{IsFirstOf-split, AreJoinedTo-none, AreJoinedTo-same, AreLower-next, AreMarked-more}
use Rattle.hd_lines.proofs.saddles.mark_firsts.Goals as goal

abbrev none : NumberedBorder
none = record { number = 0; a = 0; b = 0; at = record { height = pos 0; index = 0 } }

differ-apart : (a b : ℕ) → not (eqb a b) ≡ true → a ≢ b
differ-apart a b h = λ e. grind (arith, nat_tests)

apart-differ : (a b : ℕ) → a ≢ b → not (eqb a b) ≡ true
apart-differ a b h = grind (arith, nat_tests)

pub borders-init : goal.borders-init
borders-init g c = record {
  marked = record {
    whole = (let long = c.in_ok-firsts.ensures.len in let read = c.in_ok-firsts.firsts.ok.0 in omega arith);
    each = λ k x first less at is. absurd (omega arith);
  };
  long = c.in_ok-classes.ensures.long;
  falling = c.in_ok-classes.ensures.falling;
  inside = omega arith;
  lower = λ j y le at k x less atx. absurd (omega arith);
  joined = AreJoinedTo-none c.args.borders.now c.in_ok-classes.classes.parents.items c.in_ok-classes.ensures.own;
}

pub join_lower-joined-requires-clause-within : goal.join_lower-joined-requires-clause-within
join_lower-joined-requires-clause-within g c = subst (λ n. All (HasEnds n) c.args.borders.now) (sym c.borders.invariant.long) c.requires.within

pub join_lower-joined-requires-clause-lower : goal.join_lower-joined-requires-clause-lower
join_lower-joined-requires-clause-lower g c = c.borders.invariant.lower c.borders.border-index (get_or c.args.borders.now c.borders.border-index none) (omega arith)
    (slice_get-get_or c.args.borders.now c.borders.border-index none c.borders-test.true)

pub borders-preserved : goal.borders-preserved
borders-preserved g c =
    let borders : List NumberedBorder = c.args.borders.now in
    let i : ℕ = c.borders.border-index in
    let x : NumberedBorder = get_or borders i none in
    let at : slice_get borders i ≡ Some x = slice_get-get_or borders i none c.borders-test.true in
    let old : List ℕ = c.join_lower-joined.new.classes.parents.items in
    let mid : List ℕ = c.least_of-one.new.self.parents.items in
    let new : List ℕ = c.least_of-other.new.self.parents.items in
    let n : ℕ = c.join_lower-joined.result in
    let split = c.join_lower-joined.ensures.splits in
    let one : ℕ = c.least_of-one.result in
    let other : ℕ = c.least_of-other.result in
    let first : Bool = not (eqb one other) in
    let is : IsFirstOf (below_by g.S.Side.NAME) borders x first = IsFirstOf-split
    (below_by g.S.Side.NAME) g.met.S.Side.order borders c.requires.sorted n x old mid new one other first split c.join_lower-joined.ensures.joined
    c.least_of-one.ensures.one c.least_of-one.ensures.same c.least_of-one.ensures.least c.least_of-other.ensures.one c.least_of-other.ensures.same c.least_of-other.ensures.least
    c.least_of-other.ensures.leasts
    (differ-apart one other) (apart-differ one other) in
    record {
      marked = AreMarked-more (below_by g.S.Side.NAME) g.met.S.Side.order borders c.requires.sorted c.requires.one c.args.numbers i x at
          (c.requires.numbered i none c.borders-test.true) c.borders.firsts.items first
          c.borders.invariant.marked is;
      long = c.least_of-other.ensures.long ∙ c.least_of-one.ensures.long ∙ c.join_lower-joined.ensures.long ∙ c.borders.invariant.long;
      falling = c.least_of-other.ensures.falling;
      inside = c.join_lower-joined.ensures.inside;
      lower = AreLower-next (below_by g.S.Side.NAME) g.met.S.Side.order borders c.requires.sorted n i x at split;
      joined = AreJoinedTo-same borders n mid new c.least_of-other.ensures.same (AreJoinedTo-same borders n old mid c.least_of-one.ensures.same c.join_lower-joined.ensures.joined);
    }

pub returns : goal.returns
returns g c = record {
  whole = c.borders.invariant.marked.whole;
  each = λ k x first less at is. c.borders.invariant.marked.each k x first (let all = c.borders-test.false in omega arith) at is;
}
