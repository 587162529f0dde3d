use Rattle.std.proofs.Common.{◌+◌, ◌∙◌, List, length, sym, ap, subst}
use Rattle.hd_map.specs.Map.{Map}
use Rattle.hd_steep.specs.declared.border.Border.{Border}
use Rattle.hd_steep.proofs.Borders.{AreBordersBefore, borders-all, borders-more}
use Rattle.hd_steep.proofs.Indexed.{indexed-apart}
use Rattle.hd_steep.proofs.pairs.borders_of.Goals as goal

pub places-preserved : goal.places-preserved
places-preserved g c =
    let m : Map = g.G.Heights.map c.args.grid.now in
    let raw : List Border = c.find_borders.new.found.borders.items in
    let found = c.in_ok-find_borders.ensures.found in
    let moved = c.in_ok-move_to.ensures.moved in
    record {
      borders = subst (λ (ls : List Border). AreBordersBefore m g.S.Side.NAME c.args.places.now (c.places.place + 1) ls) (sym moved.3)
          (borders-more m g.S.Side.NAME c.args.places.now c.places.place c.places.borders.items raw moved.0 c.places.invariant.borders found.borders
          (indexed-apart c.find_borders.new.found.slots.items raw found.indexed)
          moved.1 moved.2);
      none = c.in_ok-move_to.ensures.none;
      long = ap (λ (v : _). length v.items) c.in_ok-move_to.ensures.slots ∙ c.in_ok-find_borders.ensures.long ∙ c.places.invariant.long;
    }

pub returns : goal.returns
returns g c = borders-all (g.G.Heights.map c.args.grid.now) g.S.Side.NAME c.args.places.now c.places.place c.args.room c.places.borders.items c.requires.within c.places-test.false
    c.places.invariant.borders
