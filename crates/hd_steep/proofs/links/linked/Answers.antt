use Rattle.std.proofs.Common.{◌≡◌, ◌*◌, ◌∙◌, ◌++◌, ap, sym, subst, List, length, ℕ, arith, rules}
use Rattle.std.proofs.lemmas.List.{take_at, length-append}
use Rattle.hd_map.specs.declared.types.Size.{Size}
use Rattle.hd_steep.specs.FirstLinks.{AreFirstLinksFrom}
use Rattle.hd_steep.proofs.Linking.{links_append, links_all}
use Rattle.hd_steep.proofs.KeyRows.{rows-next}
use Rattle.hd_steep.proofs.links.linked.Goals as goal

pub overflow_mul-width : goal.overflow_mul-width
overflow_mul-width g c =
    let cells = (g.met.G.Heights.whole c.args.grid.now).size.cells in
    rw c.size-size.ensures (omega (arith, cells))

pub profiles-init : goal.profiles-init
profiles-init g c = record {
  before = rw c.in-Some.is at c.in_ok-rows.ensures;
  row_sized = search rules;
  links = search rules;
  count = search rules;
}

pub profiles-preserved : goal.profiles-preserved
profiles-preserved g c =
    let m = g.G.Heights.map c.args.grid.now in
    let side = g.S.Side.NAME in
    let so_far = c.profiles.invariant in
    let old = c.profiles.links.items in
    let row = c.link_profile.new.links in
    let sized : length row ≡ c.profiles.row.len = omega arith in
    let long : length row ≡ m.size.points = omega (arith, so_far.row_sized) in
    let written = take_at row _ c.profiles.row.len sized in
    let added : c.extend_from_slice.new.self.items ≡ old ++ row = c.in_ok-extend_from_slice.ensures.items ∙ ap (λ (r : List ℕ). old ++ r) (c.deref.ensures.value ∙ written) in
    let total = length-append old row in
    let count = so_far.count in
    record {
      before = rows-next g.L.Lane.code side m c.profiles.y c.advance.new.self c.if-not-advance.ensures.rows;
      row_sized = ap length written ∙ long;
      links = subst (λ (r : List ℕ). AreFirstLinksFrom m side 0 r) (sym added) (links_append m side 0 (c.profiles.y * m.size.points) old row
          (omega (arith, count)) so_far.links c.link_profile.ensures);
      count = ap length added ∙ (omega (arith, total, count, long));
    }

pub returns : goal.returns
returns g c =
    let m = g.G.Heights.map c.args.grid.now in
    let end : c.profiles.y ≡ c.size-size.result.profiles = omega arith in
    let rows : c.profiles.y ≡ m.size.profiles = end ∙ ap (λ (s : Size). s.profiles) c.size-size.ensures in
    links_all m g.S.Side.NAME c.profiles.links.items (c.profiles.invariant.count ∙ ap (λ y. y * m.size.points) rows) c.profiles.invariant.links
