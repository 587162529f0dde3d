use Rattle.std.proofs.Common.{◌≡◌, ◌≤◌, ◌++◌, ◌∙◌, ℕ, List, [], length, take, drop, ap, sym, subst, arith}
use Rattle.std.proofs.lemmas.List.{length-take-le, take_at}
use Rattle.hd_steep.specs.declared.descent.Descent.{Descent}
use Rattle.hd_steep.specs.Descended.{Descends}
use Rattle.hd_steep.specs.KeyRows.{AreRowsRound}
use Rattle.hd_steep.specs.LowerPlaces.{AreListedBefore, AreLowerPlaces, AreSeveral}
use Rattle.hd_steep.proofs.ListedColumns.{descends_all, listed_present}
use Rattle.hd_steep.proofs.descending.Descending.advance.Given.{Over}
use Rattle.hd_steep.proofs.descending.Descending.advance.Goals as goal
use Rattle.hd_steep.proofs.descending.Descending.advance.Goals.{After-deref-2}

module _ (g : Over) (c : After-deref-2 g) where
  -- the rows of the profile
  round : AreRowsRound g.L.Lane.code g.S.Side.NAME (g.G.Heights.map c.args.grid.now) c.args.y c.advance.new.self
  round = c.if-not-advance.ensures.rows

  -- which places are lower
  lower : AreLowerPlaces g.L.Lane.code g.S.Side.NAME (g.G.Heights.map c.args.grid.now).size.points c.advance.new.self c.tell.new.self
  lower =
      let columns = c.len-columns.ensures ∙ (let had = c.requires.before.room.several in omega (arith, had)) in
      subst (λ n. AreLowerPlaces g.L.Lane.code g.S.Side.NAME n c.advance.new.self c.tell.new.self) columns c.tell.ensures

  -- a mark for each column
  sized : length c.find_several.new.several ≡ (g.G.Heights.map c.args.grid.now).size.points
  sized = let same = c.find_several.auto.several in let long = c.deref_mut.ensures.len in let had = c.requires.before.room.several in omega (arith, same, long, had)

  -- which tells where several are marked
  tells : AreSeveral (g.G.Heights.map c.args.grid.now).adjacency c.tell.new.self c.find_several.new.several
  tells = rw c.adjacency.ensures at c.find_several.ensures

  -- the marks and the columns as they are kept
  marks_kept : take c.args.self.now.several.len (c.find_several.new.several ++ drop (length c.find_several.new.several) c.args.self.now.several.items) ≡ c.find_several.new.several
  marks_kept = take_at c.find_several.new.several _ c.args.self.now.several.len (let same = c.find_several.auto.several in let long = c.deref_mut.ensures.len in omega (arith, same, long))

  columns_kept : take c.args.self.now.columns.len (c.list_marked-listed.new.columns ++ drop (length c.list_marked-listed.new.columns) c.args.self.now.columns.items) ≡ c.list_marked-listed.new.columns
  columns_kept = take_at c.list_marked-listed.new.columns _ c.args.self.now.columns.len
      (let same = c.list_marked-listed.auto.columns in let long = c.deref_mut-2.ensures.len in omega (arith, same, long))

  -- the columns with several marks at which a point is present
  abbrev columns : List ℕ
  columns = take c.list_marked-listed.result c.deref-2.result.now

  listed : AreListedBefore g.L.Lane.code c.advance.new.self.level.keys.items c.find_several.new.several (length c.find_several.new.several) columns
  listed =
      let marks = c.deref.ensures.value ∙ marks_kept in
      let kept = c.deref-2.ensures.value ∙ columns_kept in
      rw kept (rw (c.as_slice-level.ensures.value, marks) at c.list_marked-listed.ensures.listed)

  -- of which there are as many as were counted
  counted : c.list_marked-listed.result ≤ length c.deref-2.result.now
  counted =
      let few = c.list_marked-listed.ensures.count in
      let marks = ap length (c.deref.ensures.value ∙ marks_kept) ∙ sized in
      let room = ap length (c.deref-2.ensures.value ∙ columns_kept) in
      let same = c.list_marked-listed.auto.columns in
      let long = c.deref_mut-2.ensures.len in
      let had = c.requires.before.room.columns in
      omega (arith, few, marks, room, same, long, had)

pub slice_bounds-columns-end : goal.slice_bounds-columns-end
slice_bounds-columns-end g c = sym (length-take-le c.list_marked-listed.result c.deref-2.result.now (counted g (goal.at.slice_bounds-columns-end g c).After-deref-2))

pub descend_columns-self-requires-clause-present : goal.descend_columns-self-requires-clause-present
descend_columns-self-requires-clause-present g c =
    let at = (goal.at.descend_columns-self-requires-clause-present g c).After-deref-2 in
    listed_present (g.G.Heights.map c.args.grid.now) g.S.Side.NAME (g.met.G.Heights.whole c.args.grid.now) g.L.Lane.code c.args.y c.requires.profile c.advance.new.self
    (round g at) c.tell.new.self (lower g at) c.find_several.new.several (sized g at) (tells g at)
    (columns g at) (listed g at)

pub returns-clause-descended : goal.returns-clause-descended
returns-clause-descended g c =
    let at = (goal.at.returns-clause-descended g c).After-deref-2 in
    let m = g.G.Heights.map c.args.grid.now in
    let side = g.S.Side.NAME in
    let before = c.requires.before.room in
    let room = c.descend_columns-self.new.room in
    let count = c.descend_columns-self.result in
    let long : length room ≡ c.args.self.now.descents.len = (let same = c.descend_columns-self.auto.room in let long = c.deref_mut-3.ensures.len in omega (arith, same, long)) in
    let kept = take_at room _ c.args.self.now.descents.len long in
    record {
      room = record {
        lower = (lower g at).sized;
        several = ap length (marks_kept g at) ∙ sized g at;
        columns = ap length (columns_kept g at) ∙ (let same = c.list_marked-listed.auto.columns in let long = c.deref_mut-2.ensures.len in let had = before.columns in omega (arith, same, long, had));
        descents = ap length kept ∙ (let had = before.descents in omega (arith, long, had));
      };
      rows = round g at;
      descends = subst (λ (ds : List Descent). Descends m side (λ u. u.y ≡ c.args.y) [] (take count ds)) (sym kept)
          (descends_all m side (g.met.G.Heights.whole c.args.grid.now) g.L.Lane.code c.args.y c.requires.profile c.advance.new.self (round g at) c.tell.new.self
          (lower g at) c.find_several.new.several (sized g at) (tells g at)
          (columns g at) (listed g at) (take count room) c.descend_columns-self.ensures.descends);
      few = (let few = c.descend_columns-self.ensures.few in let listed = (listed g at).few in let marks = sized g at in omega (arith, few, listed, marks));
    }
