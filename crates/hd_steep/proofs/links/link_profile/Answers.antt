use Rattle.std.proofs.Common.{◌∙◌, sym}
use Rattle.hd_map.specs.declared.types.Adjacency.TheVariants.{Four, Six, Eight}
use Rattle.hd_steep.proofs.Linking.{links_of_rows}
use Rattle.hd_steep.proofs.links.link_profile.Goals as goal

pub returns-in-Four : goal.returns-in-Four
returns-in-Four g c =
    links_of_rows (g.G.Heights.map c.args.grid.now) g.S.Side.NAME (g.met.G.Heights.whole c.args.grid.now) g.L.Lane.code c.args._y Four c.args.rows.now c.link_row.new.links c.requires.profile
    (sym c.adjacency.ensures ∙ c.in-Four.is) c.requires.round (c.link_row.ensures.whole ∙ c.requires.links) c.link_row.ensures.linked

pub returns-in-Six : goal.returns-in-Six
returns-in-Six g c =
    links_of_rows (g.G.Heights.map c.args.grid.now) g.S.Side.NAME (g.met.G.Heights.whole c.args.grid.now) g.L.Lane.code c.args._y Six c.args.rows.now c.link_row-in-Six.new.links c.requires.profile
    (sym c.adjacency.ensures ∙ c.in-Six.is) c.requires.round (c.link_row-in-Six.ensures.whole ∙ c.requires.links) c.link_row-in-Six.ensures.linked

pub returns-in-Eight : goal.returns-in-Eight
returns-in-Eight g c =
    links_of_rows (g.G.Heights.map c.args.grid.now) g.S.Side.NAME (g.met.G.Heights.whole c.args.grid.now) g.L.Lane.code c.args._y Eight c.args.rows.now c.link_row-in-Eight.new.links c.requires.profile
    (sym c.adjacency.ensures ∙ c.in-Eight.is) c.requires.round (c.link_row-in-Eight.ensures.whole ∙ c.requires.links) c.link_row-in-Eight.ensures.linked
