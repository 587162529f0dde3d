use Rattle.hd_sdf_read.specs.declared.state.State.TheVariants.{Body}
use Rattle.hd_sdf_read.proofs.States.{FeedsBehind-from}
use Rattle.hd_sdf_read.proofs.state.feed_behind.Goals as goal

pub returns-clause-text : goal.returns-clause-text
returns-clause-text c = FeedsBehind-from c.args.header (Body c.in-Ok.parts.0 c.in-Ok.parts.1) c.args.text.now c.feed_part.result c.in-Ok.ensures c.feed_part.ensures.text
