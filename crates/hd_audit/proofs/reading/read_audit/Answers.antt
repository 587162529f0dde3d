use Rattle.std.proofs.Common.{[]}
use Rattle.hd_audit.proofs.reading.read_audit.Goals as goal

pub returns : goal.returns
returns c = c.finish.ensures.text c.args.bytes.now (c.in_ok-feed.ensures.ok [] c.new-reader.ensures.stands)
