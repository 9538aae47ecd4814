use Rattle.base_containers.proofs.Feeds.{found, none}
use Rattle.base_containers.proofs.lines.feed_at.Goals as goal

pub returns-clause-found : goal.returns-clause-found
returns-clause-found c = found c.args.bytes.now c.memchr.result c.memchr.ensures

pub returns-clause-none : goal.returns-clause-none
returns-clause-none c = none c.args.bytes.now c.memchr.result c.memchr.ensures
