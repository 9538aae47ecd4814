use Rattle.cel_verify.proofs.Openings.{innermost_is}
use Rattle.cel_verify.proofs.opens.Opens.innermost.Goals as goal

pub returns : goal.returns
returns c = innermost_is c.get.result c.args.self.now c.get.ensures
