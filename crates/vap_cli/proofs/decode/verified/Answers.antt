use Rattle.vap_cli.proofs.Accepted.{is_accepted, none_accepted}
use Rattle.vap_cli.proofs.decode.verified.Goals as goal

pub returns-in-Ok : goal.returns-in-Ok
returns-in-Ok c = is_accepted c.args.image c.bounded.result c.in-Ok.ensures.accepted.1

pub returns : goal.returns
returns c = none_accepted c.args.image c.unverified.result c.unverified.ensures
