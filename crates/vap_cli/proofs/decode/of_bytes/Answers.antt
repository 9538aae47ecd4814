use Rattle.vap_cli.proofs.Accepted.{is_decoded, none_decoded}
use Rattle.vap_cli.proofs.decode.of_bytes.Goals as goal

pub returns-in-Ok : goal.returns-in-Ok
returns-in-Ok c = is_decoded c.args.bytes.now c.in-Ok.image c.verified.result c.in-Ok.ensures.found c.verified.ensures
