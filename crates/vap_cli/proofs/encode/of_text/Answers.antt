use Rattle.std.proofs.Common.{rules}
use Rattle.vap_cli.proofs.encode.of_text.Goals as goal

pub returns : goal.returns
returns c = search rules
