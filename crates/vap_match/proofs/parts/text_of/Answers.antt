use Rattle.std.proofs.Common.{rules}
use Rattle.vap_match.proofs.parts.text_of.Goals as goal

pub returns-in-Some : goal.returns-in-Some
returns-in-Some c = search rules
