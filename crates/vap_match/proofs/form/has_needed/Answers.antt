use Rattle.std.proofs.Common.{rules}
use Rattle.vap_match.proofs.form.has_needed.Goals as goal

pub returns-then-is_there_as_versioned-2 : goal.returns-then-is_there_as_versioned-2
returns-then-is_there_as_versioned-2 c = search rules
