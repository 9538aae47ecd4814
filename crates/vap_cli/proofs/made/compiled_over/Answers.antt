use Rattle.std.proofs.Common.{rules}
use Rattle.vap_cli.proofs.made.compiled_over.Goals as goal

pub returns-in-Ok-Ok-clause-made : goal.returns-in-Ok-Ok-clause-made
returns-in-Ok-Ok-clause-made c = record { choice = c.in_ok-choice.choice; is = search rules }

pub returns-in-Ok-Err-clause-made : goal.returns-in-Ok-Err-clause-made
returns-in-Ok-Err-clause-made c = record { choice = c.in_ok-choice.choice; is = search rules }

pub returns-in-Err-Fault-Unverified-clause-made : goal.returns-in-Err-Fault-Unverified-clause-made
returns-in-Err-Fault-Unverified-clause-made c = record { choice = c.in_ok-choice.choice; is = search rules }
