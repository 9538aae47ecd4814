use Rattle.std.proofs.Common.{◌≡◌, ◌∙◌, Err, List, ap, refl, subst}
use Rattle.base_containers.specs.declared.failed.Failed.TheVariants.{Fault}
use Rattle.cel_machine.specs.declared.fault.RunFault.{RunFault}
use Rattle.cel_machine.specs.declared.fault.RunFault.TheVariants.{Pattern}
use Rattle.vap_watch.specs.Logs.{set_of}
use Rattle.vap_watch.specs.declared.log.Logged.{Logged}
use Rattle.vap_audit.specs.Verdicts.{MayMatch}
use Rattle.vap_plane.proofs.worker.Worker.judge_there.Goals as goal

-- a run has only one fault
only_pattern : (fault : RunFault) → fault ≡ Pattern
only_pattern Pattern = refl

-- at the log that was seen
pub returns-in-Err-Fault-Pattern-clause-pattern : goal.returns-in-Err-Fault-Pattern-clause-pattern
returns-in-Err-Fault-Pattern-clause-pattern g c =
    λ is.
    subst (λ (log : List Logged). MayMatch (set_of log) c.args.request) c.seen-snapshot.ensures
    (c.in-Err-Fault-Pattern.ensures.pattern
    (ap Err (c.in-Err-Fault-Pattern.field-0-is ∙ ap Fault (only_pattern c.in-Err-Fault-Pattern.field-0-0))))
