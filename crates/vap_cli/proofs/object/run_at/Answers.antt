use Rattle.std.proofs.Common.{ap, ◌∙◌}
use Rattle.std.specs.Prelude.{Err}
use Rattle.base_containers.specs.declared.failed.Failed.TheVariants.{Fault}
use Rattle.vap_cli.proofs.Only.{only_pattern}
use Rattle.vap_cli.proofs.object.run_at.Goals as goal

pub returns-in-Err-Fault-Pattern : goal.returns-in-Err-Fault-Pattern
returns-in-Err-Fault-Pattern c =
    let arm = c.in-Err-Fault-Pattern in
    arm.ensures.pattern (ap Err (arm.field-0-is ∙ ap Fault (only_pattern arm.field-0-0)))
