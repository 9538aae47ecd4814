use Rattle.vap_cli_report.proofs.Clean.{clean}
use Rattle.vap_cli_report.proofs.command.told_of.Goals as goal

pub returns : goal.returns
returns c = clean _ _ _ _ c.status.ensures c.in_ok-report.ensures
